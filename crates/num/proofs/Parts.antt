-- Parts of a list of bytes: compared with other bytes as one number, read from equal beginnings, and entries of a table.
-- Assumes nothing.
use Rattle.std.proofs.Common.{◌≡◌, ℕ, suc, ◌+◌, ◌*◌, ◌<◌, ◌≤◌, Bool, true, false, eqb, List, length, get_or, take, drop, sym, refl, ap, ◌∙◌, mul-le-mul_right, suc-mul, zero-add, arith, get_or-take, ext_get_or, eqb-true}
use borrow.Author.Tests.{eqb-false}
use Rattle.num.specs.Number.{Bytes, le_at}
use Rattle.num.specs.Order.{equal_bytes}
use Rattle.num.proofs.Lists.{part_at, part_length}
use Rattle.num.proofs.Number.{le_at-bytes, le_at-same}
use Rattle.num.proofs.Order.{equal_bytes-same, equal_bytes-other}

-- equal bytes at a place are equal numbers of that width
pub equal_bytes-number : (s m : List ℕ) (place : ℕ) → Bytes s → Bytes m → place + length m ≤ length s
    → eqb (le_at s place (length m)) (le_at m 0 (length m)) ≡ equal_bytes (take (length m) (drop place s)) m
equal_bytes-number s m place bs bm h = go (eqb (le_at s place (length m)) (le_at m 0 (length m))) refl
  where
    at : (k : ℕ) → k < length m → get_or (take (length m) (drop place s)) k 0 ≡ get_or s (place + k) 0
    at k l = part_at s place (length m) k 0 l

    front : (k : ℕ) → get_or m (0 + k) 0 ≡ get_or m k 0
    front k = ap (λ (n : ℕ). get_or m n 0) (zero-add k)

    go : (t : Bool) → eqb (le_at s place (length m)) (le_at m 0 (length m)) ≡ t → t ≡ equal_bytes (take (length m) (drop place s)) m
    go true e =
        let n = part_length s place (length m) h in
        sym (equal_bytes-same _ _ (ext_get_or 0 (take (length m) (drop place s)) m n
        (λ k l. at k (omega arith) ∙ le_at-bytes s m bs bm (length m) place 0 (eqb-true _ _ e) k (omega arith) ∙ front k)))
    go false e =
        sym (equal_bytes-other _ _ (λ p. eqb-false _ _ e
        (le_at-same s m (length m) place 0 (λ k l. sym (at k l) ∙ ap (λ (t : List ℕ). get_or t k 0) p ∙ sym (front k)))))

-- a number in a beginning that two lists share is the same in both
pub le_at-beginning : (s t : List ℕ) (n place w : ℕ) → take n s ≡ take n t → place + w ≤ n → le_at s place w ≡ le_at t place w
le_at-beginning s t n place w e h =
    le_at-same s t w place place
    (λ k l. sym (get_or-take n s (place + k) 0 (omega arith)) ∙ ap (λ (u : List ℕ). get_or u (place + k) 0) e ∙ get_or-take n t (place + k) 0 (omega arith))

-- an entry of a table of n entries of w bytes lies in it
pub entry_inside : (k n w : ℕ) → k < n → k * w + w ≤ n * w
entry_inside k n w h = let l : suc k * w ≤ n * w = mul-le-mul_right w h in omega (arith, suc-mul k w)
