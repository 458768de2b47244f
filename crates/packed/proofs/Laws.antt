-- Stores: runs of stores one behind the other, and stores into a tail that was lent on.
-- Assumes nothing.
use mathlib.Core.Path.{◌≡◌, refl, ap, ◌∙◌}
use mathlib.Core.List.{List, ◌++◌, append_assoc}
use Prim.Native.Nat.{ℕ, ◌+◌, ◌≤◌}
use native.Mathlib.Nat.{zero-add}
use native.Mathlib.Omega.{arith}
use lib.ListN.{length, length-append}
use lib.Seq.{sets, length-sets}
use Rattle.num.proofs.Stores.{behind, tail_of, tail_put, sets_tail}

-- a run of stores and the one behind it are one run
pub sets_first : (out w v l : List ℕ) (a b : ℕ) → a + length w ≡ b → w ++ v ≡ l → sets (sets out a w) b v ≡ sets out a l
sets_first out w v l a b e p = behind out (sets out a w) (sets (sets out a w) b v) w v a b e refl refl ∙ ap (sets out a) p

-- ---- a tail that was lent on

-- a run of stores in a tail, behind another at the front, is one run with it
pub sets_behind : (out xs ys w v : List ℕ) (b : ℕ) → xs ≡ sets out 0 w → length w ≡ b → b + length v ≤ length out → ys ≡ sets (tail_of b xs) 0 v
    → tail_put b xs ys ≡ sets out 0 (w ++ v)
sets_behind out xs ys w v b e n h p =
    let m : length xs ≡ length out = ap length e ∙ length-sets out 0 w in
    behind out xs (tail_put b xs ys) w v 0 b (zero-add (length w) ∙ n) e (sets_tail xs ys v b (omega arith) p)

-- two runs, each in the tail behind the one before it, go on with the one at the front
pub two_behind : (out x l₂ l₃ w₁ w₂ w₃ : List ℕ) (a b : ℕ) → x ≡ sets out 0 w₁ → length w₁ ≡ a → a + length w₂ ≡ b → b + length w₃ ≤ length out
    → l₂ ≡ sets (tail_of a x) 0 w₂ → l₃ ≡ sets (tail_of b (tail_put a x l₂)) 0 w₃
    → tail_put b (tail_put a x l₂) l₃ ≡ sets out 0 (w₁ ++ (w₂ ++ w₃))
two_behind out x l₂ l₃ w₁ w₂ w₃ a b e n m h p q =
    sets_behind out (tail_put a x l₂) l₃ (w₁ ++ w₂) w₃ b (sets_behind out x l₂ w₁ w₂ a e n (omega arith) p) (length-append w₁ w₂ ∙ omega arith) h q
    ∙ ap (sets out 0) (append_assoc w₁ w₂ w₃)

pub five_lists : (a b c d e : List ℕ) → (a ++ (b ++ c)) ++ (d ++ e) ≡ a ++ (b ++ (c ++ (d ++ e)))
five_lists a b c d e = simp append_assoc
