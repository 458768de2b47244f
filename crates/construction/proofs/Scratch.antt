-- The scratch in parts: the placement as two of them.
-- Assumes nothing.
use Rattle.std.proofs.Common.{◌≡◌, ℕ, ◌+◌, List, ◌++◌, length, take, drop, sym, ap, ap₂, ◌∙◌, arith, append_assoc, length-append, take_at, drop_at}
use Rattle.encoding.specs.Encoding.{buckets_of}
use Rattle.construction.specs.Scratch.{pilots_at, slots_at, placement_in}
use Rattle.construction.specs.Internal.{place_defs}

-- pilots p and slots q, with other parts before and behind them
module _ (n : ℕ) (before p q behind : List ℕ) (front : length before ≡ pilots_at n) (pilots : length p ≡ buckets_of n) (slots : length q ≡ n) where
  both : length (before ++ p) ≡ slots_at n
  unfolding place_defs
  both = omega (arith, length-append before p)

  pub placement_parts : placement_in n (before ++ (p ++ (q ++ behind))) ≡ record { pilots = p; slots = q }
  unfolding placement_in
  placement_parts =
      ap₂ (λ (a b : List ℕ). record { pilots = a; slots = b })
      (ap (take (buckets_of n)) (drop_at before (p ++ (q ++ behind)) (pilots_at n) front) ∙ take_at p (q ++ behind) (buckets_of n) pilots)
      (ap (λ (l : List ℕ). take n (drop (slots_at n) l)) (sym (append_assoc before p (q ++ behind)))
      ∙ ap (take n) (drop_at (before ++ p) (q ++ behind) (slots_at n) both) ∙ take_at q behind n slots)

-- with the four parts before them
pub placement_all : (n : ℕ) (starts members sizes order p q behind : List ℕ) → length starts ≡ buckets_of n + 2 → length members ≡ n → length sizes ≡ n + 3 → length order ≡ buckets_of n
    → length p ≡ buckets_of n → length q ≡ n → placement_in n (starts ++ (members ++ (sizes ++ (order ++ (p ++ (q ++ behind)))))) ≡ record { pilots = p; slots = q }
unfolding place_defs
placement_all n starts members sizes order p q behind e₁ e₂ e₃ e₄ pilots slots =
    let front = starts ++ (members ++ (sizes ++ order)) in
    let size : length front ≡ pilots_at n = omega (arith, length-append starts (members ++ (sizes ++ order)), length-append members (sizes ++ order), length-append sizes order) in
    ap (placement_in n)
    (ap (λ (l : List ℕ). starts ++ (members ++ l)) (sym (append_assoc sizes order (p ++ (q ++ behind))))
    ∙ ap (λ (l : List ℕ). starts ++ l) (sym (append_assoc members (sizes ++ order) (p ++ (q ++ behind))))
    ∙ sym (append_assoc starts (members ++ (sizes ++ order)) (p ++ (q ++ behind))))
    ∙ placement_parts n front p q behind size pilots slots
