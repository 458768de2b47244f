-- Looking for the least free slot, from a place that is not behind it.
-- Assumes nothing.
use Rattle.std.proofs.Common.{◌≡◌, ℕ, ◌+◌, ◌<◌, ◌≤◌, Bool, true, false, List, length, get_or, refl, sym, ap, ◌∙◌, arith, eqb, ltb, eq-eqb, eqb-true}
use borrow.Author.Tests.{eqb-false, ltb-true, ltb-false}
use Rattle.num.proofs.Choice.{false_true}
use Rattle.construction.specs.Construct.{is_free, least_free}
use Rattle.construction.proofs.Free.{before_least}
use Rattle.singles.specs.Internal.{HasFree}

module _ {slots : List ℕ} (has : HasFree slots) (at : ℕ) (passed : at ≤ least_free slots) where
  -- a slot that is taken is not the one
  pub free_later : (get_or slots at 0 ≡ length slots → ⊥) → at + 1 ≤ least_free slots
  unfolding is_free
  free_later n = go (eqb at (least_free slots)) refl
    where
      go : (t : Bool) → eqb at (least_free slots) ≡ t → at + 1 ≤ least_free slots
      go true e = absurd (n (ap (λ (k : ℕ). get_or slots k 0) (eqb-true at (least_free slots) e) ∙ eqb-true _ _ has.free))
      go false e = let d = eqb-false at (least_free slots) e in omega arith

  -- and one that is free is
  pub free_here : get_or slots at 0 ≡ length slots → at ≡ least_free slots
  unfolding is_free
  free_here e = go (eqb at (least_free slots)) refl
    where
      go : (t : Bool) → eqb at (least_free slots) ≡ t → at ≡ least_free slots
      go true p = eqb-true at (least_free slots) p
      go false p =
          let d = eqb-false at (least_free slots) p in
          absurd (false_true (sym (before_least slots at has.inside (omega arith)) ∙ eq-eqb _ _ e))

-- where all slots before a place are taken, the least free one is not before it
pub free_passed : {slots : List ℕ} → HasFree slots → (from : ℕ) → ((i : ℕ) → i < from → is_free slots i ≡ false) → from ≤ least_free slots
free_passed {slots} has from taken = go (ltb (least_free slots) from) refl
  where
    go : (t : Bool) → ltb (least_free slots) from ≡ t → from ≤ least_free slots
    go true p = absurd (false_true (sym (taken (least_free slots) (ltb-true _ _ p)) ∙ has.free))
    go false p = ltb-false _ _ p
