-- What the search finds is the definition's.
-- Assumes nothing.
use Rattle.std.proofs.Common.{◌≡◌, ℕ, zero, suc, ◌+◌, ◌-◌, ◌<◌, ◌≤◌, Bool, true, false, List, refl, sym, ap, ◌∙◌, arith, not-suc-le-zero}
use mathlib.Core.Option.{some, none}
use Rattle.construction.specs.Construct.{placeable, positions_of, members_of, serves, pilot_limit, pilot_from, least_pilot}
use Rattle.pilots.specs.Internal.{Found}

module _ (hs slots : List ℕ) (x : ℕ) where
  -- pilots that do not serve are passed over
  passed : (k count total a b : ℕ) → total ≡ k + count → b ≡ a + k → ((p : ℕ) → a ≤ p → p < b → serves hs slots x p ≡ false)
      → pilot_from total hs slots x a ≡ pilot_from count hs slots x b
  unfolding pilot_from
  passed zero count total a b e f h =
      let p : total ≡ count = omega arith in
      let q : a ≡ b = omega arith in
      rw (p, q)
  passed (suc k) count total a b e f h =
      let p : total ≡ suc (k + count) = omega arith in
      ap (λ (c : ℕ). pilot_from c hs slots x a) p
      ∙ ap (λ (c : Bool). elim c [ true ↦ some a | false ↦ pilot_from (k + count) hs slots x (a + 1) ]) (h a (omega arith) (omega arith))
      ∙ passed k count (k + count) (a + 1) b refl (omega arith) (λ q l r. h q (omega arith) r)

  first_serves : (count p : ℕ) → 0 < count → serves hs slots x p ≡ true → pilot_from count hs slots x p ≡ some p
  unfolding pilot_from
  first_serves zero p h e = absurd (not-suc-le-zero h)
  first_serves (suc count) p h e = ap (λ (b : Bool). elim b [ true ↦ some p | false ↦ pilot_from count hs slots x (p + 1) ]) e

  module _ {members : List ℕ} (e : members ≡ members_of hs x) where
    no_serve : (n : ℕ) → ((p : ℕ) → p < n → placeable slots (positions_of hs members p) ≡ false) → (p : ℕ) → 0 ≤ p → p < n → serves hs slots x p ≡ false
    unfolding serves
    no_serve n lower p l h = ap (λ (ms : List ℕ). placeable slots (positions_of hs ms p)) (sym e) ∙ lower p h

    pub least_some : {pilot : ℕ} {candidates : List ℕ} → Found hs slots members pilot candidates → least_pilot hs slots x ≡ some pilot
    unfolding least_pilot serves
    least_some {pilot} f =
        let b = f.bounded in
        passed pilot (pilot_limit - pilot) pilot_limit 0 pilot (omega arith) (omega arith) (no_serve pilot f.lower)
        ∙ first_serves (pilot_limit - pilot) pilot (omega arith) (ap (λ (ms : List ℕ). placeable slots (positions_of hs ms pilot)) (sym e) ∙ f.serving)

    pub least_none : ((p : ℕ) → p < pilot_limit → placeable slots (positions_of hs members p) ≡ false) → least_pilot hs slots x ≡ none
    unfolding least_pilot pilot_from
    least_none lower = passed pilot_limit 0 pilot_limit 0 pilot_limit refl refl (no_serve pilot_limit lower)
