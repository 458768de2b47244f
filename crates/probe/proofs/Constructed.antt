-- What the answer of construction says of the seed and the placement behind it.
-- Assumes nothing.
use mathlib.Core.Path.{◌≡◌, refl, sym, ap, ◌∙◌, subst}
use mathlib.Core.List.{List}
use Prim.Native.Nat.{ℕ}
use Rattle.std.specs.Prelude.{Result}
use Rattle.refusal.specs.declared.Refusal.{Refusal}
use Rattle.construction.specs.Construct.{Constructed}
use Rattle.construction.specs.Scratch.{placement_in}
use Rattle.std.specs.Prelude.{Option, Some, None}
use Rattle.construct.specs.Built.{built_as}
use Rattle.refusal.specs.Refusal.{answer_number}
use Rattle.probe.specs.Probe.{seed_written, PlacedAs}

pub seed_outcome : (r : Option ℕ) (s count : ℕ) (scratch : List ℕ) (a : Result Constructed Refusal) (before : ℕ) → r ≡ Some s → built_as r count scratch ≡ a
    → (0 ≡ answer_number a) × (s ≡ seed_written a before) × PlacedAs a (placement_in count scratch)
unfolding built_as answer_number seed_written PlacedAs
seed_outcome r s count scratch a before said same =
    subst (λ (x : Result Constructed Refusal). (0 ≡ answer_number x) × (s ≡ seed_written x before) × PlacedAs x (placement_in count scratch))
    (sym (ap (λ (b : Option ℕ). built_as b count scratch) said) ∙ same)
    (refl, refl, refl)

pub exhausted_outcome : (r : Option ℕ) (count : ℕ) (scratch : List ℕ) (a : Result Constructed Refusal) (before : ℕ) → r ≡ None → built_as r count scratch ≡ a
    → (40 ≡ answer_number a) × (before ≡ seed_written a before) × PlacedAs a (placement_in count scratch)
unfolding built_as answer_number seed_written PlacedAs
exhausted_outcome r count scratch a before said same =
    subst (λ (x : Result Constructed Refusal). (40 ≡ answer_number x) × (before ≡ seed_written x before) × PlacedAs x (placement_in count scratch))
    (sym (ap (λ (b : Option ℕ). built_as b count scratch) said) ∙ same)
    (refl, refl, tt)
