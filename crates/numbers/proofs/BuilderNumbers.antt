-- A builder's sixteen numbers are read back as itself.
-- Assumes nothing.
use mathlib.Core.Path.{◌≡◌, refl, sym, ◌∙◌}
use mathlib.Core.List.{List}
use Prim.Native.Nat.{ℕ, ◌≤◌}
use native.Mathlib.Omega.{arith}
use lib.ListN.{length}
use lib.Seq.{sets, length-sets, take_all}
use Rattle.num.specs.Choice.{when◌then◌else◌, both}
use Rattle.num.proofs.Lists.{part_sets_same}
use Rattle.builder.specs.declared.Builder.{Builder}
use Rattle.numbers.specs.BuilderNumbers.{builder_numbers, is_builder_numbers, used_in, builder_in}

pub builder_read : (b : Builder) → builder_in (builder_numbers b) ≡ b
unfolding builder_in used_in is_builder_numbers builder_numbers both when◌then◌else◌
builder_read b = refl

-- sixteen places that a record was written to hold its numbers alone
pub builder_stands : (before : List ℕ) (b : Builder) → length before ≡ 16 → sets before 0 (builder_numbers b) ≡ builder_numbers b
unfolding builder_numbers
builder_stands before b h =
    let all : length (sets before 0 (builder_numbers b)) ≤ 16 = omega (arith, length-sets before 0 (builder_numbers b)) in
    sym (take_all 16 (sets before 0 (builder_numbers b)) all) ∙ part_sets_same (builder_numbers b) before 0 (omega arith)
