use mathlib.Core.Path.{sym, ◌∙◌}
use Prim.Native.Nat.{◌+◌}
use native.Mathlib.Nat.{add-sub_cancel_left}
use native.Mathlib.Omega.{arith}
use lib.ListN.{length}
use borrow.Author.Tests.{leb-true}
use Rattle.num.specs.Choice.{when◌then◌else◌}
use Rattle.lookup.specs.Value.{value_inside_of, value_part}
use Rattle.lookup.proofs.value.Goals as goal

pub overflow_add-end : goal.overflow_add-end
overflow_add-end c =
    let args = c.args in
    omega (arith, leb-true (args.offset + args.len) (length args.«data».now) (sym c.inside.ensures ∙ c.if-inside.true))

pub slice_bounds-result-end : goal.slice_bounds-result-end
slice_bounds-result-end c =
    let args = c.args in
    omega (arith, leb-true (args.offset + args.len) (length args.«data».now) (sym c.inside.ensures ∙ c.if-inside.true))

pub returns-then-inside : goal.returns-then-inside
unfolding value_part value_inside_of when◌then◌else◌
returns-then-inside c = rw (sym c.inside.ensures ∙ c.if-inside.true, add-sub_cancel_left)

pub returns-else-inside : goal.returns-else-inside
unfolding value_part value_inside_of when◌then◌else◌
returns-else-inside c = rw (sym c.inside.ensures ∙ c.if-inside.false)
