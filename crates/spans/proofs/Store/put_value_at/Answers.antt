use mathlib.Core.Path.{ap, ◌∙◌}
use Prim.Native.Nat.{◌+◌}
use native.Mathlib.Omega.{arith}
use Rattle.num.specs.Number.{le_at}
use lib.ListN.{length-set}
use Rattle.encoding.specs.Encoding.{tombstone_of}
use Rattle.arena.proofs.Reading.{widths_read}
use Rattle.spans.specs.Span.{value_end}
use Rattle.spans.proofs.Values.{none_put, pair_put}
use borrow.Author.Rules.{rules}
use Rattle.spans.proofs.Store.put_value_at.Goals as goal

pub overflow_add-value : goal.overflow_add-value
unfolding value_end
overflow_add-value g c =
    let pre = c.requires in
    omega (arith, pre.encoding_in_bounds)

pub number-stored-requires : goal.number-stored-requires
unfolding value_end
number-stored-requires g c =
    omega (arith, c.requires.encoding_in_bounds, c.of.ensures)

pub of-requires : goal.of-requires
of-requires g c = (widths_read _ c.args.self.now.spannable.widths).4

pub returns-then-tombstone-stored : goal.returns-then-tombstone-stored
returns-then-tombstone-stored g c =
    let args = c.args in
    let tombstone = c.tombstone in
    let uint = c.number-stored in
    none_put args.self.now.section.now args.self.now.opened args.pos (tombstone.ensures ∙ ap tombstone_of c.layout.ensures) (uint.ensures ∙ ap (le_at c.args.self.now.section.now (c.args.pos + c.args.self.now.opened.encoding.seq)) c.of.ensures) (search rules) args.pairs.now args.to

pub overflow_add-value-2 : goal.overflow_add-value-2
unfolding value_end
overflow_add-value-2 g c =
    let pre = c.requires in
    omega (arith, pre.encoding_in_bounds)

pub read-requires : goal.read-requires
unfolding value_end
read-requires g c =
    let pre = c.requires in
    let four = c.args.self.now.spannable.four in
    omega (arith, pre.encoding_in_bounds)

pub bounds-pairs-to-2 : goal.bounds-pairs-to-2
bounds-pairs-to-2 g c =
    omega (arith, c.requires.to_in_bounds, length-set c.args.pairs.now c.args.to c.read.result)

pub returns : goal.returns
returns g c =
    let tombstone = c.tombstone in
    let uint = c.number-stored in
    pair_put c.args.self.now.section.now c.args.self.now.opened c.args.pos (tombstone.ensures ∙ ap tombstone_of c.layout.ensures) (uint.ensures ∙ ap (le_at c.args.self.now.section.now (c.args.pos + c.args.self.now.opened.encoding.seq)) c.of.ensures) (search rules) c.read.ensures c.args.self.now.spannable.four c.args.pairs.now c.args.to
