use mathlib.Core.Path.{sym, ap, ◌∙◌}
use Prim.Native.Nat.{ℕ, ◌+◌, ◌-◌}
use native.Mathlib.Omega.{arith}
use Rattle.num.specs.Number.{le_at}
use Rattle.encoding.specs.Encoding.{version_len_of}
use Rattle.encoding.proofs.Widths.{widths_le}
use Rattle.encoding.proofs.Lengths.{version_le}
use Rattle.arena.proofs.Reading.{widths_read}
use Rattle.locator.proofs.Versions.{stored_sum}
use Rattle.spans.specs.Internal.{placed_of}
use Rattle.spans.proofs.Values.{placed_outside, placed_beyond, placed_here, placed_above, placed_last}
use borrow.Author.Rules.{rules}
use Rattle.spans.proofs.Store.place_within.Goals as goal

pub of-seqs-requires : goal.of-seqs-requires
of-seqs-requires g c = (widths_read _ c.args.self.now.spannable.widths).3

pub overflow_add-pos : goal.overflow_add-pos
overflow_add-pos g c = omega (arith, widths_le _ c.args.self.now.spannable.widths)

pub returns-then-section-pos : goal.returns-then-section-pos
returns-then-section-pos g c =
    let args = c.args in
    let loop = c.loop in
    sym (placed_outside args.self.now.section.now args.self.now.opened args.room loop.pos args.limit (args.count - loop.counter) (omega arith) (omega arith))
    ∙ loop.invariant.1

pub number-stored-requires : goal.number-stored-requires
number-stored-requires g c = omega (arith, c.of-seqs.ensures)

pub returns-then-most-stored : goal.returns-then-most-stored
returns-then-most-stored g c =
    let args = c.args in
    let loop = c.loop in
    let e = stored_sum args.self.now.section.now args.self.now.opened loop.pos (c.number-stored.ensures ∙ ap (le_at args.self.now.section.now loop.pos) c.of-seqs.ensures) in
    sym (placed_beyond args.self.now.section.now args.self.now.opened args.room loop.pos args.limit (args.count - loop.counter) (omega arith) (omega arith) (omega arith))
    ∙ loop.invariant.1

pub returns-then-o-stored : goal.returns-then-o-stored
returns-then-o-stored g c =
    let args = c.args in
    let loop = c.loop in
    let e = stored_sum args.self.now.section.now args.self.now.opened loop.pos (c.number-stored.ensures ∙ ap (le_at args.self.now.section.now loop.pos) c.of-seqs.ensures) in
    sym (placed_here args.self.now.section.now args.self.now.opened args.room loop.pos args.limit (args.count - loop.counter) (omega arith) (omega arith) (omega arith) (omega arith))
    ∙ loop.invariant.1

pub overflow_add-pos-in-loop : goal.overflow_add-pos-in-loop
overflow_add-pos-in-loop g c = omega (arith, version_le _ c.args.self.now.spannable.widths, c.version-size.ensures ∙ ap version_len_of c.layout.ensures)

pub loop-preserved : goal.loop-preserved
loop-preserved g c =
    let args = c.args in
    let loop = c.loop in
    let e = stored_sum args.self.now.section.now args.self.now.opened loop.pos (c.number-stored.ensures ∙ ap (le_at args.self.now.section.now loop.pos) c.of-seqs.ensures) in
    let v = c.version-size.ensures ∙ ap version_len_of c.layout.ensures in (
      omega (arith, version_le _ args.self.now.spannable.widths),
      ap (λ (n : ℕ). placed_of (args.count - (loop.counter + 1)) args.self.now.section.now args.self.now.opened args.room (loop.pos + n) args.limit) v
          ∙ sym (placed_above args.self.now.section.now args.self.now.opened args.room loop.pos args.limit (args.count - loop.counter) (args.count - (loop.counter + 1)) (omega arith) (search rules) (omega arith) (omega arith))
          ∙ loop.invariant.1,
    )

pub returns : goal.returns
returns g c =
    let args = c.args in
    let loop = c.loop in
    sym (placed_last args.self.now.section.now args.self.now.opened args.room loop.pos args.limit (args.count - loop.counter) (omega arith))
    ∙ loop.invariant.1
