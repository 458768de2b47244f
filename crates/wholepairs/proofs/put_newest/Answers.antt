use mathlib.Core.Path.{sym, ap, ap₂, ◌∙◌}
use mathlib.Core.List.{List}
use Prim.Native.Nat.{ℕ, ◌+◌, ◌*◌, ◌-◌}
use native.Mathlib.Omega.{arith}
use lib.ListN.{length}
use lib.Seq.{sets, length-sets}
use Rattle.num.specs.Number.{le_at}
use Rattle.encoding.specs.Encoding.{version_len_of}
use Rattle.arena.proofs.Reading.{widths_read}
use Rattle.locator.proofs.Versions.{stored_sum}
use Rattle.spans.specs.Span.{Pair, value_end, value_at, first_within, pair_numbers}
use Rattle.spans.specs.Internal.{pairs_of}
use Rattle.spans.proofs.Values.{value_none}
use Rattle.wholepairs.proofs.Versions.{version_room, room_within, room_above}
use borrow.Author.Rules.{rules}
use Rattle.wholepairs.proofs.put_newest.Goals as goal

pub of-seqs-requires : goal.of-seqs-requires
of-seqs-requires c = (widths_read _ c.args.store.now.spannable.widths).3

pub masked-requires : goal.masked-requires
masked-requires c =
    let loop = c.loop in
    let args = c.args in
    let pre = c.requires in
    let r = version_room args.store.now.section.now args.store.now.opened loop.pos (args.store.now.opened.min_seq + args.within) (args.versions - loop.counter) (args.versions - (loop.counter + 1)) pre.by_index (omega arith) loop.invariant.1 in
    omega (arith, r.0)

pub put_value_at-requires : goal.put_value_at-requires
unfolding version_len_of value_end
put_value_at-requires c =
    let loop = c.loop in
    let args = c.args in
    let pre = c.requires in
    let r = version_room args.store.now.section.now args.store.now.opened loop.pos (args.store.now.opened.min_seq + args.within) (args.versions - loop.counter) (args.versions - (loop.counter + 1)) pre.by_index (omega arith) loop.invariant.1 in
    record { encoding_in_bounds = omega (arith, r.0); to_in_bounds = omega (arith, pre.to_in_bounds, ap length loop.invariant.0) }

pub shape_of-pairs-then-masked-within : goal.shape_of-pairs-then-masked-within
shape_of-pairs-then-masked-within c =
    let put-version = c.put_value_at in
    let loop = c.loop in
    let args = c.args in
    ap length put-version.ensures.1 ∙ length-sets loop.pairs args.to
    (pair_numbers (value_at args.store.now.section.now args.store.now.opened loop.pos)) ∙ ap length loop.invariant.0

pub returns-then-masked-within : goal.returns-then-masked-within
unfolding pairs_of
returns-then-masked-within c =
    let put-version = c.put_value_at in
    let masked = c.masked in
    let loop = c.loop in
    let args = c.args in
    let pre = c.requires in
    let e = stored_sum args.store.now.section.now args.store.now.opened loop.pos (masked.ensures ∙ ap (le_at args.store.now.section.now loop.pos) c.of-seqs.ensures) in
    let v = sym (ap pairs_of (sym loop.invariant.2 ∙ room_within args.store.now.section.now args.store.now.opened loop.pos (args.store.now.opened.min_seq + args.within) (args.versions - loop.counter) (args.versions - (loop.counter + 1)) pre.by_index
    (omega arith) loop.invariant.1 (omega arith))) in (
      put-version.ensures.0 ∙ ap (λ (ps : List Pair). args.to + 2 * length ps) v,
      put-version.ensures.1 ∙ ap₂ (λ (l : List ℕ)
          (ps : List Pair). sets l args.to (pair_numbers ps)) loop.invariant.0 v,
    )

pub overflow_add-pos : goal.overflow_add-pos
overflow_add-pos c =
    let loop = c.loop in
    let version = c.version-size in
    let args = c.args in
    let pre = c.requires in
    let r = version_room args.store.now.section.now args.store.now.opened loop.pos (args.store.now.opened.min_seq + args.within) (args.versions - loop.counter) (args.versions - (loop.counter + 1)) pre.by_index (omega arith) loop.invariant.1 in
    omega (arith, r.0, version.ensures ∙ ap version_len_of c.layout.ensures)

pub loop-preserved : goal.loop-preserved
loop-preserved c =
    let masked = c.masked in
    let loop = c.loop in
    let version = c.version-size in
    let args = c.args in
    let pre = c.requires in
    let e = stored_sum args.store.now.section.now args.store.now.opened loop.pos (masked.ensures ∙ ap (le_at args.store.now.section.now loop.pos) c.of-seqs.ensures) in
    let r = version_room args.store.now.section.now args.store.now.opened loop.pos (args.store.now.opened.min_seq + args.within) (args.versions - loop.counter) (args.versions - (loop.counter + 1)) pre.by_index (omega arith) loop.invariant.1 in
    let a = room_above args.store.now.section.now args.store.now.opened loop.pos (args.store.now.opened.min_seq + args.within) (args.versions - loop.counter) (args.versions - (loop.counter + 1)) pre.by_index (omega arith) loop.invariant.1 (omega arith) in
    let s = version.ensures ∙ ap version_len_of c.layout.ensures in (
      loop.invariant.0,
      rw s r.1,
      ap (λ (n : ℕ). first_within (args.versions - (loop.counter + 1)) args.store.now.section.now args.store.now.opened (loop.pos + n)
          (args.store.now.opened.min_seq + args.within)) s ∙ sym a ∙ loop.invariant.2,
    )

pub shape_of-pairs : goal.shape_of-pairs
shape_of-pairs c =
    let loop = c.loop in
    ap length loop.invariant.0

pub returns : goal.returns
unfolding pairs_of pair_numbers
returns c =
    let loop = c.loop in
    let args = c.args in
    let n = sym (ap pairs_of (sym loop.invariant.2 ∙ value_none args.store.now.section.now args.store.now.opened loop.pos (args.store.now.opened.min_seq + args.within) (args.versions - loop.counter) (search rules))) in
    let l = ap length n in
    (omega arith, loop.invariant.0 ∙ ap (λ (ps : List Pair). sets args.pairs.now args.to (pair_numbers ps)) n)
