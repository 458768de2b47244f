use mathlib.Core.Path.{ap, ◌∙◌}
use mathlib.Core.List.{List}
use Prim.Native.Nat.{◌-◌, ◌+◌, ◌*◌}
use native.Mathlib.Omega.{arith}
use lib.ListN.{length}
use lib.Seq.{sets}
use Rattle.refusal.specs.declared.Refusal.{Refusal}
use Rattle.spans.specs.Span.{Pair, pair_numbers}
use Rattle.spans.specs.Internal.{pairs_of}
use Rattle.spans.proofs.Keys.{keys_none, key_inside, key_given, key_stored}
use borrow.Author.Rules.{rules}
use Rattle.std.specs.Prelude.{Result}
use Rattle.spans.proofs.Store.put_values.Goals as goal

pub key_read-read-requires : goal.key_read-read-requires
key_read-read-requires c = c.loop.invariant.0

pub put_value-to-requires : goal.put_value-to-requires
put_value-to-requires c =
    let loop = c.loop in
    record { inside = c.key_read-read.ensures.1; to_in_bounds = omega (arith, loop.invariant.1) }

pub next_address-at-requires : goal.next_address-at-requires
next_address-at-requires c =
    let loop = c.loop in
    let key = (key_given c.args.self.now.section.now c.args.self.now.opened c.args.limit loop.at (c.args.count - loop.counter) (c.args.count - (loop.counter + 1)) (omega arith) loop.invariant.3).0 in
    record { address_bound = loop.invariant.0; encoding_in_bounds = key_inside c.args.self.now.section.now c.args.self.now.opened c.args.limit loop.at key }

pub loop-preserved : goal.loop-preserved
loop-preserved c =
    let loop = c.loop in
    let some = c.loop-test.true in
    let read = c.key_read-read.ensures.0 in
    let put = c.put_value-to.ensures in
    let i = loop.invariant in
    let g = key_given c.args.self.now.section.now c.args.self.now.opened c.args.limit loop.at (c.args.count - loop.counter) (c.args.count - (loop.counter + 1)) (omega (arith, some)) i.3 in
    let k = key_stored c.args.self.now.section.now c.args.self.now.opened c.args.limit loop.at (c.args.count - loop.counter) (c.args.count - (loop.counter + 1)) (omega (arith, some)) i.3 loop.pairs loop.to
    (put.0 ∙ ap (λ (a : Result (List Pair) Refusal). loop.to + 2 * length (pairs_of a)) read)
    (put.1 ∙ ap (λ (a : Result (List Pair) Refusal). sets loop.pairs loop.to (pair_numbers (pairs_of a))) read) in
    let next = c.next_address-at.ensures in
    let e = next.0 in
    let n = k.0 in
    let l = k.1 in (
      next.1,
      omega (arith, i.1),
      l ∙ i.2,
      rw e g.1,
      rw e (k.2 ∙ i.4),
      rw e (k.3 ∙ i.5),
    )

pub shape_of-pairs : goal.shape_of-pairs
shape_of-pairs c = c.loop.invariant.2

pub returns : goal.returns
unfolding pairs_of pair_numbers
returns c =
    let args = c.args in
    let loop = c.loop in
    let m = ap pairs_of (keys_none args.self.now.section.now args.self.now.opened args.limit loop.at (c.args.count - loop.counter) (search rules)) in
    let n = rw m at loop.invariant.4 in
    (omega arith, rw m at loop.invariant.5)
