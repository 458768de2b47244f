use mathlib.Core.Path.{sym, ap, ◌∙◌}
use Prim.Native.Nat.{ℕ, ◌+◌, ◌-◌}
use native.Mathlib.Omega.{arith}
use Rattle.spans.specs.Span.{values_from}
use Rattle.spans.specs.Internal.{refused_of}
use Rattle.spans.proofs.Keys.{keys_none, key_inside, key_left, key_refused, key_is_given}
use borrow.Author.Rules.{rules}
use Rattle.spans.proofs.Store.keys_read.Goals as goal

pub returns-in_err-key_read : goal.returns-in_err-key_read
returns-in_err-key_read c =
    let loop = c.loop in
    let h = key_refused c.args.self.now.section.now c.args.self.now.opened c.args.limit loop.at _ c.key_read.ensures.0 c.in_err-key_read.was (c.args.count - loop.counter)
    (c.args.count - (loop.counter + 1)) (omega arith) in
    rw (sym loop.invariant.1 ∙ h) (search rules)

pub next_address-at-requires-clause-encoding_in_bounds : goal.next_address-at-requires-clause-encoding_in_bounds
next_address-at-requires-clause-encoding_in_bounds c =
    key_inside c.args.self.now.section.now c.args.self.now.opened c.args.limit c.loop.at
    (key_is_given c.args.self.now.section.now c.args.self.now.opened c.args.limit c.loop.at _ c.key_read.ensures.0 c.in_ok-key_read.was)

pub loop-preserved : goal.loop-preserved
loop-preserved c =
    let loop = c.loop in
    let next = c.next_address-at.ensures in (
      next.1,
      ap (λ (a : ℕ). refused_of (values_from (c.args.count - (loop.counter + 1)) c.args.self.now.section.now c.args.self.now.opened c.args.limit a)) next.0
          ∙ sym (key_left c.args.self.now.section.now c.args.self.now.opened c.args.limit loop.at _ c.key_read.ensures.0 c.in_ok-key_read.was (c.args.count - loop.counter)
          (c.args.count - (loop.counter + 1)) (omega arith))
          ∙ loop.invariant.1,
    )

pub returns : goal.returns
unfolding refused_of
returns c =
    let loop = c.loop in
    sym (ap refused_of (keys_none c.args.self.now.section.now c.args.self.now.opened c.args.limit loop.at (c.args.count - loop.counter) (omega arith))) ∙ loop.invariant.1
