use mathlib.Core.Path.{refl, sym, ap, ◌∙◌}
use native.Mathlib.Omega.{arith}
use Rattle.validate.specs.Lent.{inputs_lent}
use Rattle.validate.specs.Internal.{progress_of, state_in, progress_in, asked_for, answer_for}
use Rattle.validate.proofs.Record.{handed_on}
use Rattle.validate.proofs.BlockWalk.{at_start, block_of, forget, block_told, walking_start, walking_done, walking_refused, walking_more, moved, ready_more}
use Rattle.validate.proofs.Block.open.Goals as goal

pub loop-pos-init : goal.loop-pos-init
unfolding state_in at_start block_of
loop-pos-init c =
    let a = c.args in
    let p = c.requires.ready in (
      record { readable = p.readable; inside = p.inside; halves = p.halves; held = record { key = omega arith; previous = p.held.previous } },
      refl,
      walking_start (inputs_lent a.self.now.inputs) a.self.now.offset a.self.now.raw.now a.self.now.entries_end (state_in a.self.now.inputs.half a.scratch.now a.w),
    )

pub loop-pos-smaller : goal.loop-pos-smaller
unfolding asked_for
loop-pos-smaller c =
    let a = c.args in
    let l = c.loop-pos in
    let m = moved (inputs_lent a.self.now.inputs) a.self.now.offset a.self.now.raw.now a.self.now.entries_end l.pos _ _ _ (sym c.in_ok-pos.ensures.result_after) in
    omega (arith, m.forward, m.within)

pub loop-pos-preserved : goal.loop-pos-preserved
unfolding asked_for
loop-pos-preserved c =
    let a = c.args in
    let l = c.loop-pos in
    let e = sym c.in_ok-pos.ensures.result_after in (
      ready_more a.self.now.inputs.section.now a.self.now.inputs.«data».now a.self.now.inputs.opened a.self.now.inputs.end a.self.now.inputs.half a.self.now.offset a.self.now.raw.now a.self.now.entries_end l.pos l.scratch _ l.carried l.invariant.0 c.open_record.auto.scratch _ _ e c.in_ok-pos.ensures.record_held,
      c.open_record.auto.scratch ∙ l.invariant.1,
      walking_more (inputs_lent a.self.now.inputs) a.self.now.offset a.self.now.raw.now a.self.now.entries_end _ l.pos _ l.invariant.2 _ _ c.loop-pos-test.true e,
    )

pub returns-in_err-pos-clause-result_after : goal.returns-in_err-pos-clause-result_after
unfolding answer_for forget block_of at_start progress_of progress_in state_in asked_for
returns-in_err-pos-clause-result_after c =
    let a = c.args in
    let l = c.loop-pos in
    let k = c.open_record in
    let told = block_told (inputs_lent a.self.now.inputs) a.self.now.offset a.self.now.raw.now a.self.now.entries_end (state_in a.self.now.inputs.half a.scratch.now a.w) in
    ap (answer_for a.self.now.inputs.half k.new.scratch) (handed_on _ _ c.from_residual.ensures.1)
    ∙ ap forget (walking_refused (inputs_lent a.self.now.inputs) a.self.now.offset a.self.now.raw.now a.self.now.entries_end _ l.pos _ l.invariant.2 _ c.loop-pos-test.true (sym c.in_err-pos.ensures.result_after)) ∙ told

pub returns-clause-result_after : goal.returns-clause-result_after
unfolding answer_for forget block_of at_start progress_of progress_in state_in
returns-clause-result_after c =
    let a = c.args in
    let l = c.loop-pos in
    let told = block_told (inputs_lent a.self.now.inputs) a.self.now.offset a.self.now.raw.now a.self.now.entries_end (state_in a.self.now.inputs.half a.scratch.now a.w) in
    ap forget (walking_done (inputs_lent a.self.now.inputs) a.self.now.offset a.self.now.raw.now a.self.now.entries_end _ l.pos _ l.invariant.2 c.loop-pos-test.false) ∙ told
