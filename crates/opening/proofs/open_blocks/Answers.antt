use mathlib.Core.Path.{refl, sym, ap, ◌∙◌}
use native.Mathlib.Omega.{arith}
use Rattle.std.specs.Prelude.{Err}
use Rattle.refusal.specs.declared.Refusal.{Refusal}
use Rattle.refusal.proofs.Asked.{asked_yes}
use Rattle.validate.specs.Lent.{inputs_lent}
use Rattle.validate.specs.Internal.{progress_in, answer_for}
use Rattle.validate.proofs.Record.{handed_on, answered_no}
use Rattle.opening.specs.Internal.{ended_for}
use Rattle.opening.proofs.Pairs.{fits_inside, ready_passed, pair_drop, pairing_start, pairing_done, pairing_11, pairing_refused, pairing_more}
use Rattle.opening.proofs.open_blocks.Goals as goal

pub loop-pair-init : goal.loop-pair-init
loop-pair-init c =
    let a = c.args in
    (c.requires.ready, refl, pairing_start (inputs_lent a.inputs.now) _ (progress_in a.inputs.now.half a.scratch.now a.w))

pub returns-in_err-ask : goal.returns-in_err-ask
unfolding ended_for
returns-in_err-ask c =
    let a = c.args in
    let l = c.loop-pair in
    let d = pair_drop a.blocks.now _ l.pair-index c.as_chunks.ensures.front (omega (arith, c.as_chunks.ensures.front_len, c.loop-pair-test.true)) in
    let x = answered_no _ _ _ c.in_err-ask.ensures in
    ap (ended_for a.inputs.now.half l.scratch) (handed_on _ _ c.from_residual.ensures.1)
    ∙ ap (λ (r : Refusal). Err r) x.1
    ∙ pairing_11 (inputs_lent a.inputs.now) a.blocks.now _ _ l.at (progress_in a.inputs.now.half l.scratch l.carried) l.invariant.2 _ _ d (sym c.pair_fits.ensures ∙ x.0)

pub open_pair-requires-clause-len_in_bounds : goal.open_pair-requires-clause-len_in_bounds
open_pair-requires-clause-len_in_bounds c = fits_inside _ c.loop-pair.at _ _ (sym c.pair_fits.ensures ∙ asked_yes _ _ c.in_ok-ask.ensures)

pub returns-in_err-carried : goal.returns-in_err-carried
unfolding ended_for answer_for
returns-in_err-carried c =
    let a = c.args in
    let l = c.loop-pair in
    let d = pair_drop a.blocks.now _ l.pair-index c.as_chunks.ensures.front (omega (arith, c.as_chunks.ensures.front_len, c.loop-pair-test.true)) in
    let f = sym c.pair_fits.ensures ∙ asked_yes _ _ c.in_ok-ask.ensures in
    ap (ended_for a.inputs.now.half c.open_pair.new.scratch) (handed_on _ _ c.from_residual-in_err-carried.ensures.1)
    ∙ pairing_refused (inputs_lent a.inputs.now) a.blocks.now _ _ l.at (progress_in a.inputs.now.half l.scratch l.carried) l.invariant.2 _ _ d f _ (sym c.in_err-carried.ensures.result_after)

pub overflow_add-at : goal.overflow_add-at
overflow_add-at c = omega (arith, fits_inside _ c.loop-pair.at _ _ (sym c.pair_fits.ensures ∙ asked_yes _ _ c.in_ok-ask.ensures))

pub loop-pair-preserved : goal.loop-pair-preserved
unfolding answer_for
loop-pair-preserved c =
    let a = c.args in
    let l = c.loop-pair in
    let d = pair_drop a.blocks.now _ l.pair-index c.as_chunks.ensures.front (omega (arith, c.as_chunks.ensures.front_len, c.loop-pair-test.true)) in
    let f = sym c.pair_fits.ensures ∙ asked_yes _ _ c.in_ok-ask.ensures in
    let e = sym c.in_ok-carried.ensures.result_after in (
      ready_passed a.inputs.now.section.now a.inputs.now.«data».now a.inputs.now.opened a.inputs.now.end a.inputs.now.half _ _ l.scratch _ l.carried _ l.invariant.0 c.open_pair.auto.scratch e c.in_ok-carried.ensures.block_held,
      c.open_pair.auto.scratch ∙ l.invariant.1,
      pairing_more (inputs_lent a.inputs.now) a.blocks.now _ _ l.at (progress_in a.inputs.now.half l.scratch l.carried) l.invariant.2 _ _ d f _ _ (omega arith) e,
    )

pub returns : goal.returns
unfolding ended_for
returns c =
    let a = c.args in
    let l = c.loop-pair in
    pairing_done (inputs_lent a.inputs.now) a.blocks.now _ _ l.at (progress_in a.inputs.now.half l.scratch l.carried) l.invariant.2 (omega (arith, c.as_chunks.ensures.front_len, c.loop-pair-test.false, c.requires.blocks_len))
