use mathlib.Core.Path.{sym, ap, ◌∙◌}
use Rattle.validate.specs.Lent.{inputs_lent}
use Rattle.validate.specs.Internal.{progress_in, answer_for}
use Rattle.validate.proofs.Record.{handed_on}
use Rattle.opening.proofs.Pairs.{part_cut, part_inside, sound_inside, pair_unsound, pair_sound}
use Rattle.opening.proofs.open_pair.Goals as goal

pub returns-in_err-meta-clause-result_after : goal.returns-in_err-meta-clause-result_after
unfolding answer_for
returns-in_err-meta-clause-result_after c =
    let a = c.args in
    ap (answer_for a.inputs.now.half a.scratch.now) (handed_on _ _ c.from_residual.ensures.1)
    ∙ pair_unsound (inputs_lent a.inputs.now) a.offset a.len (progress_in a.inputs.now.half a.scratch.now a.w) _ (part_cut a.inputs.now.«data».now a.offset a.len) _ (sym c.in_err-meta.ensures)

pub invariant_of-block : goal.invariant_of-block
invariant_of-block c =
    let a = c.args in
    record { entries = sound_inside _ _ (sym c.in_ok-meta.ensures); inside = part_inside a.inputs.now.«data».now a.offset a.len c.requires.len_in_bounds }

pub returns-clause-result_after : goal.returns-clause-result_after
returns-clause-result_after c =
    let a = c.args in
    c.open.ensures.result_after
    ∙ pair_sound (inputs_lent a.inputs.now) a.offset a.len (progress_in a.inputs.now.half a.scratch.now a.w) _ (part_cut a.inputs.now.«data».now a.offset a.len) _ (sym c.in_ok-meta.ensures)
