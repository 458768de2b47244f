use mathlib.Core.Path.{ap, ◌∙◌}
use Rattle.block.proofs.Step.{record_in}
use Rattle.validate.specs.Lent.{inputs_lent}
use Rattle.validate.specs.Internal.{asked_for}
use Rattle.validate.proofs.Record.{handed_on, held_length, asked_13, asked_met, met_lies}
use Rattle.validate.proofs.Block.open_record.Goals as goal

pub returns-in_err-r-clause-result_after : goal.returns-in_err-r-clause-result_after
unfolding asked_for
returns-in_err-r-clause-result_after c =
    let a = c.args in
    let p = c.requires in
    ap (asked_for a.self.now.inputs.half a.scratch.now) (handed_on _ _ c.from_residual.ensures.1)
    ∙ asked_13 (inputs_lent a.self.now.inputs) a.self.now.offset a.self.now.raw.now a.self.now.entries_end a.pos a.self.now.inputs.half a.scratch.now a.w (held_length a.self.now.inputs.half a.scratch.now a.w p.ready.halves p.ready.held) _ (record_in _ _ c.new.ensures.0 c.new.ensures.1 c.in_err-r.ensures)

pub visit_record-requires-clause-lies : goal.visit_record-requires-clause-lies
visit_record-requires-clause-lies c =
    let a = c.args in
    let p = c.requires in
    met_lies (inputs_lent a.self.now.inputs) a.self.now.offset a.self.now.raw.now a.self.now.entries_end a.pos a.self.now.inputs.half a.scratch.now a.w (held_length a.self.now.inputs.half a.scratch.now a.w p.ready.halves p.ready.held) _ a.self.now.entries (record_in _ _ c.new.ensures.0 c.new.ensures.1 c.in_ok-r.ensures)

pub returns-clause-result_after : goal.returns-clause-result_after
returns-clause-result_after c =
    let a = c.args in
    let p = c.requires in
    c.visit_record.ensures.result_after
    ∙ asked_met (inputs_lent a.self.now.inputs) a.self.now.offset a.self.now.raw.now a.self.now.entries_end a.pos a.self.now.inputs.half a.scratch.now a.w (held_length a.self.now.inputs.half a.scratch.now a.w p.ready.halves p.ready.held) _ (record_in _ _ c.new.ensures.0 c.new.ensures.1 c.in_ok-r.ensures)
