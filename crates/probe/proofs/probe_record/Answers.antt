use mathlib.Core.Path.{◌∙◌}
use native.Mathlib.Omega.{arith}
use Rattle.block.proofs.Step.{record_inside, record_in}
use Rattle.probe.proofs.Probing.{step_outside, step_inside, probe_stopped, probe_long, probe_met}
use Rattle.probe.proofs.probe_record.Goals as goal

pub returns-then-raw-end : goal.returns-then-raw-end
returns-then-raw-end c =
    let p = probe_stopped _ _ _ _ _ _ (step_outside _ _ _ _ c.if-raw-end.true) in
    (c.number.ensures ∙ p.0, p.1, p.2)

pub returns-then-scratch-r : goal.returns-then-scratch-r
returns-then-scratch-r c =
    let p = probe_long _ _ _ _ _ _ (step_inside _ _ _ _ c.if-raw-end.false ∙ record_in _ _ c.new.ensures.0 c.new.ensures.1 c.record_at.ensures ∙ c.in-Ok.is) c.if-scratch-r.true in
    (c.number-then-scratch-r.ensures ∙ p.0, p.1, p.2)

pub overflow_add-at : goal.overflow_add-at
overflow_add-at c =
    let i = record_inside _ _ _ _ _ (record_in _ _ c.new.ensures.0 c.new.ensures.1 c.record_at.ensures ∙ c.in-Ok.is) in
    omega arith

pub overflow_sub-r : goal.overflow_sub-r
overflow_sub-r c = (record_inside _ _ _ _ _ (record_in _ _ c.new.ensures.0 c.new.ensures.1 c.record_at.ensures ∙ c.in-Ok.is)).longer

pub copy_key-requires : goal.copy_key-requires
copy_key-requires c =
    let i = record_inside _ _ _ _ _ (record_in _ _ c.new.ensures.0 c.new.ensures.1 c.record_at.ensures ∙ c.in-Ok.is) in
    omega arith

pub returns-else-scratch-r : goal.returns-else-scratch-r
returns-else-scratch-r c =
    let a = c.args in
    let t = step_inside _ _ _ _ c.if-raw-end.false ∙ record_in _ _ c.new.ensures.0 c.new.ensures.1 c.record_at.ensures ∙ c.in-Ok.is in
    let m = probe_met a.raw.now a.pos _ a.fields.now a.scratch.now _ _ t c.if-scratch-r.false c.from.ensures in
    (m.0, m.1, c.copy_key.ensures ∙ m.2)

pub returns-in-Err : goal.returns-in-Err
returns-in-Err c =
    let p = probe_stopped _ _ _ c.args.fields.now c.args.scratch.now _ (step_inside _ _ _ _ c.if-raw-end.false ∙ record_in _ _ c.new.ensures.0 c.new.ensures.1 c.record_at.ensures ∙ c.in-Err.is) in
    (c.number-in-Err.ensures ∙ p.0, p.1, p.2)
