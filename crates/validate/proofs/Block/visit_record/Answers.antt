use mathlib.Core.Path.{refl, sym, ap, ◌∙◌}
use native.Mathlib.Omega.{arith}
use borrow.Author.Tests.{leb-true}
use Rattle.std.specs.Prelude.{Bool, Ok}
use Rattle.refusal.specs.Refusal.{ask_of}
use Rattle.refusal.proofs.Asked.{asked_yes}
use Rattle.validate.specs.Internal.{State, asked_for}
use Rattle.validate.proofs.Record.{handed_on, asked_14, asked_15, asked_refused, asked_went}
use Rattle.validate.proofs.Block.visit_record.Goals as goal

pub returns-in_err-ask-clause-result_after : goal.returns-in_err-ask-clause-result_after
unfolding asked_for
returns-in_err-ask-clause-result_after c =
    let a = c.args in
    let p = c.requires in
    ap (asked_for a.self.now.inputs.half a.scratch.now) (handed_on _ _ c.from_residual.ensures.1)
    ∙ asked_14 a.self.now.inputs.section.now a.self.now.inputs.«data».now a.self.now.inputs.opened a.self.now.inputs.end a.self.now.inputs.half a.self.now.offset a.self.now.raw.now a.scratch.now a.w a.r p.lies p.ready.halves p.ready.held _ (c.in_err-ask.ensures ∙ ap (λ (b : Bool). ask_of b _) c.mutation.ensures)

pub returns-in_err-ask-2-clause-result_after : goal.returns-in_err-ask-2-clause-result_after
unfolding asked_for
returns-in_err-ask-2-clause-result_after c =
    let a = c.args in
    let p = c.requires in
    ap (asked_for a.self.now.inputs.half a.scratch.now) (handed_on _ _ c.from_residual-in_err-ask-2.ensures.1)
    ∙ asked_15 a.self.now.inputs.section.now a.self.now.inputs.«data».now a.self.now.inputs.opened a.self.now.inputs.end a.self.now.inputs.half a.self.now.offset a.self.now.raw.now a.scratch.now a.w a.r p.lies p.ready.halves p.ready.held _ (sym c.mutation.ensures ∙ asked_yes _ _ c.in_ok-ask.ensures) c.in_err-ask-2.ensures

pub copy_key-requires : goal.copy_key-requires
copy_key-requires c =
    let p = c.requires in
    let m = leb-true _ _ (asked_yes _ _ c.in_ok-ask-2.ensures) in
    (omega (arith, p.lies.longer, p.lies.own, p.lies.inside), omega (arith, p.lies.longer, p.ready.halves))

pub visit_keys-requires-clause-keys : goal.visit_keys-requires-clause-keys
visit_keys-requires-clause-keys c =
    let p = c.requires in
    let k = c.copy_key.auto.scratch in
    let m = leb-true _ _ (asked_yes _ _ c.in_ok-ask-2.ensures) in
    (omega (arith, k, p.ready.halves), omega (arith, k, p.ready.halves, p.ready.held.previous))

pub visit_keys-requires-clause-value : goal.visit_keys-requires-clause-value
visit_keys-requires-clause-value c = c.requires.lies.inside

pub returns-in_err-cursor-clause-result_after : goal.returns-in_err-cursor-clause-result_after
unfolding asked_for
returns-in_err-cursor-clause-result_after c =
    let a = c.args in
    let p = c.requires in
    let y = sym c.mutation.ensures ∙ asked_yes _ _ c.in_ok-ask.ensures in
    let m = leb-true _ _ (asked_yes _ _ c.in_ok-ask-2.ensures) in
    ap (asked_for a.self.now.inputs.half c.copy_key.new.scratch) (handed_on _ _ c.from_residual-in_err-cursor.ensures.1)
    ∙ asked_refused a.self.now.inputs.section.now a.self.now.inputs.«data».now a.self.now.inputs.opened a.self.now.inputs.end a.self.now.inputs.half a.self.now.offset a.self.now.raw.now a.scratch.now a.w a.r p.lies p.ready.halves p.ready.held y m _ c.copy_key.ensures _ c.in_err-cursor.ensures _ refl

pub move_on-requires : goal.move_on-requires
move_on-requires c =
    let p = c.requires in
    (leb-true _ _ (asked_yes _ _ c.in_ok-ask-2.ensures), omega (arith, c.copy_key.auto.scratch, p.ready.halves), p.ready.held)

pub returns-clause-result_after : goal.returns-clause-result_after
unfolding asked_for
returns-clause-result_after c =
    let a = c.args in
    let p = c.requires in
    let y = sym c.mutation.ensures ∙ asked_yes _ _ c.in_ok-ask.ensures in
    let m = leb-true _ _ (asked_yes _ _ c.in_ok-ask-2.ensures) in
    ap (λ (st : State). Ok (a.r.next, st)) c.move_on.ensures.state_after
    ∙ asked_went a.self.now.inputs.section.now a.self.now.inputs.«data».now a.self.now.inputs.opened a.self.now.inputs.end a.self.now.inputs.half a.self.now.offset a.self.now.raw.now a.scratch.now a.w a.r p.lies p.ready.halves p.ready.held y m _ c.copy_key.ensures _ c.in_ok-cursor.ensures _ refl
