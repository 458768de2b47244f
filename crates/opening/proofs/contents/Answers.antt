use mathlib.Core.Path.{refl, sym, ◌∙◌}
use lib.ListN.{length}
use borrow.Author.Tests.{eqb-true}
use Rattle.refusal.proofs.Asked.{asked_yes}
use Rattle.header.proofs.Headers.{accepted_long}
use Rattle.validate.proofs.Record.{handed_on}
use Rattle.opening.proofs.Accepted.{pilots_fit, accepted_readable, start_ready, contents_refused, contents_ended}
use Rattle.opening.proofs.contents.Goals as goal

pub invariant_of-pilots : goal.invariant_of-pilots
invariant_of-pilots c = record { within = pilots_fit _ _ c.requires }

pub arena_end-requires : goal.arena_end-requires
arena_end-requires c = accepted_long _ _ c.requires

pub invariant_of-inputs : goal.invariant_of-inputs
invariant_of-inputs c =
    let a = c.args in
    record { readable = accepted_readable a.section.now a.o c.requires (sym c.pilots_inside.ensures ∙ asked_yes _ _ c.in_ok-ask.ensures) }

pub open_blocks-requires-clause-ready : goal.open_blocks-requires-clause-ready
open_blocks-requires-clause-ready c =
    let a = c.args in
    start_ready a.section.now a.o c.requires (sym c.pilots_inside.ensures ∙ asked_yes _ _ c.in_ok-ask.ensures) a.scratch.now _ _ c.arena_end.ensures c.start.ensures

pub returns-in_err-at-clause-value : goal.returns-in_err-at-clause-value
returns-in_err-at-clause-value c =
    let a = c.args in
    handed_on _ _ c.from_residual-in_err-at.ensures.1
    ∙ contents_refused a.section.now a.«data».now a.blocks.now (length a.scratch.now) a.o (sym c.pilots_inside.ensures ∙ asked_yes _ _ c.in_ok-ask.ensures) (eqb-true _ _ (asked_yes _ _ c.in_ok-ask-2.ensures)) _ c.arena_end.ensures _ c.start.ensures a.scratch.now _ _ c.in_err-at.ensures _ refl

pub returns-clause-value : goal.returns-clause-value
returns-clause-value c =
    let a = c.args in
    c.finish.ensures
    ∙ contents_ended a.section.now a.«data».now a.blocks.now (length a.scratch.now) a.o (sym c.pilots_inside.ensures ∙ asked_yes _ _ c.in_ok-ask.ensures) (eqb-true _ _ (asked_yes _ _ c.in_ok-ask-2.ensures)) _ c.arena_end.ensures _ c.start.ensures a.scratch.now _ _ c.in_ok-at.ensures _ _ refl
