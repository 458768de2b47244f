use mathlib.Core.Path.{sym, ap, ◌∙◌}
use borrow.Author.Tests.{eqb-true}
use Rattle.std.specs.Prelude.{Err}
use Rattle.refusal.specs.declared.Refusal.{Refusal}
use Rattle.num.proofs.Choice.{if_true, if_false}
use Rattle.refusal.proofs.Asked.{asked_yes}
use Rattle.validate.proofs.Record.{handed_on, answered_no}
use Rattle.blocks.proofs.Writing.{fill_failed, fill_placed}
use Rattle.blocks.proofs.BlockList.asked.Goals as goal

pub pairs_asked-requires : goal.pairs_asked-requires
pairs_asked-requires c = eqb-true _ _ (asked_yes _ _ c.in_ok-ask.ensures)

pub returns-in_err-pairs_asked : goal.returns-in_err-pairs_asked
returns-in_err-pairs_asked c =
    handed_on _ _ c.from_residual-in_err-pairs_asked.ensures.1
    ∙ fill_failed _ _ _ (asked_yes _ _ c.in_ok-ask.ensures) _ c.in_err-pairs_asked.ensures

pub returns-in_err-ask-2 : goal.returns-in_err-ask-2
returns-in_err-ask-2 c =
    let x = answered_no _ _ _ c.in_err-ask-2.ensures in
    handed_on _ _ c.from_residual-in_err-ask-2.ensures.1
    ∙ ap (λ (r : Refusal). Err r) x.1
    ∙ sym (if_false _ _ _ x.0)
    ∙ fill_placed _ _ _ (asked_yes _ _ c.in_ok-ask.ensures) _ c.in_ok-pairs_asked.ensures

pub returns : goal.returns
returns c =
    sym (if_true _ _ _ (asked_yes _ _ c.in_ok-ask-2.ensures))
    ∙ fill_placed _ _ _ (asked_yes _ _ c.in_ok-ask.ensures) _ c.in_ok-pairs_asked.ensures
