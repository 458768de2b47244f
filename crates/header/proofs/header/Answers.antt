use Rattle.std.proofs.Common.{sym, ◌∙◌}
use Rattle.refusal.proofs.Asked.{asked_yes}
use Rattle.header.proofs.Questions.{dimensions_yes}
use Rattle.header.proofs.header.Goals.{then-sized, else-sized}
use Rattle.header.proofs.header.Goals as goal

pub scanned-requires-clause-dimensions : goal.scanned-requires-clause-dimensions
scanned-requires-clause-dimensions c =
    elim c.if-sized.branch [
      | then-sized w ↦ (dimensions_yes _ _ (sym c.dimensions-sized.ensures ∙ w.if-sized.true)).0
      | else-sized w ↦
          let yes = asked_yes _ _ c.in_ok-ask-2.ensures in
          (dimensions_yes _ _ (sym c.dimensions-sized.ensures ∙ sym w.ask-is ∙ yes)).0
    ]
