use mathlib.Core.Path.{sym, ◌∙◌}
use Rattle.wholekeys.proofs.Whole.{whole_over}
use Rattle.wholekeys.proofs.Keys.are_whole.Goals as goal

pub with_usual_widths-requires : goal.with_usual_widths-requires
with_usual_widths-requires c = sym c.usual_widths.ensures ∙ c.if-usual_widths.true

pub returns-then-usual_widths : goal.returns-then-usual_widths
returns-then-usual_widths c =
    let e = c.with_usual_widths.ensures in
    λ t. whole_over e.0 e.1 e.2 e.3 (c.records_whole.ensures t)
