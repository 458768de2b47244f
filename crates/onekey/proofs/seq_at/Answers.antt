use mathlib.Core.Path.{sym, ap, ◌∙◌}
use Rattle.num.specs.Number.{le_at}
use Rattle.onekey.proofs.seq_at.Goals as goal

pub returns-then-width-eq2 : goal.returns-then-width-eq2
returns-then-width-eq2 c =
    let if1 = c.if-width-eq2 in
    let args = c.args in
    c.read.ensures ∙ ap (le_at args.section.now args.at) (sym if1.true)
