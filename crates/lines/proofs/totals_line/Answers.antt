use Rattle.std.proofs.Common.{ℕ, subst}
use Rattle.lines.specs.Lines.{line_defs, totals_line}
use Rattle.lines.specs.Wrote.{Wrote}
use Rattle.lines.proofs.Parts.{wrote_then}
use Rattle.lines.proofs.totals_line.Goals as goal

pub returns : goal.returns
unfolding line_defs
returns c =
    let a = c.args in
    subst (λ (m : ℕ). Wrote a.out.now c.put.new.out 0 (totals_line a.keys a.live m) c.put.result) c.mean.ensures
    (wrote_then c.put_labelled-live_at.ensures.written
    (wrote_then c.put_labelled-mean_at.ensures.written
    (wrote_then c.put_labelled-end.ensures.written c.put.ensures)))
