use Rattle.std.proofs.Common.{sym, ◌∙◌, arith}
use Rattle.readback.proofs.Reading.{further}
use Rattle.readback.proofs.Steps.{versions_more, versions_refused, versions_done}
use Rattle.readback.proofs.Progress.versions.Goals as goal

pub loop-count-preserved : goal.loop-count-preserved
loop-count-preserved c =
    let i = c.loop-count.invariant in
    let e = sym c.version.ensures ∙ c.in_ok-read.was in
    let s = further _ _ _ _ _ _ i.0 e in
    (s.running, omega (arith, s.keys), sym (versions_more _ _ _ _ _ _ c.loop-count-test.true e) ∙ i.2)

pub returns-in_err-read : goal.returns-in_err-read
returns-in_err-read c =
    let i = c.loop-count.invariant in
    c.from_residual.ensures ∙ sym (versions_refused _ _ _ _ _ c.loop-count-test.true (sym c.version.ensures ∙ c.in_err-read.was)) ∙ i.2

pub returns : goal.returns
returns c = sym (versions_done _ _ _ _ _ c.loop-count-test.false) ∙ c.loop-count.invariant.2
