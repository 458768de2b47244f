use mathlib.Core.Path.{◌∙◌}
use borrow.Author.Tests.{eq-eqb, ne_eqb}
use Rattle.num.specs.Choice.{when◌then◌else◌}
use Rattle.probe.specs.Probe.{bucket_probe}
use Rattle.probe.proofs.probe_bucket.Goals as goal

pub returns-then-count-eq0 : goal.returns-then-count-eq0
unfolding bucket_probe when◌then◌else◌
returns-then-count-eq0 c = rw (eq-eqb _ _ c.if-count-eq0.true)

pub returns : goal.returns
unfolding bucket_probe when◌then◌else◌
returns c = c.bucket.ensures ∙ rw (ne_eqb _ _ c.if-count-eq0.false)
