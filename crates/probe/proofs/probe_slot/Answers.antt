use mathlib.Core.Path.{◌∙◌}
use Rattle.num.specs.Choice.{when◌then◌else◌}
use Rattle.probe.specs.Probe.{slot_probe}
use Rattle.probe.proofs.Probing.{no_slots, wide_pilot, a_slot}
use Rattle.probe.proofs.probe_slot.Goals as goal

pub returns-then-n-eq0 : goal.returns-then-n-eq0
unfolding slot_probe when◌then◌else◌
returns-then-n-eq0 c = rw (no_slots _ _ c.if-n-eq0.true)

pub returns-then-pilot-ge4294967296 : goal.returns-then-pilot-ge4294967296
unfolding slot_probe when◌then◌else◌
returns-then-pilot-ge4294967296 c = rw (wide_pilot _ _ c.if-n-eq0.false c.if-pilot-ge4294967296.true)

pub returns : goal.returns
unfolding slot_probe when◌then◌else◌
returns c = c.slot.ensures ∙ rw (a_slot _ _ c.if-n-eq0.false c.if-pilot-ge4294967296.false)
