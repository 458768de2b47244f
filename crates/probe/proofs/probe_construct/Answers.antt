use Rattle.std.proofs.Common.{◌∙◌}
use Rattle.area.specs.Area.{keys_in_of}
use Rattle.probe.proofs.Constructed.{seed_outcome, exhausted_outcome}
use Rattle.probe.proofs.probe_construct.Goals as goal

pub invariant_of-keys : goal.invariant_of-keys
invariant_of-keys c = record { stand = c.requires.le_count.2.inside }

pub returns-in-Some : goal.returns-in-Some
unfolding keys_in_of
returns-in-Some c =
    let s = c.args in
    seed_outcome c.construct.result c.in-Some.s s.count _ _ s.seed.now c.in-Some.is c.construct.ensures.scratch_after

pub returns-in-None : goal.returns-in-None
unfolding keys_in_of
returns-in-None c =
    let s = c.args in
    let r = exhausted_outcome c.construct.result s.count _ _ s.seed.now c.in-None.is c.construct.ensures.scratch_after in
    (c.number.ensures ∙ r.0, r.1, r.2)
