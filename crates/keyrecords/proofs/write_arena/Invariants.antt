use Rattle.keyrecords.proofs.Arena.{Writing}
use Rattle.keyrecords.proofs.write_arena.Given as goal

-- The loop's invariant: the keys before key i are written and noted, and what is kept of an anchor is that of key i's, if it is none itself.
-- Assumes nothing.
abbrev pub invariant-loop-i : goal.invariant-loop-i
invariant-loop-i l = Writing l.source.area.now l.source.keys l.source.layout.encoding l.source.least l.initial.addresses l.initial.output l.anchor l.anchor_address l.head l.at l.i l.addresses l.output
