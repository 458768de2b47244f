use Rattle.std.proofs.Common.{◌-◌, ◌≤◌, length}
use Rattle.construction.specs.Construct.{least_free}
use Rattle.singles.proofs.next_free.Given as goal

-- the least free slot is still to come
abbrev pub invariant-loop-at : goal.invariant-loop-at
invariant-loop-at l = l.at ≤ least_free l.slots

abbrev pub decreases-loop-at : goal.decreases-loop-at
decreases-loop-at l = length l.slots - l.at
