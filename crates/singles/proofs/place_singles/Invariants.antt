use Rattle.singles.proofs.Loop.{Running}
use Rattle.singles.proofs.place_singles.Given as goal

-- the first buckets of the order are placed
abbrev pub invariant-loop-x : goal.invariant-loop-x
invariant-loop-x l = Running l.arranged.hashes.now (record { pilots = l.fn.pilots; slots = l.fn.slots }) l.x-index l.from l.pilots l.slots
