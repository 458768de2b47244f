use Rattle.std.proofs.Common.{◌≡◌, length}
use Rattle.construction.specs.Construct.{positions_of}
use Rattle.pilots.proofs.Candidates.{Tried}
use Rattle.pilots.proofs.try_pilot.Given as goal

-- the slots of the first members are candidates
abbrev pub invariant-loop-j : goal.invariant-loop-j
invariant-loop-j l =
    record {
      candidates_length : length l.candidates ≡ length l.fn.candidates;
      indices_length : length l.indices ≡ length l.fn.indices;
      tried : Tried l.slots (positions_of l.hashes l.members l.pilot) l.j l.candidates l.indices;
    }
