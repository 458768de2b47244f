use Rattle.std.proofs.Common.{◌≡◌, length}
use Rattle.area.specs.Walk.{keys_of}
use Rattle.construct.proofs.Seeds.{Trying}
use Rattle.construct.proofs.construct.Given as goal

-- the seeds from k on answer what all answer
abbrev pub invariant-loop-k : goal.invariant-loop-k
invariant-loop-k l =
    record {
      hashes_length : length l.hashes ≡ length l.fn.hashes;
      scratch_length : length l.scratch ≡ length l.fn.scratch;
      trying : Trying (keys_of l.keys) l.k;
    }
