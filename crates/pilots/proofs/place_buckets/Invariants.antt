use Rattle.std.proofs.Common.{◌≡◌, length}
use Rattle.pilots.proofs.Placing.{Placing}
use Rattle.pilots.proofs.place_buckets.Given as goal

-- the first buckets of the order are placed
abbrev pub invariant-loop-x : goal.invariant-loop-x
invariant-loop-x l =
    record {
      candidates_length : length l.candidates ≡ length l.fn.candidates;
      indices_length : length l.indices ≡ length l.fn.indices;
      placing : Placing l.arranged.hashes.now (record { pilots = l.fn.pilots; slots = l.fn.slots }) l.x-index l.pilots l.slots;
    }
