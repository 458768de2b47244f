use Rattle.std.proofs.Common.{◌≡◌, ℕ, ◌<◌, false, length}
use Rattle.construction.specs.Construct.{placeable, positions_of}
use Rattle.pilots.proofs.find_pilot.Given as goal

-- no pilot so far serves
abbrev pub invariant-loop-pilot : goal.invariant-loop-pilot
invariant-loop-pilot l =
    record {
      candidates_length : length l.candidates ≡ length l.fn.candidates;
      indices_length : length l.indices ≡ length l.fn.indices;
      lower : (p : ℕ) → p < l.pilot → placeable l.slots (positions_of l.hashes l.members p) ≡ false;
    }
