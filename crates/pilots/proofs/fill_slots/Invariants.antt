use Rattle.std.proofs.Common.{◌≡◌, length, drop}
use Rattle.construction.specs.Construct.{filled}
use Rattle.pilots.proofs.fill_slots.Given as goal

-- storing what is left gives what storing all gives
abbrev pub invariant-loop-j : goal.invariant-loop-j
invariant-loop-j l =
    record {
      size : length l.slots ≡ length l.fn.slots;
      rest : filled l.slots (drop l.j l.candidates) (drop l.j l.members) ≡ filled l.fn.slots l.candidates l.members;
    }
