use Rattle.std.proofs.Common.{◌≡◌, ◌+◌, ◌-◌, length, take, drop}
use lib.Seq.{sets}
use Rattle.num.proofs.put_part.Given as goal

-- what is left to copy, from the bytes so far, gives what was to be copied at first
abbrev pub invariant-loop-i : goal.invariant-loop-i
invariant-loop-i l = (length l.out ≡ length l.initial.out) × (sets l.out (l.at + l.i) (take (length l.part - l.i) (drop l.i l.part)) ≡ sets l.initial.out l.at l.part)
