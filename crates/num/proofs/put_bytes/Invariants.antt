use Rattle.std.proofs.Common.{◌≡◌, ◌+◌, ◌-◌, ◌≤◌, length}
use lib.Seq.{sets}
use Rattle.num.specs.Number.{le_bytes}
use Rattle.num.proofs.put_bytes.Given as goal

abbrev pub invariant-loop-i : goal.invariant-loop-i
invariant-loop-i l = (l.i ≤ l.width) × (length l.out ≡ length l.initial.out) × (sets l.out (l.at + l.i) (le_bytes (l.width - l.i) l.rest) ≡ sets l.initial.out l.at (le_bytes l.width l.value))
