use mathlib.Core.Path.{◌≡◌}
use lib.ListN.{length, get_or}
use lib.Seq.{sets}
use Rattle.num.specs.Number.{le_bytes}
use Rattle.written.specs.Joined.{joined}
use Rattle.tables.proofs.put_numbers.Given as goal

abbrev pub invariant-loop-i : goal.invariant-loop-i
invariant-loop-i l = (length l.output ≡ length l.initial.output) × (l.output ≡ sets l.initial.output 0 (joined (λ k. le_bytes l.width (get_or l.numbers k 0)) l.i))
