use Rattle.std.proofs.Common.{◌*◌}
use Rattle.num.proofs.Overlap.{Agree}
use Rattle.num.proofs.same_part.Given as goal

abbrev pub invariant-loop-k : goal.invariant-loop-k
invariant-loop-k l = Agree l.a l.i l.b l.j (8 * l.k)
