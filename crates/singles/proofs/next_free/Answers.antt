use Rattle.std.proofs.Common.{arith}
use Rattle.singles.proofs.Free.{free_later, free_here}
use Rattle.singles.proofs.next_free.Goals as goal

pub loop-at-preserved : goal.loop-at-preserved
loop-at-preserved c = free_later c.requires.has_free _ c.loop-at.invariant c.loop-at-test.true

pub returns : goal.returns
returns c =
    let e = free_here c.requires.has_free _ c.loop-at.invariant c.loop-at-test.false in
    (e, omega (arith, c.requires.has_free.inside))
