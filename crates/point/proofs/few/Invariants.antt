use Rattle.std.proofs.Common.{◌≡◌, ◌-◌, length}
use Rattle.num.specs.Number.{le_at}
use Rattle.point.proofs.few.Given as goal

-- the bytes from `left` on are summed
abbrev pub invariant-loop-left : goal.invariant-loop-left
invariant-loop-left l = l.sum ≡ le_at l.key l.left (length l.key - l.left)
