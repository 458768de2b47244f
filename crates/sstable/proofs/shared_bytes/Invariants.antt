use Rattle.std.proofs.Common.{◌≡◌, ◌+◌, drop}
use Rattle.num.specs.Order.{common_prefix_len}
use Rattle.sstable.proofs.shared_bytes.Given as goal

-- they agree to here
abbrev pub invariant-loop-i : goal.invariant-loop-i
invariant-loop-i l =
    l.i + common_prefix_len (drop l.i l.a) (drop l.i l.b) ≡ l.from + common_prefix_len (drop l.from l.a) (drop l.from l.b)
