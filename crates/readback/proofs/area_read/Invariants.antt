use mathlib.Core.Path.{◌≡◌}
use Prim.Native.Nat.{ℕ, ◌+◌, ◌-◌, ◌<◌}
use Rattle.readback.specs.ReadBack.{keys_read, area_read}
use Rattle.readback.specs.Internal.{Running}
use Rattle.readback.proofs.area_read.Given as goal

abbrev pub invariant-loop-read : goal.invariant-loop-read
invariant-loop-read l = Running l.area l.end l.read × (f : ℕ) × (l.end < l.read.used + f) × (keys_read f l.area l.end l.read ≡ area_read l.area l.end)

abbrev pub decreases-loop-read : goal.decreases-loop-read
decreases-loop-read l = l.end - l.read.used
