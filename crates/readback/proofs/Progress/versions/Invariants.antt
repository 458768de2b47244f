use Rattle.std.proofs.Common.{◌≡◌, ◌-◌, ◌<◌}
use Rattle.readback.specs.ReadBack.{versions_read}
use Rattle.readback.specs.Internal.{Running}
use Rattle.readback.proofs.Progress.versions.Given as goal

abbrev pub invariant-loop-count : goal.invariant-loop-count
invariant-loop-count l = Running l.area l.end l.read × (0 < l.read.totals.keys)
    × (versions_read (l.versions - l.count) l.area l.end l.read l.count ≡ versions_read (l.versions - 1) l.area l.end l.initial.read 1)
