use mathlib.Core.Path.{◌≡◌}
use Prim.Native.Nat.{◌+◌, ◌-◌, ◌≤◌}
use lib.ListN.{length}
use Rattle.locator.specs.Locator.{versions_from}
use Rattle.locator.proofs.VersionReader.versions_from.Given as goal

abbrev pub invariant-loop : goal.invariant-loop
invariant-loop l = (l.pos ≤ length l.self.section.now + 24) × (versions_from (l.count - l.counter) l.self.section.now l.self.opened l.pos l.limit ≡ versions_from l.count l.self.section.now l.self.opened l.from l.limit)
