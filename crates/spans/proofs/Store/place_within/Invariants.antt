use mathlib.Core.Path.{◌≡◌}
use Prim.Native.Nat.{◌-◌, ◌+◌, ◌≤◌}
use lib.ListN.{length}
use Rattle.spans.specs.Internal.{placed_of}
use Rattle.spans.proofs.Store.place_within.Given as goal

abbrev pub invariant-loop : goal.invariant-loop
invariant-loop g l = (l.pos ≤ l.from + length l.section + 24) × (placed_of (l.count - l.counter) l.section l.o l.room l.pos l.limit ≡ placed_of l.count l.section l.o l.room l.from l.limit)
