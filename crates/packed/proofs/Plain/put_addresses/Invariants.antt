use mathlib.Core.Path.{◌≡◌}
use Prim.Native.Nat.{◌*◌, ◌-◌}
use lib.ListN.{length}
use lib.Seq.{sets}
use Rattle.packed.specs.Packed.{packed_addresses}
use Rattle.packed.proofs.Plain.put_addresses.Given as goal

abbrev pub invariant-loop-i : goal.invariant-loop-i
invariant-loop-i l = (length l.out ≡ length l.initial.out) × (sets l.out (l.i * l.self.opened.encoding.address) (packed_addresses l.self.section.now l.self.opened l.i (l.self.opened.count - l.i)) ≡ sets l.initial.out 0 (packed_addresses l.self.section.now l.self.opened 0 l.self.opened.count))
