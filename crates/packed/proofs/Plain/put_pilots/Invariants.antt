use mathlib.Core.Path.{◌≡◌}
use Prim.Native.Nat.{◌*◌, ◌-◌}
use lib.ListN.{length}
use lib.Seq.{sets}
use Rattle.packed.specs.Packed.{packed_pilots}
use Rattle.packed.proofs.Plain.put_pilots.Given as goal

abbrev pub invariant-loop-k : goal.invariant-loop-k
invariant-loop-k l = (length l.out ≡ length l.initial.out) × (sets l.out (3 * l.k) (packed_pilots l.self.section.now l.k (l.self.opened.buckets - l.k)) ≡ sets l.initial.out 0 (packed_pilots l.self.section.now 0 l.self.opened.buckets))
