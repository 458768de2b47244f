use mathlib.Core.Path.{ap}
use Prim.Native.Nat.{ℕ, ◌+◌, ◌*◌}
use native.Mathlib.Omega.{arith}
use lib.ListN.{take}
use lib.Seq.{length-take-le}
use Rattle.packed.specs.Packed.{packed_pilots, packed_addresses}
use Rattle.packed.proofs.Laws.{two_behind}
use Rattle.packed.proofs.Lengths.{length_pilots, length_addresses, accepted_slots}
use Rattle.packed.proofs.Plain.write_tables.Goals as goal

pub slice_bounds-put_part-end : goal.slice_bounds-put_part-end
slice_bounds-put_part-end c =
    let h = accepted_slots _ _ c.args.self.now.accepted in
    let l = length-take-le 64 c.args.self.now.section.now (omega arith) in
    omega arith

pub put_part-requires : goal.put_part-requires
put_part-requires c =
    let h = accepted_slots _ _ c.args.self.now.accepted in
    let l = length-take-le 64 c.args.self.now.section.now (omega arith) in
    let p = c.requires in
    omega arith

pub returns : goal.returns
returns c =
    let a = c.args in
    let p = c.requires in
    let s = a.self.now.section.now in
    let o = a.self.now.opened in
    let h = accepted_slots s o a.self.now.accepted in
    two_behind a.output.now c.put_part.new.out c.put_pilots.new.out c.put_addresses.new.out
    (take 64 s) (packed_pilots s 0 o.buckets) (packed_addresses s o 0 o.count) 64 (64 + 3 * o.buckets)
    c.put_part.ensures (length-take-le 64 s (omega arith)) (ap (λ (n : ℕ). 64 + n) (length_pilots s 0 o.buckets))
    (omega (arith, length_addresses s o 0 o.count (omega arith) h, p))
    c.put_pilots.ensures c.put_addresses.ensures
