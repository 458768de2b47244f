use mathlib.Core.List.{List}
use mathlib.Core.Path.{◌≡◌, refl, sym, ap, ◌∙◌}
use Prim.Native.Nat.{ℕ, ◌+◌, ◌*◌, ◌-◌}
use native.Mathlib.Omega.{arith}
use native.Mathlib.Nat.{zero-mul, sub-zero}
use Rattle.std.proofs.Math.Nat.{add-sub_cancel_left}
use lib.ListN.{take, drop}
use lib.Seq.{sets}
use Rattle.packed.specs.Packed.{slot_address_of, packed_addresses}
use Rattle.packed.proofs.Lengths.{length_address, accepted_slots, slot_inside}
use Rattle.packed.proofs.Written.{addresses_turn, addresses_done}
use Rattle.packed.proofs.Plain.put_addresses.Goals as goal

pub loop-i-init : goal.loop-i-init
loop-i-init c = (refl, simp (zero-mul, sub-zero))

pub overflow_mul-slots : goal.overflow_mul-slots
overflow_mul-slots c = let h = accepted_slots _ _ c.args.self.now.accepted in omega arith

pub overflow_add-slots : goal.overflow_add-slots
overflow_add-slots c = let h = accepted_slots _ _ c.args.self.now.accepted in omega arith

pub put_part-requires : goal.put_part-requires
unfolding slot_address_of
put_part-requires c =
    let s = c.args.self.now.section.now in
    let o = c.args.self.now.opened in
    let e = length_address s o c.loop-i.i c.loop-i-test.true (accepted_slots s o c.args.self.now.accepted) in
    let h = slot_inside s o c.args.self.now.accepted c.loop-i.i c.loop-i-test.true in
    rw add-sub_cancel_left (omega arith)

pub loop-i-preserved : goal.loop-i-preserved
unfolding slot_address_of
loop-i-preserved c =
    let l = c.loop-i in
    let o = c.args.self.now.opened in
    let s = c.args.self.now.section.now in
    let from = 64 + 4 * o.buckets + l.i * (o.encoding.address + 2) in
    let w : c.put_part.new.out ≡ sets l.out (l.i * o.encoding.address) (slot_address_of s o l.i) =
    c.put_part.ensures ∙ ap (λ (n : ℕ). sets l.out (l.i * o.encoding.address) (take n (drop from s))) (add-sub_cancel_left from o.encoding.address) in (
      c.put_part.auto.out ∙ l.invariant.0,
      ap (λ (x : List ℕ). sets x ((l.i + 1) * o.encoding.address) (packed_addresses s o (l.i + 1) (o.count - (l.i + 1)))) w
          ∙ addresses_turn s o l.out l.i c.loop-i-test.true (accepted_slots s o c.args.self.now.accepted)
          ∙ l.invariant.1,
    )

pub returns : goal.returns
returns c =
    let l = c.loop-i in
    let a = c.args in
    sym (addresses_done a.self.now.section.now a.self.now.opened l.out (l.i * a.self.now.opened.encoding.address) l.i c.loop-i-test.false) ∙ l.invariant.1
