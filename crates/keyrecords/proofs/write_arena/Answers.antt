use mathlib.Core.Path.{ap}
use Prim.Native.Nat.{ℕ, ◌+◌}
use native.Mathlib.Omega.{arith}
use Rattle.num.proofs.Regions.{region_fewer}
use Rattle.encoding.specs.Encoding.{key_header_len_of}
use Rattle.encoding.proofs.Widths.{widths_le}
use Rattle.keyrecords.proofs.Arena.{writing_start, writing_done, address_small, anchor_now, suffix_now, head_inside, first_now, anchor_inside, stands_now, shared_now, shared_small, record_room, writing_turn}
use Rattle.keyrecords.proofs.write_arena.Goals as goal

pub loop-i-init : goal.loop-i-init
loop-i-init c =
    let a = c.args in
    let s = a.source.now in
    writing_start s.area.now s.keys s.layout.encoding s.least a.addresses.now a.output.now

pub overflow_add-at : goal.overflow_add-at
unfolding key_header_len_of
overflow_add-at c =
    let p = c.requires in
    let w = widths_le c.args.source.now.layout.encoding p.fits.widths in
    omega (arith, c.key_header-header.ensures, address_small p c.loop-i.invariant c.loop-i-test.true)

pub invariant_of-key : goal.invariant_of-key
invariant_of-key c = record { inside = first_now c.requires c.loop-i.invariant c.loop-i-test.true }

pub invariant_of-shared_len : goal.invariant_of-shared_len
invariant_of-shared_len c =
    let p = c.requires in
    let st = c.loop-i.invariant in
    let l = c.loop-i-test.true in
    record { inside = anchor_inside p st l _ (anchor_now p st l _ c.anchored-anchor.ensures) }

pub overflow_cast-addresses : goal.overflow_cast-addresses
overflow_cast-addresses c =
    omega (arith, address_small c.requires c.loop-i.invariant c.loop-i-test.true)

pub bounds-addresses-i : goal.bounds-addresses-i
bounds-addresses-i c = omega (arith, c.requires.places, c.loop-i.invariant.kept.size)

pub put_key-at-requires : goal.put_key-at-requires
put_key-at-requires c =
    let p = c.requires in
    let st = c.loop-i.invariant in
    let l = c.loop-i-test.true in
    let s = shared_now p st l _ _ (anchor_now p st l _ c.anchored-anchor.ensures) c.shared_len-shared.ensures in
    record { stand = stands_now p st l; shared_inside = shared_small p st l _ s; room = record_room p st l _ s }

pub end-head-requires : goal.end-head-requires
end-head-requires c =
    head_inside c.requires c.loop-i.invariant c.loop-i-test.true

pub loop-i-preserved : goal.loop-i-preserved
loop-i-preserved c =
    let p = c.requires in
    let st = c.loop-i.invariant in
    let l = c.loop-i-test.true in
    let k = anchor_now p st l _ c.anchored-anchor.ensures in
    let s = shared_now p st l _ _ k c.shared_len-shared.ensures in
    let f = suffix_now p st l _ _ (ap (λ (n : ℕ). c.loop-i.at + n) c.key_header-header.ensures) c.anchored-anchor_address.ensures in
    writing_turn p st l _ s _ _ _ _ c.put_key-at.new.output k f c.put_key-at.ensures.value c.end-head.ensures c.put_key-at.auto.output c.put_key-at.ensures.output_after

pub returns : goal.returns
returns c =
    let p = c.requires in
    let st = c.loop-i.invariant in
    record { output_after = writing_done p st (omega arith); region_holds = region_fewer st.noted 0 c.args.source.now.keys (omega arith) (omega arith); frame = st.kept }
