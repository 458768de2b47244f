use mathlib.Core.Path.{ap}
use Prim.Native.Nat.{ℕ, ◌+◌, ◌*◌}
use native.Mathlib.Omega.{arith}
use Rattle.encoding.proofs.Widths.{widths_le}
use Rattle.arena.specs.Key.{slot_place, pilot_place}
use Rattle.arena.proofs.Reading.{named, slot_inside}
use Rattle.arena.proofs.Arena.slot_place.Goals as goal

pub slot-slot-requires : goal.slot-slot-requires
slot-slot-requires c =
    let pre = c.args.self.now.readable in
    pre.some_key

pub overflow_add-result-2 : goal.overflow_add-result-2
overflow_add-result-2 c =
    let pre = c.args.self.now.readable in
    omega (arith, (widths_le _ pre.widths).0)

pub overflow_mul-result-2 : goal.overflow_mul-result-2
unfolding slot_place pilot_place
overflow_mul-result-2 c =
    let slot = c.slot-slot in
    let read = c.read-pilot in
    let bucket = c.bucket-bucket in
    let args = c.args in
    let pre = c.args.self.now.readable in
    let e = ap (λ (n : ℕ). n * (args.self.now.opened.encoding.address + 2)) (named args.self.now.section.now args.self.now.opened args.h _ _ bucket.ensures read.ensures slot.ensures) in
    omega (arith, slot_inside _ _ pre args.h, pre.arena_inside)

pub overflow_add-result-3 : goal.overflow_add-result-3
unfolding slot_place pilot_place
overflow_add-result-3 c =
    let slot = c.slot-slot in
    let read = c.read-pilot in
    let bucket = c.bucket-bucket in
    let args = c.args in
    let pre = c.args.self.now.readable in
    let e = ap (λ (n : ℕ). n * (args.self.now.opened.encoding.address + 2)) (named args.self.now.section.now args.self.now.opened args.h _ _ bucket.ensures read.ensures slot.ensures) in
    omega (arith, slot_inside _ _ pre args.h, pre.arena_inside)

pub returns : goal.returns
unfolding slot_place
returns c =
    let slot = c.slot-slot in
    let read = c.read-pilot in
    let bucket = c.bucket-bucket in
    let args = c.args in
    ap (λ (n : ℕ). 64 + 4 * args.self.now.opened.buckets + n * (args.self.now.opened.encoding.address + 2))
    (named args.self.now.section.now args.self.now.opened args.h _ _ bucket.ensures read.ensures slot.ensures)
