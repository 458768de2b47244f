use mathlib.Core.Path.{◌∙◌}
use Prim.Native.Nat.{◌+◌, ◌-◌}
use native.Mathlib.Omega.{arith}
use lib.ListN.{length}
use borrow.Author.Tests.{leb-true}
use Rattle.opened.proofs.Records.{record_facts}
use Rattle.lookup.proofs.Tests.{said_yes, said_no}
use Rattle.lookup.proofs.Places.{arena_inside}
use Rattle.lookup.proofs.KeyRecords.{address_outside, address_inside}
use Rattle.lookup.proofs.Section.key_of_address.Goals as goal

pub overflow_sub-section : goal.overflow_sub-section
overflow_sub-section c =
    let pre = record_facts _ _ c.args.self.now.given in
    let start = arena_inside _ _ pre in
    start

pub returns-then-not-inside : goal.returns-then-not-inside
returns-then-not-inside c =
    let pre = record_facts _ _ c.args.self.now.given in
    let start = arena_inside _ _ pre in
    let header = c.key_header_len in
    address_outside _ _ _ _ _ start header.ensures (said_no c.inside.ensures c.if-not-inside.true)

pub overflow_add-pos : goal.overflow_add-pos
overflow_add-pos c =
    let args = c.args in
    let pre = record_facts _ _ c.args.self.now.given in
    let start = arena_inside _ _ pre in
    let header = c.key_header_len in
    let read = said_yes c.inside.ensures c.if-not-inside.false in
    let room = leb-true (args.address + header.result) (length args.self.now.bytes.now - args.self.now.opened.arena) read in
    omega (arith, start, room)

pub key_header-h-requires : goal.key_header-h-requires
key_header-h-requires c =
    let args = c.args in
    let pre = record_facts _ _ c.args.self.now.given in
    let start = arena_inside _ _ pre in
    let header = c.key_header_len in
    let read = said_yes c.inside.ensures c.if-not-inside.false in
    let room = leb-true (args.address + header.result) (length args.self.now.bytes.now - args.self.now.opened.arena) read in
    omega (arith, start, room, header.ensures)

pub returns : goal.returns
returns c =
    let pre = record_facts _ _ c.args.self.now.given in
    let start = arena_inside _ _ pre in
    let header = c.key_header_len in
    let read = said_yes c.inside.ensures c.if-not-inside.false in
    c.key_record.ensures ∙ address_inside _ _ _ _ _ start header.ensures read c.key_header-h.ensures.0

pub key_record-requires : goal.key_record-requires
key_record-requires c =
    let args = c.args in
    let start = arena_inside _ _ (record_facts _ _ c.args.self.now.given) in
    let header = c.key_header_len in
    let read = said_yes c.inside.ensures c.if-not-inside.false in
    let room = leb-true (args.address + header.result) (length args.self.now.bytes.now - args.self.now.opened.arena) read in
    record { narrow = c.key_header-h.ensures.1; encoding_in_bounds = omega (arith, start, room, header.ensures) }
