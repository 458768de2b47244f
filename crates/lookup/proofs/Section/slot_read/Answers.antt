use mathlib.Core.Path.{◌∙◌}
use native.Mathlib.Omega.{arith}
use Rattle.arena.proofs.Reading.{widths_read}
use Rattle.opened.proofs.Records.{record_facts}
use Rattle.lookup.proofs.Tests.{said_yes, said_no}
use Rattle.lookup.proofs.Places.{record_widths, slot_len_le, address_le, slot_outside, other_fingerprint, slot_names_lem}
use Rattle.lookup.proofs.Section.slot_read.Goals as goal

pub overflow_add-at : goal.overflow_add-at
overflow_add-at c =
    let size = c.slot_len.ensures in
    omega (arith, size, slot_len_le _ _ (record_facts _ _ c.args.self.now.given))

pub returns-then-section-at : goal.returns-then-section-at
returns-then-section-at c =
    let size = c.slot_len.ensures in
    slot_outside _ _ _ _ _ _ (omega (arith, size))

pub fingerprint_agrees-requires : goal.fingerprint_agrees-requires
fingerprint_agrees-requires c =
    let size = c.slot_len.ensures in
    omega (arith, size)

pub returns-then-not-fingerprint_agrees : goal.returns-then-not-fingerprint_agrees
returns-then-not-fingerprint_agrees c =
    let size = c.slot_len.ensures in
    let agrees = c.fingerprint_agrees.ensures in
    other_fingerprint _ _ _ _ _ _ (omega (arith, size)) (said_no agrees c.if-not-fingerprint_agrees.true)

pub uint-address-requires : goal.uint-address-requires
uint-address-requires c =
    let args = c.args in
    let size = c.slot_len.ensures in
    (omega (arith, size, address_le args.self.now.opened), (widths_read _ (record_widths _ _ (record_facts _ _ c.args.self.now.given))).0)

pub returns : goal.returns
returns c =
    let size = c.slot_len.ensures in
    let agrees = c.fingerprint_agrees.ensures in
    c.key_of_address.ensures
    ∙ slot_names_lem _ _ _ _ _ _ (omega (arith, size)) (said_yes agrees c.if-not-fingerprint_agrees.false) c.uint-address.ensures
