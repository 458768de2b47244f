use mathlib.Core.Path.{◌∙◌}
use native.Mathlib.Omega.{arith}
use Rattle.opened.proofs.Records.{record_facts}
use Rattle.lookup.proofs.Tests.{said_yes, said_no}
use Rattle.lookup.proofs.Places.{arena_inside}
use Rattle.lookup.proofs.KeyRecords.{other_length, anchor_outside, anchor_inside, other_anchor, suffix_outside, other_suffix, same_key}
use Rattle.lookup.proofs.Section.key_record.Goals as goal

pub overflow_add-shared : goal.overflow_add-shared
overflow_add-shared c =
    let pre = c.requires in
    omega (arith, pre.narrow.shared, pre.narrow.suffix)

pub returns-then-key-shared : goal.returns-then-key-shared
returns-then-key-shared c = other_length _ _ _ _ _ _ c.if-key-shared.true

pub overflow_sub-section : goal.overflow_sub-section
overflow_sub-section c =
    let pre = c.requires in
    let start = arena_inside _ _ (record_facts _ _ c.args.self.now.given) in
    start

pub returns-then-not-inside : goal.returns-then-not-inside
returns-then-not-inside c =
    let pre = c.requires in
    let start = arena_inside _ _ (record_facts _ _ c.args.self.now.given) in
    let len = c.if-key-shared.false in
    anchor_outside _ _ _ _ _ _ len start (said_no c.inside.ensures c.if-not-inside.true)

pub overflow_add-anchor : goal.overflow_add-anchor
overflow_add-anchor c =
    let args = c.args in
    let pre = c.requires in
    let start = arena_inside _ _ (record_facts _ _ c.args.self.now.given) in
    let len = c.if-key-shared.false in
    let inside = said_yes c.inside.ensures c.if-not-inside.false in
    let place = anchor_inside args.self.now.bytes.now args.self.now.opened args.key.now args.limit args.pos args.h len start inside in
    omega (arith, place)

pub same_part-requires : goal.same_part-requires
same_part-requires c =
    let args = c.args in
    let pre = c.requires in
    let start = arena_inside _ _ (record_facts _ _ c.args.self.now.given) in
    let len = c.if-key-shared.false in
    let inside = said_yes c.inside.ensures c.if-not-inside.false in
    let place = anchor_inside args.self.now.bytes.now args.self.now.opened args.key.now args.limit args.pos args.h len start inside in
    (omega (arith, len), place)

pub returns-then-not-same_part : goal.returns-then-not-same_part
returns-then-not-same_part c =
    let pre = c.requires in
    let start = arena_inside _ _ (record_facts _ _ c.args.self.now.given) in
    let len = c.if-key-shared.false in
    let inside = said_yes c.inside.ensures c.if-not-inside.false in
    other_anchor _ _ _ _ _ _ len start inside (said_no c.same_part.ensures c.if-not-same_part.true)

pub overflow_add-suffix : goal.overflow_add-suffix
overflow_add-suffix c =
    let pre = c.requires in
    let header = c.key_header_len in
    omega (arith, pre.encoding_in_bounds, header.ensures)

pub overflow_sub-section-2 : goal.overflow_sub-section-2
overflow_sub-section-2 c =
    let pre = c.requires in
    let header = c.key_header_len in
    omega (arith, pre.encoding_in_bounds, header.ensures)

pub returns-then-section-suffix : goal.returns-then-section-suffix
returns-then-section-suffix c =
    let pre = c.requires in
    let start = arena_inside _ _ (record_facts _ _ c.args.self.now.given) in
    let len = c.if-key-shared.false in
    let inside = said_yes c.inside.ensures c.if-not-inside.false in
    let front = said_yes c.same_part.ensures c.if-not-same_part.false in
    let header = c.key_header_len in
    suffix_outside _ _ _ _ _ _ len start inside front header.result header.ensures (omega (arith, pre.encoding_in_bounds, header.ensures)) c.if-section-suffix.true

pub same_part-requires-2 : goal.same_part-requires-2
same_part-requires-2 c =
    let pre = c.requires in
    let len = c.if-key-shared.false in
    let header = c.key_header_len in
    (omega (arith, len), omega (arith, pre.encoding_in_bounds, header.ensures))

pub returns-then-not-same_part-2 : goal.returns-then-not-same_part-2
returns-then-not-same_part-2 c =
    let pre = c.requires in
    let start = arena_inside _ _ (record_facts _ _ c.args.self.now.given) in
    let len = c.if-key-shared.false in
    let inside = said_yes c.inside.ensures c.if-not-inside.false in
    let front = said_yes c.same_part.ensures c.if-not-same_part.false in
    let header = c.key_header_len in
    let behind = c.if-section-suffix.false in
    other_suffix _ _ _ _ _ _ len start inside front header.result header.ensures (omega (arith, pre.encoding_in_bounds, header.ensures)) behind
    (said_no c.same_part-2.ensures c.if-not-same_part-2.true)

pub overflow_add-suffix-2 : goal.overflow_add-suffix-2
overflow_add-suffix-2 c =
    let pre = c.requires in
    let header = c.key_header_len in
    let behind = c.if-section-suffix.false in
    omega (arith, pre.encoding_in_bounds, header.ensures, behind)

pub versions_from-requires : goal.versions_from-requires
versions_from-requires c =
    let pre = c.requires in
    let header = c.key_header_len in
    let behind = c.if-section-suffix.false in
    omega (arith, pre.encoding_in_bounds, header.ensures, behind)

pub returns : goal.returns
returns c =
    let pre = c.requires in
    let start = arena_inside _ _ (record_facts _ _ c.args.self.now.given) in
    let len = c.if-key-shared.false in
    let inside = said_yes c.inside.ensures c.if-not-inside.false in
    let front = said_yes c.same_part.ensures c.if-not-same_part.false in
    let header = c.key_header_len in
    let behind = c.if-section-suffix.false in
    c.versions_from.ensures
    ∙ same_key _ _ _ _ _ _ len start inside front header.result header.ensures (omega (arith, pre.encoding_in_bounds, header.ensures)) behind
    (said_yes c.same_part-2.ensures c.if-not-same_part-2.false)
