use mathlib.Core.Path.{refl, sym, ap, ◌∙◌}
use lib.ListN.{length}
use Rattle.lookup.proofs.Tests.{said_yes, said_no}
use Rattle.opened.specs.Opened.{is_record_of}
use Rattle.numbers.specs.Numbers.{opened_of}
use Rattle.spans.specs.Span.{scannable}
use Rattle.spans.proofs.Keys.{refused_told}
use Rattle.scans.proofs.Asked.{no_scan, told_of}
use Rattle.scans.proofs.Numbers.{no_numbers, no_record, spanned_over}
use Rattle.scans.proofs.general_span.Goals as goal

pub returns-then-not-is_record_numbers : goal.returns-then-not-is_record_numbers
returns-then-not-is_record_numbers c =
    let a = c.args in
    refused_told _ a.pairs.now (no_numbers a.section.now a.numbers.now a.first a.count a.limit (length a.pairs.now) (said_no c.is_record_numbers.ensures c.if-not-is_record_numbers.true))

pub returns-then-not-is_record : goal.returns-then-not-is_record
returns-then-not-is_record c =
    let a = c.args in
    let is = said_yes c.is_record_numbers.ensures c.if-not-is_record_numbers.false in
    let e = ap (is_record_of a.section.now) c.read_record-o.ensures in
    refused_told _ a.pairs.now (no_record a.section.now a.numbers.now a.first a.count a.limit (length a.pairs.now) is (sym e ∙ said_no c.is_record.ensures c.if-not-is_record.true))

pub returns-then-not-scannable : goal.returns-then-not-scannable
returns-then-not-scannable c =
    let a = c.args in
    let o = opened_of a.numbers.now in
    let e = c.read_record-o.ensures in
    let is = said_yes c.is_record_numbers.ensures c.if-not-is_record_numbers.false in
    let r = sym (ap (is_record_of a.section.now) e) ∙ said_yes c.is_record.ensures c.if-not-is_record.false in
    let q = sym (ap scannable e) ∙ said_no c.scannable.ensures c.if-not-scannable.true in
    let over = spanned_over a.section.now a.numbers.now a.first a.count a.limit (length a.pairs.now) is refl in
    refused_told _ a.pairs.now (sym over ∙ no_scan a.section.now o a.first a.count a.limit (length a.pairs.now) r q)

pub record_span-requires : goal.record_span-requires
record_span-requires c =
    let a = c.args in
    let e = c.read_record-o.ensures in record { numbers_value = sym (ap (is_record_of a.section.now) e) ∙ said_yes c.is_record.ensures c.if-not-is_record.false; numbers_value_2 = sym (ap scannable e) ∙ said_yes c.scannable.ensures c.if-not-scannable.false }

pub returns : goal.returns
returns c =
    let a = c.args in
    let is = said_yes c.is_record_numbers.ensures c.if-not-is_record_numbers.false in
    told_of (spanned_over a.section.now a.numbers.now a.first a.count a.limit (length a.pairs.now) is refl) a.pairs.now c.record_span.ensures
