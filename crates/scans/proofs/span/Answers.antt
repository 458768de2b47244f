use mathlib.Core.Path.{◌≡◌, refl, sym, ap, ap₂, ◌∙◌}
use mathlib.Core.List.{List}
use Prim.Native.Nat.{ℕ}
use lib.ListN.{length}
use Rattle.std.specs.Prelude.{Result}
use Rattle.refusal.specs.declared.Refusal.{Refusal}
use Rattle.spans.specs.Span.{Pair, pairs_written, spanned_read}
use Rattle.scans.specs.Spans.{span_of_numbers}
use Rattle.scans.proofs.Asked.{told_of}
use Rattle.scans.proofs.Numbers.{spanned_over, outcome}
use Rattle.scans.proofs.One.{written_told, left_kept}
use Rattle.scans.proofs.span.Goals as goal

pub returns-then-not-is_scan_record : goal.returns-then-not-is_scan_record
returns-then-not-is_scan_record c =
    let a = c.args in
    let general = c.general_span.ensures in
    let said = outcome _ general.0 a.found.now c.answered.ensures in
    (said.0, general.1, said.1)

pub record_span-requires : goal.record_span-requires
record_span-requires c =
    let r = c.is_scan_record.ensures c.if-not-is_scan_record.false in
    record { numbers_value = r.held; numbers_value_2 = r.scans }

pub returns-then-not-is_one : goal.returns-then-not-is_one
returns-then-not-is_one c =
    let a = c.args in
    let r = c.is_scan_record.ensures c.if-not-is_scan_record.false in
    let over = spanned_over a.section.now a.numbers.now a.first a.count a.limit (length a.pairs.now) r.numbers refl in
    let told = told_of over a.pairs.now c.record_span.ensures in
    let said = outcome _ told.0 a.found.now c.answered-then-not-is_one.ensures in
    (said.0, told.1, said.1)

pub one_key-requires : goal.one_key-requires
one_key-requires c = c.is_scan_record.ensures c.if-not-is_scan_record.false

pub record_span-requires-in-None : goal.record_span-requires-in-None
record_span-requires-in-None c =
    let r = c.is_scan_record.ensures c.if-not-is_scan_record.false in
    record { numbers_value = r.held; numbers_value_2 = r.scans }

pub returns-in-Some : goal.returns-in-Some
returns-in-Some c =
    let a = c.args in
    let one : a.count ≡ 1 = c.if-not-is_one.false in
    let e = ap (λ (n : ℕ). span_of_numbers a.section.now a.numbers.now a.first n a.limit (length a.pairs.now)) (sym one) in
    let told = written_told _ a.pairs.now _ c.one_key.ensures c.in-Some.is _ e in
    let said = outcome _ told.0 a.found.now c.answered-in-Some.ensures in
    (said.0, told.1, said.1)

pub returns-in-None : goal.returns-in-None
returns-in-None c =
    let a = c.args in
    let one : a.count ≡ 1 = c.if-not-is_one.false in
    let kept = left_kept _ a.pairs.now _ c.one_key.ensures c.in-None.is in
    let r = c.is_scan_record.ensures c.if-not-is_scan_record.false in
    let x : ℕ → List ℕ → Result (List Pair) Refusal = λ n l. span_of_numbers a.section.now a.numbers.now a.first n a.limit (length l) in
    let over = spanned_over a.section.now a.numbers.now a.first 1 a.limit _ r.numbers refl in
    let e = ap (x 1) kept ∙ ap (λ (n : ℕ). x n a.pairs.now) (sym one) in
    let spanned = c.record_span-in-None.ensures in
    let said = outcome _ (spanned.0 ∙ ap spanned_read (over ∙ e)) a.found.now c.answered-in-None.ensures in
    (said.0, spanned.1 ∙ ap₂ pairs_written (over ∙ e) kept, said.1)
