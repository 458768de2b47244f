-- A record is the one of a section exactly if the facts of question 24 hold.
-- Assumes nothing.
use mathlib.Core.Path.{◌≡◌, refl, sym, ap, ◌∙◌, subst}
use mathlib.Core.Bool.{Bool, true, false}
use mathlib.Core.List.{List}
use Prim.Native.Nat.{ℕ, ◌+◌, ◌*◌, ◌^◌, ◌<◌}
use Rattle.num.specs.Choice.{when◌then◌else◌}
use Rattle.num.specs.Number.{le_at}
use Rattle.num.proofs.Choice.{both_true, true_both, false_true, if_true, if_false}
use Rattle.header.specs.declared.Opened.{Opened}
use Rattle.std.specs.Prelude.{Result, Ok, Err}
use Rattle.refusal.specs.declared.Refusal.{Refusal}
use Rattle.header.specs.Header.{flags_of, fields_of, arena_below, header_of, fits_packed, packed_record}
use Rattle.header.specs.Facts.{Dimensions, PackedHeader, IsRecord, from_plain, from_packed}
use Rattle.opened.specs.Opened.{plain_for, packed_of, is_record_of, RecordExactly}
use Rattle.header.proofs.Headers.{below_yes, yes_below, header_facts, facts_header}
use Rattle.header.proofs.Numbers.{fields_numbers, numbers_moved, packed_numbers}
use Rattle.header.proofs.Questions.{begins_yes, yes_begins, dimensions_yes, yes_dimensions, packed_yes, yes_packed}
use Rattle.opened.proofs.Same.{record_same, same_record}

plain_yes : (o : Opened) (r : Result Opened Refusal) → plain_for r o ≡ true → r ≡ Ok o
unfolding plain_for
plain_yes o (Ok found) e = ap Ok (record_same found o e)
plain_yes o (Err x) e = false_true e

yes_plain : (o : Opened) (r : Result Opened Refusal) → r ≡ Ok o → plain_for r o ≡ true
unfolding plain_for
yes_plain o r e = ap (λ (r : Result Opened Refusal). plain_for r o) e ∙ same_record o o refl

packed_facts : (s : List ℕ) (o : Opened) → packed_of s o ≡ true → PackedHeader s o
unfolding packed_of packed_record fields_of flags_of
packed_facts s o t =
    let b = both_true _ _ t in
    let d = both_true _ _ b.1 in
    let p = both_true _ _ d.1 in
    let l = both_true _ _ p.1 in
    let q = dimensions_yes (fields_of s) (flags_of s) d.0 in
    let k = q.0 in
    let y = packed_yes (fields_of s) p.0 in
    let e = record_same (packed_record (fields_of s)) o l.1 in
    subst (PackedHeader s) e (record {
      packed = refl;
      begins = begins_yes s b.0;
      numbers = numbers_moved s (fields_of s) _ _ _ (fields_numbers s);
      dimensions = record { some = k.some; few = k.few; halved = k.halved; widths = k.widths };
      flags = q.1;
      stored = q.2;
      start = refl;
      below = below_yes s (packed_record (fields_of s)) l.0;
      unscanned = refl;
      checksums = y.0;
      few = y.1;
    })

module _ (s : List ℕ) (o : Opened) (h : PackedHeader s o) where
  same : o ≡ packed_record (fields_of s)
  same = packed_numbers s o h

  fields : Dimensions (fields_of s)
  unfolding packed_record
  fields =
      let d = subst Dimensions same h.dimensions in
      record { some = d.some; few = d.few; halved = d.halved; widths = d.widths }

  start : (fields_of s).arena ≡ 64 + 4 * (fields_of s).buckets + (fields_of s).count * ((fields_of s).encoding.address + 2)
  unfolding packed_record fields_of
  start = subst (λ (r : Opened). le_at s 24 8 ≡ 64 + 4 * r.buckets + r.count * (r.encoding.address + 2)) same h.stored

  fits : fits_packed (fields_of s) ≡ true
  unfolding packed_record
  fits =
      subst (λ (r : Opened). r.encoding.checksum ≡ true → r.count < 2 ^ 23 → fits_packed (fields_of s) ≡ true) (sym same)
      (yes_packed (fields_of s)) h.checksums h.few

  facts_packed : packed_of s o ≡ true
  unfolding packed_of flags_of
  facts_packed =
      true_both _ _ (yes_begins s h.begins)
      (true_both _ _ (yes_dimensions (fields_of s) (flags_of s) fields h.flags start)
      (true_both _ _ fits
      (true_both _ _ (ap (arena_below s) (sym same) ∙ yes_below s o h.below)
      (same_record _ _ (sym same)))))

-- a record of which question 24 is answered yes has the facts
pub record_facts : (s : List ℕ) (o : Opened) → is_record_of s o ≡ true → IsRecord s o
unfolding is_record_of when◌then◌else◌
record_facts s o e = go o.packed e
  where
    go : (p : Bool) → when◌then◌else◌ p (packed_of s o) (plain_for (header_of s) o) ≡ true → IsRecord s o
    go true e = from_packed (packed_facts s o e)
    go false e = from_plain (header_facts s o (plain_yes o (header_of s) e))

-- and a record with the facts is answered yes
pub facts_record : (s : List ℕ) (o : Opened) → IsRecord s o → is_record_of s o ≡ true
unfolding is_record_of
facts_record s o (from_plain h) = if_false _ _ _ h.plain ∙ yes_plain o (header_of s) (facts_header s o h)
facts_record s o (from_packed h) = if_true _ _ _ h.packed ∙ facts_packed s o h

pub record_exactly : RecordExactly
unfolding RecordExactly
record_exactly s o = (record_facts s o, facts_record s o)

-- the record that a header gave passes question 24
pub header_record : (s : List ℕ) (o : Opened) → header_of s ≡ Ok o → is_record_of s o ≡ true
header_record s o e = facts_record s o (from_plain (header_facts s o e))
