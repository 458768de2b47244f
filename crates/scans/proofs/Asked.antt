-- The questions of a span, in their order.
-- Assumes nothing.
use mathlib.Core.Path.{◌≡◌, sym, ap, ◌∙◌}
use mathlib.Core.Bool.{true, false}
use mathlib.Core.List.{List}
use Prim.Native.Nat.{ℕ, ◌+◌, ◌*◌, ◌<◌, ◌≤◌}
use native.Mathlib.Omega.{arith}
use lib.Dec.{leb}
use lib.ListN.{length}
use borrow.Author.Tests.{eqb-true, eqb-false, not-true, leb-true, le-leb, lt-leb}
use Rattle.std.specs.Prelude.{Result, Err}
use Rattle.refusal.specs.declared.Refusal.{Refusal}
use Rattle.refusal.specs.declared.Refusal.TheVariants as refusal
use Rattle.num.proofs.Choice.{both_true, if_true, if_false}
use Rattle.header.specs.declared.Opened.{Opened}
use Rattle.header.specs.Facts.{Header}
use Rattle.header.proofs.Bounds.{buckets_range, scan_part_lem, scan_end}
use Rattle.opened.specs.Opened.{is_record_of}
use Rattle.opened.proofs.Records.{record_facts}
use Rattle.lookup.proofs.Places.{plain_header}
use Rattle.spans.specs.Span.{Pair, scannable, scan_address, values_from, span_of, pairs_written, spanned_read}
use Rattle.spans.specs.Internal.{Spannable}

-- ---- a record that passes 24 and 27

-- what 27 asks
pub record Scanned (o : Opened) : Type 0 where
  pub plain : o.packed ≡ false
  pub scan : o.scan ≡ 0 → ⊥
  pub four : o.encoding.address ≡ 4

pub scanned : (o : Opened) → scannable o ≡ true → Scanned o
unfolding scannable
scanned o e =
    let a = both_true _ _ e in
    let b = both_true _ _ a.1 in
    record { plain = not-true _ a.0; scan = eqb-false _ _ (not-true _ b.0); four = eqb-true _ _ b.1 }

module _ (s : List ℕ) (o : Opened) (r : is_record_of s o ≡ true) (q : scannable o ≡ true) where
  header : Header s o
  header = plain_header s o (record_facts s o r) (scanned o q).plain

  pub spannable : Spannable o
  spannable =
      let h = header in
      let f = (scanned o q).four in
      let a = rw f at h.start in
      let n = h.dimensions.few in
      let b = buckets_range o h.dimensions in
      record { widths = h.dimensions.widths; four = f; arena = omega arith }

  -- the scan addresses of some keys are read inside the section, and so are the four bytes behind the last one
  pub table_inside : (first count : ℕ) → leb (first + count) o.count ≡ true → o.scan + 24 + 4 * (first + count) + 4 ≤ length s
  table_inside first count l =
      let c = scanned o q in
      let e = rw c.four at (scan_end s o header (scan_part_lem s o header c.scan)) in
      let k = leb-true (first + count) o.count l in
      omega arith

-- ---- the answers

-- what is answered of one answer is answered of the same
pub told_of : {x y : Result (List Pair) Refusal} → x ≡ y → (l : List ℕ) {r : Result ℕ Refusal} {m : List ℕ} → (r ≡ spanned_read x) × (m ≡ pairs_written x l) → (r ≡ spanned_read y) × (m ≡ pairs_written y l)
told_of e l told = (told.0 ∙ ap spanned_read e, told.1 ∙ ap (λ (a : Result (List Pair) Refusal). pairs_written a l) e)

module _ (s : List ℕ) (o : Opened) (first count limit places : ℕ) where
  abbrev whole : Result (List Pair) Refusal
  whole = span_of s o first count limit places

  module _ (r : is_record_of s o ≡ true) where
    pub no_scan : scannable o ≡ false → whole ≡ Err refusal.NoSpans
    unfolding span_of
    no_scan e = if_true _ _ _ r ∙ if_false _ _ _ e

    module _ (q : scannable o ≡ true) where
      pub no_keys : leb (first + count) o.count ≡ false → whole ≡ Err refusal.SpanKeys
      unfolding span_of
      no_keys e = if_true _ _ _ r ∙ if_true _ _ _ q ∙ if_false _ _ _ e

      module _ (k : leb (first + count) o.count ≡ true) where
        pub no_places : places < 2 * count → whole ≡ Err refusal.SpanRoom
        unfolding span_of
        no_places h = if_true _ _ _ r ∙ if_true _ _ _ q ∙ if_true _ _ _ k ∙ if_false _ _ _ (lt-leb (2 * count) places h)

        -- then the keys are read, from the scan address of the first
        pub walked : 2 * count ≤ places → values_from count s o limit (scan_address s o first) ≡ whole
        unfolding span_of
        walked h = sym (if_true _ _ _ r ∙ if_true _ _ _ q ∙ if_true _ _ _ k ∙ if_true _ _ _ (le-leb (2 * count) places h))
