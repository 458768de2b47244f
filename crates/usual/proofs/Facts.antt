-- The tests of `is_scan_record` say that questions 24 and 27 are answered with yes.
-- Assumes nothing.
use mathlib.Core.Path.{◌≡◌, refl, sym, ap, ◌∙◌, subst⁻¹}
use mathlib.Core.Bool.{Bool, true, false, not}
use mathlib.Core.List.{List, [], ◌∷◌}
use Prim.Native.Nat.{ℕ, ◌+◌, ◌*◌, ◌-◌, ◌/◌, ◌^◌, ◌<◌, ◌≤◌}
use native.Mathlib.Omega.{arith}
use lib.Dec.{eqb}
use lib.ListN.{length, get_or}
use borrow.Author.Tests.{leb-true, le-leb, ltb-true, eqb-true, eqb-false, eq-eqb, ne_eqb, not-true}
use Rattle.num.specs.Choice.{either, one_of}
use Rattle.num.specs.Number.{Bytes, le_at}
use Rattle.num.proofs.Number.{le_at-lt, le_at-split}
use Rattle.num.proofs.Choice.{both_true, true_both}
use Rattle.num.proofs.Order.{equal_bytes-true}
use Rattle.encoding.specs.Encoding.{Widths, scan_magic}
use Rattle.header.specs.Header.{stands_at_of, begins, scan_settings}
use Rattle.header.specs.Internal.{usual_widths}
use Rattle.header.specs.Facts.{Numbers, Scan, from_plain}
use Rattle.header.proofs.Questions.{begins_yes, widths_yes, usual_allowed, within_yes}
use Rattle.opened.proofs.Records.{facts_record}
use Rattle.numbers.specs.Numbers.{opened_of, is_record_numbers}
use Rattle.held.specs.Held.{says}
use Rattle.held.proofs.Exactly.{few_keys}
use Rattle.spans.specs.Span.{scannable}
use Rattle.usual.specs.Internal.{usual_numbers, fields_match, start_matches, scan_matches, ScanRecord}

-- a number from 1 below 3 is 1 or 2
pub one_or_two : (xs : List ℕ) (w : ℕ) → 1 ≤ w → w < 3 → true ≡ one_of (1 ∷ 2 ∷ xs) w
unfolding one_of either
one_or_two xs w l h = go (eqb w 1) refl
  where
    go : (t : Bool) → eqb w 1 ≡ t → true ≡ either t (either (eqb w 2) (one_of xs w))
    go true e = refl
    go false e = let n = eqb-false w 1 e in rw (eq-eqb w 2 (omega arith))

-- a number from 1 to 4 that is not 3 is a width of sequences
seq_width : (w : ℕ) → 0 < w → w ≤ 4 → (w ≡ 3 → ⊥) → one_of (1 ∷ 2 ∷ 4 ∷ 8 ∷ []) w ≡ true
unfolding one_of either
seq_width w l h n = go (eqb w 4) refl
  where
    go : (b : Bool) → eqb w 4 ≡ b → one_of (1 ∷ 2 ∷ 4 ∷ 8 ∷ []) w ≡ true
    go true e = subst⁻¹ (λ (w : ℕ). one_of (1 ∷ 2 ∷ 4 ∷ 8 ∷ []) w ≡ true) (eqb-true w 4 e) refl
    go false e = let m = eqb-false w 4 e in sym (one_or_two (4 ∷ 8 ∷ []) w l (omega arith))

-- what the numbers alone say
pub record Usual (r : List ℕ) : Type 0 where
  pub some : 1 ≤ get_or r 2 0
  pub few : get_or r 2 0 < 2 ^ 31
  pub address : get_or r 5 0 ≡ 4
  pub key : get_or r 6 0 ≡ 1
  pub versions : get_or r 7 0 ≡ 1
  pub value : get_or r 9 0 ≡ 2
  pub seq : get_or r 8 0 ≤ 4
  pub widths : Widths (opened_of r).encoding
  pub checksum : get_or r 10 0 ≤ 1
  pub plain : get_or r 12 0 ≡ 0

-- a yes to the test of the numbers says it
pub usual_yes : (r : List ℕ) → usual_numbers r ≡ true → Usual r
unfolding usual_numbers usual_widths opened_of
usual_yes r t =
    let a = both_true _ _ t in
    let n = few_keys (get_or r 2 0) a.0 in
    let b = both_true _ _ a.1 in
    let address = both_true _ _ b.0 in
    let key = both_true _ _ address.1 in
    let versions = both_true _ _ key.1 in
    let c = both_true _ _ b.1 in
    let low = both_true _ _ c.0 in
    let high = both_true _ _ low.1 in
    let last = both_true _ _ c.1 in
    let most = leb-true (get_or r 8 0) 4 high.0 in
    let s = seq_width (get_or r 8 0) (ltb-true 0 (get_or r 8 0) low.0) most (eqb-false (get_or r 8 0) 3 (not-true _ high.1)) in
    record {
      some = n.0;
      few = n.1;
      address = eqb-true (get_or r 5 0) 4 address.0;
      key = eqb-true (get_or r 6 0) 1 key.0;
      versions = eqb-true (get_or r 7 0) 1 versions.0;
      value = eqb-true (get_or r 9 0) 2 versions.1;
      seq = most;
      widths = widths_yes (opened_of r).encoding (sym (usual_allowed (opened_of r).encoding b.0) ∙ s);
      checksum = leb-true (get_or r 10 0) 1 last.0;
      plain = eqb-true (get_or r 12 0) 0 last.1;
    }

-- eight bytes that are 2^32 + 4 are 4 and 1 in four bytes each
two_widths : (s : List ℕ) → Bytes s → le_at s 32 8 ≡ 2 ^ 32 + 4 → (le_at s 32 4 ≡ 4) × (le_at s 36 4 ≡ 1)
two_widths s bytes e =
    let low = le_at-lt s bytes 4 32 in
    let whole = le_at-split s 4 4 32 in
    (omega arith, omega arith)

module _ (s r : List ℕ) (u : Usual r) where
  -- the tests of the header give the record's numbers; with the scan flag, the checksum flag is what is left of the flags
  says_numbers : Bytes s → (buckets : ℕ) → fields_match s r buckets ≡ true → le_at s 52 4 ≡ get_or r 10 0 + 2 → Numbers s (opened_of r)
  unfolding fields_match says opened_of
  says_numbers bytes buckets t f =
      let a = both_true _ _ t in
      let w = both_true _ _ a.0 in
      let first = two_widths s bytes (eqb-true (le_at s 32 8) (2 ^ 32 + 4) w.0) in
      let versions = both_true _ _ w.1 in
      let value = both_true _ _ versions.1 in
      let seed = both_true _ _ a.1 in
      let least = both_true _ _ seed.1 in
      let count = both_true _ _ least.1 in
      let halved = both_true _ _ count.1 in
      let c = u.checksum in
      record {
        seed = sym (eqb-true _ _ seed.0);
        count = sym (eqb-true _ _ count.0);
        buckets = eqb-true (get_or r 3 0) buckets halved.1 ∙ sym (eqb-true (le_at s 20 4) buckets halved.0);
        address = u.address ∙ sym first.0;
        key = u.key ∙ sym first.1;
        versions = u.versions ∙ sym (eqb-true (le_at s 40 4) 1 versions.0);
        seq = sym (eqb-true _ _ value.1);
        value = u.value ∙ sym (eqb-true (le_at s 48 4) 2 value.0);
        checksum = ((λ e. let v = eqb-true (get_or r 10 0) 1 e in omega arith), λ e. eq-eqb (get_or r 10 0) 1 (omega arith));
        least = sym (eqb-true _ _ least.0);
      }

  -- n addresses of four bytes
  addresses : get_or r 2 0 * get_or r 5 0 ≡ 4 * get_or r 2 0
  addresses = ap (λ (w : ℕ). get_or r 2 0 * w) u.address ∙ omega arith

  -- the tests of the scan part give questions 5 and 6 at the place that leaves room for it
  says_scan : (scan : ℕ) → scan + (37 + 4 * get_or r 2 0) ≡ length s → get_or r 11 0 ≡ scan → get_or r 4 0 < scan → scan_matches s (get_or r 2 0) scan ≡ true → Scan s (opened_of r)
  unfolding scan_matches stands_at_of scan_magic scan_settings opened_of
  says_scan scan room e after t =
      let a = both_true _ _ t in
      let b = both_true _ _ a.1 in
      let c = both_true _ _ b.1 in
      let d = both_true _ _ c.1 in
      let prefix = within_yes 1 24 (le_at s (scan + 8) 4) c.0 in
      let prefixes = within_yes 1 (get_or r 2 0) (le_at s (scan + 16) 8) d.1 in
      let n = addresses in
      rw e (record {
        stored = eqb-true (le_at s (length s - 13) 8) (24 + 4 * get_or r 2 0) a.0 ∙ ap (λ (k : ℕ). 24 + k) (sym n);
        place = omega arith;
        after = after;
        magic = equal_bytes-true _ _ b.0;
        prefix_some = prefix.0;
        prefix_short = prefix.1;
        stride = eqb-true (le_at s (scan + 12) 4) 32 d.0;
        prefixes_some = prefixes.0;
        prefixes_few = prefixes.1;
      })

  -- the arena start as the header's facts have it
  arena_start : get_or r 3 0 ≡ (get_or r 2 0 + 1) / 2 → get_or r 4 0 ≡ 64 + 4 * ((get_or r 2 0 + 1) / 2) + 6 * get_or r 2 0
      → get_or r 4 0 ≡ 64 + 4 * get_or r 3 0 + get_or r 2 0 * (get_or r 5 0 + 2)
  arena_start b e =
      let n : get_or r 2 0 * (get_or r 5 0 + 2) ≡ 6 * get_or r 2 0 = ap (λ (w : ℕ). get_or r 2 0 * (w + 2)) u.address ∙ omega arith in
      omega arith

-- the tests say that the numbers are a record, that the section gives it, and that it can be scanned
module _ (s r : List ℕ) (bytes : Bytes s) (first buckets arena scan : ℕ) where
  pub scan_record : first < get_or r 2 0 → begins s ≡ true → usual_numbers r ≡ true → fields_match s r buckets ≡ true → start_matches s r arena scan ≡ true
      → scan_matches s (get_or r 2 0) scan ≡ true → buckets ≡ (get_or r 2 0 + 1) / 2 → arena ≡ 64 + 4 * buckets + 6 * get_or r 2 0
      → scan + (37 + 4 * get_or r 2 0) ≡ length s → ScanRecord s r first
  unfolding fields_match start_matches says is_record_numbers scannable opened_of
  scan_record low b n h t p halved starts room =
      let u = usual_yes r n in
      let a = both_true _ _ t in
      let c = both_true _ _ a.1 in
      let d = both_true _ _ c.1 in
      let f = both_true _ _ d.1 in
      let g = both_true _ _ f.1 in
      let own = eqb-true (get_or r 4 0) arena c.0 in
      let flags = eqb-true (le_at s 52 4) (get_or r 10 0 + 2) f.0 in
      let scanned = eqb-true (get_or r 11 0) scan g.0 in
      let after = ltb-true arena scan g.1 in
      let same = eqb-true (get_or r 3 0) buckets (both_true _ _ (both_true _ _ (both_true _ _ (both_true _ _ (both_true _ _ h).1).1).1).1).1 in
      let k = u.checksum in
      let z = u.plain in
      let plain = ne_eqb (get_or r 12 0) 1 (λ e. omega arith) in
      let placed = ne_eqb (get_or r 11 0) 0 (λ e. omega arith) in
      record {
        numbers = true_both _ _ (le-leb (get_or r 10 0) 1 k) (true_both _ _ (le-leb (get_or r 12 0) 1 (omega arith)) a.0);
        held = facts_record s (opened_of r) (from_plain (record {
          plain = plain;
          begins = begins_yes s b;
          numbers = says_numbers s r u bytes buckets h flags;
          dimensions = record { some = u.some; few = u.few; halved = same ∙ halved; widths = u.widths };
          flags = omega arith;
          stored = own ∙ sym (eqb-true (le_at s 24 8) arena d.0);
          start = arena_start s r u (same ∙ halved) (omega arith);
          below = omega arith;
          scanned = λ _. says_scan s r u scan room scanned (omega arith) p;
          unscanned = λ l. absurd (omega arith);
        }));
        scans = true_both _ _ (ap not plain) (true_both _ _ (ap not placed) (eq-eqb (get_or r 5 0) 4 u.address));
        below = low;
      }
