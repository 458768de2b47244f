-- The tests on the sixteen numbers are question 24 of the record that they are.
-- Assumes nothing.
use mathlib.Core.Path.{◌≡◌, refl, sym, ap, ◌∙◌, subst, subst⁻¹}
use mathlib.Core.Logic.{◌↔◌}
use mathlib.Core.Bool.{Bool, true, false}
use mathlib.Core.List.{List, [], ◌∷◌}
use Prim.Native.Nat.{ℕ, ◌+◌, ◌*◌, ◌-◌, ◌/◌, ◌%◌, ◌^◌, ◌<◌, ◌≤◌}
use native.Mathlib.Omega.{arith}
use lib.Dec.{eqb, leb, ltb}
use lib.ListN.{length, get_or}
use borrow.Author.Tests.{leb-true, leb-false, ltb-true, lt-ltb, eqb-true, eqb-false, eq-eqb, ne_eqb}
use Rattle.num.specs.Choice.{when◌then◌else◌, both, either, one_of}
use Rattle.num.specs.Number.{le_at}
use Rattle.num.proofs.Choice.{both_true, true_both, false_true, one_of-case, if_true, if_false, same_truth, second_either}
use Rattle.encoding.specs.Encoding.{Widths, trailer_len}
use Rattle.header.specs.declared.Opened.{Opened}
use Rattle.std.specs.Prelude.{Result, Ok, Err}
use Rattle.refusal.specs.declared.Refusal.{Refusal}
use Rattle.refusal.specs.declared.Refusal.TheVariants as refusal
use Rattle.header.specs.Header.{begins, allowed_widths, scan_place_of, scan_part, scan_settings, with_scan, scanned_of}
use Rattle.header.specs.Facts.{Numbers, Dimensions, Scan, Header, PackedHeader, IsRecord, from_plain, from_packed}
use Rattle.header.proofs.Questions.{begins_yes, yes_begins, widths_yes, yes_widths, scan_yes, yes_scan, scan_place}
use Rattle.header.proofs.Bounds.{product_le, buckets_range, addresses_lt}
use Rattle.opened.specs.Opened.{is_record_of}
use Rattle.opened.proofs.Records.{record_facts, facts_record}
use Rattle.numbers.specs.Numbers.{opened_of, is_record_numbers}
use Rattle.held.specs.Held.{says, widths_say, widths_hold, header_says, counts_fit, plain_arena, packed_arena, starts_at, scan_holds, plain_holds, packed_holds, holds_of, HeldExactly}

-- ---- the numbers alone

pub flags_are : (r : List ℕ) → is_record_numbers r ≡ true → (get_or r 10 0 ≤ 1) × (get_or r 12 0 ≤ 1)
unfolding is_record_numbers
flags_are r t = let c = both_true _ _ t in (leb-true (get_or r 10 0) 1 c.0, leb-true (get_or r 12 0) 1 (both_true _ _ c.1).0)

pub few_keys : (n : ℕ) → both (ltb 0 n) (ltb n (2 ^ 31)) ≡ true → (1 ≤ n) × (n < 2 ^ 31)
few_keys n t = let d = both_true _ _ t in (ltb-true 0 n d.0, ltb-true n (2 ^ 31) d.1)

counts_are : (r : List ℕ) → counts_fit r ≡ true → (1 ≤ get_or r 2 0) × (get_or r 2 0 < 2 ^ 31) × (get_or r 3 0 ≡ (get_or r 2 0 + 1) / 2)
unfolding counts_fit
counts_are r t =
    let c = both_true _ _ t in
    let d = few_keys (get_or r 2 0) c.0 in
    (d.0, d.1, eqb-true (get_or r 3 0) ((get_or r 2 0 + 1) / 2) c.1)

pub hold_widths : (s r : List ℕ) → widths_hold s r ≡ true → Widths (opened_of r).encoding
unfolding widths_hold
hold_widths s r t = widths_yes (opened_of r).encoding (both_true _ _ t).0

pub fit_dimensions : (r : List ℕ) → counts_fit r ≡ true → Widths (opened_of r).encoding → Dimensions (opened_of r)
unfolding opened_of
fit_dimensions r t w =
    let c = counts_are r t in
    record { some = c.0; few = c.1; halved = c.2; widths = w }

-- what keeps the compared numbers of the header in four bytes
pub counts_short : (r : List ℕ) → counts_fit r ≡ true → (get_or r 2 0 < 2 ^ 32) × (get_or r 3 0 < 2 ^ 32)
counts_short r t = let c = counts_are r t in (omega arith, omega arith)

pub widths_short : (r : List ℕ) → allowed_widths (opened_of r).encoding ≡ true
    → (get_or r 5 0 < 2 ^ 32) × (get_or r 6 0 < 2 ^ 32) × (get_or r 7 0 < 2 ^ 32) × (get_or r 8 0 < 2 ^ 32) × (get_or r 9 0 < 2 ^ 32)
unfolding opened_of
widths_short r t =
    let w = widths_yes (opened_of r).encoding t in
    let three : (n : ℕ) → one_of (1 ∷ 2 ∷ 4 ∷ []) n ≡ true → n < 2 ^ 32 =
    λ n e. one_of-case (λ k. k < 2 ^ 32) _ n e (omega arith, (omega arith, (omega arith, tt))) in (
      one_of-case (λ k. k < 2 ^ 32) _ _ w.address (omega arith, (omega arith, tt)),
      three (get_or r 6 0) w.key,
      three (get_or r 7 0) w.count,
      one_of-case (λ k. k < 2 ^ 32) _ _ w.seq (omega arith, (omega arith, (omega arith, (omega arith, tt)))),
      one_of-case (λ k. k < 2 ^ 32) _ _ w.value (omega arith, (omega arith, tt)),
    )

-- what keeps the arena starts below 2^64
pub arena_bounds : (r : List ℕ) → Dimensions (opened_of r)
    → (get_or r 3 0 ≤ 2 ^ 30) × (get_or r 5 0 ≤ 8) × (get_or r 2 0 * get_or r 5 0 < 2 ^ 35) × (get_or r 2 0 * (get_or r 5 0 + 2) ≤ 2 ^ 31 * 10)
unfolding opened_of
arena_bounds r d =
    let a : get_or r 5 0 ≤ 8 = one_of-case (λ n. n ≤ 8) _ _ d.widths.address (omega arith, (omega arith, tt)) in
    ((buckets_range (opened_of r) d).1, a, addresses_lt (opened_of r) d, product_le (get_or r 2 0) (get_or r 5 0 + 2) 10 d.few (omega arith))

dimensions_fit : (r : List ℕ) → Dimensions (opened_of r) → counts_fit r ≡ true
unfolding counts_fit opened_of
dimensions_fit r d =
    true_both _ _ (true_both _ _ (lt-ltb 0 (get_or r 2 0) d.some) (lt-ltb (get_or r 2 0) (2 ^ 31) d.few))
    (eq-eqb (get_or r 3 0) ((get_or r 2 0 + 1) / 2) d.halved)

unpacked_is : (r : List ℕ) → is_record_numbers r ≡ true → (opened_of r).packed ≡ false → get_or r 12 0 ≡ 0
unfolding opened_of
unpacked_is r t e = let n = eqb-false (get_or r 12 0) 1 e in let l = (flags_are r t).1 in omega arith

packed_is : (r : List ℕ) → (opened_of r).packed ≡ true → get_or r 12 0 ≡ 0 → ⊥
unfolding opened_of
packed_is r e z = let o = eqb-true (get_or r 12 0) 1 e in omega arith

-- ---- the header's numbers

module _ (s r : List ℕ) where
  says_numbers : widths_hold s r ≡ true → header_says s r ≡ true → (eqb (get_or r 10 0) 1 ≡ true) ↔ (le_at s 52 4 % 2 ≡ 1) → Numbers s (opened_of r)
  unfolding widths_hold header_says widths_say says opened_of
  says_numbers w t f =
      let a = both_true _ _ t in
      let b = both_true _ _ a.1 in
      let c = both_true _ _ b.1 in
      let e = both_true _ _ (both_true _ _ w).1 in
      let g = both_true _ _ e.1 in
      let h = both_true _ _ g.1 in
      let k = both_true _ _ h.1 in
      record {
        seed = sym (eqb-true _ _ a.0);
        count = sym (eqb-true _ _ c.0);
        buckets = sym (eqb-true _ _ c.1);
        address = sym (eqb-true _ _ e.0);
        key = sym (eqb-true _ _ g.0);
        versions = sym (eqb-true _ _ h.0);
        seq = sym (eqb-true _ _ k.0);
        value = sym (eqb-true _ _ k.1);
        checksum = f;
        least = sym (eqb-true _ _ b.0);
      }

  numbers_say : Numbers s (opened_of r) → header_says s r ≡ true
  unfolding header_says says opened_of
  numbers_say n =
      true_both _ _ (eq-eqb _ _ (sym n.seed))
      (true_both _ _ (eq-eqb _ _ (sym n.least))
      (true_both _ _ (eq-eqb _ _ (sym n.count)) (eq-eqb _ _ (sym n.buckets))))

  widths_held : Numbers s (opened_of r) → Widths (opened_of r).encoding → widths_hold s r ≡ true
  unfolding widths_hold widths_say says opened_of
  widths_held n w =
      true_both _ _ (yes_widths (opened_of r).encoding w)
      (true_both _ _ (eq-eqb _ _ (sym n.address))
      (true_both _ _ (eq-eqb _ _ (sym n.key))
      (true_both _ _ (eq-eqb _ _ (sym n.versions))
      (true_both _ _ (eq-eqb _ _ (sym n.seq)) (eq-eqb _ _ (sym n.value))))))

-- ---- the scan part

held_scan : (s : List ℕ) (o : Opened) → scan_holds (scanned_of s o) o.scan ≡ true → Scan s o
unfolding scanned_of scan_holds with_scan when◌then◌else◌
held_scan s o t = go (scan_part s o) (scan_settings s (scan_place_of s o) o.count) refl refl t
  where
    go : (p q : Bool) → scan_part s o ≡ p → scan_settings s (scan_place_of s o) o.count ≡ q
        → scan_holds (when◌then◌else◌ p (when◌then◌else◌ q (Ok (with_scan o (scan_place_of s o))) (Err refusal.ScanSettings)) (Err refusal.ScanPart)) o.scan ≡ true → Scan s o
    go true true p q e = subst (λ (n : ℕ). Scan s (with_scan o n)) (eqb-true (scan_place_of s o) o.scan e) (scan_yes s o p q)
    go true false p q e = false_true e
    go false q p h e = false_true e

scan_held : (s : List ℕ) (o : Opened) → Scan s o → scan_holds (scanned_of s o) o.scan ≡ true
unfolding scanned_of scan_holds with_scan
scan_held s o k =
    let y = yes_scan s o k in
    ap (λ (h : Result Opened Refusal). scan_holds h o.scan) (if_true _ _ _ y.0 ∙ if_true _ _ _ y.1) ∙ eq-eqb (scan_place_of s o) o.scan (scan_place s o k)

-- ---- flags and scan place of a record that is not packed

module _ (s r : List ℕ) (c : get_or r 10 0 ≤ 1) where
  -- what they say, in the terms of the header's facts
  Flags : Type 0
  Flags =
      (le_at s 52 4 ≤ 3) × ((eqb (get_or r 10 0) 1 ≡ true) ↔ (le_at s 52 4 % 2 ≡ 1)) × (2 ≤ le_at s 52 4 → Scan s (opened_of r))
      × (le_at s 52 4 < 2 → get_or r 11 0 ≡ 0)

  flags_said : (when eqb (get_or r 11 0) 0 then says s 52 (get_or r 10 0)
      else both (says s 52 (get_or r 10 0 + 2)) (scan_holds (scanned_of s (opened_of r)) (get_or r 11 0))) ≡ true → Flags
  unfolding Flags says when◌then◌else◌ opened_of
  flags_said t = go (eqb (get_or r 11 0) 0) refl t
    where
      go : (b : Bool) → eqb (get_or r 11 0) 0 ≡ b → when◌then◌else◌ b (says s 52 (get_or r 10 0))
          (both (says s 52 (get_or r 10 0 + 2)) (scan_holds (scanned_of s (opened_of r)) (get_or r 11 0))) ≡ true → Flags
      go true e t =
          let f = eqb-true (le_at s 52 4) (get_or r 10 0) t in (
            omega arith,
            ((λ u. let v = eqb-true (get_or r 10 0) 1 u in omega arith), λ u. eq-eqb (get_or r 10 0) 1 (omega arith)),
            (λ l. absurd (omega arith)),
            (λ _. eqb-true (get_or r 11 0) 0 e),
          )
      go false e t =
          let b = both_true _ _ t in
          let f = eqb-true (le_at s 52 4) (get_or r 10 0 + 2) b.0 in (
            omega arith,
            ((λ u. let v = eqb-true (get_or r 10 0) 1 u in omega arith), λ u. eq-eqb (get_or r 10 0) 1 (omega arith)),
            (λ _. held_scan s (opened_of r) b.1),
            (λ l. absurd (omega arith)),
          )

  module _ (h : Header s (opened_of r)) where
    checksummed : le_at s 52 4 % 2 ≡ get_or r 10 0
    unfolding opened_of
    checksummed = go (eqb (get_or r 10 0) 1) refl
      where
        go : (b : Bool) → eqb (get_or r 10 0) 1 ≡ b → le_at s 52 4 % 2 ≡ get_or r 10 0
        go true e = h.numbers.checksum.0 e ∙ sym (eqb-true (get_or r 10 0) 1 e)
        go false e =
            let n = eqb-false (get_or r 10 0) 1 e in
            let m : le_at s 52 4 % 2 ≡ 1 → ⊥ = λ u. n (eqb-true (get_or r 10 0) 1 (h.numbers.checksum.1 u)) in
            omega arith

    header-flags : (when eqb (get_or r 11 0) 0 then says s 52 (get_or r 10 0)
        else both (says s 52 (get_or r 10 0 + 2)) (scan_holds (scanned_of s (opened_of r)) (get_or r 11 0))) ≡ true
    unfolding says when◌then◌else◌ opened_of
    header-flags = go (eqb (get_or r 11 0) 0) refl
      where
        few : get_or r 11 0 ≡ 0 → (b : Bool) → leb 2 (le_at s 52 4) ≡ b → le_at s 52 4 < 2
        few e true l = let k = (h.scanned (leb-true 2 (le_at s 52 4) l)).after in absurd (omega arith)
        few e false l = leb-false 2 (le_at s 52 4) l

        more : (get_or r 11 0 ≡ 0 → ⊥) → (b : Bool) → leb 2 (le_at s 52 4) ≡ b → 2 ≤ le_at s 52 4
        more n true l = leb-true 2 (le_at s 52 4) l
        more n false l = absurd (n (h.unscanned (leb-false 2 (le_at s 52 4) l)))

        go : (b : Bool) → eqb (get_or r 11 0) 0 ≡ b → when◌then◌else◌ b (says s 52 (get_or r 10 0))
            (both (says s 52 (get_or r 10 0 + 2)) (scan_holds (scanned_of s (opened_of r)) (get_or r 11 0))) ≡ true
        go true e =
            let k = checksummed in
            let f = few (eqb-true (get_or r 11 0) 0 e) (leb 2 (le_at s 52 4)) refl in
            eq-eqb (le_at s 52 4) (get_or r 10 0) (omega arith)
        go false e =
            let k = checksummed in
            let l = h.flags in
            let f = more (eqb-false (get_or r 11 0) 0 e) (leb 2 (le_at s 52 4)) refl in
            true_both _ _ (eq-eqb (le_at s 52 4) (get_or r 10 0 + 2) (omega arith)) (scan_held s (opened_of r) (h.scanned f))

-- ---- flags of a packed record

one_or_three : (n : ℕ) → either (eqb n 1) (eqb n 3) ≡ true → (n % 2 ≡ 1) × (n ≤ 3)
unfolding either
one_or_three n t = go (eqb n 1) refl t
  where
    go : (b : Bool) → eqb n 1 ≡ b → either b (eqb n 3) ≡ true → (n % 2 ≡ 1) × (n ≤ 3)
    go true e t = let o = eqb-true n 1 e in (omega arith, omega arith)
    go false e t = let o = eqb-true n 3 t in (omega arith, omega arith)

odd_flags : (n : ℕ) → n % 2 ≡ 1 → n ≤ 3 → either (eqb n 1) (eqb n 3) ≡ true
odd_flags n o l = second_either _ _ (λ e. let m = eqb-false n 1 e in eq-eqb n 3 (omega arith))

-- ---- question 24 of a record that is not packed

module _ (s r : List ℕ) where
  plain_header : begins s ≡ true → widths_hold s r ≡ true → counts_fit r ≡ true → header_says s r ≡ true → is_record_numbers r ≡ true
      → get_or r 12 0 ≡ 0 → plain_holds s r ≡ true → Header s (opened_of r)
  unfolding plain_holds starts_at plain_arena Flags opened_of
  plain_header b w f n i p t =
      let a = both_true _ _ t in
      let g = both_true _ _ a.0 in
      let k = both_true _ _ g.1 in
      let own = eqb-true (get_or r 4 0) (plain_arena r) g.0 in
      let said = flags_said s r (flags_are r i).0 a.1 in
      record {
        plain = ne_eqb (get_or r 12 0) 1 (λ e. omega arith);
        begins = begins_yes s b;
        numbers = says_numbers s r w n said.1;
        dimensions = fit_dimensions r f (hold_widths s r w);
        flags = said.0;
        stored = own ∙ sym (eqb-true (le_at s 24 8) (plain_arena r) k.0);
        start = own;
        below = subst⁻¹ (λ (n : ℕ). n < length s - trailer_len) own (ltb-true (plain_arena r) (length s - trailer_len) k.1);
        scanned = said.2;
        unscanned = said.3;
      }

  header_plain : is_record_numbers r ≡ true → Header s (opened_of r) → plain_holds s r ≡ true
  unfolding plain_holds starts_at plain_arena opened_of
  header_plain i h =
      let own = h.start in
      true_both _ _
      (true_both _ _ (eq-eqb (get_or r 4 0) (plain_arena r) own)
      (true_both _ _ (eq-eqb (le_at s 24 8) (plain_arena r) (sym h.stored ∙ own))
      (lt-ltb (plain_arena r) (length s - trailer_len) (subst (λ (n : ℕ). n < length s - trailer_len) own h.below))))
      (header-flags s r (flags_are r i).0 h)

  -- ---- of a packed one

  packed_header : begins s ≡ true → widths_hold s r ≡ true → counts_fit r ≡ true → header_says s r ≡ true → get_or r 12 0 ≡ 1 → packed_holds s r ≡ true
      → PackedHeader s (opened_of r)
  unfolding packed_holds starts_at plain_arena packed_arena says opened_of
  packed_header b w f n p t =
      let a = both_true _ _ t in
      let g = both_true _ _ a.0 in
      let k = both_true _ _ g.1 in
      let own = eqb-true (get_or r 4 0) (packed_arena r) g.0 in
      let q = both_true _ _ a.1 in
      let u = both_true _ _ q.0 in
      let v = both_true _ _ u.1 in
      let odd = one_or_three (le_at s 52 4) q.1 in
      record {
        packed = eq-eqb (get_or r 12 0) 1 p;
        begins = begins_yes s b;
        numbers = says_numbers s r w n ((λ _. odd.0), λ _. v.0);
        dimensions = fit_dimensions r f (hold_widths s r w);
        flags = odd.1;
        stored = eqb-true (le_at s 24 8) (plain_arena r) k.0;
        start = own;
        below = subst⁻¹ (λ (n : ℕ). n < length s - trailer_len) own (ltb-true (packed_arena r) (length s - trailer_len) k.1);
        unscanned = eqb-true (get_or r 11 0) 0 v.1;
        checksums = v.0;
        few = ltb-true (get_or r 2 0) (2 ^ 23) u.0;
      }

  header_packed : PackedHeader s (opened_of r) → packed_holds s r ≡ true
  unfolding packed_holds starts_at plain_arena packed_arena says opened_of
  header_packed h =
      let own = h.start in
      true_both _ _
      (true_both _ _ (eq-eqb (get_or r 4 0) (packed_arena r) own)
      (true_both _ _ (eq-eqb (le_at s 24 8) (plain_arena r) h.stored)
      (lt-ltb (packed_arena r) (length s - trailer_len) (subst (λ (n : ℕ). n < length s - trailer_len) own h.below))))
      (true_both _ _ (true_both _ _ (lt-ltb (get_or r 2 0) (2 ^ 23) h.few) (true_both _ _ h.checksums (eq-eqb (get_or r 11 0) 0 h.unscanned)))
      (odd_flags (le_at s 52 4) (h.numbers.checksum.0 h.checksums) h.flags))

  -- ---- of both

  held_yes : holds_of s r ≡ true → both (is_record_numbers r) (is_record_of s (opened_of r)) ≡ true
  unfolding holds_of when◌then◌else◌
  held_yes t =
      let b = both_true _ _ t in
      let w = both_true _ _ b.1 in
      let f = both_true _ _ w.1 in
      let n = both_true _ _ f.1 in
      let i = both_true _ _ n.1 in
      true_both _ _ i.0 (facts_record s (opened_of r) (go (eqb (get_or r 12 0) 0) refl b.0 w.0 f.0 n.0 i.0 i.1))
    where
      go : (p : Bool) → eqb (get_or r 12 0) 0 ≡ p → begins s ≡ true → widths_hold s r ≡ true → counts_fit r ≡ true → header_says s r ≡ true → is_record_numbers r ≡ true
          → when◌then◌else◌ p (plain_holds s r) (packed_holds s r) ≡ true → IsRecord s (opened_of r)
      go true e b w f n i t = from_plain (plain_header b w f n i (eqb-true (get_or r 12 0) 0 e) t)
      go false e b w f n i t =
          let z = eqb-false (get_or r 12 0) 0 e in
          let l = (flags_are r i).1 in
          from_packed (packed_header b w f n (omega arith) t)

  yes_held : both (is_record_numbers r) (is_record_of s (opened_of r)) ≡ true → holds_of s r ≡ true
  unfolding holds_of
  yes_held t = let b = both_true _ _ t in go b.0 (record_facts s (opened_of r) b.1)
    where
      all : begins s ≡ true → is_record_numbers r ≡ true → Numbers s (opened_of r) → Dimensions (opened_of r)
          → (when eqb (get_or r 12 0) 0 then plain_holds s r else packed_holds s r) ≡ true → holds_of s r ≡ true
      all b i n d t =
          true_both _ _ b
          (true_both _ _ (widths_held s r n d.widths)
          (true_both _ _ (dimensions_fit r d) (true_both _ _ (numbers_say s r n) (true_both _ _ i t))))

      go : is_record_numbers r ≡ true → IsRecord s (opened_of r) → holds_of s r ≡ true
      go i (from_plain h) =
          all (yes_begins s h.begins) i h.numbers h.dimensions
          (if_true _ _ _ (eq-eqb (get_or r 12 0) 0 (unpacked_is r i h.plain)) ∙ header_plain i h)
      go i (from_packed h) =
          all (yes_begins s h.begins) i h.numbers h.dimensions
          (if_false _ _ _ (ne_eqb (get_or r 12 0) 0 (packed_is r h.packed)) ∙ header_packed h)

pub held_exactly : HeldExactly
unfolding HeldExactly
held_exactly s r = same_truth _ _ (held_yes s r) (yes_held s r)
