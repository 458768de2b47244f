-- What a yes to each question says in plain terms, and back.
-- Assumes nothing.
use mathlib.Core.Path.{◌≡◌, sym, ap, ap₂, ◌∙◌}
use mathlib.Core.Bool.{Bool, true}
use mathlib.Core.List.{List, [], ◌∷◌}
use Prim.Native.Nat.{ℕ, ◌+◌, ◌*◌, ◌^◌, ◌<◌, ◌≤◌}
use native.Mathlib.Omega.{arith}
use lib.Dec.{eqb}
use lib.ListN.{length}
use borrow.Author.Tests.{leb-true, le-leb, ltb-true, lt-ltb, eqb-true, eq-eqb}
use Rattle.num.specs.Choice.{either, one_of}
use Rattle.num.specs.Number.{Bytes, le_at}
use Rattle.num.proofs.Choice.{both_true, true_both, same_truth}
use Rattle.num.proofs.Parts.{equal_bytes-number}
use Rattle.num.proofs.Order.{equal_bytes-true, equal_bytes-same}
use Rattle.encoding.specs.declared.Encoding.{Encoding}
use Rattle.encoding.specs.Encoding.{Widths, magic, scan_magic, trailer_len, max_scan_prefix, buckets_of, arena_start_of}
use Rattle.header.specs.declared.Opened.{Opened}
use Rattle.header.specs.Header.{stands_at_of, between, begins, allowed_widths, dimensions, scan_part_len, scan_place_of, scan_part, scan_settings, with_scan, fits_packed}
use Rattle.header.specs.Internal.{usual_widths}
use Rattle.header.specs.Facts.{Begins, Dimensions, Scan}

-- eight bytes stand at a place if the numbers of both are the same
pub stands_at : (s m : List ℕ) (place a b : ℕ) → Bytes s → Bytes m → length m ≡ 8 → place + 8 ≤ length s → a ≡ le_at s place 8 → b ≡ le_at m 0 8
    → eqb a b ≡ stands_at_of s place m
unfolding stands_at_of
stands_at s m place a b bs bm l h p q =
    ap₂ eqb p q
    ∙ ap (λ (w : ℕ). eqb (le_at s place w) (le_at m 0 w)) (sym l)
    ∙ equal_bytes-number s m place bs bm (omega arith)

-- question 3
pub begins_yes : (s : List ℕ) → begins s ≡ true → Begins s
unfolding begins stands_at_of magic
begins_yes s e = let b = both_true _ _ e in record { long = leb-true 69 (length s) b.0; magic = equal_bytes-true _ _ b.1 }

pub begins_long : (s : List ℕ) → begins s ≡ true → 69 ≤ length s
begins_long s e = (begins_yes s e).long

pub yes_begins : (s : List ℕ) → Begins s → begins s ≡ true
unfolding begins stands_at_of magic
yes_begins s h = true_both _ _ (le-leb 69 (length s) h.long) (equal_bytes-same _ _ h.magic)

-- the widths of question 4
pub widths_yes : (e : Encoding) → allowed_widths e ≡ true → Widths e
unfolding allowed_widths
widths_yes e t =
    let a = both_true _ _ t in
    let k = both_true _ _ a.1 in
    let n = both_true _ _ k.1 in
    let q = both_true _ _ n.1 in
    record { address = a.0; key = k.0; count = n.0; seq = q.0; value = q.1 }

pub yes_widths : (e : Encoding) → Widths e → allowed_widths e ≡ true
unfolding allowed_widths
yes_widths e w =
    true_both _ _ w.address (true_both _ _ w.key (true_both _ _ w.count (true_both _ _ w.seq w.value)))

first_of : (x : ℕ) (xs : List ℕ) (w : ℕ) → eqb w x ≡ true → one_of (x ∷ xs) w ≡ true
unfolding one_of either
first_of x xs w e = ap (λ (t : Bool). either t (one_of xs w)) e

-- where the other widths are the usual ones, that of sequences decides
pub usual_allowed : (e : Encoding) → usual_widths e ≡ true → one_of (1 ∷ 2 ∷ 4 ∷ 8 ∷ []) e.seq ≡ allowed_widths e
unfolding allowed_widths usual_widths
usual_allowed e t =
    let a = both_true _ _ t in
    let k = both_true _ _ a.1 in
    let n = both_true _ _ k.1 in
    same_truth _ _
    (λ s. true_both _ _ (first_of 4 (8 ∷ []) e.address a.0)
    (true_both _ _ (first_of 1 (2 ∷ 4 ∷ []) e.key k.0)
    (true_both _ _ (first_of 1 (2 ∷ 4 ∷ []) e.count n.0)
    (true_both _ _ s (first_of 2 (4 ∷ []) e.value n.1)))))
    (λ s. (both_true _ _ (both_true _ _ (both_true _ _ (both_true _ _ s).1).1).1).0)

-- question 4, but for the comparison with the section's length
pub dimensions_yes : (o : Opened) (flags : ℕ) → dimensions o flags ≡ true
    → Dimensions o × (flags ≤ 3) × (o.arena ≡ 64 + 4 * o.buckets + o.count * (o.encoding.address + 2))
unfolding dimensions buckets_of arena_start_of
dimensions_yes o flags t =
    let a = both_true _ _ t in
    let b = both_true _ _ a.1 in
    let c = both_true _ _ b.1 in
    let d = both_true _ _ c.1 in
    let e = both_true _ _ d.1 in (
      record {
        some = leb-true 1 o.count a.0;
        few = ltb-true o.count (2 ^ 31) b.0;
        halved = eqb-true _ _ c.0;
        widths = widths_yes o.encoding d.0;
      },
      leb-true flags 3 e.0,
      eqb-true _ _ e.1 ∙ ap (λ (b : ℕ). 64 + 4 * b + o.count * (o.encoding.address + 2)) (sym (eqb-true _ _ c.0)),
    )

pub dimensions_hold : (o : Opened) (flags : ℕ) → dimensions o flags ≡ true → Dimensions o
dimensions_hold o flags e = (dimensions_yes o flags e).0

pub yes_dimensions : (o : Opened) (flags : ℕ) → Dimensions o → flags ≤ 3 → o.arena ≡ 64 + 4 * o.buckets + o.count * (o.encoding.address + 2)
    → dimensions o flags ≡ true
unfolding dimensions buckets_of arena_start_of
yes_dimensions o flags d f a =
    true_both _ _ (le-leb 1 o.count d.some)
    (true_both _ _ (lt-ltb o.count (2 ^ 31) d.few)
    (true_both _ _ (eq-eqb _ _ d.halved)
    (true_both _ _ (yes_widths o.encoding d.widths)
    (true_both _ _ (le-leb flags 3 f)
    (eq-eqb _ _ (a ∙ ap (λ (b : ℕ). 64 + 4 * b + o.count * (o.encoding.address + 2)) d.halved))))))

pub within_yes : (least most n : ℕ) → between least most n ≡ true → (least ≤ n) × (n ≤ most)
unfolding between
within_yes least most n e = let b = both_true _ _ e in (leb-true least n b.0, leb-true n most b.1)

yes_within : (least most n : ℕ) → least ≤ n → n ≤ most → between least most n ≡ true
unfolding between
yes_within least most n l h = true_both _ _ (le-leb least n l) (le-leb n most h)

-- a scan part lies before its length and the last five bytes
pub scan_inside : (s : List ℕ) (o : Opened) → scan_part s o ≡ true → scan_place_of s o + scan_part_len o + 8 + trailer_len ≡ length s
unfolding scan_part scan_place_of
scan_inside s o p =
    let l = ltb-true o.arena (scan_place_of s o) (both_true _ _ (both_true _ _ p).1).0 in
    omega arith

-- questions 5 and 6
pub scan_yes : (s : List ℕ) (o : Opened) → scan_part s o ≡ true → scan_settings s (scan_place_of s o) o.count ≡ true
    → Scan s (with_scan o (scan_place_of s o))
unfolding scan_part scan_settings scan_part_len with_scan stands_at_of scan_magic
scan_yes s o p q =
    let a = both_true _ _ p in
    let b = both_true _ _ a.1 in
    let c = both_true _ _ q in
    let d = both_true _ _ c.1 in
    let f = within_yes 1 max_scan_prefix _ c.0 in
    let n = within_yes 1 o.count _ d.1 in
    record {
      stored = eqb-true _ _ a.0;
      place = scan_inside s o p;
      after = ltb-true o.arena (scan_place_of s o) b.0;
      magic = equal_bytes-true _ _ b.1;
      prefix_some = f.0;
      prefix_short = f.1;
      stride = eqb-true _ _ d.0;
      prefixes_some = n.0;
      prefixes_few = n.1;
    }

-- a scan place is where the scan part starts
pub scan_place : (s : List ℕ) (o : Opened) → Scan s o → scan_place_of s o ≡ o.scan
unfolding scan_place_of scan_part_len
scan_place s o h = omega (arith, h.place)

pub yes_scan : (s : List ℕ) (o : Opened) → Scan s o → (scan_part s o ≡ true) × (scan_settings s (scan_place_of s o) o.count ≡ true)
unfolding scan_part scan_settings scan_part_len stands_at_of scan_magic
yes_scan s o h =
    let e = scan_place s o h in (
      true_both _ _ (eq-eqb _ _ h.stored)
          (true_both _ _ (rw e (lt-ltb o.arena o.scan h.after))
          (rw e (equal_bytes-same _ _ h.magic))),
      rw e (true_both _ _ (yes_within 1 max_scan_prefix _ h.prefix_some h.prefix_short)
          (true_both _ _ (eq-eqb _ _ h.stride)
          (yes_within 1 o.count _ h.prefixes_some h.prefixes_few))),
    )

-- question 7
pub packed_yes : (o : Opened) → fits_packed o ≡ true → (o.encoding.checksum ≡ true) × (o.count < 2 ^ 23)
unfolding fits_packed
packed_yes o e = let b = both_true _ _ e in (b.0, ltb-true o.count (2 ^ 23) b.1)

pub yes_packed : (o : Opened) → o.encoding.checksum ≡ true → o.count < 2 ^ 23 → fits_packed o ≡ true
unfolding fits_packed
yes_packed o c h = true_both _ _ c (lt-ltb o.count (2 ^ 23) h)
