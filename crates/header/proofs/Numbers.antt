-- The header's numbers as the definitions have them are those that specs/Facts names place by place.
-- Assumes nothing.
use mathlib.Core.Path.{◌≡◌, refl, sym, ◌∙◌, subst}
use mathlib.Core.Logic.{◌↔◌}
use mathlib.Core.Bool.{Bool, true, false}
use mathlib.Core.List.{List}
use Prim.Native.Nat.{ℕ, ◌+◌, ◌*◌, ◌/◌, ◌%◌, ◌<◌, ◌≤◌}
use native.Mathlib.Omega.{arith}
use borrow.Author.Tests.{eqb-true, eqb-false, eq-eqb}
use Rattle.num.specs.Number.{le_at}
use Rattle.num.proofs.Choice.{same_truth}
use Rattle.header.specs.declared.Opened.{Opened}
use Rattle.header.specs.Header.{flags_of, has_flag, encoding_at, fields_of, scan_flagged, with_scan, packed_record}
use Rattle.header.specs.Facts.{Numbers, Header, PackedHeader}

-- flag 1
checksum_flag_lem : (flags : ℕ) → (has_flag 1 flags ≡ true) ↔ (flags % 2 ≡ 1)
unfolding has_flag
checksum_flag_lem flags = (λ e. omega (arith, eqb-true ((flags / 1) % 2) 1 e), λ h. eq-eqb ((flags / 1) % 2) 1 (omega (arith, h)))

-- flag 2, of flags made of 1 and 2
pub scan_flag_lem : (s : List ℕ) → le_at s 52 4 ≤ 3 → scan_flagged s ≡ true → 2 ≤ le_at s 52 4
unfolding scan_flagged has_flag flags_of
scan_flag_lem s h e = omega (arith, eqb-true ((le_at s 52 4 / 2) % 2) 1 e)

pub no_scan_flag : (s : List ℕ) → le_at s 52 4 ≤ 3 → scan_flagged s ≡ false → le_at s 52 4 < 2
unfolding scan_flagged has_flag flags_of
no_scan_flag s h e = let n = eqb-false ((le_at s 52 4 / 2) % 2) 1 e in omega arith

-- the header's numbers stand where the facts say
pub fields_numbers : (s : List ℕ) → Numbers s (fields_of s)
unfolding fields_of encoding_at flags_of
fields_numbers s =
    record {
      seed = refl;
      count = refl;
      buckets = refl;
      address = refl;
      key = refl;
      versions = refl;
      seq = refl;
      value = refl;
      checksum = checksum_flag_lem (le_at s 52 4);
      least = refl;
    }

-- they do not speak of the arena start, the scan place and the form
pub numbers_moved : (s : List ℕ) (o : Opened) (arena scan : ℕ) (packed : Bool) → Numbers s o
    → Numbers s (record {
      seed = o.seed;
      min_seq = o.min_seq;
      count = o.count;
      buckets = o.buckets;
      arena = arena;
      encoding = o.encoding;
      scan = scan;
      packed = packed;
    })
numbers_moved s o arena scan packed n =
    record {
      seed = n.seed;
      count = n.count;
      buckets = n.buckets;
      address = n.address;
      key = n.key;
      versions = n.versions;
      seq = n.seq;
      value = n.value;
      checksum = n.checksum;
      least = n.least;
    }

-- a record with the header's numbers, but for its scan place
pub read_numbers : (s : List ℕ) (o : Opened) → with_scan o 0 ≡ fields_of s → Numbers s o
unfolding with_scan
read_numbers s o e = numbers_moved s (with_scan o 0) o.arena o.scan o.packed (subst (Numbers s) (sym e) (fields_numbers s))

module _ (s : List ℕ) (o : Opened) (n : Numbers s o) where
  encoding_read : o.encoding ≡ encoding_at s
  unfolding encoding_at flags_of
  encoding_read =
      let c = checksum_flag_lem (le_at s 52 4) in
      let same = same_truth o.encoding.checksum (has_flag 1 (le_at s 52 4)) (λ e. c.1 (n.checksum.0 e)) (λ e. n.checksum.1 (c.0 e)) in
      λ i. record {
        address = n.address i;
        key = n.key i;
        count = n.versions i;
        seq = n.seq i;
        value = n.value i;
        checksum = same i;
      }

-- a record that the header gives has the header's numbers, but for its scan place
pub header_numbers : (s : List ℕ) (o : Opened) → Header s o → with_scan o 0 ≡ fields_of s
unfolding with_scan fields_of
header_numbers s o h =
    let n = h.numbers in
    λ i. record {
      seed = n.seed i;
      min_seq = n.least i;
      count = n.count i;
      buckets = n.buckets i;
      arena = h.stored i;
      encoding = encoding_read s o n i;
      scan = 0;
      packed = h.plain i;
    }

-- a packed record is the packed one of the header's numbers
pub packed_numbers : (s : List ℕ) (o : Opened) → PackedHeader s o → o ≡ packed_record (fields_of s)
unfolding packed_record fields_of
packed_numbers s o h =
    let n = h.numbers in
    let e = encoding_read s o n in
    let a : o.arena ≡ 64 + 3 * le_at s 20 4 + le_at s 16 4 * (encoding_at s).address =
    h.start ∙ (λ i. 64 + 3 * n.buckets i + n.count i * (e i).address) in
    λ i. record {
      seed = n.seed i;
      min_seq = n.least i;
      count = n.count i;
      buckets = n.buckets i;
      arena = a i;
      encoding = e i;
      scan = h.unscanned i;
      packed = h.packed i;
    }
