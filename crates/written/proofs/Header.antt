-- The header and the scan part of a written section: questions 3 to 6, and where the arena ends.
-- Assumes nothing.
use mathlib.Core.Path.{◌≡◌, refl, sym, ap, ◌∙◌, subst, subst⁻¹}
use mathlib.Core.List.{List}
use mathlib.Core.Bool.{Bool, true, false}
use Prim.Native.Nat.{ℕ, zero, suc, ◌+◌, ◌*◌, ◌-◌, ◌<◌, ◌≤◌, ◌^◌}
use native.Mathlib.Nat.{not-suc-le-zero}
use native.Mathlib.Omega.{arith}
use lib.Dec.{eqb, lit<}
use lib.ListN.{length, take}
use borrow.Author.Tests.{ne_eqb}
use Rattle.num.specs.Choice.{when◌then◌else◌}
use Rattle.num.specs.Number.{le_at}
use Rattle.num.proofs.Choice.{if_case, if_false, one_of-case}
use Rattle.encoding.specs.declared.Encoding.{Encoding}
use Rattle.encoding.specs.Encoding.{Widths, magic, scan_magic, scan_header_len, trailer_len, checksum_flag, scan_flag, buckets_of, arena_start_of, key_header_len_of}
use Rattle.encoding.proofs.Widths.{widths_le}
use Rattle.header.specs.declared.Opened.{Opened}
use Rattle.header.specs.Header.{flags_of, has_flag, encoding_at, fields_of, with_scan}
use Rattle.header.specs.Facts.{Scan, Header}
use Rattle.header.proofs.Numbers.{read_numbers}
use Rattle.agreement.specs.Keys.{key_records_end}
use Rattle.written.specs.Joined.{fields_bytes}
use Rattle.written.specs.Arena.{KeyGroup, group_address}
use Rattle.written.specs.Section.{group_prefix_new, group_prefixes, scan_fields_of, scan_place_for, flags_for, prologue_fields, from_scan_lem, section_bytes, written_record}
use Rattle.written.specs.Opens.{Writable}
use Rattle.written.specs.Internal.{FieldsFit, FieldsRead, scan_len_for}
use Rattle.written.proofs.Stands.{stands_left, stands_right, stands_part, stands_at, stands_number, fields_read}
use Rattle.written.proofs.Agreement.{prefixes_le}
use Rattle.written.proofs.Section.{section_length, head_at, start_le, from_scan, scan_parts}

-- ---- flags, counts and widths

-- the flags of a section without and with a scan part, by whether it has checksums
checksum_flag_lem : (c : Bool) → (has_flag checksum_flag (when c then checksum_flag else 0) ≡ c) × (has_flag checksum_flag ((when c then checksum_flag else 0) + scan_flag) ≡ c)
    × ((when c then checksum_flag else 0) ≤ 1)
unfolding has_flag when◌then◌else◌
checksum_flag_lem true = (refl, refl, omega arith)
checksum_flag_lem false = (refl, refl, omega arith)

flag_checksum : (e : Encoding) (prefix : ℕ) → has_flag checksum_flag (flags_for e prefix) ≡ e.checksum
unfolding flags_for
flag_checksum e zero = (checksum_flag_lem e.checksum).0
flag_checksum e (suc p) = (checksum_flag_lem e.checksum).1

flags_le : (e : Encoding) (prefix : ℕ) → flags_for e prefix ≤ checksum_flag + scan_flag
unfolding flags_for
flags_le e zero = let h = (checksum_flag_lem e.checksum).2 in omega arith
flags_le e (suc p) = let h = (checksum_flag_lem e.checksum).2 in omega arith

-- the first key's prefix is counted
prefixes_some : (n : ℕ) (gs : List KeyGroup) (i : ℕ) → 1 ≤ i → 1 ≤ group_prefixes n gs i
unfolding group_prefixes group_prefix_new when◌then◌else◌
prefixes_some n gs zero h = absurd (not-suc-le-zero h)
prefixes_some n gs (suc zero) h = omega arith
prefixes_some n gs (suc (suc i)) h =
    let l = prefixes_some n gs (suc i) (omega arith) in
    if_case (λ (m : ℕ). 1 ≤ m) (group_prefix_new n gs (suc i)) (group_prefixes n gs (suc i) + 1) (group_prefixes n gs (suc i)) (λ _. omega arith) (λ _. l)

address_ge : (e : Encoding) → Widths e → 4 ≤ e.address
address_ge e w = one_of-case (λ n. 4 ≤ n) _ _ w.address (omega arith, (omega arith, tt))

-- an arena of a key is not empty
group_some : (e : Encoding) → Widths e → (gs : List KeyGroup) (n : ℕ) → 1 ≤ n → 0 < group_address e gs n
unfolding group_address key_header_len_of
group_some e w gs zero h = absurd (not-suc-le-zero h)
group_some e w gs (suc n) h = let a = address_ge e w in omega arith

-- the bytes of the addresses and of the slots
product_lt : (e : Encoding) → Widths e → (n : ℕ) → n < 2 ^ 31 → (n * e.address < 2 ^ 35) × (n * (e.address + 2) < 2 ^ 36)
product_lt e w n h =
    one_of-case (λ a. (n * a < 2 ^ 35) × (n * (a + 2) < 2 ^ 36)) _ _ w.address ((omega arith, omega arith), ((omega arith, omega arith), tt))

-- ---- by the scan prefix: 0 or another

module _ (e : Encoding) (seed least : ℕ) (gs : List KeyGroup) (pilot owner : ℕ → ℕ) where
  -- questions 5 and 6
  scan_facts : (p : ℕ) → Writable e seed least gs pilot owner (suc p)
      → Scan (section_bytes e seed least gs pilot owner (suc p)) (written_record e seed least gs pilot owner (suc p))
  unfolding scan_place_for scan_fields_of scan_len_for written_record from_scan_lem scan_magic
  scan_facts p w =
      let s = section_bytes e seed least gs pilot owner (suc p) in
      let place = arena_start_of (length gs) e.address + group_address e gs (length gs) in
      let r = scan_parts e seed least gs pilot owner (suc p) p place (from_scan e seed least gs pilot owner (suc p)) in
      let n = section_length e seed least gs pilot owner (suc p) in
      let few = w.few in
      let m = (product_lt e w.fits.widths (length gs) few).0 in
      let g = group_some e w.fits.widths gs (length gs) w.some in
      let c = prefixes_le (suc p) gs (length gs) in
      let d = prefixes_some (suc p) gs (length gs) w.some in
      let h = w.prefix_short in
      let k = fields_read (scan_fields_of (suc p) gs) (omega arith, (lit< tt, (omega arith, tt))) r.1 in
      let k₀ : le_at s (place + 8) 4 ≡ suc p = k.0 in
      let at₁ : place + 12 ≡ place + 8 + 4 = omega arith in
      let at₂ : place + 16 ≡ place + 8 + 4 + 4 = omega arith in
      let k₁ : le_at s (place + 12) 4 ≡ 32 = ap (λ (q : ℕ). le_at s q 4) at₁ ∙ k.1.0 in
      let k₂ : le_at s (place + 16) 8 ≡ group_prefixes (suc p) gs (length gs) = ap (λ (q : ℕ). le_at s q 8) at₂ ∙ k.1.1.0 in
      let last : place + (scan_header_len + length gs * e.address) ≡ length s - (8 + trailer_len) = omega arith in
      record {
        stored = stands_number 8 (scan_header_len + length gs * e.address) (omega arith) (stands_at last r.3);
        place = omega arith;
        after = omega arith;
        magic = stands_part scan_magic r.0;
        prefix_some = omega arith;
        prefix_short = omega arith;
        stride = k₁;
        prefixes_some = omega arith;
        prefixes_few = omega arith;
      }

  scanned_case : (prefix : ℕ) → Writable e seed least gs pilot owner prefix → 2 ≤ flags_for e prefix
      → Scan (section_bytes e seed least gs pilot owner prefix) (written_record e seed least gs pilot owner prefix)
  unfolding flags_for
  scanned_case zero w f = let h = (checksum_flag_lem e.checksum).2 in absurd (omega arith)
  scanned_case (suc p) w f = scan_facts p w

  unscanned_case : (prefix : ℕ) → flags_for e prefix < 2 → scan_place_for e gs prefix ≡ 0
  unfolding flags_for scan_place_for
  unscanned_case zero f = refl
  unscanned_case (suc p) f = absurd (omega arith)

  -- the arena ends behind the last group
  pub end_read : (prefix : ℕ) → key_records_end (section_bytes e seed least gs pilot owner prefix) (written_record e seed least gs pilot owner prefix)
      ≡ arena_start_of (length gs) e.address + group_address e gs (length gs)
  unfolding key_records_end written_record scan_place_for scan_len_for when◌then◌else◌
  end_read zero = let n = section_length e seed least gs pilot owner zero in omega arith
  end_read (suc p) =
      let l = start_le e seed least gs pilot owner (suc p) in
      if_false (eqb (arena_start_of (length gs) e.address + group_address e gs (length gs)) 0) (length (section_bytes e seed least gs pilot owner (suc p)) - 5)
      (arena_start_of (length gs) e.address + group_address e gs (length gs))
      (ne_eqb (arena_start_of (length gs) e.address + group_address e gs (length gs)) 0 (λ z. omega arith))

-- ---- questions 3 to 6

module _ (e : Encoding) (seed least : ℕ) (gs : List KeyGroup) (pilot owner : ℕ → ℕ) (prefix : ℕ) (w : Writable e seed least gs pilot owner prefix) where
  abbrev s : List ℕ
  s = section_bytes e seed least gs pilot owner prefix

  abbrev o : Opened
  o = written_record e seed least gs pilot owner prefix

  -- the least sequence is not above the first version's
  least_lt : least < 2 ^ 64
  least_lt =
      let some = w.some in
      let v = w.fits.versions 0 0 some (w.fits.some_version 0 some) in
      let l = v.least_first in
      let m = v.whole_seq in
      omega arith

  prologue_fits : FieldsFit (prologue_fields e seed least (length gs) prefix)
  unfolding prologue_fields buckets_of arena_start_of
  prologue_fits =
      let v = widths_le e w.fits.widths in
      let p = (product_lt e w.fits.widths (length gs) w.few).1 in
      let f = flags_le e prefix in
      let n = w.few in
      (w.seed_fits, (omega arith, (omega arith, (omega arith, (omega arith, (omega arith, (omega arith, (omega arith, (omega arith, (omega arith, (least_lt, tt)))))))))))

  prologue : FieldsRead s 8 (prologue_fields e seed least (length gs) prefix)
  unfolding magic
  prologue =
      fields_read (prologue_fields e seed least (length gs) prefix) prologue_fits
      (stands_right magic (fields_bytes (prologue_fields e seed least (length gs) prefix)) 8 refl (head_at e seed least gs pilot owner prefix))

  magic_read : take 8 s ≡ magic
  unfolding magic
  magic_read = stands_part magic (stands_left magic (fields_bytes (prologue_fields e seed least (length gs) prefix)) (head_at e seed least gs pilot owner prefix))

  flags_read : flags_of s ≡ flags_for e prefix
  unfolding prologue_fields flags_of
  flags_read = prologue.1.1.1.1.1.1.1.1.1.0

  numbers_read : with_scan o 0 ≡ fields_of s
  unfolding prologue_fields with_scan fields_of encoding_at written_record
  numbers_read =
      let r = prologue in
      let c : has_flag checksum_flag (flags_of s) ≡ e.checksum = ap (has_flag checksum_flag) flags_read ∙ flag_checksum e prefix in
      sym (λ i. record {
        seed = r.0 i;
        min_seq = r.1.1.1.1.1.1.1.1.1.1.0 i;
        count = r.1.0 i;
        buckets = r.1.1.0 i;
        arena = r.1.1.1.0 i;
        encoding = record {
          address = r.1.1.1.1.0 i;
          key = r.1.1.1.1.1.0 i;
          count = r.1.1.1.1.1.1.0 i;
          seq = r.1.1.1.1.1.1.1.0 i;
          value = r.1.1.1.1.1.1.1.1.0 i;
          checksum = c i;
        };
        scan = 0;
        packed = false;
      })

  pub header_read : Header s o
  unfolding flags_of written_record buckets_of arena_start_of magic prologue_fields
  header_read =
      let n = section_length e seed least gs pilot owner prefix in
      let l = start_le e seed least gs pilot owner prefix in
      let g = group_some e w.fits.widths gs (length gs) w.some in
      record {
        plain = refl;
        begins = record { long = omega arith; magic = magic_read };
        numbers = read_numbers s o numbers_read;
        dimensions = record { some = w.some; few = w.few; halved = refl; widths = w.fits.widths };
        flags = subst⁻¹ (λ (f : ℕ). f ≤ 3) flags_read (flags_le e prefix);
        stored = sym prologue.1.1.1.0;
        start = refl;
        below = omega arith;
        scanned = λ f. scanned_case e seed least gs pilot owner prefix w (subst (λ (n : ℕ). 2 ≤ n) flags_read f);
        unscanned = λ f. unscanned_case e seed least gs pilot owner prefix (subst (λ (n : ℕ). n < 2) flags_read f);
      }
