-- The record of packed bytes passes question 24: the header's numbers depend on its 64 bytes alone.
-- Assumes nothing.
use mathlib.Core.Path.{◌≡◌, refl, sym, ap, ◌∙◌}
use mathlib.Core.Bool.{true, false}
use mathlib.Core.List.{List}
use Prim.Native.Nat.{ℕ, ◌+◌, ◌-◌, ◌<◌, ◌≤◌}
use native.Mathlib.Omega.{arith}
use lib.ListN.{length, take}
use lib.Seq.{take-take}
use Rattle.num.specs.Number.{le_at}
use Rattle.num.proofs.Parts.{le_at-beginning}
use Rattle.encoding.specs.Encoding.{header_len, trailer_len, checksum_flag}
use Rattle.header.specs.declared.Opened.{Opened}
use Rattle.header.specs.Header.{flags_of, has_flag, encoding_at, fields_of, with_scan, fits_packed, packed_record}
use Rattle.opened.specs.Opened.{is_record_of}
use Rattle.header.specs.Facts.{Header, from_packed}
use Rattle.header.proofs.Numbers.{numbers_moved, read_numbers, header_numbers}
use Rattle.header.proofs.Bounds.{buckets_range}
use Rattle.opened.proofs.Records.{facts_record}
use Rattle.header.proofs.Questions.{packed_yes}

module _ (s t : List ℕ) (e : take header_len s ≡ take header_len t) where
  same_number : (place w : ℕ) → place + w ≤ header_len → le_at s place w ≡ le_at t place w
  same_number place w h = le_at-beginning s t header_len place w e h

  pub flags_same : flags_of s ≡ flags_of t
  unfolding flags_of
  flags_same = same_number 52 4 (omega arith)

  encoding_same : encoding_at s ≡ encoding_at t
  unfolding encoding_at
  encoding_same = λ i. record {
    address = same_number 32 4 (omega arith) i;
    key = same_number 36 4 (omega arith) i;
    count = same_number 40 4 (omega arith) i;
    seq = same_number 44 4 (omega arith) i;
    value = same_number 48 4 (omega arith) i;
    checksum = has_flag checksum_flag (flags_same i);
  }

  -- sections with the same first 64 bytes have the same numbers
  pub fields_same : fields_of s ≡ fields_of t
  unfolding fields_of
  fields_same = λ i. record {
    seed = same_number 8 8 (omega arith) i;
    min_seq = same_number 56 8 (omega arith) i;
    count = same_number 16 4 (omega arith) i;
    buckets = same_number 20 4 (omega arith) i;
    arena = same_number 24 8 (omega arith) i;
    encoding = encoding_same i;
    scan = 0;
    packed = false;
  }

-- a section that begins with an accepted header's 64 bytes, and is long enough, has the packed record
pub packed_passes : (s t : List ℕ) (o : Opened) → Header s o → fits_packed o ≡ true → take header_len s ≡ take header_len t
    → (packed_record o).arena < length t - trailer_len → is_record_of t (packed_record o) ≡ true
unfolding packed_record with_scan fields_of flags_of
packed_passes s t o h f e l =
    let d = h.dimensions in
    let b = buckets_range o d in
    let y = packed_yes o f in
    let n = read_numbers t o (header_numbers s o h ∙ fields_same s t e) in
    let g = flags_same s t e in
    facts_record t (packed_record o) (from_packed (record {
      packed = refl;
      begins = record {
        long = omega arith;
        magic = sym (take-take 8 header_len t (omega arith)) ∙ ap (take 8) (sym e) ∙ take-take 8 header_len s (omega arith) ∙ h.begins.magic;
      };
      numbers = numbers_moved t o _ _ _ n;
      dimensions = record { some = d.some; few = d.few; halved = d.halved; widths = d.widths };
      flags = omega (arith, h.flags);
      stored = sym (same_number s t e 24 8 (omega arith)) ∙ sym h.stored ∙ h.start;
      start = refl;
      below = l;
      unscanned = refl;
      checksums = y.0;
      few = y.1;
    }))
