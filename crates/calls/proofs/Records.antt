-- The sixteen numbers of a record that a header gives, place by place, and the length of the packed bytes.
-- Assumes nothing.
use mathlib.Core.Path.{◌≡◌, refl, sym, ap, ◌∙◌}
use mathlib.Core.Bool.{Bool, true, false}
use mathlib.Core.List.{List}
use Prim.Native.Nat.{ℕ, ◌+◌, ◌*◌, ◌-◌, ◌/◌, ◌%◌}
use native.Mathlib.Omega.{arith}
use lib.Dec.{eqb}
use lib.ListN.{length}
use borrow.Author.Tests.{eqb-true, eqb-false}
use Rattle.num.specs.Choice.{when◌then◌else◌}
use Rattle.num.specs.Number.{le_at}
use Rattle.num.proofs.Choice.{if_true, if_false}
use Rattle.encoding.specs.Encoding.{checksum_flag, trailer_len}
use Rattle.header.specs.declared.Opened.{Opened}
use Rattle.header.specs.Header.{flags_of, has_flag, encoding_at, fields_of, scan_flagged, scan_part_len, with_scan, packed_record, arena_end_of}
use Rattle.header.specs.Facts.{Header}
use Rattle.header.proofs.Numbers.{scan_flag_lem, no_scan_flag, header_numbers}
use Rattle.packed.specs.Packed.{packed_bytes}
use Rattle.packed.proofs.Lengths.{length_packed}
use Rattle.numbers.specs.Numbers.{flag_number, record_numbers}
use Rattle.calls.specs.Calls.{header_places, scan_number, packed_start_of, arena_stop, packed_size}

-- the checksum flag as a number
flag_number_lem : (n : ℕ) → flag_number (has_flag checksum_flag n) ≡ n % 2
unfolding flag_number has_flag when◌then◌else◌
flag_number_lem n = go (eqb (n / 1 % 2) 1) refl
  where
    go : (b : Bool) → eqb (n / 1 % 2) 1 ≡ b → (when b then 1 else 0) ≡ n % 2
    go true e = let h = eqb-true (n / 1 % 2) 1 e in omega arith
    go false e = let h = eqb-false (n / 1 % 2) 1 e in omega arith

module _ (s : List ℕ) (o : Opened) (h : Header s o) where
  addresses : o.count * o.encoding.address ≡ le_at s 16 4 * le_at s 32 4
  addresses = let n = h.numbers in λ i. n.count i * n.address i

  -- the scan place
  scan_place : o.scan ≡ scan_number s
  unfolding scan_number scan_flagged has_flag flags_of scan_part_len
  scan_place = go (scan_flagged s) refl
    where
      go : (b : Bool) → scan_flagged s ≡ b → o.scan ≡ scan_number s
      go true e =
          let p = (h.scanned (scan_flag_lem s h.flags e)).place in
          let d : o.scan ≡ length s - (24 + le_at s 16 4 * le_at s 32 4 + 13) = omega (arith, addresses) in
          d ∙ sym (if_true _ _ _ e)
      go false e = h.unscanned (no_scan_flag s h.flags e) ∙ sym (if_false _ _ _ e)

  pub plain_record_places : record_numbers o ≡ header_places s (le_at s 24 8) (scan_number s) 0
  unfolding record_numbers header_places with_scan fields_of encoding_at flags_of flag_number when◌then◌else◌
  plain_record_places =
      ap (λ (r : Opened). record_numbers (with_scan r o.scan)) (header_numbers s o h) ∙ rw (flag_number_lem (flags_of s), scan_place)

  pub packed_record_places : record_numbers (packed_record o) ≡ header_places s (packed_start_of s) 0 1
  unfolding record_numbers header_places packed_start_of packed_record with_scan fields_of encoding_at flags_of flag_number when◌then◌else◌
  packed_record_places = ap (λ (r : Opened). record_numbers (packed_record r)) (header_numbers s o h) ∙ rw (flag_number_lem (flags_of s))

  pub packed_length_lem : length (packed_bytes s o) ≡ packed_size s
  unfolding packed_size packed_start_of arena_stop arena_end_of
  packed_length_lem =
      let start = h.stored in
      let buckets = h.numbers.buckets in
      let end : arena_end_of s o ≡ arena_stop s = ap (λ (n : ℕ). when eqb n 0 then length s - trailer_len else n) scan_place in
      omega (arith, length_packed s o h, addresses)
