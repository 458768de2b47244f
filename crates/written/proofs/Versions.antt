-- The versions of a key in an arena that stands as it was written.
-- Assumes nothing.
use mathlib.Core.Path.{◌≡◌, refl, ap, ◌∙◌}
use mathlib.Core.List.{List}
use mathlib.Core.Bool.{Bool, true, false}
use Prim.Native.Nat.{ℕ, ◌+◌, ◌*◌, ◌%◌, ◌<◌, ◌^◌}
use native.Mathlib.Nat.{mod-eq_of_lt, add-mod_left}
use native.Mathlib.Omega.{arith}
use lib.Dec.{leb}
use lib.ListN.{length}
use borrow.Author.Tests.{le-leb, lt-leb}
use Rattle.num.specs.Choice.{when◌then◌else◌}
use Rattle.num.specs.Number.{le_at}
use Rattle.num.proofs.Choice.{if_true, if_false, false_true}
use Rattle.sstable.specs.declared.Kind.{Kind}
use Rattle.sstable.specs.declared.Kind.TheVariants.{Put, Tombstone}
use Rattle.encoding.specs.declared.Encoding.{Encoding}
use Rattle.encoding.specs.Encoding.{Widths, tombstone_of}
use Rattle.encoding.proofs.Widths.{tombstone_double}
use Rattle.header.specs.declared.Opened.{Opened}
use Rattle.arena.specs.declared.KeyHeader.{KeyHeader}
use Rattle.agreement.proofs.Same.{version_size_is}
use Rattle.agreement.specs.Keys.{key_header_of, version_place, version_seq, top_bit, marked_length, version_kind, version_length, version_offset, version_checksum}
use Rattle.written.specs.Joined.{fields_bytes}
use Rattle.written.specs.Arena.{KeyGroup, group_versions, group_version, group_suffix, group_header, marked_size, checksum_fields, stored_fields, stored_bytes, arena_written, VersionFits, GroupsFit}
use Rattle.written.specs.Internal.{Stands, FieldsFit, FieldsRead}
use Rattle.written.proofs.Stands.{stands_right, stands_at, fields_read}
use Rattle.written.proofs.Groups.{version_stands}
use Rattle.written.proofs.Arena.{headers, behind_header}

-- ---- a value length and its tombstone bit

-- the bit and a length below it fit the width
value_fits : (e : Encoding) (kind : Kind) (size : ℕ) → Widths e → size < tombstone_of e → marked_size e kind size < 2 ^ (8 * e.value)
unfolding marked_size
value_fits e Put size w h = let d = tombstone_double e w in omega arith
value_fits e Tombstone size w h = let d = tombstone_double e w in omega arith

-- the bit tells the kind
value_kind : (e : Encoding) (kind : Kind) (size : ℕ) → size < tombstone_of e → (when leb (tombstone_of e) (marked_size e kind size) then Tombstone else Put) ≡ kind
unfolding marked_size
value_kind e Put size h = if_false (leb (tombstone_of e) size) Tombstone Put (lt-leb (tombstone_of e) size h)
value_kind e Tombstone size h = if_true (leb (tombstone_of e) (tombstone_of e + size)) Tombstone Put (le-leb (tombstone_of e) (tombstone_of e + size) (omega arith))

-- and what is left of the number is the length
value_length : (e : Encoding) (kind : Kind) (size : ℕ) → size < tombstone_of e → marked_size e kind size % tombstone_of e ≡ size
unfolding marked_size
value_length e Put size h = mod-eq_of_lt h
value_length e Tombstone size h = add-mod_left (tombstone_of e) size ∙ mod-eq_of_lt h

-- ---- a version

checksum_fits : (c : Bool) (checksum : ℕ) → (c ≡ true → checksum < 2 ^ 32) → FieldsFit (checksum_fields c checksum)
unfolding checksum_fields
checksum_fits true checksum h = (h refl, tt)
checksum_fits false checksum h = tt

checksum_read : (s : List ℕ) (pos : ℕ) (c : Bool) (checksum : ℕ) → c ≡ true → FieldsRead s pos (checksum_fields c checksum) → le_at s pos 4 ≡ checksum
unfolding checksum_fields
checksum_read s pos true checksum e r = r.0
checksum_read s pos false checksum e r = false_true e

module _ (s : List ℕ) (o : Opened) (gs : List KeyGroup) (fits : GroupsFit o.encoding o.min_seq gs)
    (at : Stands s o.arena (arena_written o.encoding o.min_seq gs)) (i j : ℕ) (h : i < length gs) (l : j < length (group_versions gs i)) where
  version_at_lem : Stands s (version_place s o i j) (fields_bytes (stored_fields o.encoding o.min_seq (group_version gs i j)))
  unfolding version_place group_version group_header
  version_at_lem =
      let p : (key_header_of s o i).suffix_len ≡ length (group_suffix gs i) = ap (λ (k : KeyHeader). k.suffix_len) (headers s o gs fits at i h) in
      let n = ap (λ (w : ℕ). j * w) (version_size_is o.encoding) in
      stands_at (omega arith)
      (version_stands o.encoding o.min_seq (group_versions gs i) j l
      (stands_right (group_suffix gs i) (stored_bytes o.encoding o.min_seq (group_versions gs i)) (length (group_suffix gs i)) refl (behind_header s o gs fits at i h)))

  fit : VersionFits o.encoding o.min_seq (group_version gs i j)
  fit = fits.versions i j h l

  numbers : FieldsRead s (version_place s o i j) (stored_fields o.encoding o.min_seq (group_version gs i j))
  unfolding stored_fields
  numbers =
      fields_read (stored_fields o.encoding o.min_seq (group_version gs i j)) (
        fit.seq,
        (
          value_fits o.encoding (group_version gs i j).kind (group_version gs i j).size fits.widths fit.size,
          (
            fit.offset,
            checksum_fits o.encoding.checksum (group_version gs i j).checksum fit.checksum,
          ),
        ),
      ) version_at_lem

  pub seqs : version_seq s o i j ≡ (group_version gs i j).seq
  unfolding version_seq stored_fields
  seqs = let n = numbers.0 in let f = fit.least_first in omega arith

  pub kinds : version_kind s o i j ≡ (group_version gs i j).kind
  unfolding version_kind top_bit marked_length tombstone_of stored_fields
  kinds =
      ap (λ (n : ℕ). when leb (tombstone_of o.encoding) n then Tombstone else Put) numbers.1.0
      ∙ value_kind o.encoding (group_version gs i j).kind (group_version gs i j).size fit.size

  pub sizes : version_length s o i j ≡ (group_version gs i j).size
  unfolding version_length top_bit marked_length tombstone_of stored_fields
  sizes = ap (λ (n : ℕ). n % tombstone_of o.encoding) numbers.1.0 ∙ value_length o.encoding (group_version gs i j).kind (group_version gs i j).size fit.size

  pub offsets : version_offset s o i j ≡ (group_version gs i j).offset
  unfolding version_offset stored_fields
  offsets = numbers.1.1.0

  pub checksums : o.encoding.checksum ≡ true → version_checksum s o i j ≡ (group_version gs i j).checksum
  unfolding version_checksum stored_fields
  checksums c = checksum_read s _ o.encoding.checksum (group_version gs i j).checksum c numbers.1.1.1
