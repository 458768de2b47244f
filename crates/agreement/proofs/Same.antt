-- What is said here of the arena in document 01's words is what the ordered definitions say.
-- Assumes nothing.
use mathlib.Core.Path.{◌≡◌, refl}
use mathlib.Core.List.{List}
use Prim.Native.Nat.{ℕ}
use Rattle.point.specs.Hash.{bucket_of}
use Rattle.encoding.specs.declared.Encoding.{Encoding}
use Rattle.encoding.specs.Encoding.{version_len_of, tombstone_of}
use Rattle.header.specs.declared.Opened.{Opened}
use Rattle.header.specs.Header.{arena_end_of}
use Rattle.arena.specs.Key.{pilot_place, slot_place}
use Rattle.versions.specs.Version.{stored_seq, stored_value, kind_in, length_in, stored_offset, stored_checksum}
use Rattle.agreement.specs.Keys.{key_records_end, version_size, key_hash, key_slot, version_place, version_seq, top_bit, marked_length, version_kind, version_length, version_offset, version_checksum}

-- the bytes of a version
pub version_size_is : (e : Encoding) → version_size e ≡ version_len_of e
unfolding version_size version_len_of
version_size_is e = refl

module _ (s : List ℕ) (o : Opened) where
  -- the key records end where the arena does
  pub end_is : key_records_end s o ≡ arena_end_of s o
  unfolding key_records_end arena_end_of
  end_is = refl

  -- a key's slot is that of its hash
  pub slot_is : (k : ℕ) → key_slot s o k ≡ slot_place s o (key_hash s o k)
  unfolding key_slot slot_place pilot_place bucket_of
  slot_is k = refl

  -- what a version is, is what stands at its place
  module _ (k j : ℕ) where
    pub seq_is : version_seq s o k j ≡ stored_seq s o (version_place s o k j)
    unfolding version_seq stored_seq
    seq_is = refl

    pub kind_is : version_kind s o k j ≡ kind_in o (stored_value s o (version_place s o k j))
    unfolding version_kind top_bit marked_length kind_in stored_value tombstone_of
    kind_is = refl

    pub length_is : version_length s o k j ≡ length_in o (stored_value s o (version_place s o k j))
    unfolding version_length top_bit marked_length length_in stored_value tombstone_of
    length_is = refl

    pub offset_is : version_offset s o k j ≡ stored_offset s o (version_place s o k j)
    unfolding version_offset stored_offset
    offset_is = refl

    pub checksum_is : version_checksum s o k j ≡ stored_checksum s o (version_place s o k j)
    unfolding version_checksum stored_checksum
    checksum_is = refl
