-- What a lookup counts on, in either form: where it reads, whose the slots are, and what the versions of the keys are.
-- Assumes nothing.
use mathlib.Core.Path.{◌≡◌}
use mathlib.Core.Bool.{true, false}
use mathlib.Core.List.{List}
use Prim.Native.Nat.{ℕ, ◌+◌, ◌<◌, ◌≤◌}
use lib.ListN.{length}
use Rattle.num.specs.Number.{le_at}
use Rattle.crc32.specs.V42.{crc_of}
use Rattle.block.specs.Walk.{Entry}
use Rattle.point.specs.Hash.{slot_of, fingerprint_of}
use Rattle.header.specs.declared.Opened.{Opened}
use Rattle.opened.specs.Opened.{is_record_of}
use Rattle.validate.specs.Walk.{value_of}
use Rattle.agreement.specs.Keys.{key_header_size, version_size, address_of, key_header_of, version_count, suffix_place, anchor_index, key_at, key_hash, first_version, version_place, version_seq, version_checksum}
use Rattle.agreement.specs.Agrees.{entry_at, SameVersion}
use Rattle.admission.proofs.Stored.{StoredEntry}
use Rattle.lookup.specs.Lookup.{pilot_len, pilot_offset, pilot_of, slot_len, slot_offset}

-- a section, or packed bytes, with its record, beside data and the records of their blocks
pub record Indexed (s : List ℕ) (o : Opened) («data» : List ℕ) (es : List Entry) : Type 0 where
  -- question 24
  pub is_record : is_record_of s o ≡ true
  -- the pilot and the slot of a hash lie in the section, and the slot is one of n
  pub pilot_inside : (h : ℕ) → pilot_offset o h + pilot_len o ≤ length s
  pub slot_below : (h : ℕ) → slot_of h (pilot_of s o h) o.count < o.count
  pub slot_inside : (h : ℕ) → slot_offset s o h + slot_len o ≤ length s
  -- the slot of a key holds its address and, in the plain form, its fingerprint
  pub slot_address : (k : ℕ) → k < o.count → le_at s (slot_offset s o (key_hash s o k)) o.encoding.address ≡ address_of s o k
  pub slot_fingerprint : o.packed ≡ false → (k : ℕ) → k < o.count
      → le_at s (slot_offset s o (key_hash s o k) + o.encoding.address) 2 ≡ fingerprint_of (key_hash s o k)
  -- an address, and a key's bytes, name one key
  pub address_names : (k m : ℕ) → k < o.count → m < o.count → address_of s o k ≡ address_of s o m → k ≡ m
  pub key_names : (k m : ℕ) → k < o.count → m < o.count → key_at s o k ≡ key_at s o m → k ≡ m
  -- the parts of a key record lie in the section
  pub header_inside : (k : ℕ) → k < o.count → o.arena + address_of s o k + key_header_size o.encoding ≤ length s
  pub anchor_place : (k : ℕ) → k < o.count → o.arena + (key_header_of s o k).anchor ≡ suffix_place s o (anchor_index k)
  pub shared_inside : (k : ℕ) → k < o.count → suffix_place s o (anchor_index k) + (key_header_of s o k).shared ≤ length s
  pub suffix_inside : (k : ℕ) → k < o.count → suffix_place s o k + (key_header_of s o k).suffix_len ≤ length s
  pub version_inside : (k j : ℕ) → k < o.count → j < version_count s o k → version_place s o k j + version_size o.encoding ≤ length s
  -- the versions of the keys are the records of the blocks, and their sequences fall
  pub versions : (k j : ℕ) → k < o.count → j < version_count s o k → SameVersion s o k j (entry_at es (first_version s o k + j))
  pub version_listed : (k j : ℕ) → k < o.count → j < version_count s o k → first_version s o k + j < length es
  pub record_version : (r : ℕ) → r < length es
      → (k : ℕ) × (j : ℕ) × (k < o.count) × (j < version_count s o k) × (r ≡ first_version s o k + j)
  pub falling : (k i j : ℕ) → k < o.count → i < j → j < version_count s o k → version_seq s o k j < version_seq s o k i
  -- the values lie in the data, and the stored checksums are theirs
  pub values : (r : ℕ) → r < length es → StoredEntry «data» (entry_at es r)
  pub checksums : o.encoding.checksum ≡ true → (k j : ℕ) → k < o.count → j < version_count s o k
      → version_checksum s o k j ≡ crc_of (value_of «data» (entry_at es (first_version s o k + j)))
