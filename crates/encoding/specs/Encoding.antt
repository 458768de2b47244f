-- The widths of a section's numbers, its lengths, and the constants of its format.
use Rattle.std.specs.Prelude.{◌≡◌, true, List, [], ◌∷◌, ℕ, ◌+◌, ◌*◌, ◌-◌, ◌/◌, ◌^◌, ◌≤◌, leb, ltb}
use Rattle.num.specs.Choice.{when◌then◌else◌, either, one_of}
use Rattle.encoding.specs.declared.Totals.{Totals}
use Rattle.encoding.specs.declared.Encoding.{Encoding}

-- `KIBANPH3` (question 3)
unfoldable pub magic : List ℕ
magic = 75 ∷ 73 ∷ 66 ∷ 65 ∷ 78 ∷ 80 ∷ 72 ∷ 51 ∷ []

-- `KIBANSC1` (question 5)
unfoldable pub scan_magic : List ℕ
scan_magic = 75 ∷ 73 ∷ 66 ∷ 65 ∷ 78 ∷ 83 ∷ 67 ∷ 49 ∷ []

-- the bytes before the pilots
abbrev pub header_len : ℕ
header_len = 64

-- the bytes of the scan part before its addresses
abbrev pub scan_header_len : ℕ
scan_header_len = 24

-- the type byte and the CRC-32 at a section's end
abbrev pub trailer_len : ℕ
trailer_len = 5

-- the flags of question 4
abbrev pub checksum_flag : ℕ
checksum_flag = 1

abbrev pub scan_flag : ℕ
scan_flag = 2

-- the stride of question 6
abbrev pub stride : ℕ
stride = 32

-- the longest scan prefix (questions 6 and 35)
abbrev pub max_scan_prefix : ℕ
max_scan_prefix = 24

-- every key at a multiple of this is an anchor (question 16)
abbrev pub group : ℕ
group = 1024

-- the least width of 1, 2, 4 and 8 bytes that holds every number up to max
unfoldable pub width_of : ℕ → ℕ
width_of max = when leb max 255 then 1 else when leb max 65535 then 2 else when leb max 4294967295 then 4 else 8

-- the width of value lengths up to max, with the top bit left for tombstones
unfoldable pub value_width_of : ℕ → ℕ
value_width_of max = when ltb max 32768 then 2 else 4

-- the widths that question 4 allows
pub record Widths (e : Encoding) : Type 0 where
  pub address : one_of (4 ∷ 8 ∷ []) e.address ≡ true
  pub key : one_of (1 ∷ 2 ∷ 4 ∷ []) e.key ≡ true
  pub count : one_of (1 ∷ 2 ∷ 4 ∷ []) e.count ≡ true
  pub seq : one_of (1 ∷ 2 ∷ 4 ∷ 8 ∷ []) e.seq ≡ true
  pub value : one_of (2 ∷ 4 ∷ []) e.value ≡ true

-- what size's question 37 asks of these totals; the used bytes, on which no length depends, are asked with the builder
pub record Bounded (t : Totals) : Type 0 where
  pub keys : t.keys ≤ 2 ^ 30
  pub versions : t.versions ≤ 2 ^ 30
  pub suffix_bytes : t.suffix_bytes ≤ 2 ^ 30
  pub max_key_len : t.max_key_len ≤ 2 ^ 30
  pub max_value_len : t.max_value_len ≤ 2 ^ 30
  pub max_versions : t.max_versions ≤ 2 ^ 30
  pub seqs : t.min_seq ≤ t.max_seq

-- the bytes of a key record before its suffix: anchor, shared length, suffix length, number of versions
unfoldable pub key_header_len_of : Encoding → ℕ
key_header_len_of e = e.address + 2 * e.key + e.count

-- the bytes of a version: sequence, value length, value offset, and the CRC-32 with checksums
unfoldable pub version_len_of : Encoding → ℕ
version_len_of e = e.seq + e.value + e.address + (when e.checksum then 4 else 0)

-- the bytes of all key records
unfoldable pub arena_len_of : Encoding → Totals → ℕ
arena_len_of e t = t.keys * key_header_len_of e + t.suffix_bytes + t.versions * version_len_of e

-- the number of buckets: half the keys, rounded up (question 4)
unfoldable pub buckets_of : ℕ → ℕ
buckets_of n = (n + 1) / 2

-- where the arena starts: behind the header, the pilots and the slots (question 4)
unfoldable pub arena_start_of : ℕ → ℕ → ℕ
arena_start_of n address = header_len + 4 * buckets_of n + n * (address + 2)

-- the bytes of the scan part and of its length (question 5), none without a prefix
unfoldable pub scan_len_of : Encoding → Totals → ℕ → ℕ
scan_len_of e t prefix = when ltb 0 prefix then scan_header_len + t.keys * e.address + 8 else 0

-- the bytes of a whole section
unfoldable pub section_len_of : Encoding → Totals → ℕ → ℕ
section_len_of e t prefix = arena_start_of t.keys e.address + arena_len_of e t + scan_len_of e t prefix + trailer_len

-- the top bit of a value length
unfoldable pub tombstone_of : Encoding → ℕ
tombstone_of e = 2 ^ (8 * e.value - 1)

-- addresses and value offsets have 8 bytes if the arena's length, counted with addresses of 4, or the last offset needs more than 4
unfoldable pub address_width_of : ℕ → ℕ → ℕ
address_width_of arena last = when either (ltb 4294967295 arena) (ltb 4294967295 last) then 8 else 4

-- the encoding of the totals with addresses of a width
unfoldable pub encoding_with : ℕ → Totals → Encoding
encoding_with address t =
    record {
      address = address;
      key = width_of t.max_key_len;
      count = width_of t.max_versions;
      seq = width_of (t.max_seq - t.min_seq);
      value = value_width_of t.max_value_len;
      checksum = true;
    }

-- the encoding that a builder's totals ask for
unfoldable pub encoding_of : Totals → Encoding
encoding_of t = encoding_with (address_width_of (arena_len_of (encoding_with 4 t) t) t.last_value_offset) t

-- for proofs alone: `unfolding encoding_defs` opens the definitions of this file
unfoldable pub encoding_defs : ℕ
unfolding magic scan_magic width_of value_width_of key_header_len_of version_len_of arena_len_of buckets_of arena_start_of scan_len_of section_len_of tombstone_of address_width_of encoding_with encoding_of when◌then◌else◌ either
encoding_defs = 0

-- and `unfolding length_defs` those of a section's parts alone
unfoldable pub length_defs : ℕ
unfolding buckets_of arena_start_of scan_len_of section_len_of when◌then◌else◌
length_defs = 0
