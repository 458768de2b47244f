-- The key records of the arena and their versions by index, read off the section alone. An address counts from the arena's start; a
-- key record is its key header, its suffix and its versions, one behind the other (document 01, question 6). Document 01's words stand
-- here once more, with its numbers: what the ordered definitions say is proved to be the same.
use Rattle.std.specs.Prelude.{ℕ, zero, suc, ◌+◌, ◌*◌, ◌-◌, ◌/◌, ◌%◌, ◌^◌, List, ◌++◌, Bool, true, not, eqb, leb, length, take, drop}
use Rattle.num.specs.Choice.{when◌then◌else◌}
use Rattle.num.specs.Number.{le_at}
use Rattle.num.specs.Order.{equal_bytes}
use Rattle.sstable.specs.declared.Kind.{Kind}
use Rattle.sstable.specs.declared.Kind.TheVariants.{Put, Tombstone}
use Rattle.point.specs.Hash.{hash_value, slot_of}
use Rattle.encoding.specs.declared.Encoding.{Encoding}
use Rattle.header.specs.declared.Opened.{Opened}
use Rattle.arena.specs.declared.KeyHeader.{KeyHeader}

-- where the key records end (questions 16 and 22): at the last five bytes, or at the scan part
unfoldable pub key_records_end : List ℕ → Opened → ℕ
key_records_end s o = when eqb o.scan 0 then length s - 5 else o.scan

-- the bytes of a key header: anchor, shared length, suffix length, number of versions, in the widths address, key, key, count
unfoldable pub key_header_size : Encoding → ℕ
key_header_size e = e.address + 2 * e.key + e.count

-- the bytes of a version: sequence, value length, value offset, and with checksums the CRC-32
unfoldable pub version_size : Encoding → ℕ
version_size e = e.seq + e.value + e.address + (when e.checksum then 4 else 0)

-- the key header at a place of the section
unfoldable pub key_header_in : List ℕ → Encoding → ℕ → KeyHeader
key_header_in s e at =
    record {
      anchor = le_at s at e.address;
      shared = le_at s (at + e.address) e.key;
      suffix_len = le_at s (at + e.address + e.key) e.key;
      versions = le_at s (at + e.address + 2 * e.key) e.count;
    }

-- the bytes of a key record
unfoldable pub key_record_len : Encoding → KeyHeader → ℕ
key_record_len e h = key_header_size e + h.suffix_len + h.versions * version_size e

-- the address of key record k: the first stands at 0, each other behind the one before
unfoldable pub address_of : List ℕ → Opened → ℕ → ℕ
address_of s o zero = 0
address_of s o (suc k) =
    address_of s o k + key_record_len o.encoding (key_header_in s o.encoding (o.arena + address_of s o k))

-- its key header
unfoldable pub key_header_of : List ℕ → Opened → ℕ → KeyHeader
key_header_of s o k = key_header_in s o.encoding (o.arena + address_of s o k)

-- how many versions it has
unfoldable pub version_count : List ℕ → Opened → ℕ → ℕ
version_count s o k = (key_header_of s o k).versions

-- the place of its suffix in the section
unfoldable pub suffix_place : List ℕ → Opened → ℕ → ℕ
suffix_place s o k = o.arena + address_of s o k + key_header_size o.encoding

-- the index of its anchor: every 1,024th key from key 0 on is one (question 16)
unfoldable pub anchor_index : ℕ → ℕ
anchor_index k = 1024 * (k / 1024)

-- the bytes of key k: what it shares with its anchor's suffix, then its own suffix
unfoldable pub key_at : List ℕ → Opened → ℕ → List ℕ
key_at s o k =
    take (key_header_of s o k).shared (drop (suffix_place s o (anchor_index k)) s)
    ++ take (key_header_of s o k).suffix_len (drop (suffix_place s o k) s)

-- its hash
unfoldable pub key_hash : List ℕ → Opened → ℕ → ℕ
key_hash s o k = hash_value (key_at s o k) o.seed

-- the place of its slot: pilots of 4 bytes stand behind the 64 of the header, the slots, an address and a fingerprint of 2 bytes each,
-- behind them (questions 4 and 19)
unfoldable pub key_slot : List ℕ → Opened → ℕ → ℕ
key_slot s o k =
    64 + 4 * o.buckets
    + slot_of (key_hash s o k) (le_at s (64 + 4 * (key_hash s o k % o.buckets)) 4) o.count * (o.encoding.address + 2)

-- the versions of all keys before key k: its version j is record `first_version k + j`
unfoldable pub first_version : List ℕ → Opened → ℕ → ℕ
first_version s o zero = 0
first_version s o (suc k) = first_version s o k + version_count s o k

-- the place of version j of key k in the section
unfoldable pub version_place : List ℕ → Opened → ℕ → ℕ → ℕ
version_place s o k j = suffix_place s o k + (key_header_of s o k).suffix_len + j * version_size o.encoding

-- its sequence: the least sequence plus the stored number (question 20)
unfoldable pub version_seq : List ℕ → Opened → ℕ → ℕ → ℕ
version_seq s o k j = o.min_seq + le_at s (version_place s o k j) o.encoding.seq

-- the top bit of a value length
unfoldable pub top_bit : Opened → ℕ
top_bit o = 2 ^ (8 * o.encoding.value - 1)

-- its value length with the top bit, which is set for a tombstone
unfoldable pub marked_length : List ℕ → Opened → ℕ → ℕ → ℕ
marked_length s o k j = le_at s (version_place s o k j + o.encoding.seq) o.encoding.value

-- from the top bit on it is a tombstone's
unfoldable pub version_kind : List ℕ → Opened → ℕ → ℕ → Kind
version_kind s o k j = when leb (top_bit o) (marked_length s o k j) then Tombstone else Put

-- the rest is the value length
unfoldable pub version_length : List ℕ → Opened → ℕ → ℕ → ℕ
version_length s o k j = marked_length s o k j % top_bit o

-- its value offset, behind sequence and value length
unfoldable pub version_offset : List ℕ → Opened → ℕ → ℕ → ℕ
version_offset s o k j = le_at s (version_place s o k j + o.encoding.seq + o.encoding.value) o.encoding.address

-- with checksums, the CRC-32 behind them
unfoldable pub version_checksum : List ℕ → Opened → ℕ → ℕ → ℕ
version_checksum s o k j = le_at s (version_place s o k j + o.encoding.seq + o.encoding.value + o.encoding.address) 4

-- the first bytes of key k, as many as the scan part's prefix length says
unfoldable pub prefix_at : List ℕ → Opened → ℕ → List ℕ
prefix_at s o k = take (le_at s (o.scan + 8) 4) (key_at s o k)

-- is the prefix of key k another than that of the key before? The first key's is. (question 23)
unfoldable pub prefix_new : List ℕ → Opened → ℕ → Bool
prefix_new s o zero = true
prefix_new s o (suc k) = not (equal_bytes (prefix_at s o (suc k)) (prefix_at s o k))

-- how often the prefix changes among the first k keys
unfoldable pub prefix_count : List ℕ → Opened → ℕ → ℕ
prefix_count s o zero = 0
prefix_count s o (suc k) = when prefix_new s o k then prefix_count s o k + 1 else prefix_count s o k

-- names all definitions of this file: `unfolding index_defs` opens them
unfoldable pub index_defs : ℕ
unfolding key_records_end key_header_size version_size key_header_in key_record_len address_of key_header_of version_count suffix_place anchor_index key_at key_hash key_slot first_version version_place version_seq top_bit marked_length version_kind version_length version_offset version_checksum prefix_at prefix_new prefix_count
index_defs = 0
