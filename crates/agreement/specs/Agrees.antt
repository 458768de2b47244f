-- The records of the blocks agree with the arena: questions 14 to 23 in plain terms, for all keys and all versions.
use Rattle.std.specs.Prelude.{◌≡◌, ℕ, suc, ◌+◌, ◌*◌, ◌%◌, ◌^◌, ◌<◌, ◌≤◌, List, [], true, length, get_or}
use Rattle.num.specs.Number.{le_at}
use Rattle.num.specs.Order.{less_than}
use Rattle.crc32.specs.V42.{crc_of}
use Rattle.sstable.specs.declared.Kind.TheVariants.{Put}
use Rattle.block.specs.Walk.{Entry}
use Rattle.point.specs.Hash.{fingerprint_of}
use Rattle.header.specs.declared.Opened.{Opened}
use Rattle.validate.specs.Walk.{value_of}
use Rattle.agreement.specs.Keys.{key_records_end, key_header_size, version_size, address_of, key_header_of, version_count, suffix_place, anchor_index, key_at, key_hash, key_slot, first_version, version_seq, version_kind, version_length, version_offset, version_checksum, prefix_count}

-- stands for a record behind the last one
unfoldable pub no_entry_of : Entry
no_entry_of = record { key = []; seq = 0; kind = Put; place = 0; size = 0 }

-- record r of the list
unfoldable pub entry_at : List Entry → ℕ → Entry
entry_at es r = get_or es r no_entry_of

-- question 16 of key record k, where the key records end at `end`; fewer than n keys come before it
pub record KeyStands (s : List ℕ) (o : Opened) (end k : ℕ) : Type 0 where
  pub header_inside : o.arena + address_of s o k + key_header_size o.encoding ≤ end
  pub anchor_whole : k % 1024 ≡ 0 → (key_header_of s o k).shared ≡ 0
  pub anchor : (key_header_of s o k).anchor ≡ address_of s o (anchor_index k) + key_header_size o.encoding
  pub shared : (key_header_of s o k).shared ≤ (key_header_of s o (anchor_index k)).suffix_len
  pub suffix_inside : suffix_place s o k + (key_header_of s o k).suffix_len ≤ end
  pub some_version : 0 < version_count s o k
  pub versions_inside : suffix_place s o k + (key_header_of s o k).suffix_len + version_count s o k * version_size o.encoding ≤ end
  pub short : (key_header_of s o k).shared + (key_header_of s o k).suffix_len ≤ 1048576

-- question 20 of a record beside version j of key k, but for the order of sequences; a sum of 2^64 or more never agrees
pub record SameVersion (s : List ℕ) (o : Opened) (k j : ℕ) (e : Entry) : Type 0 where
  pub key : e.key ≡ key_at s o k
  pub seq : e.seq ≡ version_seq s o k j
  pub sum : version_seq s o k j < 2 ^ 64
  pub kind : e.kind ≡ version_kind s o k j
  pub size : e.size ≡ version_length s o k j
  pub place : e.place ≡ version_offset s o k j

-- the records, all blocks one behind the other, agree with the arena of n keys, for a key scratch of a length
pub record Agrees (s «data» : List ℕ) (scratch : ℕ) (o : Opened) (es : List Entry) : Type 0 where
  -- question 14
  pub key_limit : (r : ℕ) → r < length es → length (entry_at es r).key ≤ 1048576
  pub value_limit : (r : ℕ) → r < length es → (entry_at es r).size ≤ 16777216
  -- question 15
  pub scratch_half : (r : ℕ) → r < length es → 2 * length (entry_at es r).key ≤ scratch
  -- question 16
  pub keys : (k : ℕ) → k < o.count → KeyStands s o (key_records_end s o) k
  -- question 17
  pub rising : (k : ℕ) → suc k < o.count → less_than (key_at s o k) (key_at s o (suc k)) ≡ true
  -- question 18
  pub scanned : (o.scan ≡ 0 → ⊥) → (k : ℕ) → k < o.count
      → le_at s (o.scan + 24 + k * o.encoding.address) o.encoding.address ≡ address_of s o k
  -- question 19
  pub slot_address : (k : ℕ) → k < o.count → le_at s (key_slot s o k) o.encoding.address ≡ address_of s o k
  pub slot_fingerprint : (k : ℕ) → k < o.count → le_at s (key_slot s o k + o.encoding.address) 2 ≡ fingerprint_of (key_hash s o k)
  -- question 20
  pub versions : (k j : ℕ) → k < o.count → j < version_count s o k
      → SameVersion s o k j (entry_at es (first_version s o k + j))
  pub falling : (k j : ℕ) → k < o.count → suc j < version_count s o k
      → version_seq s o k (suc j) < version_seq s o k j
  -- question 21
  pub checksums : o.encoding.checksum ≡ true → (k j : ℕ) → k < o.count → j < version_count s o k
      → version_checksum s o k j ≡ crc_of (value_of «data» (entry_at es (first_version s o k + j)))
  -- question 22, but for the end of the data
  pub arena_end : o.arena + address_of s o o.count ≡ key_records_end s o
  pub records_end : first_version s o o.count ≡ length es
  -- question 23
  pub prefixes : (o.scan ≡ 0 → ⊥) → le_at s (o.scan + 16) 8 ≡ prefix_count s o o.count
