-- What is written opens and packs (promise P4, from the key groups on).
use Rattle.std.specs.Prelude.{◌≡◌, true, List, [], ◌∷◌, ℕ, suc, ◌*◌, ◌^◌, ◌<◌, ◌≤◌, length, Ok}
use Rattle.num.specs.Order.{less_than}
use Rattle.crc32.specs.V42.{crc_of}
use Rattle.sstable.specs.Limits.{max_key_bytes, max_value_bytes}
use Rattle.block.specs.Walk.{Entry}
use Rattle.point.specs.Hash.{bucket_of, slot_of, is_direct, direct_slot}
use Rattle.encoding.specs.declared.Encoding.{Encoding}
use Rattle.encoding.specs.Encoding.{max_scan_prefix, buckets_of}
use Rattle.header.specs.declared.Opened.{Opened}
use Rattle.header.specs.Header.{packed_record}
use Rattle.validate.specs.Walk.{value_of}
use Rattle.opening.specs.Open.{open_of}
use Rattle.packed.specs.Packed.{packed_bytes}
use Rattle.packing.specs.Packing.{packed_as, open_packed_of}
use Rattle.admission.specs.Blocks.{Covers, store_entries}
use Rattle.written.specs.Joined.{joined}
use Rattle.written.specs.Arena.{StoredVersion, KeyGroup, group_key, group_versions, group_version, GroupsFit}
use Rattle.written.specs.Section.{group_hash, section_bytes, written_record}

-- ---- what is written from

-- keys rise, the sequences of a key fall, and both limits of question 14 are kept
pub record GroupsInOrder (gs : List KeyGroup) : Type 0 where
  pub rising : (i : ℕ) → suc i < length gs → less_than (group_key gs i) (group_key gs (suc i)) ≡ true
  pub falling : (i j : ℕ) → i < length gs → suc j < length (group_versions gs i)
      → (group_version gs i (suc j)).seq < (group_version gs i j).seq
  pub key_limit : (i : ℕ) → i < length gs → length (group_key gs i) ≤ max_key_bytes
  pub value_limit : (i j : ℕ) → i < length gs → j < length (group_versions gs i) → (group_version gs i j).size ≤ max_value_bytes

-- the slot of key i, by the pilot of its bucket
unfoldable pub group_slot : ℕ → ℕ → List KeyGroup → (ℕ → ℕ) → ℕ → ℕ
group_slot seed buckets gs pilot i =
    slot_of (group_hash seed gs i) (pilot (bucket_of (group_hash seed gs i) buckets)) (length gs)

-- each key owns its slot; pilots have 32 bits, and a direct one's slot is below n (question 10)
pub record SlotsOwned (seed buckets : ℕ) (gs : List KeyGroup) (pilot owner : ℕ → ℕ) : Type 0 where
  pub narrow : (b : ℕ) → b < buckets → pilot b < 2 ^ 32
  pub direct : (b : ℕ) → b < buckets → is_direct (pilot b) ≡ true → direct_slot (pilot b) < length gs
  pub owned : (i : ℕ) → i < length gs → owner (group_slot seed buckets gs pilot i) ≡ i

-- groups in order whose numbers fit, with slots owned, a count that question 4 allows and a scan prefix that question 6 does
pub record Writable (e : Encoding) (seed least : ℕ) (gs : List KeyGroup) (pilot owner : ℕ → ℕ) (prefix : ℕ) : Type 0 where
  pub fits : GroupsFit e least gs
  pub ordered : GroupsInOrder gs
  pub slots : SlotsOwned seed (buckets_of (length gs)) gs pilot owner
  pub seed_fits : seed < 2 ^ 64
  pub some : 1 ≤ length gs
  pub few : length gs < 2 ^ 31
  pub prefix_short : prefix ≤ max_scan_prefix

-- questions 7 and 8
pub record Packable (e : Encoding) (gs : List KeyGroup) (pilot : ℕ → ℕ) : Type 0 where
  pub checksums : e.checksum ≡ true
  pub few : length gs < 2 ^ 23
  pub pilots : (b : ℕ) → b < buckets_of (length gs) → direct_slot (pilot b) < 2 ^ 23

-- ---- what it opens beside

-- the record of a version
unfoldable pub group_entry : List ℕ → StoredVersion → Entry
group_entry key v = record { key = key; seq = v.seq; kind = v.kind; place = v.offset; size = v.size }

-- those of key i
unfoldable pub group_entries : List KeyGroup → ℕ → List Entry
group_entries gs i = joined (λ j. group_entry (group_key gs i) (group_version gs i j) ∷ []) (length (group_versions gs i))

-- those of all keys
unfoldable pub entries_of_groups : List KeyGroup → List Entry
entries_of_groups gs = joined (group_entries gs) (length gs)

-- blocks that cover the data (11 to 13, 22) and hold just the records of the groups, with the checksums of their values, and a key
-- scratch of which each key takes at most half (15)
pub record BesideGroups («data» blocks : List ℕ) (scratch : ℕ) (gs : List KeyGroup) : Type 0 where
  pub covers : Covers «data» blocks
  pub just : store_entries «data» blocks ≡ entries_of_groups gs
  pub checksums : (i j : ℕ) → i < length gs → j < length (group_versions gs i)
      → (group_version gs i j).checksum ≡ crc_of (value_of «data» (group_entry (group_key gs i) (group_version gs i j)))
  pub scratch_half : (i : ℕ) → i < length gs → 2 * length (group_key gs i) ≤ scratch

-- ---- the promise

-- a section opens as a record
unfoldable pub OpensAs : List ℕ → List ℕ → List ℕ → ℕ → Opened → Type 0
OpensAs s «data» blocks scratch o = open_of s «data» blocks scratch ≡ Ok o

-- it packs into every output that holds the packed bytes (9)
unfoldable pub PacksAs : List ℕ → List ℕ → List ℕ → ℕ → Opened → Type 0
PacksAs s «data» blocks scratch o =
    (room : ℕ) → length (packed_bytes s o) ≤ room → open_packed_of s «data» blocks scratch room ≡ packed_as (packed_record o) (packed_bytes s o)

-- a section that is written from groups in order, with slots owned, opens beside data and blocks that hold just their records, as the
-- record that its header says; and it packs if 7 and 8 are answered with yes
unfoldable pub WrittenOpens : Type 0
WrittenOpens =
    (e : Encoding) (seed least : ℕ) (gs : List KeyGroup) (pilot owner : ℕ → ℕ) (prefix : ℕ) → Writable e seed least gs pilot owner prefix
    → («data» blocks : List ℕ) (scratch : ℕ) → BesideGroups «data» blocks scratch gs
    → OpensAs (section_bytes e seed least gs pilot owner prefix) «data» blocks scratch (written_record e seed least gs pilot owner prefix)
    × (Packable e gs pilot → PacksAs (section_bytes e seed least gs pilot owner prefix) «data» blocks scratch (written_record e seed least gs pilot owner prefix))

-- for proofs alone: `unfolding opens_defs` opens the definitions of this file
unfoldable pub opens_defs : ℕ
unfolding group_slot group_entry group_entries entries_of_groups OpensAs PacksAs WrittenOpens
opens_defs = 0
