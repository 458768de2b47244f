-- Questions 3 to 7 and 24 in plain terms, as facts of a section and a record. Document 01's words stand here once more, with its
-- numbers: what the ordered definitions say is proved to be the same.
use Rattle.std.specs.Prelude.{◌≡◌, ◌↔◌, true, false, List, [], ◌∷◌, ℕ, ◌+◌, ◌*◌, ◌-◌, ◌/◌, ◌%◌, ◌^◌, ◌<◌, ◌≤◌, length, take, drop}
use Rattle.num.specs.Number.{le_at}
use Rattle.encoding.specs.Encoding.{Widths}
use Rattle.header.specs.declared.Opened.{Opened}

-- question 3; the eight bytes are `KIBANPH3`
pub record Begins (s : List ℕ) : Type 0 where
  pub long : 69 ≤ length s
  pub magic : take 8 s ≡ 75 ∷ 73 ∷ 66 ∷ 65 ∷ 78 ∷ 80 ∷ 72 ∷ 51 ∷ []

-- question 4: where the header has each number of the record, but for the arena start; flag 1 says that versions have checksums
pub record Numbers (s : List ℕ) (o : Opened) : Type 0 where
  pub seed : o.seed ≡ le_at s 8 8
  pub count : o.count ≡ le_at s 16 4
  pub buckets : o.buckets ≡ le_at s 20 4
  pub address : o.encoding.address ≡ le_at s 32 4
  pub key : o.encoding.key ≡ le_at s 36 4
  pub versions : o.encoding.count ≡ le_at s 40 4
  pub seq : o.encoding.seq ≡ le_at s 44 4
  pub value : o.encoding.value ≡ le_at s 48 4
  pub checksum : (o.encoding.checksum ≡ true) ↔ (le_at s 52 4 % 2 ≡ 1)
  pub least : o.min_seq ≡ le_at s 56 8

-- question 4, of a record's counts and widths
pub record Dimensions (o : Opened) : Type 0 where
  pub some : 1 ≤ o.count
  pub few : o.count < 2 ^ 31
  pub halved : o.buckets ≡ (o.count + 1) / 2
  pub widths : Widths o.encoding

-- questions 5 and 6, of a record with a scan place
pub record Scan (s : List ℕ) (o : Opened) : Type 0 where
  -- 5; the eight bytes are `KIBANSC1`
  pub stored : le_at s (length s - 13) 8 ≡ 24 + o.count * o.encoding.address
  pub place : o.scan + (24 + o.count * o.encoding.address) + 8 + 5 ≡ length s
  pub after : o.arena < o.scan
  pub magic : take 8 (drop o.scan s) ≡ 75 ∷ 73 ∷ 66 ∷ 65 ∷ 78 ∷ 83 ∷ 67 ∷ 49 ∷ []
  -- 6
  pub prefix_some : 1 ≤ le_at s (o.scan + 8) 4
  pub prefix_short : le_at s (o.scan + 8) 4 ≤ 24
  pub stride : le_at s (o.scan + 12) 4 ≡ 32
  pub prefixes_some : 1 ≤ le_at s (o.scan + 16) 8
  pub prefixes_few : le_at s (o.scan + 16) 8 ≤ o.count

-- questions 3 to 6: the section's header gives this record
pub record Header (s : List ℕ) (o : Opened) : Type 0 where
  pub plain : o.packed ≡ false
  -- 3
  pub begins : Begins s
  -- 4
  pub numbers : Numbers s o
  pub dimensions : Dimensions o
  pub flags : le_at s 52 4 ≤ 3
  pub stored : o.arena ≡ le_at s 24 8
  pub start : o.arena ≡ 64 + 4 * o.buckets + o.count * (o.encoding.address + 2)
  pub below : o.arena < length s - 5
  -- 5 and 6, asked with flag 2
  pub scanned : 2 ≤ le_at s 52 4 → Scan s o
  pub unscanned : le_at s 52 4 < 2 → o.scan ≡ 0

-- question 24 of a packed record: the section's header gives this record, whose arena start is not the header's
pub record PackedHeader (s : List ℕ) (o : Opened) : Type 0 where
  pub packed : o.packed ≡ true
  -- 3
  pub begins : Begins s
  -- 4
  pub numbers : Numbers s o
  pub dimensions : Dimensions o
  pub flags : le_at s 52 4 ≤ 3
  pub stored : le_at s 24 8 ≡ 64 + 4 * o.buckets + o.count * (o.encoding.address + 2)
  pub start : o.arena ≡ 64 + 3 * o.buckets + o.count * o.encoding.address
  pub below : o.arena < length s - 5
  pub unscanned : o.scan ≡ 0
  -- 7
  pub checksums : o.encoding.checksum ≡ true
  pub few : o.count < 2 ^ 23

-- question 24
pub data IsRecord (s : List ℕ) (o : Opened) : Type 0 where
  from_plain : Header s o → IsRecord s o
  from_packed : PackedHeader s o → IsRecord s o
