-- Not on the reading path: what the writers ask of what they are lent, and what they leave.
use Rattle.std.specs.Prelude.{◌≡◌, List, ◌++◌, ℕ, ◌+◌, ◌*◌, ◌^◌, ◌<◌, ◌≤◌, length, get_or, take, drop}
use Rattle.num.specs.Internal.{RegionHolds}
use Rattle.encoding.specs.declared.Totals.{Totals}
use Rattle.encoding.specs.declared.Encoding.{Encoding}
use Rattle.encoding.specs.Encoding.{magic, scan_header_len, buckets_of, arena_start_of, arena_len_of, section_len_of}
use Rattle.construction.specs.Scratch.{indices_at, placement_in}
use Rattle.construct.specs.Keys.{KeysStand}
use Rattle.written.specs.Joined.{fields_bytes}
use Rattle.written.specs.Arena.{GroupsFit}
use Rattle.written.specs.Section.{pilots_bytes, prologue_fields}
use Rattle.written.specs.Internal.{Measured}
use Rattle.writer.specs.Write.{groups_in}
use Rattle.keyrecords.specs.Internal.{ArenaAsked}
use Rattle.tables.specs.Internal.{listed_slots, Addressed, HashedUnder}

-- ---- the arena

-- the tails of the scratch and of the output from these places on are what the arena's writer asks for
pub record ArenaLent (area : List ℕ) (count : ℕ) (e : Encoding) (least indices : ℕ) (scratch : List ℕ) (arena : ℕ) (output : List ℕ) : Type 0 where
  pub asked : ArenaAsked area count e least (drop indices scratch) (drop arena output)
  pub indices_inside : indices ≤ length scratch
  pub arena_inside : arena ≤ length output

-- n numbers were noted at a place, and all before it is kept
pub record Noted (at n : ℕ) (f : ℕ → ℕ) (before after : List ℕ) : Type 0 where
  pub size : length after ≡ length before
  pub numbers : RegionHolds after at 0 n f
  pub kept : take at after ≡ take at before

-- ---- the tables

-- the addresses of n keys, behind the slots
unfoldable pub addresses_in : ℕ → List ℕ → List ℕ
addresses_in n s = take n (drop (indices_at n) s)

-- header, pilots and slots from what stands in the scratch
unfoldable pub tables_bytes : Encoding → ℕ → ℕ → ℕ → ℕ → List ℕ → List ℕ → List ℕ
tables_bytes e seed least n prefix hashes s =
    (magic ++ fields_bytes (prologue_fields e seed least n prefix))
    ++ (pilots_bytes (λ x. get_or (placement_in n s).pilots x 0) (buckets_of n) ++ listed_slots e.address (placement_in n s).slots (addresses_in n s) hashes)

pub record TablesAsked (e : Encoding) (n : ℕ) (hashes scratch output : List ℕ) : Type 0 where
  pub few : n ≤ 2 ^ 20
  pub places : 6 * n + 8 ≤ length scratch
  pub hashed : n ≤ length hashes
  pub slots : (m : ℕ) → m < n → get_or (placement_in n scratch).slots m 0 < n
  pub room : arena_start_of n e.address ≤ length output

-- ---- the scan part

pub record ScanAsked (area : List ℕ) (count : ℕ) (e : Encoding) (prefix : ℕ) (addresses output : List ℕ) : Type 0 where
  pub some : 1 ≤ count
  pub keys_stand : KeysStand area count
  pub addressed : Addressed e (groups_in area count) addresses
  pub each : length addresses ≡ count
  pub room : 0 < prefix → scan_header_len + count * e.address + 8 ≤ length output

-- ---- the section

-- totals counted of the area's keys, an encoding that their numbers fit, a key in each slot, the hashes of the keys,
-- and room
pub record SectionAsked (area : List ℕ) (t : Totals) (e : Encoding) (prefix seed : ℕ) (hashes scratch output : List ℕ) : Type 0 where
  pub some : 1 ≤ t.keys
  pub few : t.keys ≤ 2 ^ 20
  pub keys_stand : KeysStand area t.keys
  pub measured : Measured t (groups_in area t.keys)
  pub fits : GroupsFit e t.min_seq (groups_in area t.keys)
  pub narrow : arena_len_of e t < 2 ^ 32
  pub places : 6 * t.keys + 8 ≤ length scratch
  pub slots : (m : ℕ) → m < t.keys → get_or (placement_in t.keys scratch).slots m 0 < t.keys
  pub hashed : t.keys ≤ length hashes
  pub hash_of : HashedUnder seed (groups_in area t.keys) hashes
  pub room : section_len_of e t prefix ≤ length output

-- for proofs alone: where the tables stand
unfoldable pub place_defs : ℕ
unfolding indices_at arena_start_of buckets_of
place_defs = 0
