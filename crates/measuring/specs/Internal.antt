-- Not on the reading path: what the record of the keys read so far says of them.
use Rattle.std.specs.Prelude.{ℕ, ◌%◌, ◌^◌, ◌<◌, ◌≤◌, ◌≡◌, List, length}
use Rattle.num.specs.Number.{le_at}
use Rattle.sstable.specs.Limits.{max_key_bytes, max_value_bytes}
use Rattle.encoding.specs.declared.Totals.{Totals}
use Rattle.encoding.specs.Encoding.{group}
use Rattle.area.specs.Area.{area_versions, area_key, area_size, area_offset}
use Rattle.builder.specs.declared.Builder.{Builder}
use Rattle.builder.specs.Add.{max_keys}
use Rattle.readback.specs.Places.{area_version_at, head_at_of}
use Rattle.written.specs.Arena.{group_anchor, suffixes_before}
use Rattle.written.specs.Internal.{versions_before}
use Rattle.writer.specs.Write.{groups_in}

-- the version at a place is counted, and the bounds of the totals hold it
pub record VersionWithin (area : List ℕ) (t : Totals) (place : ℕ) : Type 0 where
  pub counted : 0 < t.versions
  pub least : t.min_seq ≤ le_at area place 8
  pub greatest : le_at area place 8 ≤ t.max_seq
  pub size : area_size area place ≤ t.max_value_len
  pub size_limit : area_size area place ≤ max_value_bytes
  pub offset : area_offset area place ≤ t.last_value_offset

-- so is the key whose head stands at a place, with all its versions
pub record KeyWithin (area : List ℕ) (t : Totals) (head : ℕ) : Type 0 where
  pub key_len : length (area_key area head) ≤ t.max_key_len
  pub key_limit : length (area_key area head) ≤ max_key_bytes
  pub some_version : 0 < area_versions area head
  pub most : area_versions area head ≤ t.max_versions
  pub versions : (j : ℕ) → j < area_versions area head → VersionWithin area t (area_version_at area head j)

-- later totals hold what earlier ones did; the least sequence is one from the first version on
pub record Wider (t u : Totals) : Type 0 where
  pub versions : t.versions ≤ u.versions
  pub least : 0 < t.versions → u.min_seq ≤ t.min_seq
  pub greatest : t.max_seq ≤ u.max_seq
  pub key_len : t.max_key_len ≤ u.max_key_len
  pub size : t.max_value_len ≤ u.max_value_len
  pub most : t.max_versions ≤ u.max_versions
  pub offset : t.last_value_offset ≤ u.last_value_offset

-- numbers of 64 bits
pub record Whole (t : Totals) : Type 0 where
  pub greatest : t.max_seq < 2 ^ 64
  pub offset : t.last_value_offset < 2 ^ 64

-- the record of the first n keys: its sums are those of the groups, however many follow, and the next key's anchor is known unless that key
-- is one itself
pub record KeysMeasured (area : List ℕ) (n : ℕ) (r : Builder) : Type 0 where
  pub keys : r.totals.keys ≡ n
  pub few : n ≤ max_keys
  pub used : r.used ≡ head_at_of area n
  pub anchor : (n % group ≡ 0 → ⊥) → r.anchor ≡ head_at_of area (group_anchor n)
  pub versions : (all : ℕ) → n ≤ all → r.totals.versions ≡ versions_before (groups_in area all) n
  pub suffixes : (all : ℕ) → n ≤ all → r.totals.suffix_bytes ≡ suffixes_before (groups_in area all) n
  pub whole : Whole r.totals
  pub each : (i : ℕ) → i < n → KeyWithin area r.totals (head_at_of area i)
