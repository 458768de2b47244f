-- Not on the reading path: what writing the arena asks of the builder's area and of the slices that it is lent, and a
-- key record by the place of the key's head.
use Rattle.std.specs.Prelude.{List, ◌++◌, ℕ, ◌+◌, ◌*◌, ◌-◌, ◌^◌, ◌<◌, ◌≤◌, length, drop}
use Rattle.encoding.specs.declared.Encoding.{Encoding}
use Rattle.encoding.specs.Encoding.{key_header_len_of, version_len_of}
use Rattle.area.specs.Area.{area_key_len, area_versions, area_key, first_version_at, keys_end}
use Rattle.written.specs.Joined.{fields_bytes}
use Rattle.written.specs.Arena.{key_header_fields, stored_bytes, arena_written, GroupsFit}
use Rattle.writer.specs.Write.{stored_from, groups_in}
use Rattle.keyversions.specs.Internal.{VersionsStand}

-- the key whose head stands at a place lies in the area with its versions, none of which has a sequence below the least
abbrev pub KeyVersionsStand : List ℕ → ℕ → ℕ → Type 0
KeyVersionsStand area head least = VersionsStand area (first_version_at area head) (area_versions area head) least

-- its key record, with the anchor's address and the number of bytes shared with the anchor
unfoldable pub key_record_bytes : Encoding → ℕ → List ℕ → ℕ → ℕ → ℕ → List ℕ
key_record_bytes e least area head anchor shared =
    fields_bytes
    (key_header_fields
    e
    record { anchor = anchor; shared = shared; suffix_len = area_key_len area head - shared; versions = area_versions area head })
    ++ (drop shared (area_key area head) ++ stored_bytes e least (stored_from (area_versions area head) area (first_version_at area head)))

unfoldable pub key_record_size : Encoding → List ℕ → ℕ → ℕ → ℕ
key_record_size e area head shared = key_header_len_of e + (area_key_len area head - shared) + area_versions area head * version_len_of e

-- the keys lie in the area, their numbers fit, and there is room for the arena and for the addresses, which have 32
-- bits
pub record ArenaAsked (area : List ℕ) (count : ℕ) (e : Encoding) (least : ℕ) (addresses output : List ℕ) : Type 0 where
  pub inside : keys_end count area 0 ≤ length area
  pub fits : GroupsFit e least (groups_in area count)
  pub room : length (arena_written e least (groups_in area count)) ≤ length output
  pub narrow : length (arena_written e least (groups_in area count)) < 2 ^ 32
  pub places : count ≤ length addresses
