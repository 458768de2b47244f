-- Writing a section from the builder's area: questions 35 to 40 (document 01, "Building").
use Rattle.std.specs.Prelude.{ℕ, zero, suc, ◌+◌, ◌*◌, Bool, List, [], ◌∷◌, eqb, leb, ltb, get_or, Result, Ok, Err}
use Rattle.std.proofs.lemmas.List.Edits.{sets}
use Rattle.num.specs.Choice.{when◌then◌else◌, ask◌otherwise◌then◌, both}
use Rattle.num.specs.Number.{le_at}
use Rattle.refusal.specs.declared.Refusal.{Refusal}
use Rattle.refusal.specs.declared.Refusal.TheVariants as refusal
use Rattle.sstable.specs.declared.Kind.TheVariants.{Put, Tombstone}
use Rattle.encoding.specs.Encoding.{max_scan_prefix, encoding_of, section_len_of}
use Rattle.area.specs.Area.{area_version_len, area_versions, area_key, first_version_at, next_head, area_kind, area_size, area_offset, area_checksum, keys_in_of}
use Rattle.builder.specs.declared.Builder.{Builder}
use Rattle.builder.specs.Record.{sizeable}
use Rattle.readback.specs.ReadBack.{reads_back_of}
use Rattle.construction.specs.Construct.{Constructed, construct_of}
use Rattle.written.specs.Arena.{StoredVersion, KeyGroup}
use Rattle.written.specs.Section.{section_bytes}

-- ---- the area's keys with their versions

-- the version at a place; kind byte 2 is a tombstone's
unfoldable pub stored_at : List ℕ → ℕ → StoredVersion
stored_at area place =
    record {
      seq = le_at area place 8;
      kind = when eqb (area_kind area place) 2 then Tombstone else Put;
      size = area_size area place;
      offset = area_offset area place;
      checksum = area_checksum area place;
    }

-- so many versions from a place on
unfoldable pub stored_from : ℕ → List ℕ → ℕ → List StoredVersion
stored_from zero area place = []
stored_from (suc count) area place = stored_at area place ∷ stored_from count area (place + area_version_len)

-- the key whose head stands at a place, with its versions
unfoldable pub group_at_of : List ℕ → ℕ → KeyGroup
group_at_of area head = record { key = area_key area head; versions = stored_from (area_versions area head) area (first_version_at area head) }

-- so many keys, the first of whose heads stands at a place
unfoldable pub groups_from : ℕ → List ℕ → ℕ → List KeyGroup
groups_from zero area head = []
groups_from (suc count) area head = group_at_of area head ∷ groups_from count area (next_head area head)

-- the first keys of the area
unfoldable pub groups_in : List ℕ → ℕ → List KeyGroup
groups_in area count = groups_from count area 0

-- ---- the questions

-- question 38: scratch of n 64-bit and 6n + 8 32-bit numbers?
unfoldable pub scratch_enough : ℕ → ℕ → ℕ → Bool
scratch_enough n room64 room32 = both (leb n room64) (leb (6 * n + 8) room32)

-- the section's bytes, by what construction gives; 40 is construction's
unfoldable pub section_for : List ℕ → Builder → ℕ → Result Constructed Refusal → Result (List ℕ) Refusal
section_for area b prefix (Err e) = Err e
section_for area b prefix (Ok c) =
    Ok
    (section_bytes (encoding_of b.totals) c.seed b.totals.min_seq (groups_in area b.totals.keys)
    (λ x. get_or c.placement.pilots x 0) (λ m. get_or c.placement.slots m 0) prefix)

-- the section that is written with a scan prefix, with scratches and an output of these lengths
unfoldable pub write_of : List ℕ → Builder → ℕ → ℕ → ℕ → ℕ → Result (List ℕ) Refusal
write_of area b prefix room64 room32 room =
    ask leb prefix max_scan_prefix otherwise Err refusal.PrefixLong then  -- 35
    ask ltb 0 b.totals.keys otherwise Err refusal.NoKey then  -- 36
    ask both (sizeable b) (reads_back_of area b) otherwise Err refusal.Builder then  -- 37
    ask scratch_enough b.totals.keys room64 room32 otherwise Err refusal.BuildScratch then  -- 38
    ask leb (section_len_of (encoding_of b.totals) b.totals prefix) room otherwise Err refusal.SectionRoom then  -- 39
    section_for area b prefix (construct_of (keys_in_of area b.totals.keys))

-- the output behind writing: nothing is written on a refusal, and places past the section keep what they held
unfoldable pub section_written : Result (List ℕ) Refusal → List ℕ → List ℕ
section_written (Ok s) before = sets before 0 s
section_written (Err e) before = before

-- for proofs alone: `unfolding write_defs` opens the definitions of this file
unfoldable pub write_defs : ℕ
unfolding stored_at stored_from group_at_of groups_from groups_in scratch_enough section_for write_of section_written
write_defs = 0
