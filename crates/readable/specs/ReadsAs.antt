-- Question 37 of writing in plain terms (document 01, "Building"): "does the area read back, each entry by 30 to 34, to the record's totals,
-- sequence bounds and last offset?"
use Rattle.std.specs.Prelude.{◌≡◌, true, ◌↔◌, List, ℕ, suc, ◌^◌, ◌<◌, ◌≤◌, length, get_or, take}
use Rattle.num.specs.Number.{Bytes}
use Rattle.builder.specs.declared.Builder.{Builder}
use Rattle.readback.specs.ReadBack.{reads_back_of}
use Rattle.written.specs.Arena.{KeyGroup, no_stored, group_key, group_versions, group_version}
use Rattle.writer.specs.Write.{groups_in}
use Rattle.building.specs.Taken.{area_of, versions_of, group_totals}

-- the offset of version k, counted over all keys in their order
unfoldable pub offset_of : List KeyGroup → ℕ → ℕ
offset_of gs k = (get_or (versions_of gs) k no_stored).offset

-- key groups whose entries pass
pub record EntriesPass (gs : List KeyGroup) : Type 0 where
  -- 30: keys and values are within the limits
  pub key_limit : (i : ℕ) → i < length gs → length (group_key gs i) ≤ 1048576
  pub value_limit : (i j : ℕ) → i < length gs → j < length (group_versions gs i) → (group_version gs i j).size ≤ 16777216
  -- 31: a key is counted with its first entry, so none is without a version
  pub some_version : (i : ℕ) → i < length gs → 0 < length (group_versions gs i)
  -- 32: offsets do not fall
  pub rising : (k : ℕ) → suc k < length (versions_of gs) → offset_of gs k ≤ offset_of gs (suc k)
  -- 33: the keys are not too many
  pub few : length gs ≤ 1048576
  -- sequences and offsets are numbers of 8 bytes, checksums of 4: the area holds them whole
  pub seq : (i j : ℕ) → i < length gs → j < length (group_versions gs i) → (group_version gs i j).seq < 2 ^ 64
  pub offset : (i j : ℕ) → i < length gs → j < length (group_versions gs i) → (group_version gs i j).offset < 2 ^ 64
  pub checksum : (i j : ℕ) → i < length gs → j < length (group_versions gs i) → (group_version gs i j).checksum < 2 ^ 32

-- the used bytes lie in the area and are those of key groups, nothing between them or behind, the groups' entries pass, and the record's
-- totals, sequence bounds and last offset are the groups'
pub record ReadsAs (area : List ℕ) (b : Builder) (gs : List KeyGroup) : Type 0 where
  pub inside : b.used ≤ length area
  pub used : take b.used area ≡ area_of gs
  pub entries : EntriesPass gs
  pub totals : b.totals ≡ group_totals gs

-- an area of bytes reads back to a record exactly if there are such key groups; that no more than 2^30 bytes are used (34) is asked before, by
-- size's 37
unfoldable pub ReadsBackExactly : Type 0
ReadsBackExactly =
    (area : List ℕ) (b : Builder) → Bytes area → b.used ≤ 2 ^ 30 → (reads_back_of area b ≡ true) ↔ ((gs : List KeyGroup) × ReadsAs area b gs)

-- there is one such list of key groups at most, and it is the one that writing takes from the area
unfoldable pub ReadsAsWritten : Type 0
ReadsAsWritten =
    (area : List ℕ) (b : Builder) (gs : List KeyGroup) → b.used ≤ 2 ^ 30 → ReadsAs area b gs → groups_in area b.totals.keys ≡ gs
