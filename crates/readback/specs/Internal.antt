-- Not on the reading path: what the functions of this crate hand to each other.
use Rattle.std.specs.Prelude.{ℕ, ◌+◌, ◌^◌, ◌≤◌, ◌<◌, Bool, List, [], ◌∷◌, leb, length}
use Rattle.num.specs.Choice.{when◌then◌else◌, both, one_of, choice_defs}
use Rattle.sstable.specs.Limits.{within_limits}
use Rattle.builder.specs.declared.Builder.{Builder}
use Rattle.area.specs.Area.{head_len, area_key_len, area_kind, area_size, area_offset, area_defs}
use Rattle.builder.specs.Add.{max_keys}
use Rattle.readback.specs.ReadBack.{counted_at, version_read, versions_read_for, key_read, same_totals, reads_back_for, reads_back_of}

-- the questions of a version but that of its end
unfoldable pub version_passes : List ℕ → Builder → ℕ → ℕ → Bool → Bool
version_passes area r keyLen place new =
    both (one_of (1 ∷ 2 ∷ []) (area_kind area place))
    (both (within_limits keyLen (area_size area place))
    (both (leb r.totals.last_value_offset (area_offset area place)) (leb (r.totals.keys + (when new then 1 else 0)) max_keys)))

-- the end of the used bytes, in the lent area
pub record LentArea (area : List ℕ) (end : ℕ) : Type 0 where
  pub inside : end ≤ length area
  pub small : end ≤ 2 ^ 30

-- the record of what was read before an end: what it counts takes a byte of the area at least, and its last key and its anchor lie in the part
-- that was read
pub record Running (area : List ℕ) (end : ℕ) (r : Builder) : Type 0 where
  pub inside : r.used ≤ end
  pub keys : r.totals.keys ≤ r.used
  pub versions : r.totals.versions ≤ r.used
  pub suffix_bytes : r.totals.suffix_bytes ≤ r.used
  pub last : 0 < r.totals.keys → r.last_key + head_len + area_key_len area r.last_key ≤ r.used
  pub anchor : 0 < r.totals.keys → r.anchor + head_len + area_key_len area r.anchor ≤ r.used

-- for proofs alone: what a version is asked, what reading one and a key answers, and what is compared at the end
unfoldable pub passing_defs : ℕ
unfolding version_passes area_defs choice_defs
passing_defs = 0

unfoldable pub version_defs : ℕ
unfolding version_read counted_at version_passes area_defs choice_defs
version_defs = 0

unfoldable pub key_defs : ℕ
unfolding key_read versions_read_for area_defs choice_defs
key_defs = 0

unfoldable pub back_defs : ℕ
unfolding reads_back_of reads_back_for same_totals choice_defs
back_defs = 0
