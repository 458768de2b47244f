-- The keys of the area by index: the place of each head, the group that stands there, and its key record.
-- Assumes nothing.
use mathlib.Core.Path.{◌≡◌, refl, ap, ap₂, ◌∙◌}
use mathlib.Core.List.{List}
use Prim.Native.Nat.{ℕ, zero, suc, ◌+◌, ◌*◌, ◌-◌, ◌%◌, ◌<◌, ◌≤◌}
use native.Mathlib.Nat.{not-suc-le-zero, zero-add, suc-add}
use native.Mathlib.Omega.{arith}
use lib.Dec.{eqb}
use lib.ListN.{length, get_or}
use Rattle.num.specs.Choice.{when◌then◌else◌}
use Rattle.num.specs.Number.{le_at}
use Rattle.num.specs.Order.{common_prefix_len}
use Rattle.encoding.specs.declared.Encoding.{Encoding}
use Rattle.encoding.specs.Encoding.{group, key_header_len_of}
use Rattle.area.specs.Area.{area_version_len, area_key_len, area_versions, area_key, first_version_at, next_head, keys_end}
use Rattle.area.proofs.Heads.{keys_next, keys_rise}
use Rattle.written.specs.Arena.{StoredVersion, KeyGroup, no_stored, no_group, group_key, group_versions, group_version, group_anchor, group_shared, group_suffix, group_address, group_header, group_bytes, GroupsFit}
use Rattle.written.proofs.Arena.{suffix_length}
use Rattle.writer.specs.Write.{stored_at, stored_from, group_at_of, groups_from, groups_in}
use Rattle.writer.proofs.Groups.{stored_length, stored_index, groups_length}
use Rattle.keyrecords.specs.Internal.{KeyVersionsStand, key_record_bytes, key_record_size}
use Rattle.keyrecords.proofs.Records.{key_length}

-- ---- the groups

groups_index : (n : ℕ) (area : List ℕ) (head i : ℕ) → i < n → get_or (groups_from n area head) i no_group ≡ group_at_of area (keys_end i area head)
unfolding groups_from keys_end
groups_index zero area head i h = absurd (not-suc-le-zero h)
groups_index (suc n) area head zero h = refl
groups_index (suc n) area head (suc i) h = groups_index n area (next_head area head) i (omega arith)

-- addresses do not fall
address_more : (e : Encoding) (gs : List KeyGroup) (i d : ℕ) → group_address e gs i ≤ group_address e gs (d + i)
unfolding group_address
address_more e gs i zero = let z = ap (group_address e gs) (zero-add i) in omega arith
address_more e gs i (suc d) = let z : group_address e gs (suc d + i) ≡ group_address e gs (suc (d + i)) = ap (group_address e gs) (suc-add d i) in omega (arith, address_more e gs i d)

pub addresses_rise : (e : Encoding) (gs : List KeyGroup) (i n : ℕ) → i ≤ n → group_address e gs i ≤ group_address e gs n
addresses_rise e gs i n h =
    let m : n - i + i ≡ n = omega arith in
    omega (arith, address_more e gs i (n - i), ap (group_address e gs) m)

module _ (area : List ℕ) (count : ℕ) where
  pub groups_count : length (groups_in area count) ≡ count
  unfolding groups_in
  groups_count = groups_length count area 0

  module _ (i : ℕ) (h : i < count) where
    group_at : get_or (groups_in area count) i no_group ≡ group_at_of area (keys_end i area 0)
    unfolding groups_in
    group_at = groups_index count area 0 i h

    group-key : group_key (groups_in area count) i ≡ area_key area (keys_end i area 0)
    unfolding group_key group_at_of
    group-key = ap (λ (g : KeyGroup). g.key) group_at

    group-versions : group_versions (groups_in area count) i ≡ stored_from (area_versions area (keys_end i area 0)) area (first_version_at area (keys_end i area 0))
    unfolding group_versions group_at_of
    group-versions = ap (λ (g : KeyGroup). g.versions) group_at

    versions_count : length (group_versions (groups_in area count) i) ≡ area_versions area (keys_end i area 0)
    versions_count = ap length group-versions ∙ stored_length (area_versions area (keys_end i area 0)) area (first_version_at area (keys_end i area 0))

    -- the sequence of version j
    version_seq_lem : (j : ℕ) → j < area_versions area (keys_end i area 0)
        → (group_version (groups_in area count) i j).seq ≡ le_at area (first_version_at area (keys_end i area 0) + area_version_len * j) 8
    unfolding group_version stored_at
    version_seq_lem j l =
        ap (λ (vs : List StoredVersion). (get_or vs j no_stored).seq) group-versions
        ∙ ap (λ (v : StoredVersion). v.seq) (stored_index (area_versions area (keys_end i area 0)) area (first_version_at area (keys_end i area 0)) j l)

    module _ (inside : keys_end count area 0 ≤ length area) where
      -- a key lies in the area with its versions
      pub next_inside : next_head area (keys_end i area 0) ≤ length area
      next_inside = omega (arith, keys_next i area 0, keys_rise (suc i) count area 0 h)

      pub first_inside : first_version_at area (keys_end i area 0) ≤ length area
      unfolding next_head
      first_inside = let n = next_inside in omega arith

      pub key_stands : {e : Encoding} {least : ℕ} → GroupsFit e least (groups_in area count) → KeyVersionsStand area (keys_end i area 0) least
      unfolding next_head
      key_stands fits =
          record {
            inside = next_inside;
            least_first = λ j l. let m = versions_count in let n = groups_count in omega (arith, version_seq_lem j l, (fits.versions i j (omega arith) (omega arith)).least_first);
          }

      length_key : length (group_key (groups_in area count) i) ≡ area_key_len area (keys_end i area 0)
      length_key = ap length group-key ∙ key_length area (keys_end i area 0) first_inside

      length-suffix : length (group_suffix (groups_in area count) i) ≡ area_key_len area (keys_end i area 0) - group_shared (groups_in area count) i
      length-suffix = let n = suffix_length (groups_in area count) i in let m = length_key in omega arith

      pub shared_inside : group_shared (groups_in area count) i ≤ area_key_len area (keys_end i area 0)
      shared_inside = let n = suffix_length (groups_in area count) i in let m = length_key in omega arith

      -- its key record
      pub group_record : (e : Encoding) (least : ℕ)
          → key_record_bytes e least area (keys_end i area 0) (group_address e (groups_in area count) (group_anchor i) + key_header_len_of e) (group_shared (groups_in area count) i)
          ≡ group_bytes e least (groups_in area count) i
      unfolding group_bytes group_header group_suffix key_record_bytes
      group_record e least = rw (← length-suffix, ← group-versions, ← versions_count, ← group-key)

      pub address_next : (e : Encoding) → group_address e (groups_in area count) (suc i) ≡ group_address e (groups_in area count) i + key_record_size e area (keys_end i area 0) (group_shared (groups_in area count) i)
      unfolding group_address key_record_size
      address_next e = rw (length-suffix, versions_count)

  -- what a key shares with its anchor
  pub group_shared_lem : (i : ℕ) → i < count
      → group_shared (groups_in area count) i
      ≡ (when eqb (i % group) 0 then 0 else common_prefix_len (area_key area (keys_end (group_anchor i) area 0)) (area_key area (keys_end i area 0)))
  unfolding group_shared group_anchor
  group_shared_lem i h = ap₂ (λ (a b : List ℕ). when eqb (i % group) 0 then 0 else common_prefix_len a b) (group-key (group_anchor i) (omega arith)) (group-key i h)
