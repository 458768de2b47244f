-- The key groups of an area, by the places of its heads.
-- Assumes nothing.
use mathlib.Core.Path.{◌≡◌, refl, ap, ◌∙◌}
use mathlib.Core.List.{List, map}
use Prim.Native.Nat.{ℕ, zero, suc, ◌+◌, ◌<◌}
use native.Mathlib.Omega.{arith}
use lib.ListN.{length, get_or}
use Rattle.area.specs.Area.{area_versions, area_key, first_version_at, next_head, keys_from_of, keys_in_of, keys_end}
use Rattle.readback.specs.Places.{area_version_at, head_at_of}
use Rattle.written.specs.Arena.{StoredVersion, KeyGroup, no_stored, no_group, group_key, group_versions, group_version}
use Rattle.writer.specs.Write.{stored_at, stored_from, group_at_of, groups_from, groups_in}
use Rattle.writer.proofs.Groups.{stored_length, stored_index, groups_length}

-- ---- the keys

group_from : (count : ℕ) (area : List ℕ) (k i : ℕ) → i < count → get_or (groups_from count area (head_at_of area k)) i no_group ≡ group_at_of area (head_at_of area (k + i))
unfolding groups_from head_at_of
group_from zero area k i l = absurd (omega arith)
group_from (suc count) area k zero l =
    let e : k ≡ k + 0 = omega arith in
    ap (λ (m : ℕ). group_at_of area (head_at_of area m)) e
group_from (suc count) area k (suc i) l =
    let e : suc k + i ≡ k + suc i = omega arith in
    group_from count area (suc k) i (omega arith) ∙ ap (λ (m : ℕ). group_at_of area (head_at_of area m)) e

end_from : (count : ℕ) (area : List ℕ) (k : ℕ) → keys_end count area (head_at_of area k) ≡ head_at_of area (k + count)
unfolding keys_end head_at_of
end_from zero area k =
    let e : k ≡ k + 0 = omega arith in
    ap (head_at_of area) e
end_from (suc count) area k =
    let e : suc k + count ≡ k + suc count = omega arith in
    end_from count area (suc k) ∙ ap (head_at_of area) e

keys_from : (count : ℕ) (area : List ℕ) (head : ℕ) → keys_from_of count area head ≡ map (λ (g : KeyGroup). g.key) (groups_from count area head)
unfolding keys_from_of groups_from group_at_of
keys_from zero area head = refl
keys_from (suc count) area head = cc (keys_from count area (next_head area head))

module _ (area : List ℕ) (n : ℕ) where
  pub count_in : length (groups_in area n) ≡ n
  unfolding groups_in
  count_in = groups_length n area 0

  pub keys_in : keys_in_of area n ≡ map (λ (g : KeyGroup). g.key) (groups_in area n)
  unfolding keys_in_of groups_in
  keys_in = keys_from n area 0

  -- the place behind the last key
  pub end_in : keys_end n area 0 ≡ head_at_of area n
  unfolding head_at_of
  end_in =
      let e : 0 + n ≡ n = omega arith in
      end_from n area 0 ∙ ap (head_at_of area) e

  module _ (i : ℕ) (h : i < n) where
    group-in : get_or (groups_in area n) i no_group ≡ group_at_of area (head_at_of area i)
    unfolding groups_in head_at_of
    group-in =
        let e : 0 + i ≡ i = omega arith in
        group_from n area 0 i h ∙ ap (λ (m : ℕ). group_at_of area (head_at_of area m)) e

    pub key_in : group_key (groups_in area n) i ≡ area_key area (head_at_of area i)
    unfolding group_key group_at_of
    key_in = ap (λ (g : KeyGroup). g.key) group-in

    versions-in : group_versions (groups_in area n) i ≡ stored_from (area_versions area (head_at_of area i)) area (first_version_at area (head_at_of area i))
    unfolding group_versions group_at_of
    versions-in = ap (λ (g : KeyGroup). g.versions) group-in

    -- as many versions as its head says
    pub many_in : length (group_versions (groups_in area n) i) ≡ area_versions area (head_at_of area i)
    many_in =
        ap (λ (vs : List StoredVersion). length vs) versions-in ∙ stored_length (area_versions area (head_at_of area i)) area (first_version_at area (head_at_of area i))

    pub version_in_lem : (j : ℕ) → j < area_versions area (head_at_of area i) → group_version (groups_in area n) i j ≡ stored_at area (area_version_at area (head_at_of area i) j)
    unfolding group_version area_version_at
    version_in_lem j l =
        ap (λ (vs : List StoredVersion). get_or vs j no_stored) versions-in
        ∙ stored_index (area_versions area (head_at_of area i)) area (first_version_at area (head_at_of area i)) j l
