-- What one more version changes of the groups: their versions, their area, their record.
-- Assumes nothing.
use mathlib.Core.Path.{◌≡◌, refl, sym, ap, ap₂, ◌∙◌}
use mathlib.Core.List.{List, [], ◌∷◌, ◌++◌, append_assoc, append-nil}
use Prim.Native.Nat.{ℕ, zero, suc, ◌+◌, ◌*◌, ◌-◌, ◌%◌, ◌<◌, ◌≤◌}
use native.Mathlib.Omega.{arith}
use lib.Dec.{eqb}
use lib.ListN.{length, drop, length-append, get_or-append}
use lib.Seq.{take-append-le, take_at, get_or-append_seam}
use Rattle.num.specs.Choice.{when◌then◌else◌}
use Rattle.num.specs.Number.{le_bytes}
use Rattle.num.specs.Order.{common_prefix_len}
use Rattle.num.proofs.Number.{length_le_bytes}
use Rattle.encoding.specs.Encoding.{group}
use Rattle.written.specs.Arena.{StoredVersion, KeyGroup, no_group, group_key, group_versions, group_anchor, group_shared, group_suffix, suffixes_before}
use Rattle.written.specs.Joined.{fields_bytes}
use Rattle.written.specs.Internal.{versions_before}
use Rattle.written.proofs.Stands.{fields_length}
use Rattle.building.specs.Taken.{new_group, more_group, area_fields, area_of_versions, area_of_group, area_of, head_place, versions_of}
use Rattle.building.proofs.Lists.{length_more}

-- ---- versions

pub versions_append : (gs hs : List KeyGroup) → versions_of (gs ++ hs) ≡ versions_of gs ++ versions_of hs
unfolding versions_of
versions_append [] hs = refl
versions_append (g ∷ gs) hs = ap (λ (l : List StoredVersion). g.versions ++ l) (versions_append gs hs) ∙ sym (append_assoc g.versions (versions_of gs) (versions_of hs))

pub versions_one : (gs : List KeyGroup) (g : KeyGroup) → versions_of (gs ++ (g ∷ [])) ≡ versions_of gs ++ g.versions
unfolding versions_of
versions_one gs g = versions_append gs (g ∷ []) ∙ ap (λ (l : List StoredVersion). versions_of gs ++ l) (append-nil g.versions)

pub versions_new : (gs : List KeyGroup) (key : List ℕ) (v : StoredVersion) → versions_of (gs ++ (new_group key v ∷ [])) ≡ versions_of gs ++ (v ∷ [])
unfolding new_group
versions_new gs key v = versions_one gs (new_group key v)

pub versions_more : (gs : List KeyGroup) (g : KeyGroup) (v : StoredVersion) → versions_of (gs ++ (more_group g v ∷ [])) ≡ versions_of (gs ++ (g ∷ [])) ++ (v ∷ [])
unfolding more_group
versions_more gs g v =
    versions_one gs (more_group g v)
    ∙ sym (append_assoc (versions_of gs) g.versions (v ∷ []))
    ∙ ap (λ (l : List StoredVersion). l ++ (v ∷ [])) (sym (versions_one gs g))

same_counts_lem : (gs hs : List KeyGroup) (k : ℕ) → k ≤ length gs → versions_before (gs ++ hs) k ≡ versions_before gs k
unfolding versions_before group_versions
same_counts_lem gs hs zero h = refl
same_counts_lem gs hs (suc k) h = ap₂ ◌+◌ (same_counts_lem gs hs k (omega arith)) (ap (λ (g : KeyGroup). length g.versions) (get_or-append gs hs no_group k h))

pub versions_before_lem : (gs : List KeyGroup) (g : KeyGroup) → versions_before (gs ++ (g ∷ [])) (length (gs ++ (g ∷ []))) ≡ versions_before gs (length gs) + length g.versions
unfolding versions_before group_versions
versions_before_lem gs g =
    let n : length (gs ++ (g ∷ [])) ≡ suc (length gs) = length_more gs g ∙ omega arith in
    ap (versions_before (gs ++ (g ∷ []))) n
    ∙ ap₂ ◌+◌ (same_counts_lem gs (g ∷ []) (length gs) (omega arith)) (ap (λ (x : KeyGroup). length x.versions) (get_or-append_seam gs g [] no_group))

-- ---- the area

pub area_append : (gs hs : List KeyGroup) → area_of (gs ++ hs) ≡ area_of gs ++ area_of hs
unfolding area_of
area_append [] hs = refl
area_append (g ∷ gs) hs = ap (λ (l : List ℕ). area_of_group g ++ l) (area_append gs hs) ∙ sym (append_assoc (area_of_group g) (area_of gs) (area_of hs))

pub area_more : (gs : List KeyGroup) (g : KeyGroup) → area_of (gs ++ (g ∷ [])) ≡ area_of gs ++ area_of_group g
unfolding area_of
area_more gs g = area_append gs (g ∷ []) ∙ ap (λ (l : List ℕ). area_of gs ++ l) (append-nil (area_of_group g))

pub version_area_length : (v : StoredVersion) → length (fields_bytes (area_fields v)) ≡ 25
unfolding area_fields
version_area_length v = fields_length (area_fields v)

versions_area_length : (vs : List StoredVersion) → length (area_of_versions vs) ≡ 25 * length vs
unfolding area_of_versions
versions_area_length [] = refl
versions_area_length (v ∷ vs) =
    omega (arith, length-append (fields_bytes (area_fields v)) (area_of_versions vs), version_area_length v, versions_area_length vs)

pub group_area_length : (g : KeyGroup) → length (area_of_group g) ≡ 8 + length g.key + 25 * length g.versions
unfolding area_of_group
group_area_length g =
    omega (
      arith,
      length-append (le_bytes 4 (length g.key)) (le_bytes 4 (length g.versions) ++ (g.key ++ area_of_versions g.versions)),
      length-append (le_bytes 4 (length g.versions)) (g.key ++ area_of_versions g.versions),
      length-append g.key (area_of_versions g.versions),
      length_le_bytes 4 (length g.key),
      length_le_bytes 4 (length g.versions),
      versions_area_length g.versions,
    )

pub area_more_length : (gs : List KeyGroup) (g : KeyGroup) → length (area_of (gs ++ (g ∷ []))) ≡ length (area_of gs) + (8 + length g.key + 25 * length g.versions)
area_more_length gs g = ap length (area_more gs g) ∙ length-append (area_of gs) (area_of_group g) ∙ ap (λ (n : ℕ). length (area_of gs) + n) (group_area_length g)

-- ---- places

pub place_before : (gs hs : List KeyGroup) (i : ℕ) → i ≤ length gs → head_place (gs ++ hs) i ≡ head_place gs i
unfolding head_place
place_before gs hs i h = ap (λ (l : List KeyGroup). length (area_of l)) (take-append-le i gs hs h)

pub place_end : (gs hs : List KeyGroup) → head_place (gs ++ hs) (length gs) ≡ length (area_of gs)
unfolding head_place
place_end gs hs = ap (λ (l : List KeyGroup). length (area_of l)) (take_at gs hs (length gs) refl)

pub place_last : (gs : List KeyGroup) (g : KeyGroup) → head_place (gs ++ (g ∷ [])) (length (gs ++ (g ∷ [])) - 1) ≡ length (area_of gs)
place_last gs g =
    let n : length (gs ++ (g ∷ [])) - 1 ≡ length gs = let m = length_more gs g in omega arith in
    ap (head_place (gs ++ (g ∷ []))) n ∙ place_end gs (g ∷ [])

-- ---- keys and suffixes

pub key_before : (gs hs : List KeyGroup) (i : ℕ) → i < length gs → group_key (gs ++ hs) i ≡ group_key gs i
unfolding group_key
key_before gs hs i h = ap (λ (g : KeyGroup). g.key) (get_or-append gs hs no_group i h)

pub key_end_lem : (gs : List KeyGroup) (g : KeyGroup) → group_key (gs ++ (g ∷ [])) (length gs) ≡ g.key
unfolding group_key
key_end_lem gs g = ap (λ (x : KeyGroup). x.key) (get_or-append_seam gs g [] no_group)

same_keys : (gs : List KeyGroup) (g h : KeyGroup) → g.key ≡ h.key → (i : ℕ) → group_key (gs ++ (g ∷ [])) i ≡ group_key (gs ++ (h ∷ [])) i
unfolding group_key
same_keys [] g h e zero = e
same_keys [] g h e (suc i) = refl
same_keys (x ∷ gs) g h e zero = refl
same_keys (x ∷ gs) g h e (suc i) = same_keys gs g h e i

module _ (gs hs : List KeyGroup) (k : ℕ) (same : (i : ℕ) → i < k → group_key gs i ≡ group_key hs i) where
  same_suffix : (i : ℕ) → i < k → group_suffix gs i ≡ group_suffix hs i
  unfolding group_suffix group_shared group_anchor
  same_suffix i h =
      let l : group_anchor i ≤ i = omega arith in
      ap₂ (λ (a b : List ℕ). drop (when eqb (i % group) 0 then 0 else common_prefix_len a b) b) (same (group_anchor i) (omega arith)) (same i h)

  same_suffixes : (i : ℕ) → i ≤ k → suffixes_before gs i ≡ suffixes_before hs i
  unfolding suffixes_before
  same_suffixes zero h = refl
  same_suffixes (suc i) h = ap₂ ◌+◌ (same_suffixes i (omega arith)) (ap length (same_suffix i h))

pub suffixes_end : (gs : List KeyGroup) (g : KeyGroup)
    → suffixes_before (gs ++ (g ∷ [])) (length (gs ++ (g ∷ []))) ≡ suffixes_before gs (length gs) + length (group_suffix (gs ++ (g ∷ [])) (length gs))
unfolding suffixes_before
suffixes_end gs g =
    let n : length (gs ++ (g ∷ [])) ≡ suc (length gs) = length_more gs g ∙ omega arith in
    ap (suffixes_before (gs ++ (g ∷ []))) n
    ∙ ap (λ (m : ℕ). m + length (group_suffix (gs ++ (g ∷ [])) (length gs))) (same_suffixes (gs ++ (g ∷ [])) gs (length gs) (key_before gs (g ∷ [])) (length gs) (omega arith))

pub suffixes_same : (gs : List KeyGroup) (g h : KeyGroup) → g.key ≡ h.key
    → suffixes_before (gs ++ (g ∷ [])) (length (gs ++ (g ∷ []))) ≡ suffixes_before (gs ++ (h ∷ [])) (length (gs ++ (h ∷ [])))
suffixes_same gs g h e =
    ap (suffixes_before (gs ++ (g ∷ []))) (length_more gs g ∙ sym (length_more gs h))
    ∙ same_suffixes (gs ++ (g ∷ [])) (gs ++ (h ∷ [])) (length (gs ++ (h ∷ []))) (λ i _. same_keys gs g h e i) (length (gs ++ (h ∷ []))) (omega arith)
