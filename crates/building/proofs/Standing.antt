-- Sound groups pass question 37, of an add and of writing.
-- Assumes nothing.
use mathlib.Core.Path.{◌≡◌, ap, ◌∙◌}
use mathlib.Core.List.{List, [], ◌∷◌, ◌++◌}
use mathlib.Core.Bool.{true}
use Prim.Native.Nat.{ℕ, suc, ◌+◌, ◌*◌, ◌-◌, ◌^◌, ◌<◌, ◌≤◌}
use native.Mathlib.Nat.{not-suc-le-zero}
use native.Mathlib.Omega.{arith}
use lib.ListN.{length, get_or, take, drop, length-append, length-drop}
use lib.Seq.{split_at}
use borrow.Author.Tests.{le-leb, eqb-false}
use Rattle.num.proofs.Choice.{true_both, second_either}
use Rattle.sstable.specs.Limits.{limit_defs}
use Rattle.area.specs.Area.{area_key_len, area_versions}
use Rattle.builder.specs.Record.{totals_small, key_lies, standing, sizeable}
use Rattle.builder.proofs.Standing.{Small}
use Rattle.written.specs.Arena.{StoredVersion, KeyGroup, no_stored, no_group, group_key, group_anchor, group_shared, group_suffix, suffixes_before}
use Rattle.written.specs.Internal.{Stands}
use Rattle.building.specs.Taken.{area_of_group, area_of, head_place, versions_of, greatest_of, least_of, group_totals, builder_of}
use Rattle.building.specs.Internal.{Sound}
use Rattle.building.proofs.Lists.{grown, either_part, greatest_each, greatest_below, least_each}
use Rattle.building.proofs.Grows.{area_append, area_more_length, group_area_length, suffixes_end, key_end_lem}
use Rattle.building.proofs.AreaRead.{key_len_read, count_read, group_stands}

-- ---- what the used bytes bound

versions_bytes : (gs : List KeyGroup) → 25 * length (versions_of gs) ≤ length (area_of gs)
unfolding area_of versions_of
versions_bytes [] = omega arith
versions_bytes (g ∷ gs) =
    omega (arith, versions_bytes gs, length-append (area_of_group g) (area_of gs), length-append g.versions (versions_of gs), group_area_length g)

none_least : least_of {A = StoredVersion} (λ v. v.seq) [] ≤ greatest_of {A = StoredVersion} (λ v. v.seq) []
unfolding least_of
none_least = omega arith

no_suffixes : suffixes_before [] 0 ≤ length (area_of [])
unfolding suffixes_before
no_suffixes = omega arith

suffix_short : (gs : List KeyGroup) (i : ℕ) → length (group_suffix gs i) ≤ length (group_key gs i)
unfolding group_suffix
suffix_short gs i = omega (arith, length-drop (group_shared gs i) (group_key gs i))

suffixes_bytes : (gs : List KeyGroup) → suffixes_before gs (length gs) ≤ length (area_of gs)
suffixes_bytes = grown (λ gs. suffixes_before gs (length gs) ≤ length (area_of gs)) none more
  where
    none : suffixes_before [] 0 ≤ length (area_of [])
    none = no_suffixes

    more : (gs : List KeyGroup) (g : KeyGroup) → suffixes_before gs (length gs) ≤ length (area_of gs)
        → suffixes_before (gs ++ (g ∷ [])) (length (gs ++ (g ∷ []))) ≤ length (area_of (gs ++ (g ∷ [])))
    more gs g h =
        let a = suffixes_end gs g in
        let b = area_more_length gs g in
        let c = suffix_short (gs ++ (g ∷ [])) (length gs) in
        let d = ap length (key_end_lem gs g) in
        omega arith

-- what holds of each key's versions holds of all
pub every : (gs : List KeyGroup) (P : StoredVersion → Type 0)
    → ((i j : ℕ) → i < length gs → j < length (get_or gs i no_group).versions → P (get_or (get_or gs i no_group).versions j no_stored))
    → (k : ℕ) → k < length (versions_of gs) → P (get_or (versions_of gs) k no_stored)
unfolding versions_of
every [] P each k h = absurd (not-suc-le-zero h)
every (g ∷ gs) P each k h =
    either_part P g.versions (versions_of gs) no_stored (λ j l. each 0 j (omega arith) l) (every gs P (λ i j l m. each (suc i) j (omega arith) m)) k h

least_le_greatest : (vs : List StoredVersion) → least_of (λ v. v.seq) vs ≤ greatest_of (λ v. v.seq) vs
least_le_greatest [] = none_least
least_le_greatest (v ∷ vs) =
    omega (arith, least_each (λ v. v.seq) (v ∷ vs) no_stored 0 (omega arith), greatest_each (λ v. v.seq) (v ∷ vs) no_stored 0 (omega arith))

-- a key lies in the used bytes
group_inside : (gs : List KeyGroup) (i : ℕ) → i < length gs → head_place gs i + length (area_of_group (get_or gs i no_group)) ≤ length (area_of gs)
unfolding head_place area_of
group_inside gs i h =
    let e = ap (λ (k : List KeyGroup). length (area_of k)) (split_at gs i no_group h) ∙ ap length (area_append (take i gs) (get_or gs i no_group ∷ drop (suc i) gs)) in
    let a = length-append (area_of (take i gs)) (area_of (get_or gs i no_group ∷ drop (suc i) gs)) in
    let b = length-append (area_of_group (get_or gs i no_group)) (area_of (drop (suc i) gs)) in
    omega arith

module _ (gs : List KeyGroup) (sound : Sound gs) where
  small_totals : Small (builder_of gs)
  unfolding builder_of group_totals limit_defs group_key
  small_totals =
      let u = sound.used in
      let f = sound.few in
      let v = versions_bytes gs in
      let x = suffixes_bytes gs in
      let k = greatest_below (λ g. length g.key) 1048576 gs no_group (λ i h. (sound.small i h).key) in
      let z = greatest_below (λ w. w.size) 16777216 (versions_of gs) no_stored (every gs (λ w. w.size ≤ 16777216) (λ i j h l. ((sound.small i h).versions j l).size)) in
      let m = greatest_below (λ g. length g.versions) (2 ^ 30) gs no_group (λ i h. (sound.small i h).few) in
      record {
        keys = omega arith;
        versions = omega arith;
        suffix_bytes = omega arith;
        used = u;
        max_key_len = omega arith;
        max_value_len = omega arith;
        max_versions = m;
      }

  totals_pass : totals_small (builder_of gs) ≡ true
  unfolding totals_small
  totals_pass =
      let s = small_totals in
      true_both _ _ (le-leb _ _ s.keys)
      (true_both _ _ (le-leb _ _ s.versions)
      (true_both _ _ (le-leb _ _ s.suffix_bytes)
      (true_both _ _ (le-leb _ _ s.used)
      (true_both _ _ (le-leb _ _ s.max_key_len)
      (true_both _ _ (le-leb _ _ s.max_value_len) (le-leb _ _ s.max_versions))))))

  -- question 37 of size
  pub size_passes : sizeable (builder_of gs) ≡ true
  unfolding sizeable builder_of group_totals
  size_passes = true_both _ _ totals_pass (le-leb _ _ (least_le_greatest (versions_of gs)))

  module _ (area : List ℕ) (at : Stands area 0 (area_of gs)) (room : length (area_of gs) ≤ length area) where
    lies : (i : ℕ) → i < length gs → key_lies area (builder_of gs) (head_place gs i) ≡ true
    unfolding key_lies builder_of
    lies i h =
        let g = get_or gs i no_group in
        let k = key_len_read g (sound.small i h) (group_stands gs i h at) in
        let n = group_inside gs i h in
        let m = group_area_length g in
        true_both _ _ (le-leb (head_place gs i + 8) (length (area_of gs)) (omega arith)) (le-leb (head_place gs i + 8 + area_key_len area (head_place gs i)) (length (area_of gs)) (omega arith))

    -- question 37 of an add
    pub stands_passes : standing area (builder_of gs) ≡ true
    unfolding standing builder_of group_totals group_anchor
    stands_passes =
        true_both _ _ (le-leb (length (area_of gs)) (length area) room)
        (true_both _ _ totals_pass
        (second_either _ _ (λ e.
        let z = eqb-false (length gs) 0 e in
        let n : length gs - 1 < length gs = omega arith in
        let c = count_read (get_or gs (length gs - 1) no_group) (sound.small (length gs - 1) n) (group_stands gs (length gs - 1) n at) in
        let f = (sound.small (length gs - 1) n).few in
        true_both _ _ (lies (length gs - 1) n)
        (true_both _ _ (lies (group_anchor (length gs - 1)) (omega arith)) (le-leb (area_versions area (head_place gs (length gs - 1))) (2 ^ 30) (omega arith))))))
