-- Blocks that hold just the entries hold just the records of their groups.
-- Assumes nothing.
use mathlib.Core.Path.{◌≡◌, refl, sym, ap, ◌∙◌, subst⁻¹}
use mathlib.Core.List.{List, [], ◌∷◌, ◌++◌, map}
use Prim.Native.Nat.{ℕ, suc, ◌+◌, ◌*◌, ◌<◌, ◌≤◌}
use native.Mathlib.Omega.{arith}
use lib.ListN.{length, get_or, take, drop, length-map}
use Rattle.num.proofs.Choice.{if_case}
use Rattle.num.proofs.Lists.{map_at}
use Rattle.num.proofs.Steps.{steps_le}
use Rattle.crc32.specs.V42.{crc_of}
use Rattle.block.specs.Walk.{Entry}
use Rattle.validate.specs.Walk.{value_of}
use Rattle.agreement.specs.Agrees.{no_entry_of, entry_at}
use Rattle.builder.specs.Offer.{Offer}
use Rattle.written.specs.Arena.{StoredVersion, KeyGroup, no_stored, no_group, group_key, group_versions, group_version}
use Rattle.written.specs.Opens.{group_entry, BesideGroups}
use Rattle.written.specs.Internal.{versions_before}
use Rattle.written.proofs.Entries.{entries_length, entry_found}
use Rattle.building.specs.Taken.{stored_of, new_group, more_group, last_group, groups_before, groups_with, groups_after, groups_of, versions_of}
use Rattle.building.specs.InOrder.{no_offer, offer_at, InOrder, entry_added, HoldsJust, ScratchHolds}
use Rattle.building.specs.Internal.{Sound, StartsNew}
use Rattle.building.proofs.Lists.{map_more, grown, last_split}
use Rattle.building.proofs.Grows.{versions_new, versions_more}
use Rattle.building.proofs.Runs.{groups_more}
use Rattle.building.proofs.Measures.{each_of}
use Rattle.building.proofs.Ordered.{entries_added}

-- ---- the versions are those of the entries

versions_last : (gs : List KeyGroup) (v : StoredVersion) → versions_of (groups_before gs ++ (more_group (last_group gs) v ∷ [])) ≡ versions_of gs ++ (v ∷ [])
unfolding groups_before last_group versions_of more_group no_group
versions_last [] v = refl
versions_last (g ∷ gs) v =
    versions_more (groups_before (g ∷ gs)) (last_group (g ∷ gs)) v ∙ ap (λ (l : List KeyGroup). versions_of l ++ (v ∷ [])) (last_split (g ∷ gs) no_group (omega arith))

versions_with_lem : (gs : List KeyGroup) (e : Offer) → versions_of (groups_with gs e) ≡ versions_of gs ++ (stored_of e ∷ [])
unfolding groups_with
versions_with_lem gs e =
    if_case (λ (l : List KeyGroup). versions_of l ≡ versions_of gs ++ (stored_of e ∷ [])) e.new_key (gs ++ (new_group e.key (stored_of e) ∷ []))
    (groups_before gs ++ (more_group (last_group gs) (stored_of e) ∷ []))
    (λ _. versions_new gs e.key (stored_of e)) (λ _. versions_last gs (stored_of e))

versions_none : versions_of (groups_of []) ≡ []
unfolding versions_of groups_of groups_after
versions_none = refl

versions_taken : (taken : List Offer) → versions_of (groups_of taken) ≡ map stored_of taken
versions_taken = grown (λ taken. versions_of (groups_of taken) ≡ map stored_of taken) versions_none (λ taken e h.
    ap versions_of (groups_more taken e) ∙ versions_with_lem (groups_of taken) e ∙ ap (λ (l : List StoredVersion). l ++ (stored_of e ∷ [])) h ∙ sym (map_more stored_of taken e))

-- what holds of each entry's version holds of each version of the groups
each_taken : (taken : List Offer) (P : StoredVersion → Type 0) → ((k : ℕ) → k < length taken → P (stored_of (offer_at taken k)))
    → (i j : ℕ) → i < length (groups_of taken) → j < length (group_versions (groups_of taken) i) → P (group_version (groups_of taken) i j)
unfolding offer_at
each_taken taken P each =
    each_of (groups_of taken) P (λ k h.
    let n = ap length (versions_taken taken) ∙ length-map taken stored_of in
    let l : k < length taken = omega arith in
    subst⁻¹ P (ap (λ (vs : List StoredVersion). get_or vs k no_stored) (versions_taken taken) ∙ map_at stored_of taken k no_offer no_stored l) (each k l))

module _ (taken : List Offer) (order : InOrder taken) (starts : StartsNew taken) (sound : Sound (groups_of taken)) where
  abbrev gs : List KeyGroup
  gs = groups_of taken

  -- each key is an entry's
  key_taken : (i : ℕ) → i < length gs → (r : ℕ) × (r < length taken) × (group_key gs i ≡ (offer_at taken r).key)
  unfolding versions_before group_versions entry_at group_entry entry_added offer_at
  key_taken i h =
      let some = (sound.small i h).some in
      let n = entries_length gs in
      let m = ap length (entries_added taken order starts) ∙ length-map taken entry_added in
      let before = steps_le (versions_before gs) (λ k. omega arith) (suc i) (length gs) h in
      let l : versions_before gs i + 0 < length taken = omega arith in
      let found = entry_found gs i 0 h some in (
        versions_before gs i + 0,
        l,
        ap (λ (x : Entry). x.key)
            (sym found ∙ ap (λ (es : List Entry). get_or es (versions_before gs i + 0) no_entry_of) (entries_added taken order starts)
            ∙ map_at entry_added taken (versions_before gs i + 0) no_offer no_entry_of l),
      )

  pub beside_groups : («data» blocks : List ℕ) (scratch : ℕ) → HoldsJust «data» blocks taken → ScratchHolds scratch taken → BesideGroups «data» blocks scratch gs
  unfolding ScratchHolds stored_of entry_added group_entry value_of
  beside_groups «data» blocks scratch holds half =
      record {
        covers = holds.covers;
        just = holds.just ∙ sym (entries_added taken order starts);
        checksums = each_taken taken (λ v. v.checksum ≡ crc_of (take v.size (drop v.offset «data»))) (λ k h. ap crc_of (sym (holds.values k h)));
        scratch_half = λ i h. let r = key_taken i h in let l = half r.0 r.1 in subst⁻¹ (λ (k : List ℕ). 2 * length k ≤ scratch) r.2 l;
      }
