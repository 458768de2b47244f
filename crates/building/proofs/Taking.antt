-- An add beside sound groups: what is taken gives sound groups again, with their area and their record, and 37 does not occur.
-- Assumes nothing.
use mathlib.Core.Path.{◌≡◌, refl, sym, ap, ap₂, ◌∙◌, subst, subst⁻¹}
use mathlib.Core.List.{List, [], ◌∷◌, ◌++◌, append-nil}
use mathlib.Core.Bool.{Bool, true, false}
use Prim.Native.Nat.{ℕ, ◌+◌, ◌-◌, ◌^◌, ◌<◌, ◌≤◌}
use native.Mathlib.Omega.{arith}
use lib.ListN.{length, get_or, take, get_or-append}
use lib.Seq.{sets, get_or-append_seam}
use Rattle.num.specs.Choice.{when◌then◌else◌}
use Rattle.std.specs.Prelude.{Result, Ok, Err}
use Rattle.refusal.specs.declared.Refusal.{Refusal}
use Rattle.refusal.specs.declared.Refusal.TheVariants as refusal
use Rattle.refusal.specs.Refusal.{refusal_number, answer_number}
use Rattle.num.specs.Number.{le_bytes}
use Rattle.num.proofs.Choice.{if_true}
use Rattle.sstable.specs.Limits.{limit_defs}
use Rattle.area.specs.Area.{area_versions}
use Rattle.builder.specs.declared.Builder.{Builder}
use Rattle.builder.specs.Offer.{Offer, head_bytes, version_bytes, entry_len}
use Rattle.builder.specs.Record.{builder_after, standing}
use Rattle.builder.specs.Add.{max_keys, versions_with, area_after_of, counted_of, BuilderState, add_of}
use Rattle.builder.proofs.Standing.{follows_key}
use Rattle.builder.proofs.Asked.{Accepted, key_limit, value_limit, accepted}
use Rattle.written.specs.Arena.{StoredVersion, KeyGroup, no_stored, no_group}
use Rattle.written.specs.Internal.{Stands}
use Rattle.written.proofs.Section.{crc_lt}
use Rattle.building.specs.Taken.{stored_of, new_group, more_group, last_group, groups_before, groups_with, area_of, head_place, versions_of, last_of, group_totals, builder_of}
use Rattle.building.specs.Internal.{counted_as, VersionSmall, GroupSmall, Rising, Sound}
use Rattle.building.proofs.Lists.{length_more, last_split, either_part, one_part}
use Rattle.building.proofs.Grows.{versions_new, versions_more, area_more_length, place_last}
use Rattle.building.proofs.Counted.{AnchorStands, builder_new, builder_more}
use Rattle.building.proofs.AreaRead.{count_read, group_stands}
use Rattle.building.proofs.ReadsBack.{append_rising, anchor_stands, more_length}
use Rattle.building.proofs.AreaStep.{area_new, area_more_version}

-- ---- sound groups with one more version

module _ (e : Offer) (seq_fits : e.seq < 2 ^ 64) (offset_fits : e.offset < 2 ^ 64) (short : length e.value ≤ 16777216) where
  stored_small : VersionSmall (stored_of e)
  unfolding stored_of limit_defs
  stored_small = record { seq = seq_fits; size = short; offset = offset_fits; checksum = crc_lt e.value }

  sound_new : (gs : List KeyGroup) → Sound gs → length e.key ≤ 1048576 → last_of (λ v. v.offset) (versions_of gs) ≤ e.offset → length gs + 1 ≤ max_keys
      → length (area_of (gs ++ (new_group e.key (stored_of e) ∷ []))) ≤ 2 ^ 30 → Sound (gs ++ (new_group e.key (stored_of e) ∷ []))
  unfolding new_group stored_of Rising last_of limit_defs
  sound_new gs s key offset few bound =
      record {
        small = either_part GroupSmall gs (new_group e.key (stored_of e) ∷ []) no_group s.small
            (one_part GroupSmall (new_group e.key (stored_of e)) no_group
            (record { key = key; some = omega arith; few = omega arith; versions = one_part VersionSmall (stored_of e) no_stored stored_small }));
        rising = subst⁻¹ (Rising 0) (versions_new gs e.key (stored_of e)) (append_rising 0 (versions_of gs) (stored_of e ∷ []) s.rising (offset, tt));
        few = let n = length_more gs (new_group e.key (stored_of e)) in omega arith;
        used = bound;
      }

  sound_more : (gs : List KeyGroup) (g : KeyGroup) → Sound (gs ++ (g ∷ [])) → last_of (λ v. v.offset) (versions_of (gs ++ (g ∷ []))) ≤ e.offset
      → length (area_of (gs ++ (more_group g (stored_of e) ∷ []))) ≤ 2 ^ 30 → Sound (gs ++ (more_group g (stored_of e) ∷ []))
  unfolding more_group stored_of Rising last_of
  sound_more gs g s offset bound =
      let n = length_more gs g in
      let m = length_more gs (more_group g (stored_of e)) in
      let c = length_more g.versions (stored_of e) in
      let a = area_more_length gs (more_group g (stored_of e)) in
      let old : GroupSmall g = subst GroupSmall (get_or-append_seam gs g [] no_group) (s.small (length gs) (omega arith)) in
      record {
        small = either_part GroupSmall gs (more_group g (stored_of e) ∷ []) no_group
            (λ i h. subst GroupSmall (get_or-append gs (g ∷ []) no_group i h) (s.small i (omega arith)))
            (one_part GroupSmall (more_group g (stored_of e)) no_group
            (record {
              key = old.key;
              some = omega arith;
              few = omega arith;
              versions = either_part VersionSmall g.versions (stored_of e ∷ []) no_stored old.versions (one_part VersionSmall (stored_of e) no_stored stored_small);
            }));
        rising = subst⁻¹ (Rising 0) (versions_more gs g (stored_of e)) (append_rising 0 (versions_of (gs ++ (g ∷ []))) (stored_of e ∷ []) s.rising (offset, tt));
        few = let f = s.few in omega arith;
        used = bound;
      }

-- ---- what is taken

-- the state behind an add is that of the groups with its offer
pub record Steps (gs : List KeyGroup) (e : Offer) (s : BuilderState) : Type 0 where
  pub builder : s.builder ≡ builder_of (groups_with gs e)
  pub used : take s.builder.used s.area ≡ area_of (groups_with gs e)
  pub sound : Sound (groups_with gs e)

-- an area that begins with the groups'
pub area_begins : (gs : List KeyGroup) (rest : List ℕ) → Stands (area_of gs ++ rest) 0 (area_of gs)
area_begins gs rest = record { rest = rest; stands = refl }

anchor_of_lem : (gs : List KeyGroup) (rest : List ℕ) → Sound gs → AnchorStands (area_of gs ++ rest) gs
anchor_of_lem gs rest s =
    anchor_stands (area_of gs ++ rest) gs []
    (subst⁻¹ (λ (k : List KeyGroup). (i : ℕ) → i < length k → GroupSmall (get_or k i no_group)) (append-nil gs) s.small)
    (subst⁻¹ (λ (k : List KeyGroup). Stands (area_of gs ++ rest) 0 (area_of k)) (append-nil gs) (area_begins gs rest))

new_length : (gs : List KeyGroup) (key : List ℕ) (v : StoredVersion) → length (area_of (gs ++ (new_group key v ∷ []))) ≡ length (area_of gs) + (25 + (8 + length key))
unfolding new_group
new_length gs key v = let n = area_more_length gs (new_group key v) in omega arith

more_used_length : (gs : List KeyGroup) (g : KeyGroup) (v : StoredVersion) → length (area_of (gs ++ (more_group g v ∷ []))) ≡ length (area_of (gs ++ (g ∷ []))) + (25 + 0)
more_used_length gs g v = let n = more_length gs g v in omega arith

-- the last key's number of versions, read
last_count : (gs : List KeyGroup) (g : KeyGroup) (rest : List ℕ) → Sound (gs ++ (g ∷ []))
    → area_versions (area_of (gs ++ (g ∷ [])) ++ rest) (head_place (gs ++ (g ∷ [])) (length (gs ++ (g ∷ [])) - 1)) ≡ length g.versions
last_count gs g rest s =
    let all = gs ++ (g ∷ []) in
    let n = length_more gs g in
    let l : length all - 1 < length all = omega arith in
    let m : length all - 1 ≡ length gs = omega arith in
    count_read (get_or all (length all - 1) no_group) (s.small (length all - 1) l) (group_stands all (length all - 1) l (area_begins all rest))
    ∙ ap (λ (i : ℕ). length (get_or all i no_group).versions) m
    ∙ ap (λ (x : KeyGroup). length x.versions) (get_or-append_seam gs g [] no_group)

abbrev marked : Offer → Bool → Offer
marked e t = record { kind = e.kind; key = e.key; value = e.value; seq = e.seq; new_key = t; offset = e.offset }

abbrev state_after : List ℕ → Builder → Offer → BuilderState
state_after area b e = record { area = area_after_of area b e; builder = builder_after area b (counted_of area b e) }

module _ (e : Offer) (seq_fits : e.seq < 2 ^ 64) (offset_fits : e.offset < 2 ^ 64) (rest : List ℕ) where
  steps_new : (gs : List KeyGroup) → Sound gs → Accepted (area_of gs ++ rest) (builder_of gs) (marked e true)
      → Steps gs (marked e true) (state_after (area_of gs ++ rest) (builder_of gs) (marked e true))
  unfolding groups_with when◌then◌else◌ area_after_of counted_of versions_with counted_as stored_of builder_of group_totals entry_len
  steps_new gs s p =
      let v = stored_of e in
      let n : length (area_of (gs ++ (new_group e.key v ∷ []))) ≡ length (area_of gs) + (25 + (8 + length e.key)) = new_length gs e.key v in
      let b = builder_new (area_of gs ++ rest) gs e.key v (anchor_of_lem gs rest s) in
      let l = p.passed.limits in
      let r = p.passed.room in
      let m = p.bound in
      record {
        builder = b;
        used = ap (λ (x : Builder). take x.used (sets (area_of gs ++ rest) (length (area_of gs)) (head_bytes e.key ++ version_bytes (marked e true)))) b
            ∙ area_new gs rest e.key (marked e true) (omega arith);
        sound = sound_new e seq_fits offset_fits (value_limit _ _ l) gs s (key_limit _ _ l) p.offset p.few (omega arith);
      }

  steps_more : (gs : List KeyGroup) (g : KeyGroup) → Sound (gs ++ (g ∷ [])) → Accepted (area_of (gs ++ (g ∷ [])) ++ rest) (builder_of (gs ++ (g ∷ []))) (marked e false)
      → (builder_after (area_of (gs ++ (g ∷ [])) ++ rest) (builder_of (gs ++ (g ∷ []))) (counted_of (area_of (gs ++ (g ∷ [])) ++ rest) (builder_of (gs ++ (g ∷ []))) (marked e false))
      ≡ builder_of (gs ++ (more_group g (stored_of e) ∷ [])))
      × (take (length (area_of (gs ++ (more_group g (stored_of e) ∷ [])))) (area_after_of (area_of (gs ++ (g ∷ [])) ++ rest) (builder_of (gs ++ (g ∷ []))) (marked e false))
      ≡ area_of (gs ++ (more_group g (stored_of e) ∷ [])))
      × Sound (gs ++ (more_group g (stored_of e) ∷ []))
  unfolding when◌then◌else◌ area_after_of counted_of versions_with counted_as stored_of builder_of group_totals entry_len
  steps_more gs g s p =
      let v = stored_of e in
      let area = area_of (gs ++ (g ∷ [])) ++ rest in
      let n = more_used_length gs g v in
      let c = last_count gs g rest s in
      let r = p.passed.room in
      let m = p.bound in (
        ap (λ (k : ℕ). builder_after area (builder_of (gs ++ (g ∷ []))) (counted_as e.key (k + 1) v false)) c ∙ builder_more area gs g e.key v,
        ap₂ (λ (k h : ℕ).
            take (length (area_of (gs ++ (more_group g v ∷ []))))
            (sets (sets area (h + 4) (le_bytes 4 (k + 1))) (length (area_of (gs ++ (g ∷ [])))) (version_bytes (marked e false)))) c (place_last gs g)
            ∙ area_more_version gs g rest (marked e false) (omega arith),
        sound_more e seq_fits offset_fits (value_limit _ _ p.passed.limits) gs g s p.offset (omega arith),
      )

  steps_last : (gs : List KeyGroup) → Sound gs → Accepted (area_of gs ++ rest) (builder_of gs) (marked e false) → 0 < length gs
      → Steps gs (marked e false) (state_after (area_of gs ++ rest) (builder_of gs) (marked e false))
  unfolding groups_with when◌then◌else◌ stored_of groups_before last_group builder_of
  steps_last gs s p n =
      let hs = groups_before gs in
      let g = last_group gs in
      let f = marked e false in
      let whole : hs ++ (g ∷ []) ≡ gs = last_split gs no_group n in
      let r = steps_more hs g (subst⁻¹ Sound whole s) (subst⁻¹ (λ (k : List KeyGroup). Accepted (area_of k ++ rest) (builder_of k) f) whole p) in
      let b = subst (λ (k : List KeyGroup).
      builder_after (area_of k ++ rest) (builder_of k) (counted_of (area_of k ++ rest) (builder_of k) f) ≡ builder_of (hs ++ (more_group g (stored_of e) ∷ []))) whole r.0 in
      record {
        builder = b;
        used = ap (λ (x : Builder). take x.used (area_after_of (area_of gs ++ rest) (builder_of gs) f)) b
            ∙ subst (λ (k : List KeyGroup). take (length (area_of (hs ++ (more_group g (stored_of e) ∷ [])))) (area_after_of (area_of k ++ rest) (builder_of k) f)
            ≡ area_of (hs ++ (more_group g (stored_of e) ∷ []))) whole r.1;
        sound = r.2;
      }

  steps_marked : (gs : List KeyGroup) → Sound gs → (t : Bool) → Accepted (area_of gs ++ rest) (builder_of gs) (marked e t)
      → Steps gs (marked e t) (state_after (area_of gs ++ rest) (builder_of gs) (marked e t))
  unfolding builder_of group_totals
  steps_marked gs s true p = steps_new gs s p
  steps_marked gs s false p = steps_last gs s p (follows_key false (length gs) p.passed.follows refl)

  -- an add that is taken
  pub steps : (gs : List KeyGroup) → Sound gs → (s : BuilderState) → add_of (area_of gs ++ rest) (builder_of gs) e ≡ Ok s → Steps gs e s
  steps gs sound s q =
      let p = accepted (area_of gs ++ rest) (builder_of gs) e s q in
      subst⁻¹ (Steps gs e) p.1 (steps_marked gs sound e.new_key p.0)

-- ---- what is refused

-- a question of another number is passed
other : (t : Bool) (k : Refusal) (next : Result BuilderState Refusal) → (refusal_number k ≡ 37 → ⊥) → answer_number (when t then next else Err k) ≡ 37
    → answer_number next ≡ 37
unfolding when◌then◌else◌ answer_number
other true k next f e = e
other false k next f e = absurd (f e)

-- 37 is no number of an add whose record stands
pub never_37 : (area : List ℕ) (b : Builder) (e : Offer) → standing area b ≡ true → answer_number (add_of area b e) ≡ 37 → ⊥
unfolding add_of answer_number
never_37 area b e s q =
    let q₀ = other _ _ _ (λ z. omega arith) q in
    let q₁ = other _ _ _ (λ z. omega arith) q₀ in
    let q₂ = other _ _ _ (λ z. omega arith) q₁ in
    let q₃ = other _ _ _ (λ z. omega arith) q₂ in
    let q₄ = ap (λ (a : Result BuilderState Refusal). answer_number a) (sym (if_true (standing area b) _ (Err refusal.Builder) s)) ∙ q₃ in
    let z = other _ _ _ (λ z. omega arith) q₄ in omega arith
