-- The area of sound groups reads back to their record: question 37 never occurs in writing.
-- Assumes nothing.
use mathlib.Core.Path.{◌≡◌, refl, sym, ap, ap₂, ◌∙◌, subst}
use mathlib.Core.List.{List, [], ◌∷◌, ◌++◌, append-nil}
use mathlib.Core.Bool.{Bool, true, false}
use Rattle.std.specs.Prelude.{Option, Some, None}
use Prim.Native.Nat.{ℕ, zero, suc, ◌+◌, ◌*◌, ◌-◌, ◌<◌, ◌≤◌}
use native.Mathlib.Nat.{not-suc-le-zero, zero-add}
use native.Mathlib.Omega.{arith}
use lib.ListN.{length, get_or, length-append}
use lib.Seq.{append_snoc, get_or-append_seam}
use borrow.Author.Tests.{le-leb, lt-leb, lt-ltb, eq-eqb}
use Rattle.num.specs.Choice.{when◌then◌else◌, one_of, choice_defs}
use Rattle.num.proofs.Choice.{if_true, true_both}
use Rattle.sstable.specs.declared.Kind.{Kind}
use Rattle.sstable.specs.declared.Kind.TheVariants.{Put, Tombstone}
use Rattle.sstable.specs.Kind.{kind_number}
use Rattle.sstable.specs.Limits.{max_key_bytes, limit_defs}
use Rattle.encoding.specs.declared.Totals.{Totals}
use Rattle.area.specs.Area.{area_key_len, area_versions, area_key, area_kind, area_size}
use Rattle.builder.specs.declared.Builder.{Builder}
use Rattle.builder.specs.Record.{builder_after}
use Rattle.builder.specs.Add.{max_keys}
use Rattle.builder.proofs.Standing.{some_key}
use Rattle.readback.specs.ReadBack.{counted_at, version_read, versions_read, versions_read_for, key_read, keys_read, area_read, same_totals, reads_back_for, reads_back_of}
use Rattle.written.specs.Joined.{fields_bytes}
use Rattle.written.specs.Arena.{StoredVersion, KeyGroup, no_stored, no_group, group_key, group_anchor}
use Rattle.written.specs.Internal.{Stands}
use Rattle.written.proofs.Stands.{stands_at, stands_right}
use Rattle.building.specs.Taken.{new_group, more_group, area_fields, area_of_versions, area_of_group, area_of, versions_of, gathered, last_of, group_totals, builder_of}
use Rattle.building.specs.Internal.{counted_as, VersionSmall, GroupSmall, Rising, Sound}
use Rattle.building.proofs.Lists.{length_more, last_more}
use Rattle.building.proofs.Grows.{versions_append, versions_new, versions_more, area_append, area_more_length, group_area_length, place_before, place_last, key_before}
use Rattle.building.proofs.Counted.{AnchorStands, builder_none, builder_new, builder_more}
use Rattle.building.proofs.AreaRead.{version_read_lem, each_later, first_stands, later_stand, key_len_read, count_read, key_read_lem, versions_stand, groups_stand_first, group_stands}

-- ---- offsets that do not fall

rising_append : (m : ℕ) (a b : List StoredVersion) → Rising m (a ++ b) → Rising m a × Rising (gathered (λ p q. q) (λ v. v.offset) m a) b
unfolding Rising gathered
rising_append m [] b r = (tt, r)
rising_append m (v ∷ a) b r = let p = rising_append v.offset a b r.1 in ((r.0, p.0), p.1)

pub append_rising : (m : ℕ) (a b : List StoredVersion) → Rising m a → Rising (gathered (λ p q. q) (λ v. v.offset) m a) b → Rising m (a ++ b)
unfolding Rising gathered
append_rising m [] b r q = q
append_rising m (v ∷ a) b r q = (r.0, append_rising v.offset a b r.1 q)

rises_first : (m : ℕ) (v : StoredVersion) (vs : List StoredVersion) → Rising m (v ∷ vs) → m ≤ v.offset
unfolding Rising
rises_first m v vs r = r.0

rises_later : (m : ℕ) (v : StoredVersion) (vs : List StoredVersion) → Rising m (v ∷ vs) → Rising v.offset vs
unfolding Rising
rises_later m v vs r = r.1

-- ---- one version more

more_count : (g : KeyGroup) (v : StoredVersion) → length g.versions + 1 ≡ length (more_group g v).versions
unfolding more_group
more_count g v = sym (length_more g.versions v)

pub more_length : (gs : List KeyGroup) (g : KeyGroup) (v : StoredVersion) → length (area_of (gs ++ (more_group g v ∷ []))) ≡ length (area_of (gs ++ (g ∷ []))) + 25
unfolding more_group
more_length gs g v =
    let a = area_more_length gs g in
    let b = area_more_length gs (more_group g v) in
    let c = length_more g.versions v in
    omega arith

-- ---- the latest anchor

pub anchor_stands : (area : List ℕ) (gs hs : List KeyGroup) → ((i : ℕ) → i < length (gs ++ hs) → GroupSmall (get_or (gs ++ hs) i no_group)) → Stands area 0 (area_of (gs ++ hs))
    → AnchorStands area gs
unfolding group_anchor group_key
anchor_stands area gs hs small at =
    record {
      anchor = λ z.
          let n = some_key (length gs) z in
          let l = length-append gs hs in
          let a : group_anchor (length gs - 1) < length gs = omega arith in
          let b : group_anchor (length gs - 1) < length (gs ++ hs) = omega arith in
          ap (area_key area) (sym (place_before gs hs (group_anchor (length gs - 1)) (omega arith)))
          ∙ key_read_lem (get_or (gs ++ hs) (group_anchor (length gs - 1)) no_group) (small (group_anchor (length gs - 1)) b) (group_stands (gs ++ hs) (group_anchor (length gs - 1)) b at)
          ∙ key_before gs hs (group_anchor (length gs - 1)) a;
    }

-- ---- a version

kind_known : (k : Kind) (n : ℕ) → n ≡ kind_number k → one_of (1 ∷ 2 ∷ []) n ≡ true
unfolding choice_defs
kind_known Put n e = ap (one_of (1 ∷ 2 ∷ [])) e
kind_known Tombstone n e = ap (one_of (1 ∷ 2 ∷ [])) e

yes : {A : Type 0} (t : Bool) (x : Option A) → t ≡ true → (when t then x else None) ≡ x
yes t x e = if_true t x None e

module _ (area : List ℕ) (end : ℕ) where
  version_passes_lem : (r : Builder) (head place count : ℕ) (new : Bool) (key : List ℕ) (v : StoredVersion) → VersionSmall v → Stands area place (fields_bytes (area_fields v))
      → area_key area head ≡ key → area_key_len area head ≤ max_key_bytes → place + 25 ≤ end → r.totals.last_value_offset ≤ v.offset
      → r.totals.keys + (when new then 1 else 0) ≤ max_keys
      → version_read area end r head place count new ≡ Some (builder_after area r (counted_as key count v new))
  unfolding version_read counted_at counted_as limit_defs
  version_passes_lem r head place count new key v small at k limit room offset few =
      let q = version_read_lem v small at in
      let o : r.totals.last_value_offset ≤ _ = subst (λ (n : ℕ). r.totals.last_value_offset ≤ n) (sym q.offset) offset in
      let z : area_size area place ≤ 16777216 = let a = q.size in let b = small.size in omega arith in
      yes _ _ (le-leb (place + 25) end room)
      ∙ yes _ _ (kind_known v.kind (area_kind area place) q.kind)
      ∙ yes _ _ (true_both _ _ (le-leb (area_key_len area head) 1048576 limit) (le-leb (area_size area place) 16777216 z))
      ∙ yes _ _ (le-leb _ _ o)
      ∙ yes _ _ (le-leb _ _ few)
      ∙ (λ i. Some (builder_after area r (record { key = k i; count = count; size = q.size i; seq = q.seq i; offset = q.offset i; new_key = new })))

  -- ---- further versions of the last key

  version_more : (gs : List KeyGroup) (g : KeyGroup) (count : ℕ) (w : StoredVersion) → count ≡ length g.versions
      → area_key area (length (area_of gs)) ≡ g.key → area_key_len area (length (area_of gs)) ≤ max_key_bytes
      → VersionSmall w → Stands area (length (area_of (gs ++ (g ∷ [])))) (fields_bytes (area_fields w))
      → length (area_of (gs ++ (g ∷ []))) + 25 ≤ end → last_of (λ v. v.offset) (versions_of (gs ++ (g ∷ []))) ≤ w.offset
      → length (gs ++ (g ∷ [])) ≤ max_keys
      → version_read area end (builder_of (gs ++ (g ∷ []))) (builder_of (gs ++ (g ∷ []))).last_key (builder_of (gs ++ (g ∷ []))).used (count + 1) false
      ≡ Some (builder_of (gs ++ (more_group g w ∷ [])))
  unfolding builder_of group_totals when◌then◌else◌
  version_more gs g count w c k limit small at room offset few =
      ap (λ (p : ℕ). version_read area end (builder_of (gs ++ (g ∷ []))) p (length (area_of (gs ++ (g ∷ [])))) (count + 1) false) (place_last gs g)
      ∙ version_passes_lem (builder_of (gs ++ (g ∷ []))) (length (area_of gs)) (length (area_of (gs ++ (g ∷ [])))) (count + 1) false g.key w small at k limit room offset (omega arith)
      ∙ ap (λ (m : ℕ). Some (builder_after area (builder_of (gs ++ (g ∷ []))) (counted_as g.key (m + 1) w false))) c
      ∙ ap Some (builder_more area gs g g.key w)

  abbrev join_group : KeyGroup → List StoredVersion → KeyGroup
  join_group g ws = record { key = g.key; versions = g.versions ++ ws }

  versions_pass : (gs : List KeyGroup) (g : KeyGroup) (count : ℕ) (ws : List StoredVersion) → count ≡ length g.versions
      → area_key area (length (area_of gs)) ≡ g.key → area_key_len area (length (area_of gs)) ≤ max_key_bytes
      → ((j : ℕ) → j < length ws → VersionSmall (get_or ws j no_stored)) → Stands area (length (area_of (gs ++ (g ∷ [])))) (area_of_versions ws)
      → length (area_of (gs ++ (g ∷ []))) + 25 * length ws ≤ end → Rising (last_of (λ v. v.offset) (versions_of (gs ++ (g ∷ [])))) ws
      → length (gs ++ (g ∷ [])) ≤ max_keys
      → versions_read (length ws) area end (builder_of (gs ++ (g ∷ []))) count ≡ Some (builder_of (gs ++ (join_group g ws ∷ [])))
  unfolding versions_read more_group
  versions_pass gs g count [] c k limit small at room rises few =
      λ i. Some (builder_of (gs ++ (record { key = g.key; versions = sym (append-nil g.versions) i } ∷ [])))
  versions_pass gs g count (w ∷ ws) c k limit small at room rises few =
      ap (λ (o : Option Builder). elim o [ Some q ↦ versions_read (length ws) area end q (count + 1) | None ↦ None ]) step
      ∙ versions_pass gs (more_group g w) (count + 1) ws (next-count) k limit (each_later w ws small) next_at next-room next-rises next-few
      ∙ ap (λ (l : List StoredVersion). Some (builder_of (gs ++ (record { key = g.key; versions = l } ∷ [])))) (append_snoc g.versions w ws)
    where
      n : length (area_of (gs ++ (more_group g w ∷ []))) ≡ length (area_of (gs ++ (g ∷ []))) + 25
      n = more_length gs g w

      next-count : count + 1 ≡ length (more_group g w).versions
      next-count = ap (λ (m : ℕ). m + 1) c ∙ more_count g w

      next_at : Stands area (length (area_of (gs ++ (more_group g w ∷ [])))) (area_of_versions ws)
      next_at = stands_at (sym n) (later_stand w ws at)

      next-room : length (area_of (gs ++ (more_group g w ∷ []))) + 25 * length ws ≤ end
      next-room = let m = n in omega arith

      next-rises : Rising (last_of (λ v. v.offset) (versions_of (gs ++ (more_group g w ∷ [])))) ws
      next-rises =
          subst (λ (m : ℕ). Rising m ws) (sym (ap (last_of (λ v. v.offset)) (versions_more gs g w) ∙ last_more (λ v. v.offset) (versions_of (gs ++ (g ∷ []))) w))
          (rises_later (last_of (λ v. v.offset) (versions_of (gs ++ (g ∷ [])))) w ws rises)

      next-few : length (gs ++ (more_group g w ∷ [])) ≤ max_keys
      next-few = let a = length_more gs g in let b = length_more gs (more_group g w) in omega arith

      step : version_read area end (builder_of (gs ++ (g ∷ []))) (builder_of (gs ++ (g ∷ []))).last_key (builder_of (gs ++ (g ∷ []))).used (count + 1) false
          ≡ Some (builder_of (gs ++ (more_group g w ∷ [])))
      step =
          version_more gs g count w c k limit (small 0 (omega arith)) (first_stands w ws at) (omega arith)
          (rises_first (last_of (λ v. v.offset) (versions_of (gs ++ (g ∷ [])))) w ws rises) few

  -- ---- a key

  version_new : (gs : List KeyGroup) (place : ℕ) (key : List ℕ) (v : StoredVersion) → AnchorStands area gs
      → area_key area (length (area_of gs)) ≡ key → area_key_len area (length (area_of gs)) ≤ max_key_bytes
      → VersionSmall v → Stands area place (fields_bytes (area_fields v)) → place + 25 ≤ end → last_of (λ v. v.offset) (versions_of gs) ≤ v.offset
      → length gs + 1 ≤ max_keys
      → version_read area end (builder_of gs) (length (area_of gs)) place 1 true ≡ Some (builder_of (gs ++ (new_group key v ∷ [])))
  unfolding builder_of group_totals when◌then◌else◌
  version_new gs place key v anchor k limit small at room offset few =
      version_passes_lem (builder_of gs) (length (area_of gs)) place 1 true key v small at k limit room offset few
      ∙ ap Some (builder_new area gs key v anchor)

  key_passes : (gs : List KeyGroup) (key : List ℕ) (v : StoredVersion) (ws : List StoredVersion) → AnchorStands area gs
      → GroupSmall (record { key = key; versions = v ∷ ws }) → Stands area (length (area_of gs)) (area_of_group (record { key = key; versions = v ∷ ws }))
      → length (area_of gs) + length (area_of_group (record { key = key; versions = v ∷ ws })) ≤ end
      → Rising (last_of (λ x. x.offset) (versions_of gs)) (v ∷ ws) → length gs + 1 ≤ max_keys
      → key_read area end (builder_of gs) ≡ Some (builder_of (gs ++ (record { key = key; versions = v ∷ ws } ∷ [])))
  unfolding key_read builder_of new_group versions_read_for
  key_passes gs key v ws anchor small at room rises few =
      let g : KeyGroup = record { key = key; versions = v ∷ ws } in
      let kl = key_len_read g small at in
      let c = count_read g small at in
      let len = group_area_length g in
      let vs = versions_stand g small at in
      let l : area_key_len area (length (area_of gs)) ≤ max_key_bytes = subst (λ (n : ℕ). n ≤ max_key_bytes) (sym kl) small.key in
      let place : length (area_of gs) + 8 + area_key_len area (length (area_of gs)) ≡ length (area_of gs) + 8 + length key = ap (λ (n : ℕ). length (area_of gs) + 8 + n) kl in
      let n : length (area_of (gs ++ (new_group key v ∷ []))) ≡ length (area_of gs) + 8 + length key + 25 = let m = area_more_length gs (new_group key v) in omega arith in
      yes _ _ (le-leb (length (area_of gs) + 8) end (omega arith))
      ∙ yes _ _ (le-leb (length (area_of gs) + 8 + area_key_len area (length (area_of gs))) end (omega arith))
      ∙ yes _ _ (lt-ltb 0 (area_versions area (length (area_of gs))) (omega arith))
      ∙ ap₂ (λ (k p : ℕ). versions_read_for (k - 1) area end (version_read area end (builder_of gs) (length (area_of gs)) p 1 true)) c place
      ∙ ap (versions_read_for (suc (length ws) - 1) area end)
      (version_new gs (length (area_of gs) + 8 + length key) key v anchor (key_read_lem g small at) l (small.versions 0 (omega arith)) (first_stands v ws vs) (omega arith)
      (rises_first (last_of (λ x. x.offset) (versions_of gs)) v ws rises) few)
      ∙ ap (λ (k : ℕ). versions_read k area end (builder_of (gs ++ (new_group key v ∷ []))) 1) (let e : suc (length ws) - 1 ≡ length ws = omega arith in e)
      ∙ versions_pass gs (new_group key v) 1 ws refl (key_read_lem g small at) l (each_later v ws small.versions) (stands_at (sym n) (later_stand v ws vs)) (omega arith)
      (subst (λ (m : ℕ). Rising m ws) (sym (ap (last_of (λ x. x.offset)) (versions_new gs key v) ∙ last_more (λ x. x.offset) (versions_of gs) v))
      (rises_later (last_of (λ x. x.offset) (versions_of gs)) v ws rises))
      (let m = length_more gs (new_group key v) in omega arith)

  key_pass : (gs : List KeyGroup) (key : List ℕ) (vs : List StoredVersion) → AnchorStands area gs
      → GroupSmall (record { key = key; versions = vs }) → Stands area (length (area_of gs)) (area_of_group (record { key = key; versions = vs }))
      → length (area_of gs) + length (area_of_group (record { key = key; versions = vs })) ≤ end
      → Rising (last_of (λ x. x.offset) (versions_of gs)) vs → length gs + 1 ≤ max_keys
      → key_read area end (builder_of gs) ≡ Some (builder_of (gs ++ (record { key = key; versions = vs } ∷ [])))
  key_pass gs key [] anchor small at room rises few = absurd (not-suc-le-zero small.some)
  key_pass gs key (v ∷ ws) anchor small at room rises few = key_passes gs key v ws anchor small at room rises few

  -- ---- all keys

  module _ (all : List KeyGroup) (sound : Sound all) (at : Stands area 0 (area_of all)) (ends : end ≡ length (area_of all)) where
    one_key : (gs : List KeyGroup) (h : KeyGroup) (hs : List KeyGroup) → gs ++ (h ∷ hs) ≡ all → key_read area end (builder_of gs) ≡ Some (builder_of (gs ++ (h ∷ [])))
    unfolding area_of versions_of last_of
    one_key gs h hs e =
        let whole = subst (λ (k : List KeyGroup). Stands area 0 (area_of k)) (sym e) at in
        let small = subst (λ (k : List KeyGroup). (i : ℕ) → i < length k → GroupSmall (get_or k i no_group)) (sym e) sound.small in
        let n = length-append gs (h ∷ hs) in
        let here = subst (Stands area 0) (area_append gs (h ∷ hs)) whole in
        let later = stands_at (zero-add (length (area_of gs))) (stands_right (area_of gs) (area_of (h ∷ hs)) (length (area_of gs)) refl here) in
        let long = ap (λ (k : List KeyGroup). length (area_of k)) (sym e) ∙ ap length (area_append gs (h ∷ hs)) ∙ length-append (area_of gs) (area_of (h ∷ hs)) in
        let more = length-append (area_of_group h) (area_of hs) in
        let r = (rising_append 0 (versions_of gs) (versions_of (h ∷ hs)) (subst (Rising 0) (ap versions_of (sym e) ∙ versions_append gs (h ∷ hs)) sound.rising)).1 in
        key_pass gs h.key h.versions (anchor_stands area gs (h ∷ hs) small whole)
        (subst GroupSmall (get_or-append_seam gs h hs no_group) (small (length gs) (omega arith)))
        (groups_stand_first h hs later) (omega arith) (rising_append _ h.versions (versions_of hs) r).0
        (let f = sound.few in let a = ap length e in omega arith)

    keys-pass : (most : ℕ) (gs hs : List KeyGroup) → gs ++ hs ≡ all → length hs < most → keys_read most area end (builder_of gs) ≡ Some (builder_of all)
    unfolding keys_read builder_of area_of
    keys-pass zero gs hs e h = absurd (not-suc-le-zero h)
    keys-pass (suc most) gs [] e h =
        let same : gs ≡ all = sym (append-nil gs) ∙ e in
        let l : end ≤ length (area_of gs) = let a = ap (λ (k : List KeyGroup). length (area_of k)) same in omega arith in
        ap (λ (b : Bool). elim b [ true ↦ Some (builder_of gs) | false ↦ elim (key_read area end (builder_of gs)) [ Some q ↦ keys_read most area end q | None ↦ None ] ])
        (le-leb end (length (area_of gs)) l)
        ∙ ap (λ (k : List KeyGroup). Some (builder_of k)) same
    keys-pass (suc most) gs (g ∷ hs) e h =
        let long = ap (λ (k : List KeyGroup). length (area_of k)) (sym e) ∙ ap length (area_append gs (g ∷ hs)) ∙ length-append (area_of gs) (area_of (g ∷ hs)) in
        let more = length-append (area_of_group g) (area_of hs) in
        let some_bytes = group_area_length g in
        ap (λ (b : Bool). elim b [ true ↦ Some (builder_of gs) | false ↦ elim (key_read area end (builder_of gs)) [ Some q ↦ keys_read most area end q | None ↦ None ] ])
        (lt-leb end (length (area_of gs)) (omega arith))
        ∙ ap (λ (o : Option Builder). elim o [ Some q ↦ keys_read most area end q | None ↦ None ]) (one_key gs g hs e)
        ∙ keys-pass most (gs ++ (g ∷ [])) hs (append_snoc gs g hs ∙ e) (omega arith)

-- a key takes bytes
few_keys : (gs : List KeyGroup) → length gs ≤ length (area_of gs)
unfolding area_of
few_keys [] = omega arith
few_keys (g ∷ gs) = omega (arith, few_keys gs, length-append (area_of_group g) (area_of gs), group_area_length g)

same_totals_lem : (t : Totals) → same_totals t t ≡ true
unfolding same_totals
same_totals_lem t =
    true_both _ _ (eq-eqb t.keys _ refl)
    (true_both _ _ (eq-eqb t.versions _ refl)
    (true_both _ _ (eq-eqb t.suffix_bytes _ refl)
    (true_both _ _ (eq-eqb t.min_seq _ refl)
    (true_both _ _ (eq-eqb t.max_seq _ refl)
    (true_both _ _ (eq-eqb t.max_key_len _ refl)
    (true_both _ _ (eq-eqb t.max_value_len _ refl)
    (true_both _ _ (eq-eqb t.max_versions _ refl) (eq-eqb t.last_value_offset _ refl))))))))

-- question 37 of writing
pub reads_back : (area : List ℕ) (gs : List KeyGroup) → Sound gs → Stands area 0 (area_of gs) → length (area_of gs) ≤ length area → reads_back_of area (builder_of gs) ≡ true
unfolding reads_back_of area_read reads_back_for builder_of
reads_back area gs sound at room =
    let n = few_keys gs in
    true_both _ _ (le-leb (length (area_of gs)) (length area) room)
    (ap (reads_back_for (builder_of gs))
    (ap (keys_read (suc (length (area_of gs))) area (length (area_of gs))) (sym builder_none)
    ∙ keys-pass area (length (area_of gs)) gs sound at refl (suc (length (area_of gs))) [] gs refl (omega arith))
    ∙ same_totals_lem (group_totals gs))
