-- Entries in order give groups in order, whose records are the entries.
-- Assumes nothing.
use mathlib.Core.Path.{◌≡◌, refl, sym, ap, ap₂, ◌∙◌, subst, subst⁻¹}
use mathlib.Core.List.{List, [], ◌∷◌, ◌++◌, append_assoc, map}
use mathlib.Core.Bool.{Bool, true, false}
use Prim.Native.Nat.{ℕ, zero, suc, ◌+◌, ◌-◌, ◌<◌, ◌≤◌}
use native.Mathlib.Nat.{not-suc-le-zero}
use native.Mathlib.Omega.{arith}
use lib.Dec.{ltb}
use lib.ListN.{length, get_or, take, get_or-append}
use lib.Seq.{get_or-append_seam, take_at}
use borrow.Author.Tests.{ltb-true, ltb-false}
use Rattle.num.specs.Order.{less_than}
use Rattle.num.proofs.Choice.{if_true, if_false, false_true}
use Rattle.block.specs.Walk.{Entry}
use Rattle.builder.specs.Offer.{Offer}
use Rattle.written.specs.Joined.{joined}
use Rattle.written.specs.Arena.{StoredVersion, KeyGroup, no_stored, no_group, group_key, group_versions, group_version}
use Rattle.written.specs.Opens.{GroupsInOrder, group_entry, group_entries, entries_of_groups}
use Rattle.written.proofs.Stands.{joined_same}
use Rattle.building.specs.Taken.{stored_of, new_group, more_group, last_group, groups_before, groups_with, groups_after, groups_of}
use Rattle.building.specs.InOrder.{no_offer, offer_at, InOrder, entry_added}
use Rattle.building.specs.Internal.{Sound, StartsNew}
use Rattle.building.proofs.Lists.{length_more, last_at, map_more, grown, either_part, part_either, one_part}
use Rattle.building.proofs.Runs.{groups_more}

-- ---- neighbours in a list

module _ {A : Type 0} (R : A → A → Type 0) (d : A) where
  abbrev Neighbours : List A → Type 0
  Neighbours l = (i : ℕ) → suc i < length l → R (get_or l i d) (get_or l (suc i) d)

  more_neighbours : (l : List A) (x : A) → Neighbours l → (0 < length l → R (get_or l (length l - 1) d) x) → Neighbours (l ++ (x ∷ []))
  more_neighbours l x old new i h = go (ltb (suc i) (length l)) refl
    where
      n : length (l ++ (x ∷ [])) ≡ length l + 1
      n = length_more l x

      go : (b : Bool) → ltb (suc i) (length l) ≡ b → R (get_or (l ++ (x ∷ [])) i d) (get_or (l ++ (x ∷ [])) (suc i) d)
      go true q =
          let k = ltb-true (suc i) (length l) q in
          subst⁻¹ (λ (y : A). R y (get_or (l ++ (x ∷ [])) (suc i) d)) (get_or-append l (x ∷ []) d i (omega arith))
          (subst⁻¹ (R (get_or l i d)) (get_or-append l (x ∷ []) d (suc i) k) (old i k))
      go false q =
          let k = ltb-false (suc i) (length l) q in
          let m = n in
          let e : suc i ≡ length l = omega arith in
          let f : i ≡ length l - 1 = omega arith in
          subst⁻¹ (λ (y : A). R y (get_or (l ++ (x ∷ [])) (suc i) d)) (get_or-append l (x ∷ []) d i (omega arith) ∙ ap (λ (j : ℕ). get_or l j d) f)
          (subst⁻¹ (R (get_or l (length l - 1) d)) (ap (λ (j : ℕ). get_or (l ++ (x ∷ [])) j d) e ∙ get_or-append_seam l x [] d) (new (omega arith)))

  fewer_neighbours : (l : List A) (x : A) → Neighbours (l ++ (x ∷ [])) → Neighbours l
  fewer_neighbours l x all i h =
      let n = length_more l x in
      subst (λ (y : A). R y (get_or l (suc i) d)) (get_or-append l (x ∷ []) d i (omega arith))
      (subst (R (get_or (l ++ (x ∷ [])) i d)) (get_or-append l (x ∷ []) d (suc i) h) (all i (omega arith)))

  last_neighbours : (l : List A) (x : A) → Neighbours (l ++ (x ∷ [])) → 0 < length l → R (get_or l (length l - 1) d) x
  last_neighbours l x all h =
      let n = length_more l x in
      let e : suc (length l - 1) ≡ length l = omega arith in
      subst (λ (y : A). R y x) (get_or-append l (x ∷ []) d (length l - 1) (omega arith))
      (subst (R (get_or (l ++ (x ∷ [])) (length l - 1) d)) (ap (λ (j : ℕ). get_or (l ++ (x ∷ [])) j d) e ∙ get_or-append_seam l x [] d) (all (length l - 1) (omega arith)))

-- ---- entries by neighbours

-- what an entry must be behind another
record Behind (e f : Offer) : Type 0 where
  rising : f.new_key ≡ true → less_than e.key f.key ≡ true
  same_key : f.new_key ≡ false → f.key ≡ e.key
  falling : f.new_key ≡ false → f.seq < e.seq

behind_each : (taken : List Offer) → InOrder taken → Neighbours Behind no_offer taken
unfolding offer_at
behind_each taken o i h = record { rising = o.rising i h; same_key = o.same_key i h; falling = o.falling i h }

-- ---- the records of groups

module _ {A B : Type 0} (f : A → B) where
  joined_more : (d : A) (l : List A) (x : A) → joined (λ j. f (get_or l j d) ∷ []) (length l) ≡ map f l
      → joined (λ j. f (get_or (l ++ (x ∷ [])) j d) ∷ []) (length (l ++ (x ∷ []))) ≡ map f (l ++ (x ∷ []))
  unfolding joined
  joined_more d l x h =
      let n : length (l ++ (x ∷ [])) ≡ suc (length l) = length_more l x ∙ omega arith in
      ap (joined (λ j. f (get_or (l ++ (x ∷ [])) j d) ∷ [])) n
      ∙ ap₂ ◌++◌
      (joined_same (λ j. f (get_or (l ++ (x ∷ [])) j d) ∷ []) (λ j. f (get_or l j d) ∷ []) (length l) (λ i k. ap (λ (y : A). f y ∷ []) (get_or-append l (x ∷ []) d i k)) ∙ h)
      (ap (λ (y : A). f y ∷ []) (get_or-append_seam l x [] d))
      ∙ sym (map_more f l x)

  joined_none : (d : A) → joined (λ j. f (get_or [] j d) ∷ []) 0 ≡ []
  unfolding joined
  joined_none d = refl

  joined_list : (d : A) (l : List A) → joined (λ j. f (get_or l j d) ∷ []) (length l) ≡ map f l
  joined_list d = grown (λ l. joined (λ j. f (get_or l j d) ∷ []) (length l) ≡ map f l) (joined_none d) (joined_more d)

entries_one : (gs : List KeyGroup) (g : KeyGroup) → entries_of_groups (gs ++ (g ∷ [])) ≡ entries_of_groups gs ++ map (group_entry g.key) g.versions
unfolding entries_of_groups group_entries group_key group_version group_versions joined
entries_one gs g =
    let n : length (gs ++ (g ∷ [])) ≡ suc (length gs) = length_more gs g ∙ omega arith in
    ap (joined (group_entries (gs ++ (g ∷ [])))) n
    ∙ ap₂ ◌++◌
    (joined_same (group_entries (gs ++ (g ∷ []))) (group_entries gs) (length gs) (λ i h. ap entries-of (get_or-append gs (g ∷ []) no_group i h)))
    (ap entries-of (get_or-append_seam gs g [] no_group) ∙ joined_list (group_entry g.key) no_stored g.versions)
  where
    entries-of : KeyGroup → List Entry
    entries-of x = joined (λ j. group_entry x.key (get_or x.versions j no_stored) ∷ []) (length x.versions)

entries_new : (gs : List KeyGroup) (key : List ℕ) (v : StoredVersion) → entries_of_groups (gs ++ (new_group key v ∷ [])) ≡ entries_of_groups gs ++ (group_entry key v ∷ [])
unfolding new_group
entries_new gs key v = entries_one gs (new_group key v)

entries_more : (gs : List KeyGroup) (g : KeyGroup) (v : StoredVersion)
    → entries_of_groups (gs ++ (more_group g v ∷ [])) ≡ entries_of_groups (gs ++ (g ∷ [])) ++ (group_entry g.key v ∷ [])
unfolding more_group
entries_more gs g v =
    entries_one gs (more_group g v)
    ∙ ap (λ (l : List Entry). entries_of_groups gs ++ l) (map_more (group_entry g.key) g.versions v)
    ∙ sym (append_assoc (entries_of_groups gs) (map (group_entry g.key) g.versions) (group_entry g.key v ∷ []))
    ∙ ap (λ (l : List Entry). l ++ (group_entry g.key v ∷ [])) (sym (entries_one gs g))

-- ---- groups with an offer

with_new : (gs : List KeyGroup) (e : Offer) → e.new_key ≡ true → groups_with gs e ≡ gs ++ (new_group e.key (stored_of e) ∷ [])
unfolding groups_with
with_new gs e t = if_true e.new_key (gs ++ (new_group e.key (stored_of e) ∷ [])) (groups_before gs ++ (more_group (last_group gs) (stored_of e) ∷ [])) t

with_more : (gs : List KeyGroup) (g : KeyGroup) (e : Offer) → e.new_key ≡ false → groups_with (gs ++ (g ∷ [])) e ≡ gs ++ (more_group g (stored_of e) ∷ [])
unfolding groups_with groups_before last_group
with_more gs g e f =
    let all = gs ++ (g ∷ []) in
    let n : length all - 1 ≡ length gs = let m = length_more gs g in omega arith in
    if_false e.new_key (all ++ (new_group e.key (stored_of e) ∷ [])) (groups_before all ++ (more_group (last_group all) (stored_of e) ∷ [])) f
    ∙ ap (λ (k : ℕ). take k all ++ (more_group (get_or all k no_group) (stored_of e) ∷ [])) n
    ∙ ap₂ (λ (l : List KeyGroup) (x : KeyGroup). l ++ (more_group x (stored_of e) ∷ [])) (take_at gs (g ∷ []) (length gs) refl) (get_or-append_seam gs g [] no_group)

-- ---- the induction over the entries

abbrev Rises : KeyGroup → KeyGroup → Type 0
Rises g h = less_than g.key h.key ≡ true

abbrev Falls : StoredVersion → StoredVersion → Type 0
Falls v w = w.seq < v.seq

-- the last group ends with an entry's version
abbrev ending : List ℕ → List StoredVersion → StoredVersion → KeyGroup
ending key earlier v = record { key = key; versions = earlier ++ (v ∷ []) }

record Ends (gs : List KeyGroup) (e : Offer) : Type 0 where
  before : List KeyGroup
  earlier : List StoredVersion
  is : gs ≡ before ++ (ending e.key earlier (stored_of e) ∷ [])

record Ordered (gs : List KeyGroup) (taken : List Offer) : Type 0 where
  keys : Neighbours Rises no_group gs
  seqs : (i : ℕ) → i < length gs → Neighbours Falls no_stored (get_or gs i no_group).versions
  ends : 0 < length taken → Ends gs (get_or taken (length taken - 1) no_offer)
  none : length taken ≡ 0 → length gs ≡ 0
  entries : entries_of_groups gs ≡ map entry_added taken

-- the last group of such groups
last_key : (gs : List KeyGroup) (e : Offer) → Ends gs e → (get_or gs (length gs - 1) no_group).key ≡ e.key
last_key gs e h =
    let g = ending e.key h.earlier (stored_of e) in
    let n : length gs - 1 ≡ length h.before = let a = ap length h.is in let m = length_more h.before g in omega arith in
    ap (λ (i : ℕ). (get_or gs i no_group).key) n
    ∙ ap (λ (l : List KeyGroup). (get_or l (length h.before) no_group).key) h.is
    ∙ ap (λ (x : KeyGroup). x.key) (get_or-append_seam h.before g [] no_group)

one_neighbour : (v : StoredVersion) → Neighbours Falls no_stored (v ∷ [])
one_neighbour v i h = absurd (not-suc-le-zero (let l : suc i ≤ 0 = omega arith in l))

module _ (taken : List Offer) (e : Offer) (gs : List KeyGroup) (o : Ordered gs taken) where
  ordered_new : e.new_key ≡ true → (0 < length taken → less_than (get_or taken (length taken - 1) no_offer).key e.key ≡ true)
      → Ordered (gs ++ (new_group e.key (stored_of e) ∷ [])) (taken ++ (e ∷ []))
  unfolding new_group group_entry stored_of entry_added
  ordered_new t less =
      let g = new_group e.key (stored_of e) in
      record {
        keys = more_neighbours Rises no_group gs g o.keys (λ h.
            let some : 0 < length taken = some_taken h in
            subst⁻¹ (λ (k : List ℕ). less_than k e.key ≡ true) (last_key gs (get_or taken (length taken - 1) no_offer) (o.ends some)) (less some));
        seqs = either_part (λ x. Neighbours Falls no_stored x.versions) gs (g ∷ []) no_group o.seqs
            (one_part (λ x. Neighbours Falls no_stored x.versions) g no_group (one_neighbour (stored_of e)));
        ends = λ h. subst⁻¹ (Ends (gs ++ (g ∷ []))) (last_at taken e no_offer) (record { before = gs; earlier = []; is = refl });
        none = λ z. absurd (let n = length_more taken e in omega arith);
        entries = entries_new gs e.key (stored_of e) ∙ ap (λ (l : List Entry). l ++ (entry_added e ∷ [])) o.entries ∙ sym (map_more entry_added taken e);
      }
    where
      some_taken : 0 < length gs → 0 < length taken
      some_taken h = go (length taken) refl
        where
          go : (n : ℕ) → length taken ≡ n → 0 < length taken
          go zero q = absurd (let z = o.none q in omega arith)
          go (suc n) q = omega arith

  -- behind an entry p
  ordered_more : (p : Offer) → e.key ≡ p.key → e.seq < p.seq → (n : Ends gs p)
      → Ordered (n.before ++ (more_group (ending p.key n.earlier (stored_of p)) (stored_of e) ∷ [])) (taken ++ (e ∷ []))
  unfolding more_group group_entry stored_of entry_added
  ordered_more p same less n =
      let g = ending p.key n.earlier (stored_of p) in
      let k = more_group g (stored_of e) in
      let keys = subst (Neighbours Rises no_group) n.is o.keys in
      let seqs = subst (λ (l : List KeyGroup). (i : ℕ) → i < length l → Neighbours Falls no_stored (get_or l i no_group).versions) n.is o.seqs in
      let parts = part_either (λ x. Neighbours Falls no_stored x.versions) n.before (g ∷ []) no_group seqs in
      let old : Neighbours Falls no_stored g.versions = parts.1 0 (omega arith) in
      let last : get_or g.versions (length g.versions - 1) no_stored ≡ stored_of p = last_at n.earlier (stored_of p) no_stored in
      record {
        keys = more_neighbours Rises no_group n.before k (fewer_neighbours Rises no_group n.before g keys) (last_neighbours Rises no_group n.before g keys);
        seqs = either_part (λ x. Neighbours Falls no_stored x.versions) n.before (k ∷ []) no_group parts.0
            (one_part (λ x. Neighbours Falls no_stored x.versions) k no_group
            (more_neighbours Falls no_stored g.versions (stored_of e) old (λ _. subst⁻¹ (λ (v : StoredVersion). e.seq < v.seq) last less)));
        ends = λ _. subst⁻¹ (Ends (n.before ++ (k ∷ []))) (last_at taken e no_offer)
            (record { before = n.before; earlier = g.versions; is = λ i. n.before ++ (ending (sym same i) g.versions (stored_of e) ∷ []) });
        none = λ z. absurd (let m = length_more taken e in omega arith);
        entries =
            entries_more n.before g (stored_of e)
            ∙ ap₂ (λ (l : List Entry) (key : List ℕ). l ++ (group_entry key (stored_of e) ∷ [])) (ap entries_of_groups (sym n.is) ∙ o.entries) (sym same)
            ∙ sym (map_more entry_added taken e);
      }

ordered_none : Ordered (groups_of []) []
unfolding groups_of groups_after entries_of_groups joined
ordered_none =
    record {
      keys = λ i h. absurd (not-suc-le-zero h);
      seqs = λ i h. absurd (not-suc-le-zero h);
      ends = λ h. absurd (not-suc-le-zero h);
      none = λ z. refl;
      entries = refl;
    }

starts_fewer : (taken : List Offer) (e : Offer) → StartsNew (taken ++ (e ∷ [])) → StartsNew taken × (length taken ≡ 0 → e.new_key ≡ true)
unfolding StartsNew
starts_fewer [] e s = (tt, λ _. s)
starts_fewer (f ∷ taken) e s = (s, λ z. absurd (omega arith))

abbrev Orders : List Offer → Type 0
Orders taken = Neighbours Behind no_offer taken → StartsNew taken → Ordered (groups_of taken) taken

ordered_step : (taken : List Offer) (e : Offer) → Orders taken → Orders (taken ++ (e ∷ []))
ordered_step taken e before all starts =
    subst⁻¹ (λ (gs : List KeyGroup). Ordered gs (taken ++ (e ∷ []))) (groups_more taken e) (go e.new_key refl)
  where
    o : Ordered (groups_of taken) taken
    o = before (fewer_neighbours Behind no_offer taken e all) (starts_fewer taken e starts).0

    next : 0 < length taken → Behind (get_or taken (length taken - 1) no_offer) e
    next h = last_neighbours Behind no_offer taken e all h

    some : e.new_key ≡ false → 0 < length taken
    some f = at (length taken) refl
      where
        at : (n : ℕ) → length taken ≡ n → 0 < length taken
        at zero q = false_true (sym f ∙ (starts_fewer taken e starts).1 q)
        at (suc n) q = omega arith

    go : (t : Bool) → e.new_key ≡ t → Ordered (groups_with (groups_of taken) e) (taken ++ (e ∷ []))
    go true q =
        subst⁻¹ (λ (gs : List KeyGroup). Ordered gs (taken ++ (e ∷ []))) (with_new (groups_of taken) e q)
        (ordered_new taken e (groups_of taken) o q (λ h. (next h).rising q))
    go false q =
        let h = some q in
        let n = o.ends h in
        let p = get_or taken (length taken - 1) no_offer in
        subst⁻¹ (λ (gs : List KeyGroup). Ordered gs (taken ++ (e ∷ [])))
        (ap (λ (gs : List KeyGroup). groups_with gs e) n.is ∙ with_more n.before (ending p.key n.earlier (stored_of p)) e q)
        (ordered_more taken e (groups_of taken) o p ((next h).same_key q) ((next h).falling q) n)

ordered : (taken : List Offer) → Orders taken
ordered = grown Orders (λ _ _. ordered_none) ordered_step

-- ---- what is asked of the groups

module _ (taken : List Offer) (order : InOrder taken) (starts : StartsNew taken) where
  abbrev result : Ordered (groups_of taken) taken
  result = ordered taken (behind_each taken order) starts

  pub entries_added : entries_of_groups (groups_of taken) ≡ map entry_added taken
  entries_added = result.entries

  pub groups_in_order : Sound (groups_of taken) → GroupsInOrder (groups_of taken)
  unfolding group_key group_version group_versions
  groups_in_order sound =
      record {
        rising = result.keys;
        falling = λ i j h l. result.seqs i h j l;
        key_limit = λ i h. (sound.small i h).key;
        value_limit = λ i j h l. ((sound.small i h).versions j l).size;
      }
