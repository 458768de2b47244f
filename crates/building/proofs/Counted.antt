-- The record of the groups with one more version is the record that an add keeps.
-- Assumes nothing.
use mathlib.Core.Path.{◌≡◌, refl, sym, ap, ap₂, ◌∙◌}
use mathlib.Core.List.{List, [], ◌∷◌, ◌++◌}
use mathlib.Core.Bool.{Bool, true, false}
use Prim.Native.Nat.{ℕ, ◌+◌, ◌-◌, ◌%◌, ◌<◌, ◌≤◌, min, max}
use native.Mathlib.Omega.{arith}
use lib.Dec.{eqb}
use lib.ListN.{length, length-drop}
use borrow.Author.Tests.{eqb-true, eqb-false}
use Rattle.num.specs.Choice.{when◌then◌else◌, both}
use Rattle.num.specs.Order.{common_prefix_len}
use Rattle.num.proofs.Choice.{if_true, if_false}
use Rattle.encoding.specs.Encoding.{group}
use Rattle.area.specs.Area.{area_key}
use Rattle.builder.specs.Record.{empty_builder, anchor_next, shared_with, totals_after, builder_after}
use Rattle.builder.proofs.Standing.{some_key}
use Rattle.written.specs.Arena.{StoredVersion, KeyGroup, group_key, group_anchor, group_shared, group_suffix, suffixes_before}
use Rattle.building.specs.Taken.{new_group, more_group, area_of, head_place, versions_of, greatest_of, least_of, last_of, group_totals, builder_of, taken_defs}
use Rattle.building.specs.Internal.{counted_as}
use Rattle.building.proofs.Lists.{length_more, greatest_more, least_more, last_more}
use Rattle.building.proofs.Grows.{versions_new, versions_more, area_more_length, place_before, place_end, place_last, key_before, key_end_lem, suffixes_end, suffixes_same}

-- no groups have the empty record
pub builder_none : builder_of [] ≡ empty_builder
unfolding taken_defs empty_builder suffixes_before group_anchor
builder_none = refl

-- ---- what is counted of versions alone

module _ (vs ws : List StoredVersion) (v : StoredVersion) (e : ws ≡ vs ++ (v ∷ [])) where
  one_more : length vs + 1 ≡ length ws
  one_more = sym (ap length e ∙ length_more vs v)

  least_seq : (when eqb (length vs) 0 then v.seq else min (least_of (λ x. x.seq) vs) v.seq) ≡ least_of (λ x. x.seq) ws
  least_seq = sym (ap (least_of (λ x. x.seq)) e ∙ least_more (λ x. x.seq) vs v)

  greatest_seq : max (greatest_of (λ x. x.seq) vs) v.seq ≡ greatest_of (λ x. x.seq) ws
  greatest_seq = sym (ap (greatest_of (λ x. x.seq)) e ∙ greatest_more (λ x. x.seq) vs v)

  greatest_size : max (greatest_of (λ x. x.size) vs) v.size ≡ greatest_of (λ x. x.size) ws
  greatest_size = sym (ap (greatest_of (λ x. x.size)) e ∙ greatest_more (λ x. x.size) vs v)

  last_offset : v.offset ≡ last_of (λ x. x.offset) ws
  last_offset = sym (ap (last_of (λ x. x.offset)) e ∙ last_more (λ x. x.offset) vs v)

-- ---- a new key

-- the latest anchor stands in the area, if the next key is none
pub record AnchorStands (area : List ℕ) (gs : List KeyGroup) : Type 0 where
  pub anchor : (length gs % group ≡ 0 → ⊥) → area_key area (head_place gs (group_anchor (length gs - 1))) ≡ group_key gs (group_anchor (length gs - 1))

anchor_again : (n : ℕ) → (n % group ≡ 0 → ⊥) → group_anchor n ≡ group_anchor (n - 1)
unfolding group_anchor
anchor_again n h = omega arith

anchor_here : (n : ℕ) → n % group ≡ 0 → group_anchor n ≡ n
unfolding group_anchor
anchor_here n h = omega arith

anchor_before : (n : ℕ) → 0 < n → group_anchor (n - 1) < n
unfolding group_anchor
anchor_before n h = omega arith

module _ (area : List ℕ) (gs : List KeyGroup) (key : List ℕ) (v : StoredVersion) where
  abbrev hs : List KeyGroup
  hs = gs ++ (new_group key v ∷ [])

  new_key : group_key hs (length gs) ≡ key
  unfolding new_group
  new_key = key_end_lem gs (new_group key v)

  -- it shares as much with the anchor as is counted
  new_shared : AnchorStands area gs → shared_with area (builder_of gs) key ≡ group_shared hs (length gs)
  unfolding shared_with anchor_next group_shared builder_of group_totals
  new_shared a = go (eqb (length gs % group) 0) refl
    where
      go : (b : Bool) → eqb (length gs % group) 0 ≡ b
          → (when eqb (length gs % group) 0 then 0 else common_prefix_len (area_key area (head_place gs (group_anchor (length gs - 1)))) key)
          ≡ (when eqb (length gs % group) 0 then 0 else common_prefix_len (group_key hs (group_anchor (length gs))) (group_key hs (length gs)))
      go true q = if_true (eqb (length gs % group) 0) 0 _ q ∙ sym (if_true (eqb (length gs % group) 0) 0 _ q)
      go false q =
          let z = eqb-false (length gs % group) 0 q in
          let some = some_key (length gs) z in
          if_false (eqb (length gs % group) 0) 0 _ q
          ∙ ap₂ common_prefix_len
          (a.anchor z ∙ sym (ap (group_key hs) (anchor_again (length gs) z) ∙ key_before gs (new_group key v ∷ []) (group_anchor (length gs - 1)) (anchor_before (length gs) some)))
          (sym new_key)
          ∙ sym (if_false (eqb (length gs % group) 0) 0 _ q)

  new_suffixes : AnchorStands area gs → suffixes_before gs (length gs) + (length key - shared_with area (builder_of gs) key) ≡ suffixes_before hs (length hs)
  unfolding group_suffix
  new_suffixes a =
      sym
      (suffixes_end gs (new_group key v)
      ∙ ap (λ (n : ℕ). suffixes_before gs (length gs) + n)
      (length-drop (group_shared hs (length gs)) (group_key hs (length gs)) ∙ ap₂ (λ (l : List ℕ) (n : ℕ). length l - n) new_key (sym (new_shared a))))

  new_place : length (area_of gs) ≡ head_place hs (length hs - 1)
  new_place = sym (place_last gs (new_group key v))

  new_anchor : (when both true (anchor_next (builder_of gs)) then length (area_of gs) else head_place gs (group_anchor (length gs - 1))) ≡ head_place hs (group_anchor (length hs - 1))
  unfolding both anchor_next builder_of group_totals
  new_anchor = go (eqb (length gs % group) 0) refl ∙ ap (λ (n : ℕ). head_place hs (group_anchor n)) n
    where
      n : length gs ≡ length hs - 1
      n = let m = length_more gs (new_group key v) in omega arith

      go : (b : Bool) → eqb (length gs % group) 0 ≡ b
          → (when eqb (length gs % group) 0 then length (area_of gs) else head_place gs (group_anchor (length gs - 1))) ≡ head_place hs (group_anchor (length gs))
      go true q =
          if_true (eqb (length gs % group) 0) _ _ q
          ∙ sym (ap (head_place hs) (anchor_here (length gs) (eqb-true (length gs % group) 0 q)) ∙ place_end gs (new_group key v ∷ []))
      go false q =
          let z = eqb-false (length gs % group) 0 q in
          let l = anchor_before (length gs) (some_key (length gs) z) in
          if_false (eqb (length gs % group) 0) _ _ q
          ∙ sym (ap (head_place hs) (anchor_again (length gs) z) ∙ place_before gs (new_group key v ∷ []) (group_anchor (length gs - 1)) (omega arith))

  new_used : length (area_of gs) + 25 + (8 + length key) ≡ length (area_of hs)
  unfolding new_group
  new_used = let n = area_more_length gs (new_group key v) in omega arith

  new_longest : max (greatest_of (λ g. length g.key) gs) (length key) ≡ greatest_of (λ g. length g.key) hs
  unfolding new_group
  new_longest = sym (greatest_more (λ g. length g.key) gs (new_group key v))

  new_most : max (greatest_of (λ g. length g.versions) gs) 1 ≡ greatest_of (λ g. length g.versions) hs
  unfolding new_group
  new_most = sym (greatest_more (λ g. length g.versions) gs (new_group key v))

  -- the record with a new key
  pub builder_new : AnchorStands area gs → builder_after area (builder_of gs) (counted_as key 1 v true) ≡ builder_of hs
  unfolding builder_after totals_after counted_as when◌then◌else◌ builder_of group_totals
  builder_new a = λ i.
      record {
        totals =
            record {
              keys = sym (length_more gs (new_group key v)) i;
              versions = one_more (versions_of gs) (versions_of hs) v (versions_new gs key v) i;
              suffix_bytes = new_suffixes a i;
              min_seq = least_seq (versions_of gs) (versions_of hs) v (versions_new gs key v) i;
              max_seq = greatest_seq (versions_of gs) (versions_of hs) v (versions_new gs key v) i;
              max_key_len = new_longest i;
              max_value_len = greatest_size (versions_of gs) (versions_of hs) v (versions_new gs key v) i;
              max_versions = new_most i;
              last_value_offset = last_offset (versions_of gs) (versions_of hs) v (versions_new gs key v) i;
            };
        used = new_used i;
        last_key = new_place i;
        anchor = new_anchor i;
      }

-- ---- one more version of the last key

module _ (area : List ℕ) (gs : List KeyGroup) (g : KeyGroup) (key : List ℕ) (v : StoredVersion) where
  abbrev before : List KeyGroup
  before = gs ++ (g ∷ [])

  abbrev after : List KeyGroup
  after = gs ++ (more_group g v ∷ [])

  more_keys : length before + 0 ≡ length after
  more_keys = let m = length_more gs g in let n = length_more gs (more_group g v) in omega arith

  more_suffixes : suffixes_before before (length before) + 0 ≡ suffixes_before after (length after)
  unfolding more_group
  more_suffixes = let e = suffixes_same gs g (more_group g v) refl in omega arith

  more_used : length (area_of before) + 25 + 0 ≡ length (area_of after)
  unfolding more_group
  more_used =
      let m = area_more_length gs g in
      let n = area_more_length gs (more_group g v) in
      let c = length_more g.versions v in
      omega arith

  more_longest : greatest_of (λ x. length x.key) before ≡ greatest_of (λ x. length x.key) after
  unfolding more_group
  more_longest = greatest_more (λ x. length x.key) gs g ∙ sym (greatest_more (λ x. length x.key) gs (more_group g v))

  more_most : max (greatest_of (λ x. length x.versions) before) (length g.versions + 1) ≡ greatest_of (λ x. length x.versions) after
  unfolding more_group
  more_most =
      let a = greatest_more (λ x. length x.versions) gs g in
      let b = greatest_more (λ x. length x.versions) gs (more_group g v) in
      let c = length_more g.versions v in
      omega arith

  more_place : (i : ℕ) → i ≤ length gs → head_place before i ≡ head_place after i
  more_place i h = place_before gs (g ∷ []) i h ∙ sym (place_before gs (more_group g v ∷ []) i h)

  more_last : head_place before (length before - 1) ≡ head_place after (length after - 1)
  more_last = place_last gs g ∙ sym (place_last gs (more_group g v))

  more_anchor : head_place before (group_anchor (length before - 1)) ≡ head_place after (group_anchor (length after - 1))
  unfolding group_anchor
  more_anchor =
      let n : length before - 1 ≡ length after - 1 = let k = more_keys in omega arith in
      let m = length_more gs g in
      more_place (group_anchor (length before - 1)) (omega arith) ∙ ap (λ (k : ℕ). head_place after (group_anchor k)) n

  pub builder_more : builder_after area (builder_of before) (counted_as key (length g.versions + 1) v false) ≡ builder_of after
  unfolding builder_after totals_after counted_as when◌then◌else◌ both builder_of group_totals
  builder_more = λ i.
      record {
        totals =
            record {
              keys = more_keys i;
              versions = one_more (versions_of before) (versions_of after) v (versions_more gs g v) i;
              suffix_bytes = more_suffixes i;
              min_seq = least_seq (versions_of before) (versions_of after) v (versions_more gs g v) i;
              max_seq = greatest_seq (versions_of before) (versions_of after) v (versions_more gs g v) i;
              max_key_len = more_longest i;
              max_value_len = greatest_size (versions_of before) (versions_of after) v (versions_more gs g v) i;
              max_versions = more_most i;
              last_value_offset = last_offset (versions_of before) (versions_of after) v (versions_more gs g v) i;
            };
        used = more_used i;
        last_key = more_last i;
        anchor = more_anchor i;
      }
