-- Buckets of two and more, one after another: they leave as many free slots as there are buckets of one, and members of equal hash
-- have no pilot.
-- Assumes nothing.
use mathlib.Core.Path.{◌≡◌, refl, sym, ap, ◌∙◌}
use mathlib.Core.Logic.{◌⊎◌, inl, inr}
use mathlib.Core.Bool.{Bool, true, false}
use mathlib.Core.List.Memᴰ
use mathlib.Core.List.{List, [], ◌∷◌, map, Memᴰ}
use mathlib.Core.Option.{Option, some, none}
use Prim.Native.Nat.{ℕ, zero, suc, ◌+◌, ◌<◌, ◌≤◌}
use native.Mathlib.Omega.{arith}
use lib.Dec.{leb, eqb}
use lib.ListN.{length, get_or, length-set, length-map, length-replicate}
use borrow.Author.Tests.{leb-true, leb-false, le-leb, lt-leb, ne_eqb}
use Rattle.num.specs.Choice.{when◌then◌else◌}
use Rattle.num.proofs.Choice.{false_true, if_true, if_false}
use Rattle.num.proofs.Steps.{yes_each}
use Rattle.point.specs.Hash.{position_of}
use Rattle.construction.specs.Construct.{Placement, bucket_count, members_of, size_of, order_of, empty_placement, different, positions_of, serves, least_pilot, bucket_placed, bucket_placed_for, place_bucket, place_buckets, singles_for, hashes_differ, placement_of}
use Rattle.construction.specs.Internal.{free_count, singles_in}
use Rattle.construction.proofs.Sorted.{member_each}
use Rattle.construction.proofs.Different.{Distinct, two_different, distinct_from, placeable_are}
use Rattle.construction.proofs.Free.{free_all}
use Rattle.construction.proofs.Members.{total, member_is, some_member, sizes_all}
use Rattle.construction.proofs.Order.{is_order}
use Rattle.construction.proofs.Filling.{fill_length, fill_free, least_pilot_lem}

-- as many pilots as buckets and as many slots as keys
pub record Shape (hs : List ℕ) (t : Placement) : Type 0 where
  pub pilots_length : length t.pilots ≡ bucket_count hs
  pub slots_length : length t.slots ≡ length hs

module _ (hs : List ℕ) where
  -- ---- one bucket

  -- what became of bucket x: a pilot and its members' slots, or nothing
  pub data Turn (t : Placement) (x : ℕ) (u : Placement) : Type 0 where
    large : (p : ℕ) → 2 ≤ size_of hs x → least_pilot hs t.slots x ≡ some p → bucket_placed hs t x p ≡ u → Turn t x u
    small : size_of hs x < 2 → t ≡ u → Turn t x u

  pub turn_of : (t u : Placement) (x : ℕ) → place_bucket hs t x ≡ some u → Turn t x u
  unfolding place_bucket bucket_placed_for when◌then◌else◌
  turn_of t u x e = go (leb 2 (size_of hs x)) refl e
    where
      pilot : (o : Option ℕ) → least_pilot hs t.slots x ≡ o → 2 ≤ size_of hs x → bucket_placed_for hs t x o ≡ some u → Turn t x u
      pilot (some p) q h e = large p h q (cc)
      pilot none q h e = absurd (let z : ◌≡◌ {A = ℕ} 0 1 = cc in omega arith)

      go : (b : Bool) → leb 2 (size_of hs x) ≡ b → (when b then bucket_placed_for hs t x (least_pilot hs t.slots x) else some t) ≡ some u → Turn t x u
      go true q e = pilot (least_pilot hs t.slots x) refl (leb-true 2 (size_of hs x) q) e
      go false q e = small (leb-false 2 (size_of hs x) q) (cc)

  -- one bucket after another
  pub buckets_step : (t u : Placement) (x : ℕ) (xs : List ℕ) → place_buckets hs t (x ∷ xs) ≡ some u
      → (v : Placement) × (place_bucket hs t x ≡ some v) × (place_buckets hs v xs ≡ some u)
  unfolding place_buckets
  buckets_step t u x xs e = go (place_bucket hs t x) refl e
    where
      go : (o : Option Placement) → place_bucket hs t x ≡ o → elim o [ some v ↦ place_buckets hs v xs | none ↦ none ] ≡ some u
          → (v : Placement) × (place_bucket hs t x ≡ some v) × (place_buckets hs v xs ≡ some u)
      go (some v) q e = (v, q, e)
      go none q e = absurd (let z : ◌≡◌ {A = ℕ} 0 1 = cc in omega arith)

  placed_shape : (t : Placement) (x p : ℕ) → Shape hs t → Shape hs (bucket_placed hs t x p)
  unfolding bucket_placed positions_of
  placed_shape t x p h =
      record {
        pilots_length = length-set t.pilots x p ∙ h.pilots_length;
        slots_length = fill_length (λ i. position_of (get_or hs i 0) p (length hs)) (members_of hs x) t.slots ∙ h.slots_length;
      }

  pub turn_shape : (t u : Placement) (x : ℕ) → Turn t x u → Shape hs t → Shape hs u
  turn_shape t u x (large p l q e) h = rw e at (placed_shape t x p h)
  turn_shape t u x (small l e) h = rw e at h

  pub empty_shape : Shape hs (empty_placement hs)
  unfolding empty_placement
  empty_shape = record { pilots_length = length-replicate (bucket_count hs) 0; slots_length = length-replicate (length hs) (length hs) }

  -- ---- free slots

  -- the members of a bucket take as many free slots as they are
  placed_free : (t : Placement) (x p : ℕ) → Shape hs t → 2 ≤ size_of hs x → serves hs t.slots x p ≡ true
      → free_count (bucket_placed hs t x p).slots + size_of hs x ≡ free_count t.slots
  unfolding bucket_placed positions_of serves size_of
  placed_free t x p h l e =
      let n = h.slots_length in
      let r = placeable_are t.slots (positions_of hs (members_of hs x) p) e in
      let k : 0 < length t.slots = omega (arith, some_member hs x (omega arith)) in
      fill_free (λ i. position_of (get_or hs i 0) p (length hs)) (members_of hs x) t.slots k r.0 r.1
      (member_each (λ i. i < length t.slots) (members_of hs x) (λ i m. let s = (member_is hs x i m).0 in omega arith))

  -- the members of the buckets of two and more
  unfoldable large_in : List ℕ → ℕ
  large_in l = total (λ x. when leb 2 (size_of hs x) then size_of hs x else 0) l

  turn_free : (t u : Placement) (x : ℕ) → Shape hs t → Turn t x u
      → free_count u.slots + (when leb 2 (size_of hs x) then size_of hs x else 0) ≡ free_count t.slots
  turn_free t u x h (large p l q e) =
      rw (if_true (leb 2 (size_of hs x)) (size_of hs x) 0 (le-leb 2 (size_of hs x) l), ← e)
      (placed_free t x p h l (least_pilot_lem hs t.slots x p q).1.serves_it)
  turn_free t u x h (small l e) = rw (if_false (leb 2 (size_of hs x)) (size_of hs x) 0 (lt-leb 2 (size_of hs x) l), e) (omega arith)

  buckets_free : (l : List ℕ) (t u : Placement) → Shape hs t → place_buckets hs t l ≡ some u → free_count u.slots + large_in l ≡ free_count t.slots
  unfolding place_buckets large_in total
  buckets_free [] t u h e = let z : t ≡ u = cc in rw z (omega arith)
  buckets_free (x ∷ l) t u h e =
      let s = buckets_step t u x l e in
      let w = turn_of t s.0 x s.1 in
      let a = turn_free t s.0 x h w in
      let b = buckets_free l s.0 u (turn_shape t s.0 x w h) s.2 in
      omega arith

  large_or_single : (size : ℕ) → (when leb 2 size then size else 0) + (when eqb size 1 then 1 else 0) ≡ size
  unfolding when◌then◌else◌
  large_or_single zero = refl
  large_or_single (suc zero) = refl
  large_or_single (suc (suc k)) = rw (le-leb 2 (suc (suc k)) (omega arith), ne_eqb (suc (suc k)) 1 (λ e. omega arith)) (omega arith)

  -- large and single buckets together have all members
  large_single : (l : List ℕ) → large_in l + singles_in hs l ≡ total (size_of hs) l
  unfolding large_in total singles_in
  large_single [] = refl
  large_single (x ∷ l) = let r = large_single l in let s = large_or_single (size_of hs x) in omega arith

  -- the buckets of two and more leave as many free slots as there are buckets of one
  pub free_singles : (t : Placement) → place_buckets hs (empty_placement hs) (order_of hs) ≡ some t → free_count t.slots ≡ singles_in hs (order_of hs)
  unfolding empty_placement
  free_singles t e =
      omega (arith, buckets_free (order_of hs) (empty_placement hs) t empty_shape e, free_all (length hs), large_single (order_of hs), sizes_all hs)

  -- ---- equal hashes

  -- the hashes of the members of bucket x
  abbrev pub member_hashes : ℕ → List ℕ
  member_hashes x = map (λ i. get_or hs i 0) (members_of hs x)

  short_distinct : (l : List ℕ) → length l < 2 → Distinct l
  short_distinct [] h = tt
  short_distinct (x ∷ []) h = (tt, tt)
  short_distinct (x ∷ y ∷ l) h = absurd (omega arith)

  -- members of equal hash have equal positions under every pilot
  turn_differs : (t u : Placement) (x : ℕ) → Turn t x u → different (member_hashes x) ≡ true
  unfolding serves positions_of size_of
  turn_differs t u x (large p l q e) =
      let s = (least_pilot_lem hs t.slots x p q).1.serves_it in
      two_different (member_hashes x)
      (distinct_from (λ i. position_of (get_or hs i 0) p (length hs)) (λ i. get_or hs i 0) (members_of hs x)
      (λ i j same. ap (λ (h : ℕ). position_of h p (length hs)) same) (placeable_are t.slots (positions_of hs (members_of hs x) p) s).1)
  turn_differs t u x (small l e) = two_different (member_hashes x) (short_distinct (member_hashes x) (omega (arith, length-map (members_of hs x) (λ i. get_or hs i 0))))

  buckets_differ : (l : List ℕ) (t u : Placement) → place_buckets hs t l ≡ some u → (x : ℕ) → Memᴰ x l → different (member_hashes x) ≡ true
  buckets_differ [] t u e x m = absurd (Memᴰ.not-nil m)
  buckets_differ (y ∷ l) t u e x m =
      let s = buckets_step t u y l e in
      go s.0 s.1 (buckets_differ l s.0 u s.2 x) (Memᴰ.cases_cons m)
    where
      go : (v : Placement) → place_bucket hs t y ≡ some v → (Memᴰ x l → different (member_hashes x) ≡ true) → (x ≡ y) ⊎ Memᴰ x l
          → different (member_hashes x) ≡ true
      go v q rest (inl same) = rw same (turn_differs t v y (turn_of t v y q))
      go v q rest (inr n) = rest n

  -- buckets that are all placed have members of different hashes
  pub placed_differ : (t : Placement) → place_buckets hs (empty_placement hs) (order_of hs) ≡ some t → hashes_differ hs ≡ true
  unfolding hashes_differ
  placed_differ t e =
      yes_each (λ x. different (member_hashes x)) (bucket_count hs) (λ x h. buckets_differ (order_of hs) (empty_placement hs) t e x (is_order hs x h))

  -- so equal hashes are a bucket without pilot
  pub equal_none : hashes_differ hs ≡ false → place_buckets hs (empty_placement hs) (order_of hs) ≡ none
  equal_none d = go (place_buckets hs (empty_placement hs) (order_of hs)) refl
    where
      go : (o : Option Placement) → place_buckets hs (empty_placement hs) (order_of hs) ≡ o → o ≡ none
      go (some t) e = false_true (sym d ∙ placed_differ t e)
      go none e = refl

  -- and need not be asked for
  pub differ_unasked : placement_of hs ≡ singles_for hs (place_buckets hs (empty_placement hs) (order_of hs))
  unfolding placement_of when◌then◌else◌ singles_for
  differ_unasked = go (hashes_differ hs) refl
    where
      go : (b : Bool) → hashes_differ hs ≡ b
          → (when b then singles_for hs (place_buckets hs (empty_placement hs) (order_of hs)) else none) ≡ singles_for hs (place_buckets hs (empty_placement hs) (order_of hs))
      go true e = refl
      go false e = sym (ap (singles_for hs) (equal_none e))
