-- A placement whole: the pilots of its buckets, and the keys in its slots.
-- Assumes nothing.
use mathlib.Core.Path.{◌≡◌, refl, sym, ap, ◌∙◌, subst⁻¹}
use mathlib.Core.Bool.{Bool, true, false}
use mathlib.Core.List.Memᴰ
use mathlib.Core.List.{List, [], ◌∷◌, ◌++◌, append-nil, Memᴰ}
use mathlib.Core.Option.{Option, some, none}
use Prim.Native.Nat.{ℕ, zero, suc, ◌+◌, ◌^◌, ◌<◌, ◌≤◌}
use native.Mathlib.Omega.{arith}
use lib.Dec.{eqb, leb, ltb}
use lib.ListN.{length, get_or, replicate, get_or-eq_default}
use lib.Seq.{get_or-set_same, get_or-set_other}
use borrow.Author.Tests.{eqb-true, eqb-false, leb-true, leb-false, ltb-true, ltb-false}
use Rattle.num.proofs.Counting.{all_taken}
use Rattle.construction.specs.Construct.{Placement, bucket_count, size_of, order_of, empty_placement, bucket_placed, place_buckets, least_free, place_single, place_singles, singles_for, placement_of}
use Rattle.construction.specs.Promises.{bucket_at, slot_at, LeastPilot, LeastPilots, FirstSlots, PilotSound, searched, direct, Filled}
use Rattle.construction.proofs.Sorted.{each_member, two_end, member_split}
use Rattle.construction.proofs.Order.{order_is, is_order}
use Rattle.construction.proofs.Free.{before_least}
use Rattle.construction.proofs.Members.{bucket_below, bucket_some, order_distinct}
use Rattle.construction.proofs.Filling.{least_pilot_lem}
use Rattle.construction.proofs.Placing.{Shape, empty_shape, Turn, large, small, turn_of, buckets_step, free_singles, differ_unasked}
use Rattle.construction.proofs.Slots.{Owned, buckets_shape, buckets_split, buckets_own}
use Rattle.construction.proofs.Singles.{Left, single_is, single_not, single_free, single_left, single_owns, singles_append, singles_left, singles_keep}

module _ (hs : List ℕ) where
  -- ---- the pilot of a bucket is set once

  turn_pilot : (t u : Placement) (x y : ℕ) → Turn hs t x u → (y ≡ x → 2 ≤ size_of hs x → ⊥) → get_or u.pilots y 0 ≡ get_or t.pilots y 0
  unfolding bucket_placed
  turn_pilot t u x y (large p l q e) n = rw (← e) (get_or-set_other t.pilots x y p 0 (λ same. n same l))
  turn_pilot t u x y (small l e) n = rw e

  buckets_pilot : (l : List ℕ) (t u : Placement) (y : ℕ) → place_buckets hs t l ≡ some u → (Memᴰ y l → 2 ≤ size_of hs y → ⊥)
      → get_or u.pilots y 0 ≡ get_or t.pilots y 0
  unfolding place_buckets
  buckets_pilot [] t u y e n = let z : t ≡ u = cc in rw z
  buckets_pilot (x ∷ l) t u y e n =
      let s = buckets_step hs t u x l e in
      buckets_pilot l s.0 u y s.2 (λ m. n (Memᴰ.tail m))
      ∙ turn_pilot t s.0 x y (turn_of hs t s.0 x s.1) (λ same k. n (Memᴰ.head same) (rw same k))

  single_pilot : (t : Placement) (x y : ℕ) → (y ≡ x → size_of hs x ≡ 1 → ⊥) → get_or (place_single hs t x).pilots y 0 ≡ get_or t.pilots y 0
  single_pilot t x y n = go (eqb (size_of hs x) 1) refl
    where
      go : (b : Bool) → eqb (size_of hs x) 1 ≡ b → get_or (place_single hs t x).pilots y 0 ≡ get_or t.pilots y 0
      go true q =
          let e = eqb-true (size_of hs x) 1 q in
          rw (single_is hs t x e) (get_or-set_other t.pilots x y (2 ^ 31 + least_free t.slots) 0 (λ same. n same e))
      go false q = rw (single_not hs t x (eqb-false (size_of hs x) 1 q))

  singles_pilot : (l : List ℕ) (t : Placement) (y : ℕ) → (Memᴰ y l → size_of hs y ≡ 1 → ⊥)
      → get_or (place_singles hs t l).pilots y 0 ≡ get_or t.pilots y 0
  unfolding place_singles
  singles_pilot [] t y n = refl
  singles_pilot (x ∷ l) t y n =
      singles_pilot l (place_single hs t x) y (λ m. n (Memᴰ.tail m))
      ∙ single_pilot t x y (λ same e. n (Memᴰ.head same) (ap (size_of hs) same ∙ e))

  -- ---- the two parts of a placement

  -- no bucket comes again
  not_again : (before : List ℕ) (x : ℕ) (after : List ℕ) → order_of hs ≡ before ++ (x ∷ after) → Memᴰ x after → ⊥
  not_again before x after o m =
      each_member (λ y. x ≡ y → ⊥) (two_end (λ a b. a ≡ b → ⊥) before (x ∷ after) (rw o at (order_distinct hs))).0 m refl

  -- the order, cut at bucket x
  cut : (x : ℕ) → x < bucket_count hs → (before : List ℕ) × (after : List ℕ) × (order_of hs ≡ before ++ (x ∷ after))
  cut x h = member_split (is_order hs x h)

  cut_below : (before : List ℕ) (x : ℕ) (after : List ℕ) → order_of hs ≡ before ++ (x ∷ after) → x < bucket_count hs
  cut_below before x after o = order_is hs x (subst⁻¹ (λ (l : List ℕ). Memᴰ x l) o (Memᴰ.append_right before (Memᴰ.head refl)))

  pub parts : (t : Placement) → placement_of hs ≡ some t
      → (u : Placement) × (place_buckets hs (empty_placement hs) (order_of hs) ≡ some u) × (place_singles hs u (order_of hs) ≡ t)
  unfolding singles_for
  parts t e = go (place_buckets hs (empty_placement hs) (order_of hs)) refl (sym (differ_unasked hs) ∙ e)
    where
      go : (o : Option Placement) → place_buckets hs (empty_placement hs) (order_of hs) ≡ o → singles_for hs o ≡ some t
          → (u : Placement) × (place_buckets hs (empty_placement hs) (order_of hs) ≡ some u) × (place_singles hs u (order_of hs) ≡ t)
      go (some u) q e = (u, q, cc)
      go none q e = absurd (let z : ◌≡◌ {A = ℕ} 0 1 = cc in omega arith)

  -- ---- the pilots

  module _ (t u : Placement) (large-placed : place_buckets hs (empty_placement hs) (order_of hs) ≡ some u)
      (singles-placed : place_singles hs u (order_of hs) ≡ t)
    where
      left : Left hs u (order_of hs)
      left = record { shape = buckets_shape hs (order_of hs) (empty_placement hs) u large-placed (empty_shape hs); free = free_singles hs u large-placed }

      pub large_pilots : LeastPilots hs t
      unfolding LeastPilots bucket_placed
      large_pilots before x after o k =
          let s = buckets_split hs before (x ∷ after) (empty_placement hs) u (rw o at large-placed) in
          let r = buckets_step hs s.0 u x after s.2 in
          let v = buckets_shape hs before (empty_placement hs) s.0 s.1 (empty_shape hs) in
          let later : get_or t.pilots x 0 ≡ get_or r.0.pilots x 0 =
          rw (← singles-placed)
          (singles_pilot (order_of hs) u x (λ m e. omega arith) ∙ buckets_pilot after r.0 u x r.2 (λ m _. not_again before x after o m)) in
          (s.0, s.1, rw later (go s.0 r.0 v (turn_of hs s.0 r.0 x r.1)))
        where
          go : (v w : Placement) → Shape hs v → Turn hs v x w → LeastPilot hs v.slots x (get_or w.pilots x 0)
          go v w h (large p l q e) =
              let f = least_pilot_lem hs v.slots x p q in
              let inside : x < length v.pilots = rw h.pilots_length (cut_below before x after o) in
              rw (← e, get_or-set_same v.pilots x p 0 inside)
              (record { below = f.0; serving = f.1.serves_it; least = λ j b. f.1.none_before j (omega arith) b })
          go v w h (small l e) = absurd (omega arith)

      pub single_pilots : FirstSlots hs t
      unfolding FirstSlots place_singles
      single_pilots before x after o e =
          let v = place_singles hs u before in
          let at = least_free v.slots in
          let h : Left hs v (x ∷ after) = singles_left hs before (x ∷ after) u (rw o at left) in
          let f = single_free hs v x after h e in
          let inside : x < length v.pilots = rw h.shape.pilots_length (cut_below before x after o) in
          let whole : t ≡ place_singles hs (place_single hs v x) after =
          sym singles-placed ∙ ap (place_singles hs u) o ∙ singles_append hs before (x ∷ after) u in
          let pilot : get_or t.pilots x 0 ≡ 2 ^ 31 + at =
          rw whole
          (singles_pilot after (place_single hs v x) x (λ m _. not_again before x after o m)
          ∙ rw (single_is hs v x e) (get_or-set_same v.pilots x (2 ^ 31 + at) 0 inside)) in
          (u, at, large-placed, record { inside = f.0; free = f.1; first = λ k b. before_least v.slots k f.0 b }, pilot)

      pub empty_pilots : (x : ℕ) → size_of hs x ≡ 0 → get_or t.pilots x 0 ≡ 0
      unfolding empty_placement
      empty_pilots x e =
          rw (← singles-placed)
          (singles_pilot (order_of hs) u x (λ m q. omega arith)
          ∙ buckets_pilot (order_of hs) (empty_placement hs) u x large-placed (λ m q. omega arith) ∙ zeros (bucket_count hs) x)
        where
          zeros : (n k : ℕ) → get_or {A = ℕ} (replicate n 0) k 0 ≡ 0
          zeros zero k = refl
          zeros (suc n) zero = refl
          zeros (suc n) (suc k) = zeros n k

      final-shape : Shape hs t
      final-shape = rw singles-placed at (singles_left hs (order_of hs) [] u (rw (append-nil (order_of hs)) left)).shape

      large-sound : (x : ℕ) → x < bucket_count hs → 2 ≤ size_of hs x → PilotSound (length hs) (get_or t.pilots x 0)
      unfolding LeastPilots
      large-sound x h k = let c = cut x h in searched (large_pilots c.0 x c.1 c.2 k).2.below

      single-sound : length hs ≤ 2 ^ 20 → (x : ℕ) → x < bucket_count hs → size_of hs x ≡ 1 → PilotSound (length hs) (get_or t.pilots x 0)
      unfolding FirstSlots
      single-sound few x h k =
          let c = cut x h in
          let f = single_pilots c.0 x c.1 c.2 k in
          let at = f.1 in
          let found = f.2 in
          let same : f.0 ≡ u = cc in
          let n = (singles_left hs c.0 (x ∷ c.1) u (rw c.2 at left)).shape.slots_length in
          let inside : at < length hs = omega (arith, rw same at f.3.inside) in
          direct at inside f.4

      -- every pilot is below 100,000 or names a slot
      pub sound_pilots : length hs ≤ 2 ^ 20 → (x : ℕ) → PilotSound (length hs) (get_or t.pilots x 0)
      sound_pilots few x = go (ltb x (bucket_count hs)) refl
        where
          sized : x < bucket_count hs → (b c : Bool) → leb 2 (size_of hs x) ≡ b → eqb (size_of hs x) 0 ≡ c → PilotSound (length hs) (get_or t.pilots x 0)
          sized h true c p q = large-sound x h (leb-true 2 (size_of hs x) p)
          sized h false true p q = searched (rw (empty_pilots x (eqb-true (size_of hs x) 0 q)) (omega arith))
          sized h false false p q =
              let l = leb-false 2 (size_of hs x) p in
              let d = eqb-false (size_of hs x) 0 q in
              single-sound few x h (omega arith)

          go : (b : Bool) → ltb x (bucket_count hs) ≡ b → PilotSound (length hs) (get_or t.pilots x 0)
          go true p = sized (ltb-true x (bucket_count hs) p) (leb 2 (size_of hs x)) (eqb (size_of hs x) 0) refl refl
          go false p =
              let out : length t.pilots ≤ x = omega (arith, final-shape.pilots_length, ltb-false x (bucket_count hs) p) in
              searched (rw (get_or-eq_default t.pilots 0 out) (omega arith))

      -- ---- the slots

      -- every key stands in its slot
      all-owned : length hs ≤ 2 ^ 20 → (i : ℕ) → i < length hs → Owned hs t i
      unfolding place_singles
      all-owned few i k = go (eqb (size_of hs (bucket_at hs i)) 1) refl
        where
          go : (b : Bool) → eqb (size_of hs (bucket_at hs i)) 1 ≡ b → Owned hs t i
          go true q =
              let x = bucket_at hs i in
              let e = eqb-true (size_of hs x) 1 q in
              let c = cut x (bucket_below hs i k) in
              let v = place_singles hs u c.0 in
              let h : Left hs v (x ∷ c.1) = singles_left hs c.0 (x ∷ c.1) u (rw c.2 at left) in
              rw (← singles-placed, c.2, singles_append hs c.0 (x ∷ c.1) u)
              (singles_keep hs c.1 (place_single hs v x) (single_left hs v x c.1 h) i k
              (λ m _. not_again c.0 x c.1 c.2 m) (single_owns hs v x c.1 h e few i k refl))
          go false q =
              let x = bucket_at hs i in
              let d = eqb-false (size_of hs x) 1 q in
              rw (← singles-placed)
              (singles_keep hs (order_of hs) u left i k (λ m e. d e)
              (buckets_own hs (order_of hs) (empty_placement hs) u large-placed (empty_shape hs) (order_distinct hs) i k
              (omega (arith, bucket_some hs i k)) (is_order hs x (bucket_below hs i k))))

      -- no two keys in one
      slots-differ : length hs ≤ 2 ^ 20 → (i j : ℕ) → i < length hs → j < length hs → slot_at hs t i ≡ slot_at hs t j → i ≡ j
      slots-differ few i j a b e = sym (all-owned few i a).held ∙ ap (λ (s : ℕ). get_or t.slots s 0) e ∙ (all-owned few j b).held

      -- so each slot has a key
      each-slot : length hs ≤ 2 ^ 20 → (at : ℕ) → at < length hs → (get_or t.slots at 0 < length hs) × (slot_at hs t (get_or t.slots at 0) ≡ at)
      each-slot few at k =
          let r = all_taken (length hs) (slot_at hs t) (λ i h. (all-owned few i h).inside) (slots-differ few) at k in
          let mine : get_or t.slots at 0 ≡ r.0 = ap (λ (s : ℕ). get_or t.slots s 0) (sym r.2) ∙ (all-owned few r.0 r.1).held in
          (rw mine r.1, rw mine r.2)

      pub all_filled : length hs ≤ 2 ^ 20 → Filled hs t
      all_filled few =
          record {
            pilots_length = final-shape.pilots_length;
            slots_length = final-shape.slots_length;
            inside = λ i k. (all-owned few i k).inside;
            owned = λ i k. (all-owned few i k).held;
            every = each-slot few;
          }
