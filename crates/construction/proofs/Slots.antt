-- Every key comes to stand in its own slot, and stays there.
-- Assumes nothing.
use mathlib.Core.Path.{◌≡◌, refl, sym, ap, ◌∙◌}
use mathlib.Core.Bool.{true, false}
use mathlib.Core.List.{List, [], ◌∷◌, ◌++◌, map, Memᴰ}
use mathlib.Core.Option.{some}
use Prim.Native.Nat.{ℕ, ◌+◌, ◌^◌, ◌<◌, ◌≤◌}
use native.Mathlib.Nat.{add-mod_left, mod-eq_of_lt}
use native.Mathlib.Omega.{arith}
use lib.ListN.{length, get_or}
use lib.Seq.{get_or-set_same, get_or-set_other}
use borrow.Author.Tests.{le-leb, lt-leb}
use Rattle.num.proofs.Choice.{false_true}
use Rattle.point.specs.Hash.{position_of, is_direct, direct_slot, slot_of}
use Rattle.point.proofs.Slots.{slot_position, position_lt}
use Rattle.construction.specs.Construct.{Placement, members_of, size_of, is_free, positions_of, serves, bucket_placed, place_buckets}
use Rattle.construction.specs.Promises.{bucket_at, slot_at}
use Rattle.construction.proofs.Sorted.{each_member, member_each, each_map, two_end, member_split}
use Rattle.construction.proofs.Different.{Distinct, placeable_are}
use Rattle.construction.proofs.Free.{taken}
use Rattle.construction.proofs.Members.{bucket_below, is_member}
use Rattle.construction.proofs.Filling.{fill_other, fill_mine, least_pilot_lem}
use Rattle.construction.proofs.Placing.{Shape, Turn, large, small, turn_of, turn_shape, buckets_step}

-- ---- pilots and the slots that they give

pub below_not_direct : (p : ℕ) → p < 100000 → is_direct p ≡ false
unfolding is_direct
below_not_direct p h = lt-leb (2 ^ 31) p (omega arith)

pub direct_is : (at : ℕ) → is_direct (2 ^ 31 + at) ≡ true
unfolding is_direct
direct_is at = le-leb (2 ^ 31) (2 ^ 31 + at) (omega arith)

pub direct_slot_lem : (at : ℕ) → at < 2 ^ 31 → direct_slot (2 ^ 31 + at) ≡ at
unfolding direct_slot
direct_slot_lem at h = add-mod_left (2 ^ 31) at ∙ mod-eq_of_lt h

module _ (hs : List ℕ) where
  -- key i has a slot, and stands in it
  pub record Owned (t : Placement) (i : ℕ) : Type 0 where
    pub inside : slot_at hs t i < length hs
    pub held : get_or t.slots (slot_at hs t i) 0 ≡ i

  pub own : (t : Placement) (i p at : ℕ) → get_or t.pilots (bucket_at hs i) 0 ≡ p → slot_of (get_or hs i 0) p (length hs) ≡ at → at < length hs
      → get_or t.slots at 0 ≡ i → Owned t i
  own t i p at e s h m =
      let slot : slot_at hs t i ≡ at = ap (λ (q : ℕ). slot_of (get_or hs i 0) q (length hs)) e ∙ s in
      record { inside = rw slot h; held = rw slot m }

  pub keep : (t u : Placement) (i : ℕ) → get_or u.pilots (bucket_at hs i) 0 ≡ get_or t.pilots (bucket_at hs i) 0
      → get_or u.slots (slot_at hs t i) 0 ≡ get_or t.slots (slot_at hs t i) 0 → Owned t i → Owned u i
  keep t u i e m o = own u i (get_or t.pilots (bucket_at hs i) 0) (slot_at hs t i) e refl o.inside (m ∙ o.held)

  -- the slot of a key that stands in it is not free
  pub owned_taken : (t : Placement) (i : ℕ) → Shape hs t → i < length hs → Owned t i → is_free t.slots (slot_at hs t i) ≡ false
  owned_taken t i h k o = taken t.slots (slot_at hs t i) (rw (o.held, h.slots_length) k)

  -- so it is no free slot
  pub not_free : (slots : List ℕ) (s at : ℕ) → is_free slots s ≡ false → is_free slots at ≡ true → s ≡ at → ⊥
  not_free slots s at p q e = false_true (sym p ∙ ap (is_free slots) e ∙ q)

  -- ---- buckets of two and more

  -- the position of key i under a pilot
  abbrev position : ℕ → ℕ → ℕ
  position p i = position_of (get_or hs i 0) p (length hs)

  -- a pilot that serves gives each member of its bucket a slot
  turn_owns : (t u : Placement) (x : ℕ) → Shape hs t → Turn hs t x u → 2 ≤ size_of hs x → (i : ℕ) → i < length hs → bucket_at hs i ≡ x → Owned u i
  unfolding bucket_placed positions_of serves
  turn_owns t u x h (small l e) n i k b = absurd (omega arith)
  turn_owns t u x h (large p l q e) n i k b =
      let r = least_pilot_lem hs t.slots x p q in
      let c = placeable_are t.slots (positions_of hs (members_of hs x) p) r.1.serves_it in
      let known : x < length t.pilots = rw (h.pilots_length, ← b) (bucket_below hs i k) in
      let inside : (j : ℕ) → position p j < length hs = λ j. position_lt (get_or hs j 0) p (length hs) (omega arith) in
      let all-inside =
      each_map (λ at. at < length t.slots) (position p) (members_of hs x) (λ j m. rw h.slots_length (inside j)) in
      rw (← e)
      (own (bucket_placed hs t x p) i p (position p i) (rw b (get_or-set_same t.pilots x p 0 known))
      (slot_position (get_or hs i 0) p (length hs) (below_not_direct p r.0)) (inside i)
      (fill_mine (position p) (members_of hs x) t.slots all-inside c.1 i (rw b at (is_member hs i k))))

  -- and leaves the keys of other buckets where they are
  turn_keeps : (t u : Placement) (x : ℕ) → Shape hs t → Turn hs t x u → (i : ℕ) → i < length hs → (bucket_at hs i ≡ x → ⊥) → Owned t i → Owned u i
  unfolding bucket_placed positions_of serves
  turn_keeps t u x h (small l e) i k b o = rw (← e) o
  turn_keeps t u x h (large p l q e) i k b o =
      let c = placeable_are t.slots (positions_of hs (members_of hs x) p) (least_pilot_lem hs t.slots x p q).1.serves_it in
      rw (← e)
      (keep t (bucket_placed hs t x p) i (get_or-set_other t.pilots x (bucket_at hs i) p 0 b)
      (fill_other (position p) (members_of hs x) t.slots (slot_at hs t i)
      (member_each (λ at. slot_at hs t i ≡ at → ⊥) (map (position p) (members_of hs x))
      (λ at m. not_free t.slots (slot_at hs t i) at (owned_taken t i h k o) (each_member (λ at. is_free t.slots at ≡ true) c.0 m)))) o)

  -- ---- one bucket after another

  pub buckets_shape : (l : List ℕ) (t u : Placement) → place_buckets hs t l ≡ some u → Shape hs t → Shape hs u
  unfolding place_buckets
  buckets_shape [] t u e h = let z : t ≡ u = cc in rw (← z) h
  buckets_shape (x ∷ l) t u e h =
      let s = buckets_step hs t u x l e in
      buckets_shape l s.0 u s.2 (turn_shape hs t s.0 x (turn_of hs t s.0 x s.1) h)

  pub buckets_split : (l m : List ℕ) (t u : Placement) → place_buckets hs t (l ++ m) ≡ some u
      → (v : Placement) × (place_buckets hs t l ≡ some v) × (place_buckets hs v m ≡ some u)
  unfolding place_buckets
  buckets_split [] m t u e = (t, refl, e)
  buckets_split (x ∷ l) m t u e =
      let s = buckets_step hs t u x (l ++ m) e in
      let r = buckets_split l m s.0 u s.2 in
      (r.0, rw (s.1, place_buckets) r.1, r.2)

  buckets_keep : (l : List ℕ) (t u : Placement) → place_buckets hs t l ≡ some u → Shape hs t → (i : ℕ) → i < length hs
      → (Memᴰ (bucket_at hs i) l → ⊥) → Owned t i → Owned u i
  unfolding place_buckets
  buckets_keep [] t u e h i k n o = let z : t ≡ u = cc in rw (← z) o
  buckets_keep (x ∷ l) t u e h i k n o =
      let s = buckets_step hs t u x l e in
      let w = turn_of hs t s.0 x s.1 in
      buckets_keep l s.0 u s.2 (turn_shape hs t s.0 x w h) i k (λ m. n (Memᴰ.tail m))
      (turn_keeps t s.0 x h w i k (λ same. n (Memᴰ.head same)) o)

  -- a key of a bucket of two or more stands in its slot
  pub buckets_own : (l : List ℕ) (t u : Placement) → place_buckets hs t l ≡ some u → Shape hs t → Distinct l
      → (i : ℕ) → i < length hs → 2 ≤ size_of hs (bucket_at hs i) → Memᴰ (bucket_at hs i) l → Owned u i
  buckets_own l t u e h d i k n m =
      let x = bucket_at hs i in
      let c = member_split m in
      let s = buckets_split c.0 (x ∷ c.1) t u (rw c.2 at e) in
      let v = buckets_shape c.0 t s.0 s.1 h in
      let r = buckets_step hs s.0 u x c.1 s.2 in
      let w = turn_of hs s.0 r.0 x r.1 in
      let apart = (two_end (λ a b. a ≡ b → ⊥) c.0 (x ∷ c.1) (rw c.2 at d)).0 in
      buckets_keep c.1 r.0 u r.2 (turn_shape hs s.0 r.0 x w v) i k (λ z. each_member (λ b. x ≡ b → ⊥) apart z refl)
      (turn_owns s.0 r.0 x v w n i k refl)
