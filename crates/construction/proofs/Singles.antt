-- Buckets of one: each has a free slot left, and takes the least.
-- Assumes nothing.
use mathlib.Core.Path.{◌≡◌, refl, ap, ◌∙◌}
use mathlib.Core.Bool.{Bool, true, false}
use mathlib.Core.List.{List, [], ◌∷◌, ◌++◌, Memᴰ}
use Prim.Native.Nat.{ℕ, ◌+◌, ◌^◌, ◌<◌, ◌≤◌}
use native.Mathlib.Omega.{arith}
use lib.Dec.{eqb}
use lib.ListN.{length, get_or, set, length-set}
use lib.Seq.{get_or-set_same, get_or-set_other}
use borrow.Author.Tests.{eqb-true, eqb-false, eq-eqb, ne_eqb}
use Rattle.num.proofs.Choice.{if_true, if_false}
use Rattle.point.proofs.Slots.{slot_direct}
use Rattle.construction.specs.Construct.{Placement, members_of, size_of, is_free, least_free, direct_pilot, place_single, place_singles}
use Rattle.construction.specs.Internal.{free_count, singles_in}
use Rattle.construction.specs.Promises.{bucket_at, slot_at}
use Rattle.construction.proofs.Sorted.{member_at, at_member}
use Rattle.construction.proofs.Free.{free_store, free_some}
use Rattle.construction.proofs.Members.{bucket_below, is_member, member_is}
use Rattle.construction.proofs.Placing.{Shape}
use Rattle.construction.proofs.Slots.{direct_is, direct_slot_lem, Owned, own, keep, owned_taken, not_free}

module _ (hs : List ℕ) where
  -- as many slots are free as there are buckets of one still to come
  pub record Left (t : Placement) (l : List ℕ) : Type 0 where
    pub shape : Shape hs t
    pub free : free_count t.slots ≡ singles_in hs l

  -- ---- one bucket

  -- the one member
  abbrev alone : ℕ → ℕ
  alone x = get_or (members_of hs x) 0 0

  alone_is : (x : ℕ) → size_of hs x ≡ 1 → (alone x < length hs) × (bucket_at hs (alone x) ≡ x)
  unfolding size_of
  alone_is x e = member_is hs x (alone x) (at_member (members_of hs x) 0 (omega arith))

  is_alone : (x i : ℕ) → size_of hs x ≡ 1 → i < length hs → bucket_at hs i ≡ x → alone x ≡ i
  unfolding size_of
  is_alone x i e h b =
      let r = member_at (rw b at (is_member hs i h)) in
      let l = r.1 in
      let z : 0 ≡ r.0 = omega arith in
      ap (λ (j : ℕ). get_or (members_of hs x) j 0) z ∙ r.2

  -- with its one member in a slot
  abbrev pub named : Placement → ℕ → ℕ → Placement
  named t x at = record { pilots = set t.pilots x (2 ^ 31 + at); slots = set t.slots at (alone x) }

  pub single_is : (t : Placement) (x : ℕ) → size_of hs x ≡ 1 → place_single hs t x ≡ named t x (least_free t.slots)
  unfolding place_single direct_pilot
  single_is t x e = if_true (eqb (size_of hs x) 1) (named t x (least_free t.slots)) t (eq-eqb _ _ e)

  pub single_not : (t : Placement) (x : ℕ) → (size_of hs x ≡ 1 → ⊥) → place_single hs t x ≡ t
  unfolding place_single direct_pilot
  single_not t x n = if_false (eqb (size_of hs x) 1) (named t x (least_free t.slots)) t (ne_eqb _ _ n)

  -- a slot is left for it
  pub single_free : (t : Placement) (x : ℕ) (l : List ℕ) → Left t (x ∷ l) → size_of hs x ≡ 1
      → (least_free t.slots < length t.slots) × (is_free t.slots (least_free t.slots) ≡ true)
  unfolding singles_in
  single_free t x l h e = free_some t.slots (omega (arith, h.free, if_true {A = ℕ} (eqb (size_of hs x) 1) 1 0 (eq-eqb (size_of hs x) 1 e)))

  pub single_left : (t : Placement) (x : ℕ) (l : List ℕ) → Left t (x ∷ l) → Left (place_single hs t x) l
  unfolding singles_in
  single_left t x l h = go (eqb (size_of hs x) 1) refl
    where
      go : (b : Bool) → eqb (size_of hs x) 1 ≡ b → Left (place_single hs t x) l
      go true q =
          let e = eqb-true (size_of hs x) 1 q in
          let f = single_free t x l h e in
          let n = h.shape.slots_length in
          let small : alone x < length t.slots = omega (arith, (alone_is x e).0) in
          let one = if_true {A = ℕ} (eqb (size_of hs x) 1) 1 0 q in
          let stored = free_store t.slots (least_free t.slots) (alone x) f.0 small f.1 in
          rw (single_is t x e)
          (record {
            shape =
                record {
                  pilots_length = length-set t.pilots x (2 ^ 31 + least_free t.slots) ∙ h.shape.pilots_length;
                  slots_length = length-set t.slots (least_free t.slots) (alone x) ∙ n;
                };
            free = omega (arith, h.free);
          })
      go false q =
          let zero_more = if_false {A = ℕ} (eqb (size_of hs x) 1) 1 0 q in
          rw (single_not t x (eqb-false (size_of hs x) 1 q)) (record { shape = h.shape; free = omega (arith, h.free) })

  pub single_owns : (t : Placement) (x : ℕ) (l : List ℕ) → Left t (x ∷ l) → size_of hs x ≡ 1 → length hs ≤ 2 ^ 20
      → (i : ℕ) → i < length hs → bucket_at hs i ≡ x → Owned hs (place_single hs t x) i
  single_owns t x l h e few i k b =
      let at = least_free t.slots in
      let f = single_free t x l h e in
      let inside : at < length hs = omega (arith, f.0, h.shape.slots_length) in
      let known : x < length t.pilots = rw (h.shape.pilots_length, ← b) (bucket_below hs i k) in
      rw (single_is t x e)
      (own hs (named t x at) i (2 ^ 31 + at) at (rw b (get_or-set_same t.pilots x (2 ^ 31 + at) 0 known))
      (slot_direct (get_or hs i 0) (2 ^ 31 + at) (length hs) (direct_is at) ∙ direct_slot_lem at (omega arith)) inside
      (get_or-set_same t.slots at (alone x) 0 f.0 ∙ is_alone x i e k b))

  single_keeps : (t : Placement) (x : ℕ) (l : List ℕ) → Left t (x ∷ l) → (i : ℕ) → i < length hs
      → (bucket_at hs i ≡ x → size_of hs x ≡ 1 → ⊥) → Owned hs t i → Owned hs (place_single hs t x) i
  single_keeps t x l h i k n o = go (eqb (size_of hs x) 1) refl
    where
      go : (b : Bool) → eqb (size_of hs x) 1 ≡ b → Owned hs (place_single hs t x) i
      go true q =
          let e = eqb-true (size_of hs x) 1 q in
          let at = least_free t.slots in
          let f = single_free t x l h e in
          rw (single_is t x e)
          (keep hs t (named t x at) i (get_or-set_other t.pilots x (bucket_at hs i) (2 ^ 31 + at) 0 (λ same. n same e))
          (get_or-set_other t.slots at (slot_at hs t i) (alone x) 0 (not_free hs t.slots (slot_at hs t i) at (owned_taken hs t i h.shape k o) f.1)) o)
      go false q = rw (single_not t x (eqb-false (size_of hs x) 1 q)) o

  -- ---- one bucket after another

  pub singles_append : (l m : List ℕ) (t : Placement) → place_singles hs t (l ++ m) ≡ place_singles hs (place_singles hs t l) m
  unfolding place_singles
  singles_append [] m t = refl
  singles_append (x ∷ l) m t = singles_append l m (place_single hs t x)

  pub singles_left : (l m : List ℕ) (t : Placement) → Left t (l ++ m) → Left (place_singles hs t l) m
  unfolding place_singles
  singles_left [] m t h = h
  singles_left (x ∷ l) m t h = singles_left l m (place_single hs t x) (single_left t x (l ++ m) h)

  -- a key that stands in its slot stays, if no bucket of one to come is its own
  pub singles_keep : (l : List ℕ) (t : Placement) → Left t l → (i : ℕ) → i < length hs
      → (Memᴰ (bucket_at hs i) l → size_of hs (bucket_at hs i) ≡ 1 → ⊥) → Owned hs t i → Owned hs (place_singles hs t l) i
  unfolding place_singles
  singles_keep [] t h i k n o = o
  singles_keep (x ∷ l) t h i k n o =
      singles_keep l (place_single hs t x) (single_left t x l h) i k (λ m. n (Memᴰ.tail m))
      (single_keeps t x l h i k (λ same e. n (Memᴰ.head same) (ap (size_of hs) same ∙ e)) o)
