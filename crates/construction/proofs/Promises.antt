-- The promises of construction.
-- Assumes nothing.
use mathlib.Core.Path.{◌≡◌, refl}
use mathlib.Core.Logic.{inl, inr}
use mathlib.Core.Bool.{Bool, true, false}
use mathlib.Core.List.{List, Memᴰ}
use Prim.Native.Nat.{ℕ, ◌<◌, ◌≤◌}
use native.Mathlib.Omega.{arith}
use lib.Dec.{eqb}
use lib.ListN.{length, get_or}
use borrow.Author.Tests.{eqb-true, eqb-false}
use Rattle.point.specs.Hash.{position_of}
use Rattle.construction.specs.Construct.{bucket_count, members_of, size_of, order_of, is_free, positions_of, serves}
use Rattle.construction.specs.Promises.{KeysOf, BySize, OrderDecided, Serves, ServesExactly, PlacementSound, HashesUnasked, SeedDecided}
use Rattle.construction.proofs.Sorted.{EachTwo, two_map, each_map, map_each, member_at, at_member, two_at, at_two, same_sorted}
use Rattle.construction.proofs.Order.{Before, before_not, before_then, order_is, is_order, order_sorted}
use Rattle.construction.proofs.Different.{distinct_map, distinct_same, placeable_are, are_placeable}
use Rattle.construction.proofs.Members.{member_is, is_member, members_rise}
use Rattle.construction.proofs.Placing.{differ_unasked}
use Rattle.construction.proofs.Placed.{parts, large_pilots, single_pilots, empty_pilots, sound_pilots, all_filled}
use Rattle.construction.proofs.Seeds.{seeds}

-- ---- the order

keys_of : (hs : List ℕ) (x : ℕ) → KeysOf hs x (members_of hs x)
keys_of hs x =
    record {
      keys = λ j h. member_is hs x (get_or (members_of hs x) j 0) (at_member (members_of hs x) j h);
      each = λ i h b. member_at (rw b at (is_member hs i h));
      rising = two_at (λ i j. i < j) (members_of hs x) (members_rise hs x);
    }

by_size : (hs : List ℕ) → BySize hs (order_of hs)
by_size hs =
    record {
      buckets = λ j h. order_is hs (get_or (order_of hs) j 0) (at_member (order_of hs) j h);
      each = λ x h. member_at (is_order hs x h);
      once = λ j k h l e. before_not hs (get_or (order_of hs) j 0) (rw (← e) at (before j k h l));
      falling = λ j k h l. falls j k (before j k h l);
      ties = λ j k h l. tied j k (before j k h l);
    }
  where
    before : (j k : ℕ) → j < k → k < length (order_of hs) → Before hs (get_or (order_of hs) j 0) (get_or (order_of hs) k 0)
    before = two_at (Before hs) (order_of hs) (order_sorted hs)

    falls : (j k : ℕ) → Before hs (get_or (order_of hs) j 0) (get_or (order_of hs) k 0) → size_of hs (get_or (order_of hs) k 0) ≤ size_of hs (get_or (order_of hs) j 0)
    falls j k (inl h) = omega arith
    falls j k (inr h) = let e = h.0 in omega arith

    tied : (j k : ℕ) → Before hs (get_or (order_of hs) j 0) (get_or (order_of hs) k 0) → size_of hs (get_or (order_of hs) j 0) ≡ size_of hs (get_or (order_of hs) k 0)
        → get_or (order_of hs) j 0 < get_or (order_of hs) k 0
    tied j k (inl h) e = absurd (omega arith)
    tied j k (inr h) e = h.1

-- any list by size and number has this order
sorted : (hs l : List ℕ) → BySize hs l → EachTwo (Before hs) l
sorted hs l b = at_two (Before hs) l (λ j k h n. go j k h n (eqb (size_of hs (get_or l j 0)) (size_of hs (get_or l k 0))) refl)
  where
    go : (j k : ℕ) → j < k → k < length l → (c : Bool) → eqb (size_of hs (get_or l j 0)) (size_of hs (get_or l k 0)) ≡ c → Before hs (get_or l j 0) (get_or l k 0)
    go j k h n true e = let z = eqb-true _ _ e in inr (z, b.ties j k h n z)
    go j k h n false e =
        let d = eqb-false (size_of hs (get_or l j 0)) (size_of hs (get_or l k 0)) e in
        let f = b.falling j k h n in
        inl (omega arith)

pub order_decided : OrderDecided
unfolding OrderDecided
order_decided hs = record { members = keys_of hs; order = by_size hs; only = only }
  where
    member : (l : List ℕ) → BySize hs l → (x : ℕ) → x < bucket_count hs → Memᴰ x l
    member l b x h = let r = b.each x h in rw r.2 at (at_member l r.0 r.1)

    bucket : (l : List ℕ) → BySize hs l → (x : ℕ) → Memᴰ x l → x < bucket_count hs
    bucket l b x m = let r = member_at m in rw r.2 at (b.buckets r.0 r.1)

    only : (l : List ℕ) → BySize hs l → l ≡ order_of hs
    only l b =
        same_sorted (Before hs) (before_not hs) (before_then hs) l (order_of hs) (sorted hs l b) (order_sorted hs)
        (λ x m. is_order hs x (bucket l b x m)) (λ x m. member l b x (order_is hs x m))

-- ---- the pilots that serve

pub serves_exactly : ServesExactly
unfolding ServesExactly serves positions_of
serves_exactly hs slots x p = (there, back)
  where
    position : ℕ → ℕ
    position i = position_of (get_or hs i 0) p (length hs)

    there : serves hs slots x p ≡ true → Serves hs slots x p
    there e =
        let r = placeable_are slots (positions_of hs (members_of hs x) p) e in
        record {
          free = λ i h b. map_each (λ at. is_free slots at ≡ true) position (rw b at (is_member hs i h)) r.0;
          apart = λ i j h l a b same.
              let z = distinct_same position (members_of hs x) r.1 i j (rw a at (is_member hs i (omega arith))) (rw b at (is_member hs j l)) same in
              omega arith;
        }

    back : Serves hs slots x p → serves hs slots x p ≡ true
    back s =
        are_placeable slots (positions_of hs (members_of hs x) p)
        (each_map (λ at. is_free slots at ≡ true) position (members_of hs x) (λ i m. let k = member_is hs x i m in s.free i k.0 k.1))
        (distinct_map position (members_of hs x)
        (two_map (λ i j. i < j) (λ i j. position i ≡ position j → ⊥) (members_of hs x)
        (λ i j m n h. let k = member_is hs x i m in let l = member_is hs x j n in s.apart i j h l.0 k.1 l.1) (members_rise hs x)))

-- ---- the placement

pub placement_sound : PlacementSound
unfolding PlacementSound
placement_sound hs t few e =
    let p = parts hs t e in
    let u = p.0 in
    record {
      pilots =
          record {
            least = large_pilots hs t u p.1 p.2;
            named = single_pilots hs t u p.1 p.2;
            empty = empty_pilots hs t u p.1 p.2;
            sound = sound_pilots hs t u p.1 p.2 few;
          };
      filled = all_filled hs t u p.1 p.2 few;
    }

-- ---- the seed

pub hashes_unasked : HashesUnasked
unfolding HashesUnasked
hashes_unasked = differ_unasked

pub seed_decided : SeedDecided
unfolding SeedDecided
seed_decided keys = seeds keys
