-- The walk over the order of the buckets: what is left to place, from the pilots and slots so far, gives what was to be placed at first.
-- Assumes nothing.
use Rattle.std.proofs.Common.{◌≡◌, ℕ, suc, ◌+◌, ◌^◌, ◌<◌, ◌≤◌, Bool, true, false, List, ◌∷◌, eqb, length, get_or, drop, set, refl, sym, ap, ap₂, ◌∙◌, subst, arith, eqb-true}
use native.Mathlib.Numerals.{add-one}
use lib.ListN.{drop_of_length-le}
use lib.Seq.{drop-cons}
use borrow.Author.Tests.{eqb-false}
use Rattle.construction.specs.Construct.{Placement, bucket_count, members_of, size_of, order_of, is_free, least_free, place_single, place_singles}
use Rattle.construction.proofs.Buckets.{member_below}
use Rattle.construction.proofs.Free.{store_taken, store_other, before_least}
use Rattle.construction.proofs.Order.{order_length}
use Rattle.construction.proofs.Singles.{Left, single_is, single_not, single_free, single_left}
use Rattle.singles.specs.Internal.{HasFree}
use Rattle.singles.proofs.Free.{free_passed}

-- the first k buckets of the order are placed
pub record Running (hs : List ℕ) (t₀ : Placement) (k from : ℕ) (pilots slots : List ℕ) : Type 0 where
  pub inside : from ≤ length hs
  pub taken : (i : ℕ) → i < from → is_free slots i ≡ false
  pub left : Left hs (record { pilots = pilots; slots = slots }) (drop k (order_of hs))
  pub same : place_singles hs (record { pilots = pilots; slots = slots }) (drop k (order_of hs)) ≡ place_singles hs t₀ (order_of hs)

-- ---- one bucket after another

module _ {hs : List ℕ} {t₀ : Placement} {k from : ℕ} {pilots slots : List ℕ} (run : Running hs t₀ k from pilots slots) where
  abbrev now : Placement
  now = record { pilots = pilots; slots = slots }

  pub running_done : bucket_count hs ≤ k → now ≡ place_singles hs t₀ (order_of hs)
  unfolding place_singles
  running_done e = sym (ap (place_singles hs now) (drop_of_length-le (order_of hs) {i = k} (omega (arith, order_length hs)))) ∙ run.same

  module _ (h : k < bucket_count hs) (x : ℕ) (ex : x ≡ get_or (order_of hs) k 0) where
    left_is : drop k (order_of hs) ≡ x ∷ drop (k + 1) (order_of hs)
    left_is =
        drop-cons (order_of hs) k 0 (omega (arith, order_length hs))
        ∙ ap (λ (y : ℕ). y ∷ drop (suc k) (order_of hs)) (sym ex)
        ∙ ap (λ (j : ℕ). x ∷ drop j (order_of hs)) (sym (add-one k))

    left_now : Left hs now (x ∷ drop (k + 1) (order_of hs))
    left_now = subst (Left hs now) left_is run.left

    same_next : place_singles hs (place_single hs now x) (drop (k + 1) (order_of hs)) ≡ place_singles hs t₀ (order_of hs)
    unfolding place_singles
    same_next = sym (ap (place_singles hs now) left_is) ∙ run.same

    -- a bucket that has another number of keys
    pub running_passed : (size_of hs x ≡ 1 → ⊥) → Running hs t₀ (k + 1) from pilots slots
    running_passed n =
        let e = single_not hs now x n in
        record {
          inside = run.inside;
          taken = run.taken;
          left = subst (λ (t : Placement). Left hs t (drop (k + 1) (order_of hs))) e (single_left hs now x (drop (k + 1) (order_of hs)) left_now);
          same = ap (λ (t : Placement). place_singles hs t (drop (k + 1) (order_of hs))) (sym e) ∙ same_next;
        }

    -- a bucket that has one
    module _ (one : size_of hs x ≡ 1) where
      known : (least_free slots < length slots) × (is_free slots (least_free slots) ≡ true)
      known = single_free hs now x (drop (k + 1) (order_of hs)) left_now one

      pub has_free : HasFree slots
      has_free = record { inside = known.0; free = known.1 }

      pub passed : from ≤ least_free slots
      passed = free_passed has_free from run.taken

      module _ (free : ℕ) (least : free ≡ least_free slots) where
        -- the slots below the next place are taken
        taken_next : (v : ℕ) → v < length hs → (i : ℕ) → i < free + 1 → is_free (set slots free v) i ≡ false
        taken_next v key i l = go (eqb i free) refl
          where
            go : (t : Bool) → eqb i free ≡ t → is_free (set slots free v) i ≡ false
            go true e =
                let n = run.left.shape.slots_length in
                ap (is_free (set slots free v)) (eqb-true i free e) ∙ store_taken slots free v (omega (arith, known.0)) (omega arith)
            go false e =
                let d = eqb-false i free e in
                store_other slots free v i d ∙ before_least slots i known.0 (omega (arith, least))

        pub running_placed : (v : ℕ) → v ≡ get_or (members_of hs x) 0 0 → Running hs t₀ (k + 1) (free + 1) (set pilots x (2 ^ 31 + free)) (set slots free v)
        running_placed v ev =
            let e : place_single hs now x ≡ record { pilots = set pilots x (2 ^ 31 + free); slots = set slots free v } =
            single_is hs now x one ∙ ap₂ (λ (a w : ℕ). record { pilots = set pilots x (2 ^ 31 + a); slots = set slots a w }) (sym least) (sym ev) in
            record {
              inside = omega (arith, known.0);
              taken = taken_next v (omega (arith, ev, member_below hs x 0 (omega arith)));
              left = subst (λ (t : Placement). Left hs t (drop (k + 1) (order_of hs))) e (single_left hs now x (drop (k + 1) (order_of hs)) left_now);
              same = ap (λ (t : Placement). place_singles hs t (drop (k + 1) (order_of hs))) (sym e) ∙ same_next;
            }
