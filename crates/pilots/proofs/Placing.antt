-- The walk over the order of the buckets: placing those that are left, from the pilots and slots so far, gives what placing all gives.
-- Assumes nothing.
use Rattle.std.proofs.Common.{◌≡◌, ℕ, suc, ◌+◌, ◌^◌, ◌<◌, ◌≤◌, List, [], ◌∷◌, false, length, get_or, set, take, drop, refl, sym, ap, ◌∙◌, arith, length-set}
use mathlib.Core.Option.{Option, some, none}
use native.Mathlib.Numerals.{add-one}
use lib.Dec.{leb}
use lib.ListN.{drop_of_length-le}
use lib.Seq.{drop-cons}
use borrow.Author.Tests.{le-leb, lt-leb}
use Rattle.num.proofs.Choice.{if_true, if_false}
use Rattle.construction.specs.Construct.{Placement, bucket_count, members_of, size_of, order_of, placeable, positions_of, filled, pilot_limit, bucket_placed, bucket_placed_for, least_pilot, place_bucket, place_buckets}
use Rattle.construction.proofs.Buckets.{member_below}
use Rattle.construction.proofs.Order.{size_few, order_length as order_size}
use Rattle.pilots.specs.Internal.{Fits, Found}
use Rattle.pilots.proofs.Candidates.{positions_length, positions_below}
use Rattle.pilots.proofs.Search.{least_some, least_none}

-- a bucket's members, with room for their search, and the slots that it finds
module _ (hs : List ℕ) {members : List ℕ} (x : ℕ) (em : members ≡ members_of hs x) where
  pub members_few : length members ≤ length hs
  unfolding size_of
  members_few = omega (arith, ap length em, size_few hs x)

  pub members_fit : {slots candidates indices : List ℕ} → 1 ≤ length hs → length hs ≤ 2 ^ 20 → length slots ≡ length hs → length hs ≤ length candidates → length hs ≤ length indices
      → Fits hs members slots candidates indices
  unfolding size_of
  members_fit one few e c i =
      record {
        some_key = one;
        few = few;
        size = members_few;
        keys = λ j h. rw em (member_below hs x j (omega (arith, ap length em)));
        slots_length = e;
        candidates_room = c;
        indices_room = i;
      }

module _ {hs slots members candidates : List ℕ} {pilot : ℕ} (f : Found hs slots members pilot candidates) where
  pub found_length : length (take (length members) candidates) ≡ length members
  found_length = ap length f.chosen ∙ positions_length hs members pilot

  pub found_below : 1 ≤ length hs → length slots ≡ length hs → (j : ℕ) → j < length (take (length members) candidates) → get_or (take (length members) candidates) j 0 < length slots
  found_below key e j h = rw (f.chosen, e) (positions_below hs members pilot j key (omega (arith, found_length)))

-- ---- one bucket after another

filled-length : (slots ats members : List ℕ) → length (filled slots ats members) ≡ length slots
unfolding filled
filled-length slots (at ∷ ats) (i ∷ members) = filled-length (set slots at i) ats members ∙ length-set slots at i
filled-length slots [] members = refl
filled-length slots (at ∷ ats) [] = refl

pub record Placing (hs : List ℕ) (t₀ : Placement) (k : ℕ) (pilots slots : List ℕ) : Type 0 where
  pub pilots_length : length pilots ≡ bucket_count hs
  pub slots_length : length slots ≡ length hs
  pub rest : place_buckets hs (record { pilots = pilots; slots = slots }) (drop k (order_of hs)) ≡ place_buckets hs t₀ (order_of hs)

module _ {hs : List ℕ} {t₀ : Placement} {k : ℕ} {pilots slots : List ℕ} (t : Placing hs t₀ k pilots slots) where
  abbrev now : Placement
  now = record { pilots = pilots; slots = slots }

  pub placing_done : bucket_count hs ≤ k → some now ≡ place_buckets hs t₀ (order_of hs)
  unfolding place_buckets
  placing_done h = sym (ap (place_buckets hs now) (drop_of_length-le (order_of hs) {i = k} (omega (arith, order_size hs)))) ∙ t.rest

  module _ (h : k < bucket_count hs) {x : ℕ} (ex : x ≡ get_or (order_of hs) k 0) {members : List ℕ} (em : members ≡ members_of hs x) where
    -- the buckets that are left, with this one first
    next : {o : Option Placement} → place_bucket hs now x ≡ o
        → elim o [ some u ↦ place_buckets hs u (drop (k + 1) (order_of hs)) | none ↦ none ] ≡ place_buckets hs t₀ (order_of hs)
    unfolding place_buckets
    next e =
        ap (λ (p : Option Placement). elim p [ some u ↦ place_buckets hs u (drop (k + 1) (order_of hs)) | none ↦ none ]) (sym e)
        ∙ ap (λ (j : ℕ). place_buckets hs now (x ∷ drop j (order_of hs))) (add-one k)
        ∙ ap (λ (y : ℕ). place_buckets hs now (y ∷ drop (suc k) (order_of hs))) ex
        ∙ sym (ap (place_buckets hs now) (drop-cons (order_of hs) k 0 (omega (arith, order_size hs))))
        ∙ t.rest

    size_is : length members ≡ size_of hs x
    unfolding size_of
    size_is = ap length em

    pub placing_small : length members < 2 → Placing hs t₀ (k + 1) pilots slots
    unfolding place_bucket
    placing_small l =
        record {
          pilots_length = t.pilots_length;
          slots_length = t.slots_length;
          rest = next (if_false (leb 2 (size_of hs x)) _ _ (lt-leb 2 (size_of hs x) (omega (arith, size_is))));
        }

    module _ (large : 2 ≤ length members) where
      placed : {o : Option ℕ} → least_pilot hs slots x ≡ o → place_bucket hs now x ≡ bucket_placed_for hs now x o
      unfolding place_bucket
      placed e = if_true (leb 2 (size_of hs x)) _ _ (le-leb 2 (size_of hs x) (omega (arith, size_is))) ∙ ap (bucket_placed_for hs now x) e

      pub placing_failed : ((p : ℕ) → p < pilot_limit → placeable slots (positions_of hs members p) ≡ false) → none ≡ place_buckets hs t₀ (order_of hs)
      unfolding bucket_placed_for
      placing_failed lower = next (placed (least_none hs slots x em lower))

      pub placing_turn : {pilot : ℕ} {candidates slots₂ : List ℕ} → Found hs slots members pilot candidates → slots₂ ≡ filled slots (take (length members) candidates) members
          → Placing hs t₀ (k + 1) (set pilots x pilot) slots₂
      unfolding bucket_placed_for bucket_placed
      placing_turn {pilot} {candidates} {slots₂} f e =
          let same : slots₂ ≡ filled slots (positions_of hs (members_of hs x) pilot) (members_of hs x) =
          e ∙ ap (λ (l : List ℕ). filled slots l members) f.chosen ∙ ap (λ (l : List ℕ). filled slots (positions_of hs l pilot) l) em in
          record {
            pilots_length = length-set pilots x pilot ∙ t.pilots_length;
            slots_length = ap length e ∙ filled-length slots (take (length members) candidates) members ∙ t.slots_length;
            rest = ap (λ (l : List ℕ). place_buckets hs (record { pilots = set pilots x pilot; slots = l }) (drop (k + 1) (order_of hs))) same
                ∙ next (placed (least_some hs slots x em f));
          }
