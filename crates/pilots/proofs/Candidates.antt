-- The candidates of a pilot: members join one by one, and once all have, their slots are free and different.
-- Assumes nothing.
use Rattle.std.proofs.Common.{◌≡◌, ℕ, zero, suc, ◌+◌, ◌<◌, ◌≤◌, Bool, true, false, not, List, [], ◌∷◌, ◌++◌, eqb, length, get_or, set, take, refl, sym, ap, ◌∙◌, subst, arith, not-suc-le-zero, length-take-le, get_or-set_same, get_or-set_other, get_or-take, eq-eqb, eqb-true}
use Rattle.std.specs.List.{list_any}
use Rattle.std.proofs.lemmas.List.{length-map, take_more_set, take_more}
use borrow.Author.Tests.{ne_eqb, eqb-false}
use Rattle.num.specs.Choice.{both, either, one_of, each_below}
use Rattle.num.proofs.Choice.{false_true, true_both, both_no, second_either, same_truth}
use Rattle.num.proofs.Lists.{map_at}
use Rattle.num.proofs.Steps.{yes_each, each_no}
use Rattle.point.specs.Hash.{position_of}
use Rattle.point.proofs.Slots.{position_lt}
use Rattle.construction.specs.Construct.{is_free, different, placeable, positions_of}
use Rattle.pilots.specs.Internal.{Indexed, few}

-- ---- free and different

-- a number that no element is
none_of : (l : List ℕ) (v : ℕ) → ((i : ℕ) → i < length l → get_or l i 0 ≡ v → ⊥) → one_of l v ≡ false
unfolding one_of either
none_of [] v h = refl
none_of (x ∷ l) v h = rw (ne_eqb v x (λ e. h 0 (omega arith) (sym e))) (none_of l v (λ i q. h (suc i) (omega arith)))

-- one that an element is
one_of_lem : (l : List ℕ) (v i : ℕ) → i < length l → get_or l i 0 ≡ v → one_of l v ≡ true
unfolding one_of either
one_of_lem [] v i q e = absurd (not-suc-le-zero q)
one_of_lem (x ∷ l) v zero q e = rw (eq-eqb v x (sym e))
one_of_lem (x ∷ l) v (suc i) q e = second_either (eqb v x) (one_of l v) (λ n. one_of_lem l v i (omega arith) e)

-- and which element it is
which_of : (l : List ℕ) (v : ℕ) → one_of l v ≡ true → (i : ℕ) × (i < length l) × (get_or l i 0 ≡ v)
unfolding one_of either
which_of [] v e = false_true e
which_of (x ∷ l) v e = go (eqb v x) refl e (which_of l v)
  where
    go : (b : Bool) → eqb v x ≡ b → either b (one_of l v) ≡ true → (one_of l v ≡ true → (i : ℕ) × (i < length l) × (get_or l i 0 ≡ v)) → (i : ℕ) × (i < length (x ∷ l)) × (get_or (x ∷ l) i 0 ≡ v)
    go true p q rest = (0, omega arith, sym (eqb-true v x p))
    go false p q rest = let r = rest q in let h = r.1 in (suc r.0, omega arith, r.2)

module _ (slots ats : List ℕ) where
  placeable_all : ((i : ℕ) → i < length ats → is_free slots (get_or ats i 0) ≡ true) → ((i j : ℕ) → i < j → j < length ats → get_or ats i 0 ≡ get_or ats j 0 → ⊥)
      → placeable slots ats ≡ true
  unfolding placeable different
  placeable_all free differ =
      true_both _ _ (yes_each (λ j. is_free slots (get_or ats j 0)) (length ats) free)
      (yes_each (λ j. not (one_of (take j ats) (get_or ats j 0))) (length ats) (λ j h. ap not (none_of (take j ats) (get_or ats j 0)
      (λ i p e. let l : i < j = omega (arith, length-take-le j ats (omega arith)) in differ i j l h (sym (get_or-take j ats i 0 l) ∙ e)))))

  placeable_taken : (j : ℕ) → j < length ats → is_free slots (get_or ats j 0) ≡ false → placeable slots ats ≡ false
  unfolding placeable
  placeable_taken j h e = sym (both_no _ _ (each_no (λ j. is_free slots (get_or ats j 0)) (length ats) j h e))

  placeable_twice : (i j : ℕ) → i < j → j < length ats → get_or ats i 0 ≡ get_or ats j 0 → placeable slots ats ≡ false
  unfolding placeable different both
  placeable_twice i j p h e = go (each_below (length ats) (λ j. is_free slots (get_or ats j 0))) (each_no (λ j. not (one_of (take j ats) (get_or ats j 0))) (length ats) j h (ap not (one_of_lem (take j ats) (get_or ats j 0) i (omega (arith, length-take-le j ats (omega arith))) (get_or-take j ats i 0 p ∙ e))))
    where
      go : (b : Bool) → different ats ≡ false → both b (different ats) ≡ false
      go true r = r
      go false r = refl

-- ---- positions

pub positions_length : (hs members : List ℕ) (pilot : ℕ) → length (positions_of hs members pilot) ≡ length members
unfolding positions_of
positions_length hs members pilot = length-map members (λ i. position_of (get_or hs i 0) pilot (length hs))

pub positions_at : (hs members : List ℕ) (pilot j : ℕ) → j < length members → get_or (positions_of hs members pilot) j 0 ≡ position_of (get_or hs (get_or members j 0) 0) pilot (length hs)
unfolding positions_of
positions_at hs members pilot j h = map_at (λ i. position_of (get_or hs i 0) pilot (length hs)) members j 0 0 h

-- a position is a slot
pub positions_below : (hs members : List ℕ) (pilot j : ℕ) → 1 ≤ length hs → j < length members → get_or (positions_of hs members pilot) j 0 < length hs
positions_below hs members pilot j l h = rw (positions_at hs members pilot j h) (position_lt (get_or hs (get_or members j 0) 0) pilot (length hs) l)

-- ---- the test of one slot

pub any_one : (xs : List ℕ) (v : ℕ) → list_any (λ y. eqb y v) xs ≡ one_of xs v
unfolding one_of either
any_one [] v = refl
any_one (x ∷ xs) v = go (eqb x v) refl (any_one xs v)
  where
    go : (b : Bool) → eqb x v ≡ b → list_any (λ y. eqb y v) xs ≡ one_of xs v → list_any (λ y. eqb y v) (x ∷ xs) ≡ either (eqb v x) (one_of xs v)
    go true e rest = rw (e, eq-eqb v x (sym (eqb-true x v e)))
    go false e rest = rw (e, ne_eqb v x (λ z. eqb-false x v e (sym z)), rest)

-- looking at the one that the index names
module _ {candidates indices : List ℕ} (own : Indexed candidates indices) (at : ℕ) where
  named : one_of candidates at ≡ true → (get_or indices at 0 < length candidates) × (get_or candidates (get_or indices at 0) 0 ≡ at)
  named e =
      let w = which_of candidates at e in
      let h = w.1 in
      let same : get_or indices at 0 ≡ w.0 = ap (λ (a : ℕ). get_or indices a 0) (sym w.2) ∙ own.index w.0 h in
      (omega arith, ap (λ (i : ℕ). get_or candidates i 0) same ∙ w.2)

  pub which_yes : get_or indices at 0 < length candidates → eqb (get_or candidates (get_or indices at 0) 0) at ≡ one_of candidates at
  which_yes h =
      same_truth (eqb (get_or candidates (get_or indices at 0) 0) at) (one_of candidates at)
      (λ e. one_of_lem candidates at (get_or indices at 0) h (eqb-true _ _ e)) (λ e. eq-eqb _ _ (named e).1)

  pub which_no : length candidates ≤ get_or indices at 0 → false ≡ one_of candidates at
  which_no h = sym (none_of candidates at (λ i l e. let n = (named (one_of_lem candidates at i l e)).0 in omega arith))

-- ---- members join one by one

-- what holds below a number and at it holds below the next
pub last_or_before : (P : ℕ → Type 0) (j : ℕ) → ((i : ℕ) → i < j → P i) → P j → (i : ℕ) → i < j + 1 → P i
last_or_before P j before last i h = go (eqb i j) refl
  where
    go : (b : Bool) → eqb i j ≡ b → P i
    go true e = subst P (sym (eqb-true i j e)) last
    go false e = let n = eqb-false i j e in before i (omega arith)

-- the first j of these slots are candidates, free and different
pub record Tried (slots ats : List ℕ) (j : ℕ) (candidates indices : List ℕ) : Type 0 where
  pub chosen : take j candidates ≡ take j ats
  pub indexed : few < length ats → (i : ℕ) → i < j → get_or indices (get_or ats i 0) 0 ≡ i
  pub free : (i : ℕ) → i < j → is_free slots (get_or ats i 0) ≡ true
  pub apart : (k : ℕ) → k < j → (i : ℕ) → i < k → get_or ats i 0 ≡ get_or ats k 0 → ⊥

module _ {slots ats candidates indices : List ℕ} {j : ℕ} (t : Tried slots ats j candidates indices) (low : j < length ats) (room : length ats ≤ length candidates) where
  so_far : length (take j candidates) ≡ j
  so_far = length-take-le j candidates (omega arith)

  candidate_is : (i : ℕ) → i < j → get_or (take j candidates) i 0 ≡ get_or ats i 0
  candidate_is i h = ap (λ (l : List ℕ). get_or l i 0) t.chosen ∙ get_or-take j ats i 0 h

  -- a slot that is taken, or a candidate
  pub tried_taken : is_free slots (get_or ats j 0) ≡ false → false ≡ placeable slots ats
  tried_taken e = sym (placeable_taken slots ats j low e)

  pub tried_twice : one_of (take j candidates) (get_or ats j 0) ≡ true → false ≡ placeable slots ats
  tried_twice e =
      let w = which_of (take j candidates) (get_or ats j 0) e in
      let h = w.1 in
      let l : w.0 < j = omega (arith, so_far) in
      sym (placeable_twice slots ats w.0 j l low (sym (candidate_is w.0 l) ∙ w.2))

  -- a slot that joins
  module _ (free : is_free slots (get_or ats j 0) ≡ true) (new : one_of (take j candidates) (get_or ats j 0) ≡ false) where
    not_before : (i : ℕ) → i < j → get_or ats i 0 ≡ get_or ats j 0 → ⊥
    not_before i h e =
        let w : ◌≡◌ {A = Bool} false true = sym new ∙ one_of_lem (take j candidates) (get_or ats j 0) i (omega (arith, so_far)) (candidate_is i h ∙ e) in
        false_true w

    module _ {indices₂ : List ℕ} (indexed : few < length ats → (i : ℕ) → i < j + 1 → get_or indices₂ (get_or ats i 0) 0 ≡ i) where
      tried_joined : Tried slots ats (j + 1) (set candidates j (get_or ats j 0)) indices₂
      tried_joined = record {
        chosen = take_more_set candidates j (get_or ats j 0) (omega arith) ∙ ap (λ (l : List ℕ). l ++ get_or ats j 0 ∷ []) t.chosen ∙ sym (take_more ats j 0 low);
        indexed = indexed;
        free = last_or_before (λ (i : ℕ). is_free slots (get_or ats i 0) ≡ true) j t.free free;
        apart = last_or_before (λ (k : ℕ). (i : ℕ) → i < k → get_or ats i 0 ≡ get_or ats k 0 → ⊥) j t.apart not_before;
      }

    -- with its index
    pub tried_many : get_or ats j 0 < length indices → Tried slots ats (j + 1) (set candidates j (get_or ats j 0)) (set indices (get_or ats j 0) j)
    tried_many inside =
        tried_joined (λ many. last_or_before (λ (k : ℕ). get_or (set indices (get_or ats j 0) j) (get_or ats k 0) 0 ≡ k) j
        (λ k h. get_or-set_other indices (get_or ats j 0) (get_or ats k 0) j 0 (not_before k h) ∙ t.indexed many k h)
        (get_or-set_same indices (get_or ats j 0) j 0 inside))

    pub tried_few : length ats ≤ few → Tried slots ats (j + 1) (set candidates j (get_or ats j 0)) indices
    tried_few h = tried_joined (λ many. absurd (omega arith))

-- once all are tried
pub tried_all : {slots ats candidates indices : List ℕ} → Tried slots ats (length ats) candidates indices → placeable slots ats ≡ true
tried_all {slots} {ats} t = placeable_all slots ats t.free (λ i j p h e. t.apart j h i p e)
