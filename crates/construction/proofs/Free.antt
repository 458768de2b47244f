-- Free slots: how many there are, the least one, and what a store changes.
-- Assumes nothing.
use mathlib.Core.Path.{◌≡◌, refl, sym, ap, ◌∙◌}
use mathlib.Core.Bool.{Bool, true, false}
use mathlib.Core.List.{List}
use Prim.Native.Nat.{ℕ, zero, suc, ◌+◌, ◌<◌, ◌≤◌}
use native.Mathlib.Nat.{not-suc-le-zero}
use native.Mathlib.Omega.{arith}
use lib.Dec.{eqb, ltb}
use lib.ListN.{length, get_or, set, replicate, length-set, length-replicate, get_or-replicate, get_or-eq_default}
use lib.Seq.{get_or-set_same, get_or-set_other}
use borrow.Author.Tests.{eqb-true, eqb-false, eq-eqb, ne_eqb, ltb-true, ltb-false}
use Rattle.num.specs.Choice.{when◌then◌else◌}
use Rattle.num.proofs.Choice.{false_true, never_true}
use Rattle.num.proofs.Steps.{first_or_later}
use Rattle.construction.specs.Construct.{is_free, free_from, least_free}
use Rattle.construction.specs.Internal.{free_to, free_count}

-- a free slot is one of the slots
pub free_inside : (slots : List ℕ) (at : ℕ) → 0 < length slots → is_free slots at ≡ true → at < length slots
unfolding is_free
free_inside slots at h e = go (ltb at (length slots)) refl
  where
    go : (b : Bool) → ltb at (length slots) ≡ b → at < length slots
    go true p = ltb-true _ _ p
    go false p =
        let l = ltb-false at (length slots) p in
        let d = get_or-eq_default slots 0 l in
        absurd (let f = eqb-true (get_or slots at 0) (length slots) e in omega arith)

-- a slot that holds a key's number is not free
pub taken : (slots : List ℕ) (at : ℕ) → get_or slots at 0 < length slots → is_free slots at ≡ false
unfolding is_free
taken slots at h = ne_eqb (get_or slots at 0) (length slots) (λ e. omega arith)

-- a store of a key's number takes the slot
pub store_taken : (slots : List ℕ) (at v : ℕ) → at < length slots → v < length slots → is_free (set slots at v) at ≡ false
store_taken slots at v h l = taken (set slots at v) at (rw (get_or-set_same slots at v 0 h, length-set slots at v) l)

-- and leaves every other slot
pub store_other : (slots : List ℕ) (at v k : ℕ) → (k ≡ at → ⊥) → is_free (set slots at v) k ≡ is_free slots k
unfolding is_free
store_other slots at v k n = rw (get_or-set_other slots at k v 0 n, length-set slots at v)

-- ---- how many

module _ (slots : List ℕ) (at v : ℕ) (inside : at < length slots) (small : v < length slots) where
  store_before : (k : ℕ) → k ≤ at → free_to (set slots at v) k ≡ free_to slots k
  unfolding free_to
  store_before zero h = refl
  store_before (suc k) h = rw (store_before k (omega arith), store_other slots at v k (λ e. omega arith))

  store_behind : is_free slots at ≡ true → (k : ℕ) → at < k → free_to (set slots at v) k + 1 ≡ free_to slots k
  unfolding free_to when◌then◌else◌
  store_behind f zero h = absurd (not-suc-le-zero h)
  store_behind f (suc k) h = go (eqb k at) refl (store_behind f k)
    where
      go : (b : Bool) → eqb k at ≡ b → (at < k → free_to (set slots at v) k + 1 ≡ free_to slots k)
          → free_to (set slots at v) k + (when is_free (set slots at v) k then 1 else 0) + 1 ≡ free_to slots k + (when is_free slots k then 1 else 0)
      go true p before =
          let e = eqb-true k at p in
          rw (ap (is_free (set slots at v)) e, store_taken slots at v inside small, ap (is_free slots) e, f, store_before k (omega arith)) (omega arith)
      go false p before =
          let d = eqb-false k at p in
          let r = before (omega arith) in
          rw (store_other slots at v k d) (omega arith)

  -- a store of a key's number to a free slot leaves one free slot less
  pub free_store : is_free slots at ≡ true → free_count (set slots at v) + 1 ≡ free_count slots
  unfolding free_count
  free_store f = ap (λ (k : ℕ). free_to (set slots at v) k + 1) (length-set slots at v) ∙ store_behind f (length slots) inside

free_to_all : (n k : ℕ) → k ≤ n → free_to (replicate n n) k ≡ k
unfolding free_to when◌then◌else◌ is_free
free_to_all n zero h = refl
free_to_all n (suc k) h =
    let same : get_or (replicate n n) k 0 ≡ length (replicate n n) = get_or-replicate n k n 0 h ∙ sym (length-replicate n n) in
    rw (free_to_all n k (omega arith), eq-eqb (get_or (replicate n n) k 0) (length (replicate n n)) same) (omega arith)

-- at first every slot is free
pub free_all : (n : ℕ) → free_count (replicate n n) ≡ n
unfolding free_count
free_all n = ap (free_to (replicate n n)) (length-replicate n n) ∙ free_to_all n n (omega arith)

-- ---- the least

free_found : (slots : List ℕ) (k : ℕ) → 0 < free_to slots k → (j : ℕ) × (j < k) × (is_free slots j ≡ true)
unfolding free_to when◌then◌else◌
free_found slots zero h = absurd (omega arith)
free_found slots (suc k) h = go (is_free slots k) refl h (free_found slots k)
  where
    go : (b : Bool) → is_free slots k ≡ b → 0 < free_to slots k + (when b then 1 else 0) → (0 < free_to slots k → (j : ℕ) × (j < k) × (is_free slots j ≡ true))
        → (j : ℕ) × (j < suc k) × (is_free slots j ≡ true)
    go true e l before = (k, omega arith, e)
    go false e l before = let r = before (omega arith) in let d = r.1 in (r.0, omega arith, r.2)

abbrev Found : List ℕ → ℕ → ℕ → Type 0
Found slots j r = (r ≤ j) × (is_free slots r ≡ true)

free_from_lem : (count : ℕ) (slots : List ℕ) (at j : ℕ) → at ≤ j → j < at + count → is_free slots j ≡ true
    → Found slots j (free_from count slots at)
unfolding free_from
free_from_lem zero slots at j h l f = absurd (omega arith)
free_from_lem (suc count) slots at j h l f = go (is_free slots at) refl (free_from_lem count slots (at + 1) j)
  where
    go : (b : Bool) → is_free slots at ≡ b → (at + 1 ≤ j → j < at + 1 + count → is_free slots j ≡ true → Found slots j (free_from count slots (at + 1)))
        → Found slots j (elim b [ true ↦ at | false ↦ free_from count slots (at + 1) ])
    go true e rest = (h, e)
    go false e rest =
        first_or_later (λ (i : ℕ). is_free slots i ≡ true → Found slots j (free_from count slots (at + 1))) at j h
        (λ t. false_true (sym e ∙ t)) (λ m _. rest (omega arith) (omega arith) f) f

-- the least free slot is free, and no free slot is before it
pub least_free_lem : (slots : List ℕ) (j : ℕ) → j < length slots → is_free slots j ≡ true → (least_free slots ≤ j) × (is_free slots (least_free slots) ≡ true)
unfolding least_free
least_free_lem slots j h f = free_from_lem (length slots) slots 0 j (omega arith) (omega arith) f

-- where a slot is free, the least free slot is one of the slots, and free
pub free_some : (slots : List ℕ) → 0 < free_count slots → (least_free slots < length slots) × (is_free slots (least_free slots) ≡ true)
unfolding free_count
free_some slots h =
    let r = free_found slots (length slots) h in
    let l = r.1 in
    let f = least_free_lem slots r.0 l r.2 in
    let k = f.0 in
    (omega arith, f.1)

-- before the least free slot every slot is taken
pub before_least : (slots : List ℕ) (k : ℕ) → least_free slots < length slots → k < least_free slots → is_free slots k ≡ false
before_least slots k h b = never_true (is_free slots k) (λ q. let l = (least_free_lem slots k (omega arith) q).0 in omega arith)
