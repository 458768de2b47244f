-- Keys stored to slots, and the least pilot that serves.
-- Assumes nothing.
use mathlib.Core.Path.{◌≡◌, refl, sym, ◌∙◌}
use mathlib.Core.Logic.{◌⊎◌, inl, inr}
use mathlib.Core.Bool.{Bool, true, false}
use mathlib.Core.List.Memᴰ
use mathlib.Core.List.{List, [], ◌∷◌, map, Memᴰ}
use mathlib.Core.Option.{Option, some, none}
use Prim.Native.Nat.{ℕ, zero, suc, ◌+◌, ◌<◌, ◌≤◌}
use native.Mathlib.Omega.{arith}
use lib.ListN.{length, get_or, set, length-set}
use lib.Seq.{get_or-set_same, get_or-set_other}
use Rattle.num.proofs.Choice.{Each}
use Rattle.num.proofs.Steps.{first_or_later}
use Rattle.construction.specs.Construct.{is_free, serves, pilot_from, least_pilot, filled}
use Rattle.construction.specs.Internal.{free_count}
use Rattle.construction.proofs.Sorted.{each_member, member_each}
use Rattle.construction.proofs.Different.{Distinct}
use Rattle.construction.proofs.Free.{free_inside, store_other, free_store}

-- ---- keys stored to slots

module _ (f : ℕ → ℕ) where
  -- the slots with each key i of a list in slot f i
  abbrev pub fill : List ℕ → List ℕ → List ℕ
  fill slots members = filled slots (map f members) members

  pub fill_length : (members slots : List ℕ) → length (fill slots members) ≡ length slots
  unfolding filled
  fill_length [] slots = refl
  fill_length (i ∷ members) slots = fill_length members (set slots (f i) i) ∙ length-set slots (f i) i

  -- another slot stays
  pub fill_other : (members slots : List ℕ) (at : ℕ) → Each (λ k. at ≡ k → ⊥) (map f members) → get_or (fill slots members) at 0 ≡ get_or slots at 0
  unfolding filled
  fill_other [] slots at h = refl
  fill_other (i ∷ members) slots at h = fill_other members (set slots (f i) i) at h.1 ∙ get_or-set_other slots (f i) at i 0 h.0

  -- each key stands in its slot
  pub fill_mine : (members slots : List ℕ) → Each (λ k. k < length slots) (map f members) → Distinct (map f members)
      → (i : ℕ) → Memᴰ i members → get_or (fill slots members) (f i) 0 ≡ i
  unfolding filled
  fill_mine [] slots h d i m = absurd (Memᴰ.not-nil m)
  fill_mine (k ∷ members) slots h d i m =
      go (Memᴰ.cases_cons m) (fill_mine members (set slots (f k) k) (rw (length-set slots (f k) k) h.1) d.1 i)
    where
      go : (i ≡ k) ⊎ Memᴰ i members → (Memᴰ i members → get_or (fill (set slots (f k) k) members) (f i) 0 ≡ i)
          → get_or (fill (set slots (f k) k) members) (f i) 0 ≡ i
      go (inl e) rest = rw e (fill_other members (set slots (f k) k) (f k) d.0 ∙ get_or-set_same slots (f k) k 0 h.0)
      go (inr n) rest = rest n

  -- as many free slots less as there are keys
  pub fill_free : (members slots : List ℕ) → 0 < length slots → Each (λ k. is_free slots k ≡ true) (map f members) → Distinct (map f members)
      → Each (λ i. i < length slots) members → free_count (fill slots members) + length members ≡ free_count slots
  unfolding filled
  fill_free [] slots h p d b = omega arith
  fill_free (i ∷ members) slots h p d b =
      let l = length-set slots (f i) i in
      let n = free_inside slots (f i) h p.0 in
      let kept =
      member_each (λ k. is_free (set slots (f i) i) k ≡ true) (map f members)
      (λ k m. store_other slots (f i) i k (λ e. each_member (λ b. f i ≡ b → ⊥) d.0 m (sym e)) ∙ each_member (λ b. is_free slots b ≡ true) p.1 m) in
      let r = fill_free members (set slots (f i) i) (rw l h) kept d.1 (rw l b.1) in
      let s = free_store slots (f i) i n b.0 p.0 in
      omega arith

-- ---- the least pilot that serves

-- it serves, and no pilot before it does
pub record Least (hs slots : List ℕ) (x first p : ℕ) : Type 0 where
  pub serves_it : serves hs slots x p ≡ true
  pub none_before : (q : ℕ) → first ≤ q → q < p → serves hs slots x q ≡ false

module _ (hs slots : List ℕ) (x : ℕ) where
  from_least : (count first p : ℕ) → pilot_from count hs slots x first ≡ some p → (first ≤ p) × (p < first + count) × Least hs slots x first p
  unfolding pilot_from
  from_least zero first p e = absurd (let z : ◌≡◌ {A = ℕ} 0 1 = cc in omega arith)
  from_least (suc count) first p e = go (serves hs slots x first) refl e (from_least count (first + 1) p)
    where
      go : (b : Bool) → serves hs slots x first ≡ b → elim b [ true ↦ some first | false ↦ pilot_from count hs slots x (first + 1) ] ≡ some p
          → (pilot_from count hs slots x (first + 1) ≡ some p → (first + 1 ≤ p) × (p < first + 1 + count) × Least hs slots x (first + 1) p)
          → (first ≤ p) × (p < first + suc count) × Least hs slots x first p
      go true s q rest =
          let z : first ≡ p = cc in
          (omega arith, omega arith, record { serves_it = rw (← z) s; none_before = λ k a b. absurd (omega arith) })
      go false s q rest =
          let r = rest q in
          let a = r.0 in
          let b = r.1 in
          let none_before : (k : ℕ) → first ≤ k → k < p → serves hs slots x k ≡ false =
          λ k h l. first_or_later (λ (i : ℕ). serves hs slots x i ≡ false) first k h s (λ n. r.2.none_before k (omega arith) l) in
          (omega arith, omega arith, record { serves_it = r.2.serves_it; none_before = none_before })

  from_none : (count first : ℕ) → pilot_from count hs slots x first ≡ none → (p : ℕ) → first ≤ p → p < first + count → serves hs slots x p ≡ false
  unfolding pilot_from
  from_none zero first e p h l = absurd (omega arith)
  from_none (suc count) first e p h l = go (serves hs slots x first) refl e (from_none count (first + 1))
    where
      go : (b : Bool) → serves hs slots x first ≡ b → ◌≡◌ {A = Option ℕ} (elim b [ true ↦ some first | false ↦ pilot_from count hs slots x (first + 1) ]) none
          → (pilot_from count hs slots x (first + 1) ≡ none → (q : ℕ) → first + 1 ≤ q → q < first + 1 + count → serves hs slots x q ≡ false)
          → serves hs slots x p ≡ false
      go true s q rest = absurd (let z : ◌≡◌ {A = ℕ} 0 1 = cc in omega arith)
      go false s q rest = first_or_later (λ (i : ℕ). serves hs slots x i ≡ false) first p h s (λ n. rest q p (omega arith) (omega arith))

  pub least_pilot_lem : (p : ℕ) → least_pilot hs slots x ≡ some p → (p < 100000) × Least hs slots x 0 p
  unfolding least_pilot
  least_pilot_lem p e = let r = from_least 100000 0 p e in let h = r.1 in (omega arith, r.2)

  pub none_serves : least_pilot hs slots x ≡ none → (p : ℕ) → p < 100000 → serves hs slots x p ≡ false
  unfolding least_pilot
  none_serves e p h = from_none 100000 0 e p (omega arith) (omega arith)
