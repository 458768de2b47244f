-- From step to step: what holds of neighbouring numbers, and what holds of all from a number on.
-- Assumes nothing.
use Rattle.std.proofs.Common.{◌≡◌, ℕ, zero, suc, ◌+◌, ◌<◌, ◌≤◌, Bool, true, false, eqb, sym, refl, ap, ◌∙◌, subst, not-suc-le-zero, add-one, arith, eqb-true}
use borrow.Author.Tests.{eqb-false}
use Rattle.num.specs.Choice.{each_below}
use Rattle.num.proofs.Choice.{false_true, both_true, true_both}

-- what holds at a number, and at another if it is later, holds at every number from the first on
pub first_or_later : (P : ℕ → Type 0) (k i : ℕ) → k ≤ i → P k → (suc k ≤ i → P i) → P i
first_or_later P k i h p q = go (eqb k i) refl
  where
    go : (b : Bool) → eqb k i ≡ b → P i
    go true e = subst P (eqb-true k i e) p
    go false e = let d = eqb-false k i e in q (omega arith)

-- what relates neighbours below n, and is transitive, relates every two numbers below n
pub neighbours : (R : ℕ → ℕ → Type 0) (n : ℕ) → ((i j k : ℕ) → R i j → R j k → R i k) → ((i : ℕ) → suc i < n → R i (suc i))
    → (k m : ℕ) → k < m → m < n → R k m
neighbours R n trans step k zero h l = absurd (not-suc-le-zero h)
neighbours R n trans step k (suc m) h l = go (eqb k m) refl (λ q. neighbours R n trans step k m q (omega arith))
  where
    go : (b : Bool) → eqb k m ≡ b → (k < m → R k m) → R k (suc m)
    go true e r = subst (λ (i : ℕ). R i (suc m)) (sym (eqb-true k m e)) (step m l)
    go false e r = let d = eqb-false k m e in trans k m (suc m) (r (omega arith)) (step m l)

-- a number that no step lowers is at its least first
pub steps_le : (f : ℕ → ℕ) → ((i : ℕ) → f i ≤ f (suc i)) → (k m : ℕ) → k ≤ m → f k ≤ f m
steps_le f step k m h =
    first_or_later (λ (i : ℕ). f k ≤ f i) k m h (omega arith)
    (λ l. neighbours (λ (i j : ℕ). f i ≤ f j) (suc m) (λ a b c p q. omega arith) (λ i _. step i) k m l (omega arith))

-- a test of every number below another
module _ (test : ℕ → Bool) where
  pub each_none : each_below 0 test ≡ true
  unfolding each_below
  each_none = refl

  pub each_more : (k : ℕ) → each_below k test ≡ true → test k ≡ true → each_below (k + 1) test ≡ true
  unfolding each_below
  each_more k p q = ap (λ (n : ℕ). each_below n test) (add-one k) ∙ true_both _ _ p q

  pub each_yes : (n : ℕ) → each_below n test ≡ true → (k : ℕ) → k < n → test k ≡ true
  unfolding each_below
  each_yes zero e k h = absurd (not-suc-le-zero h)
  each_yes (suc n) e k h = go (eqb k n) refl (both_true _ _ e).1 (each_yes n (both_true _ _ e).0 k)
    where
      go : (b : Bool) → eqb k n ≡ b → test n ≡ true → (k < n → test k ≡ true) → test k ≡ true
      go true p last before = ap test (eqb-true k n p) ∙ last
      go false p last before = let d = eqb-false k n p in before (omega arith)

  pub yes_each : (n : ℕ) → ((k : ℕ) → k < n → test k ≡ true) → each_below n test ≡ true
  unfolding each_below
  yes_each zero h = refl
  yes_each (suc n) h = true_both _ _ (yes_each n (λ k l. h k (omega arith))) (h n (omega arith))

  -- one no is enough
  pub each_no : (n k : ℕ) → k < n → test k ≡ false → each_below n test ≡ false
  each_no n k h e = go (each_below n test) refl
    where
      go : (b : Bool) → each_below n test ≡ b → each_below n test ≡ false
      go true p = false_true (sym e ∙ each_yes n p k h)
      go false p = p
