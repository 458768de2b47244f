-- As many different numbers below n as there are take each of them.
-- Assumes nothing.
use Rattle.std.proofs.Common.{◌≡◌, ℕ, zero, suc, ◌+◌, ◌-◌, ◌<◌, min, Bool, true, false, eqb, ◌⊎◌, sym, refl, ap, ◌∙◌, inl, inr, not-suc-le-zero, arith, eq-eqb, eqb-true}
use Rattle.num.proofs.Choice.{false_true}
use Rattle.num.proofs.Steps.{first_or_later}

-- a test holds at a number below n, or at none
pub search_below : (p : ℕ → Bool) (n : ℕ) → ((k : ℕ) × (k < n) × (p k ≡ true)) ⊎ ((k : ℕ) → k < n → p k ≡ true → ⊥)
search_below p zero = inr (λ k h e. not-suc-le-zero h)
search_below p (suc n) = go (p n) refl (search_below p n)
  where
    go : (b : Bool) → p n ≡ b → ((k : ℕ) × (k < n) × (p k ≡ true)) ⊎ ((k : ℕ) → k < n → p k ≡ true → ⊥)
        → ((k : ℕ) × (k < suc n) × (p k ≡ true)) ⊎ ((k : ℕ) → k < suc n → p k ≡ true → ⊥)
    go true e r = inl (n, omega arith, e)
    go false e (inl w) = let h = w.1 in inl (w.0, omega arith, w.2)
    go false e (inr none) = inr (λ k h t. first_or_later (λ (i : ℕ). p i ≡ false → ⊥) k n (omega arith) (λ f. false_true (sym f ∙ t)) (λ l. absurd (none k l t)) e)

-- the numbers other than i, without a gap: those above it go down by one
unfoldable closed : ℕ → ℕ → ℕ
closed i x = x - min 1 (x - i)

-- and back again
opened_again : (i x : ℕ) → (x ≡ i → ⊥) → closed i x + min 1 (suc (closed i x) - i) ≡ x
unfolding closed
opened_again i x n = omega arith

closed_different : (i x y : ℕ) → (x ≡ i → ⊥) → (y ≡ i → ⊥) → closed i x ≡ closed i y → x ≡ y
closed_different i x y p q e = sym (opened_again i x p) ∙ ap (λ (z : ℕ). z + min 1 (suc z - i)) e ∙ opened_again i y q

closed_below : (i x n : ℕ) → (x ≡ i → ⊥) → i < suc n → x < suc n → closed i x < n
unfolding closed
closed_below i x n p h l = omega arith

-- n different numbers below n leave none out
none_left : (n : ℕ) (f : ℕ → ℕ) (i : ℕ) → i < n → ((k : ℕ) → k < n → f k < n) → ((k m : ℕ) → k < n → m < n → f k ≡ f m → k ≡ m)
    → ((k : ℕ) → k < n → f k ≡ i → ⊥) → ⊥
none_left zero f i h below different misses = not-suc-le-zero h
none_left (suc n) f i h below different misses =
    none_left n (λ k. closed i (f k)) (closed i (f n))
    (closed_below i (f n) n (misses n (omega arith)) h (below n (omega arith)))
    (λ k l. closed_below i (f k) n (misses k (omega arith)) h (below k (omega arith)))
    (λ k m l q e. different k m (omega arith) (omega arith) (closed_different i (f k) (f m) (misses k (omega arith)) (misses m (omega arith)) e))
    (λ k l e. let z = different k n (omega arith) (omega arith) (closed_different i (f k) (f n) (misses k (omega arith)) (misses n (omega arith)) e) in omega arith)

-- so each number below n is one of them
pub all_taken : (n : ℕ) (f : ℕ → ℕ) → ((k : ℕ) → k < n → f k < n) → ((k m : ℕ) → k < n → m < n → f k ≡ f m → k ≡ m)
    → (i : ℕ) → i < n → (k : ℕ) × (k < n) × (f k ≡ i)
all_taken n f below different i h = go (search_below (λ k. eqb (f k) i) n)
  where
    go : ((k : ℕ) × (k < n) × (eqb (f k) i ≡ true)) ⊎ ((k : ℕ) → k < n → eqb (f k) i ≡ true → ⊥) → (k : ℕ) × (k < n) × (f k ≡ i)
    go (inl w) = (w.0, w.1, eqb-true _ _ w.2)
    go (inr none) = absurd (none_left n f i h below different (λ k l e. none k l (eq-eqb _ _ e)))
