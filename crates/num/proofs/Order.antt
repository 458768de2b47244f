-- The order of byte lists is a strict total order, and what two lists share decides it.
-- Assumes nothing.
use Rattle.std.proofs.Common.{◌≡◌, ℕ, zero, suc, ◌+◌, ◌<◌, ◌≤◌, min, Bool, true, false, eqb, ltb, ◌⊎◌, List, [], ◌∷◌, ◌++◌, length, get_or, take, drop, sym, refl, ap, ◌∙◌, ap₂, inl, inr, not-suc-le-zero, add-zero, add_assoc, suc-add, zero-add, arith, length-drop, take-append-drop, drop_of_length-le, get_or-drop, take_all, drop-cons, get_or-take, drop-drop, ltb-false, ltb-true, le-ltb, lt-ltb, eq-eqb, ne_eqb, eqb-true}
use borrow.Author.Tests.{eqb-false}
use lib.Pointwise.{pointwise}
use Rattle.std.specs.Prelude.{◌&&◌}
use Rattle.num.specs.Choice.{when◌then◌else◌, both}
use Rattle.num.specs.Order.{less_than, common_prefix_len, equal_bytes}
use Rattle.num.proofs.Choice.{false_true, both_true, true_both}

-- two numbers are equal, or the first is less, or the second is
data Compared (x y : ℕ) : Type 0 where
  less : x < y → Compared x y
  same : x ≡ y → Compared x y
  more : y < x → Compared x y

compare : (x y : ℕ) → Compared x y
compare x y = go (eqb x y) (ltb x y) refl refl
  where
    go : (e l : Bool) → eqb x y ≡ e → ltb x y ≡ l → Compared x y
    go true l p q = same (eqb-true x y p)
    go false true p q = less (ltb-true x y q)
    go false false p q = let n = eqb-false x y p in more (omega (arith, ltb-false x y q))

module _ (x y : ℕ) (xs ys : List ℕ) where
  less_same : x ≡ y → less_than (x ∷ xs) (y ∷ ys) ≡ less_than xs ys
  unfolding less_than when◌then◌else◌
  less_same e = rw (eq-eqb x y e)

  less_less : x < y → less_than (x ∷ xs) (y ∷ ys) ≡ true
  unfolding less_than when◌then◌else◌
  less_less h = rw (ne_eqb x y (λ e. omega arith), lt-ltb x y h)

  less_more : y < x → less_than (x ∷ xs) (y ∷ ys) ≡ false
  unfolding less_than when◌then◌else◌
  less_more h = rw (ne_eqb x y (λ e. omega arith), le-ltb x y (omega arith))

-- no list comes before itself
pub less_than-irreflexive : (a : List ℕ) → less_than a a ≡ false
unfolding less_than
less_than-irreflexive [] = refl
less_than-irreflexive (x ∷ xs) = less_same x x xs xs refl ∙ less_than-irreflexive xs

-- lists in order begin with a lesser element, or with the same one and go on in order
less_cases : (x y : ℕ) (xs ys : List ℕ) → less_than (x ∷ xs) (y ∷ ys) ≡ true → (x < y) ⊎ ((x ≡ y) × (less_than xs ys ≡ true))
less_cases x y xs ys p = go (compare x y)
  where
    go : Compared x y → (x < y) ⊎ ((x ≡ y) × (less_than xs ys ≡ true))
    go (less h) = inl h
    go (same e) = inr (e, sym (less_same x y xs ys e) ∙ p)
    go (more h) = false_true (sym (less_more x y xs ys h) ∙ p)

-- what comes before a list comes before all that it comes before
pub less_than-transitive : (a b c : List ℕ) → less_than a b ≡ true → less_than b c ≡ true → less_than a c ≡ true
unfolding less_than
less_than-transitive a [] c p q = false_true p
less_than-transitive a (y ∷ ys) [] p q = false_true q
less_than-transitive [] (y ∷ ys) (z ∷ zs) p q = refl
less_than-transitive (x ∷ xs) (y ∷ ys) (z ∷ zs) p q =
    step (less_cases x y xs ys p) (less_cases y z ys zs q) (less_than-transitive xs ys zs)
  where
    step : (x < y) ⊎ ((x ≡ y) × (less_than xs ys ≡ true)) → (y < z) ⊎ ((y ≡ z) × (less_than ys zs ≡ true))
        → (less_than xs ys ≡ true → less_than ys zs ≡ true → less_than xs zs ≡ true) → less_than (x ∷ xs) (z ∷ zs) ≡ true
    step (inl h) (inl k) ih = less_less x z xs zs (omega arith)
    step (inl h) (inr k) ih = less_less x z xs zs (omega arith)
    step (inr h) (inl k) ih = less_less x z xs zs (omega arith)
    step (inr h) (inr k) ih = less_same x z xs zs (h.0 ∙ k.0) ∙ ih h.1 k.1

-- two lists do not come before each other
pub less_than-asymmetric : (a b : List ℕ) → less_than a b ≡ true → less_than b a ≡ false
less_than-asymmetric a b p = go (less_than b a) refl
  where
    go : (t : Bool) → less_than b a ≡ t → t ≡ false
    go true q = sym (less_than-transitive a b a p q) ∙ less_than-irreflexive a
    go false q = refl

-- of two lists one comes first, or they are the same
pub less_than-trichotomy : (a b : List ℕ) → (less_than a b ≡ true) ⊎ ((a ≡ b) ⊎ (less_than b a ≡ true))
unfolding less_than
less_than-trichotomy [] [] = inr (inl refl)
less_than-trichotomy [] (y ∷ ys) = inl refl
less_than-trichotomy (x ∷ xs) [] = inr (inr refl)
less_than-trichotomy (x ∷ xs) (y ∷ ys) = step (compare x y) (less_than-trichotomy xs ys)
  where
    step : Compared x y → (less_than xs ys ≡ true) ⊎ ((xs ≡ ys) ⊎ (less_than ys xs ≡ true))
        → (less_than (x ∷ xs) (y ∷ ys) ≡ true) ⊎ (((x ∷ xs) ≡ (y ∷ ys)) ⊎ (less_than (y ∷ ys) (x ∷ xs) ≡ true))
    step (less h) t = inl (less_less x y xs ys h)
    step (more h) t = inr (inr (less_less y x ys xs h))
    step (same e) (inl p) = inl (less_same x y xs ys e ∙ p)
    step (same e) (inr (inl p)) = inr (inl (ap₂ (λ (u : ℕ) (us : List ℕ). u ∷ us) e p))
    step (same e) (inr (inr p)) = inr (inr (less_same y x ys xs (sym e) ∙ p))

-- lists in order are not the same
pub less_than-different : (a b : List ℕ) → less_than a b ≡ true → a ≡ b → ⊥
less_than-different a b p e = false_true (sym (less_than-irreflexive b) ∙ ap (λ (s : List ℕ). less_than s b) (sym e) ∙ p)

-- a beginning that two lists share plays no part in their order
pub less_than-append : (p a b : List ℕ) → less_than (p ++ a) (p ++ b) ≡ less_than a b
less_than-append [] a b = refl
less_than-append (x ∷ p) a b = less_same x x (p ++ a) (p ++ b) refl ∙ less_than-append p a b

module _ (x y : ℕ) (xs ys : List ℕ) where
  shared_same : x ≡ y → common_prefix_len (x ∷ xs) (y ∷ ys) ≡ suc (common_prefix_len xs ys)
  unfolding common_prefix_len when◌then◌else◌
  shared_same e = rw (eq-eqb x y e)

  shared_other : (x ≡ y → ⊥) → common_prefix_len (x ∷ xs) (y ∷ ys) ≡ 0
  unfolding common_prefix_len when◌then◌else◌
  shared_other n = rw (ne_eqb x y n)

-- two numbers are the same, or not
equal : (x y : ℕ) → (x ≡ y) ⊎ (x ≡ y → ⊥)
equal x y = go (eqb x y) refl
  where
    go : (t : Bool) → eqb x y ≡ t → (x ≡ y) ⊎ (x ≡ y → ⊥)
    go true p = inl (eqb-true x y p)
    go false p = inr (eqb-false x y p)

-- both lists share the same
pub common_prefix_len-comm : (a b : List ℕ) → common_prefix_len a b ≡ common_prefix_len b a
unfolding common_prefix_len
common_prefix_len-comm [] [] = refl
common_prefix_len-comm [] (y ∷ ys) = refl
common_prefix_len-comm (x ∷ xs) [] = refl
common_prefix_len-comm (x ∷ xs) (y ∷ ys) = step (equal x y) (common_prefix_len-comm xs ys)
  where
    step : (x ≡ y) ⊎ (x ≡ y → ⊥) → common_prefix_len xs ys ≡ common_prefix_len ys xs → common_prefix_len (x ∷ xs) (y ∷ ys) ≡ common_prefix_len (y ∷ ys) (x ∷ xs)
    step (inl e) ih = shared_same x y xs ys e ∙ ap suc ih ∙ sym (shared_same y x ys xs (sym e))
    step (inr n) ih = shared_other x y xs ys n ∙ sym (shared_other y x ys xs (λ e. n (sym e)))

-- what is shared is no longer than the first list
pub common_prefix_len-left : (a b : List ℕ) → common_prefix_len a b ≤ length a
unfolding common_prefix_len
common_prefix_len-left [] b = omega arith
common_prefix_len-left (x ∷ xs) [] = omega arith
common_prefix_len-left (x ∷ xs) (y ∷ ys) = step (equal x y) (common_prefix_len-left xs ys)
  where
    step : (x ≡ y) ⊎ (x ≡ y → ⊥) → common_prefix_len xs ys ≤ length xs → common_prefix_len (x ∷ xs) (y ∷ ys) ≤ suc (length xs)
    step (inl e) ih = omega (arith, shared_same x y xs ys e)
    step (inr n) ih = omega (arith, shared_other x y xs ys n)

-- nor than the second
pub common_prefix_len-right : (a b : List ℕ) → common_prefix_len a b ≤ length b
common_prefix_len-right a b = omega (arith, common_prefix_len-comm a b, common_prefix_len-left b a)

-- the shared parts are equal
pub common_prefix_len-take : (a b : List ℕ) → take (common_prefix_len a b) a ≡ take (common_prefix_len a b) b
unfolding common_prefix_len
common_prefix_len-take [] [] = refl
common_prefix_len-take [] (y ∷ ys) = refl
common_prefix_len-take (x ∷ xs) [] = refl
common_prefix_len-take (x ∷ xs) (y ∷ ys) = step (equal x y) (common_prefix_len-take xs ys)
  where
    step : (x ≡ y) ⊎ (x ≡ y → ⊥) → take (common_prefix_len xs ys) xs ≡ take (common_prefix_len xs ys) ys
        → take (common_prefix_len (x ∷ xs) (y ∷ ys)) (x ∷ xs) ≡ take (common_prefix_len (x ∷ xs) (y ∷ ys)) (y ∷ ys)
    step (inl e) ih = rw (shared_same x y xs ys e) (ap₂ (λ (u : ℕ) (us : List ℕ). u ∷ us) e ih)
    step (inr n) ih = rw (shared_other x y xs ys n)

-- elements that agree count into the shared length, and the rest is what the rests share
pub common_prefix_len-past : (n : ℕ) (a b : List ℕ) → n ≤ length a → n ≤ length b → ((k : ℕ) → k < n → get_or a k 0 ≡ get_or b k 0)
    → common_prefix_len a b ≡ n + common_prefix_len (drop n a) (drop n b)
common_prefix_len-past zero a b p q h = sym (zero-add (common_prefix_len a b))
common_prefix_len-past (suc n) [] b p q h = absurd (not-suc-le-zero p)
common_prefix_len-past (suc n) (x ∷ xs) [] p q h = absurd (not-suc-le-zero q)
common_prefix_len-past (suc n) (x ∷ xs) (y ∷ ys) p q h =
    shared_same x y xs ys (h 0 (omega arith))
    ∙ ap suc (common_prefix_len-past n xs ys (omega arith) (omega arith) (λ k l. h (suc k) (omega arith)))
    ∙ sym (suc-add n (common_prefix_len (drop n xs) (drop n ys)))

-- the same from a place on
pub common_prefix_len-from : (a b : List ℕ) (i n : ℕ) → i + n ≤ length a → i + n ≤ length b → ((k : ℕ) → k < n → get_or a (i + k) 0 ≡ get_or b (i + k) 0)
    → i + common_prefix_len (drop i a) (drop i b) ≡ i + n + common_prefix_len (drop (i + n) a) (drop (i + n) b)
common_prefix_len-from a b i n p q h =
    let e = common_prefix_len-past n (drop i a) (drop i b) (simp length-drop (omega arith)) (simp length-drop (omega arith))
    (λ k l. get_or-drop i a k 0 ∙ h k l ∙ sym (get_or-drop i b k 0)) in
    ap (λ (m : ℕ). i + m) (e ∙ ap₂ (λ (s t : List ℕ). n + common_prefix_len s t) (drop-drop n i a) (drop-drop n i b))
    ∙ sym (add_assoc i n (common_prefix_len (drop (i + n) a) (drop (i + n) b)))

-- and for one element
pub common_prefix_len-agree : (a b : List ℕ) (i : ℕ) → i < length a → i < length b → get_or a i 0 ≡ get_or b i 0
    → i + common_prefix_len (drop i a) (drop i b) ≡ i + 1 + common_prefix_len (drop (i + 1) a) (drop (i + 1) b)
common_prefix_len-agree a b i p q e =
    common_prefix_len-from a b i 1 (omega arith) (omega arith) (λ k l. let z : i + k ≡ i = omega arith in rw (z, e))

-- a common beginning is not longer than what is shared
pub common_prefix_len-greatest : (n : ℕ) (a b : List ℕ) → n ≤ length a → n ≤ length b → take n a ≡ take n b → n ≤ common_prefix_len a b
common_prefix_len-greatest n a b p q e =
    omega (arith, common_prefix_len-past n a b p q (λ k l. sym (get_or-take n a k 0 l) ∙ ap (λ (s : List ℕ). get_or s k 0) e ∙ get_or-take n b k 0 l))

-- nothing is shared behind the end of the shorter list
pub common_prefix_len-end : (a b : List ℕ) (i : ℕ) → min (length a) (length b) ≤ i → i + common_prefix_len (drop i a) (drop i b) ≡ i
common_prefix_len-end a b i h =
    let l = common_prefix_len-left (drop i a) (drop i b) in
    let r = common_prefix_len-right (drop i a) (drop i b) in
    omega (arith, length-drop i a, length-drop i b)

-- nor where the elements differ
pub common_prefix_len-differ : (a b : List ℕ) (i : ℕ) → i < length a → i < length b → (get_or a i 0 ≡ get_or b i 0 → ⊥) → i + common_prefix_len (drop i a) (drop i b) ≡ i
common_prefix_len-differ a b i p q n =
    ap₂ (λ (s t : List ℕ). i + common_prefix_len s t) (drop-cons a i 0 p) (drop-cons b i 0 q)
    ∙ ap (λ (m : ℕ). i + m) (shared_other _ _ _ _ n)
    ∙ add-zero i

-- the elements behind the shared part differ
pub common_prefix_len-stops : (a b : List ℕ) → common_prefix_len a b < length a → common_prefix_len a b < length b
    → get_or a (common_prefix_len a b) 0 ≡ get_or b (common_prefix_len a b) 0 → ⊥
unfolding common_prefix_len
common_prefix_len-stops [] b p q e = absurd (not-suc-le-zero p)
common_prefix_len-stops (x ∷ xs) [] p q e = absurd (not-suc-le-zero q)
common_prefix_len-stops (x ∷ xs) (y ∷ ys) p q e = step (equal x y) (common_prefix_len-stops xs ys)
  where
    step : (x ≡ y) ⊎ (x ≡ y → ⊥)
        → (common_prefix_len xs ys < length xs → common_prefix_len xs ys < length ys → get_or xs (common_prefix_len xs ys) 0 ≡ get_or ys (common_prefix_len xs ys) 0 → ⊥) → ⊥
    step (inl d) ih = let n = shared_same x y xs ys d in ih (omega arith) (omega arith) (rw n at e)
    step (inr d) ih = let n = shared_other x y xs ys d in d (rw n at e)

-- a list shares all with itself
pub common_prefix_len-same : (a : List ℕ) → common_prefix_len a a ≡ length a
unfolding common_prefix_len
common_prefix_len-same [] = refl
common_prefix_len-same (x ∷ xs) = shared_same x x xs xs refl ∙ ap suc (common_prefix_len-same xs)

-- lists of one length that share it are the same
pub common_prefix_len-whole : (a b : List ℕ) → common_prefix_len a b ≡ length a → length a ≡ length b → a ≡ b
common_prefix_len-whole a b e l =
    sym (take_all (common_prefix_len a b) a (omega arith)) ∙ common_prefix_len-take a b ∙ take_all (common_prefix_len a b) b (omega arith)

-- a beginning before both lists is shared
pub common_prefix_len-append : (p a b : List ℕ) → common_prefix_len (p ++ a) (p ++ b) ≡ length p + common_prefix_len a b
common_prefix_len-append [] a b = sym (zero-add (common_prefix_len a b))
common_prefix_len-append (x ∷ p) a b =
    shared_same x x (p ++ a) (p ++ b) refl ∙ ap suc (common_prefix_len-append p a b) ∙ sym (suc-add (length p) (common_prefix_len a b))

-- the order is that of what stands behind the shared part
pub less_than-behind : (a b : List ℕ) → less_than a b ≡ less_than (drop (common_prefix_len a b) a) (drop (common_prefix_len a b) b)
less_than-behind a b =
    let n = common_prefix_len a b in
    sym (ap₂ less_than (take-append-drop n a) (ap (λ (s : List ℕ). s ++ drop n b) (common_prefix_len-take a b) ∙ take-append-drop n b))
    ∙ less_than-append (take n a) (drop n a) (drop n b)

-- the second list is a beginning of the first
pub less_than-right_end : (a b : List ℕ) → common_prefix_len a b ≡ length b → less_than a b ≡ false
unfolding less_than
less_than-right_end a b e =
    less_than-behind a b ∙ ap (less_than (drop (common_prefix_len a b) a)) (drop_of_length-le b {i = common_prefix_len a b} (omega arith))

-- the first list is a beginning of the second
pub less_than-left_end : (a b : List ℕ) → common_prefix_len a b ≡ length a → length a < length b → less_than a b ≡ true
unfolding less_than
less_than-left_end a b e h =
    less_than-behind a b
    ∙ ap₂ less_than (drop_of_length-le a {i = common_prefix_len a b} (omega arith)) (drop-cons b (common_prefix_len a b) 0 (omega arith))

-- both go on behind the shared part
pub less_than-at : (a b : List ℕ) → common_prefix_len a b < length a → common_prefix_len a b < length b
    → less_than a b ≡ ltb (get_or a (common_prefix_len a b) 0) (get_or b (common_prefix_len a b) 0)
unfolding less_than when◌then◌else◌
less_than-at a b p q =
    less_than-behind a b
    ∙ ap₂ less_than (drop-cons a (common_prefix_len a b) 0 p) (drop-cons b (common_prefix_len a b) 0 q)
    ∙ rw (ne_eqb _ _ (common_prefix_len-stops a b p q))

-- what comes first ends with the shared part, or has the lesser element behind it
pub less_than-shared : (a b : List ℕ) → less_than a b ≡ true
    → ((common_prefix_len a b ≡ length a) × (length a < length b))
    ⊎ ((common_prefix_len a b < length a) × (common_prefix_len a b < length b) × (get_or a (common_prefix_len a b) 0 < get_or b (common_prefix_len a b) 0))
less_than-shared a b t = go (equal (common_prefix_len a b) (length b)) (equal (common_prefix_len a b) (length a))
  where
    go : (common_prefix_len a b ≡ length b) ⊎ (common_prefix_len a b ≡ length b → ⊥) → (common_prefix_len a b ≡ length a) ⊎ (common_prefix_len a b ≡ length a → ⊥)
        → ((common_prefix_len a b ≡ length a) × (length a < length b))
        ⊎ ((common_prefix_len a b < length a) × (common_prefix_len a b < length b) × (get_or a (common_prefix_len a b) 0 < get_or b (common_prefix_len a b) 0))
    go (inl e) d = false_true (sym (less_than-right_end a b e) ∙ t)
    go (inr n) (inl e) = let r = common_prefix_len-right a b in inl (e, omega arith)
    go (inr n) (inr m) =
        let p : common_prefix_len a b < length a = omega (arith, common_prefix_len-left a b) in
        let q : common_prefix_len a b < length b = omega (arith, common_prefix_len-right a b) in
        inr (p, q, ltb-true _ _ (sym (less_than-at a b p q) ∙ t))

-- and lists of which either holds are in order
pub shared_less_than : (a b : List ℕ)
    → ((common_prefix_len a b ≡ length a) × (length a < length b))
    ⊎ ((common_prefix_len a b < length a) × (common_prefix_len a b < length b) × (get_or a (common_prefix_len a b) 0 < get_or b (common_prefix_len a b) 0))
    → less_than a b ≡ true
shared_less_than a b (inl h) = less_than-left_end a b h.0 h.1
shared_less_than a b (inr h) = less_than-at a b h.0 h.1 ∙ lt-ltb _ _ h.2

-- the test of equality says yes of equal lists alone
pub equal_bytes-true : (a b : List ℕ) → equal_bytes a b ≡ true → a ≡ b
unfolding equal_bytes
equal_bytes-true [] [] e = refl
equal_bytes-true [] (y ∷ ys) e = false_true e
equal_bytes-true (x ∷ xs) [] e = false_true e
equal_bytes-true (x ∷ xs) (y ∷ ys) e =
    let h = both_true _ _ e in
    ap₂ (λ (u : ℕ) (us : List ℕ). u ∷ us) (eqb-true x y h.0) (equal_bytes-true xs ys h.1)

-- and of all of them
pub equal_bytes-same : (a b : List ℕ) → a ≡ b → equal_bytes a b ≡ true
unfolding equal_bytes
equal_bytes-same a b e = ap (equal_bytes a) (sym e) ∙ itself a
  where
    itself : (a : List ℕ) → equal_bytes a a ≡ true
    itself [] = refl
    itself (x ∷ xs) = true_both _ _ (eq-eqb x x refl) (itself xs)

-- it says no of different lists alone
pub equal_bytes-false : (a b : List ℕ) → equal_bytes a b ≡ false → a ≡ b → ⊥
equal_bytes-false a b f e = false_true (sym f ∙ equal_bytes-same a b e)

-- and of all of them
pub equal_bytes-other : (a b : List ℕ) → (a ≡ b → ⊥) → equal_bytes a b ≡ false
equal_bytes-other a b n = go (equal_bytes a b) refl
  where
    go : (t : Bool) → equal_bytes a b ≡ t → t ≡ false
    go true e = absurd (n (equal_bytes-true a b e))
    go false e = refl

-- lists of one length are the same if they share all of it
pub equal_bytes-shared : (a b : List ℕ) → length a ≡ length b → equal_bytes a b ≡ eqb (common_prefix_len a b) (length a)
equal_bytes-shared a b l = go (equal (common_prefix_len a b) (length a))
  where
    go : (common_prefix_len a b ≡ length a) ⊎ (common_prefix_len a b ≡ length a → ⊥) → equal_bytes a b ≡ eqb (common_prefix_len a b) (length a)
    go (inl e) = equal_bytes-same a b (common_prefix_len-whole a b e l) ∙ sym (eq-eqb _ _ e)
    go (inr n) =
        equal_bytes-other a b (λ e. n (ap (common_prefix_len a) (sym e) ∙ common_prefix_len-same a)) ∙ sym (ne_eqb _ _ n)

-- the library's comparison of two slices
pub pointwise_bytes : (a b : List ℕ) → pointwise eqb a b ≡ equal_bytes a b
unfolding equal_bytes both
pointwise_bytes [] [] = refl
pointwise_bytes [] (y ∷ ys) = refl
pointwise_bytes (x ∷ xs) [] = refl
pointwise_bytes (x ∷ xs) (y ∷ ys) = go (eqb x y) (pointwise_bytes xs ys)
  where
    go : (b : Bool) → pointwise eqb xs ys ≡ equal_bytes xs ys → (b && pointwise eqb xs ys) ≡ both b (equal_bytes xs ys)
    go true e = e
    go false e = refl
