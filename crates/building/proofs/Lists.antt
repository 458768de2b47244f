-- Lists that grow at their end, and numbers gathered over them.
-- Assumes nothing.
use mathlib.Core.Path.{◌≡◌, refl, sym, ap, ◌∙◌, subst, subst⁻¹}
use mathlib.Core.List.{List, [], ◌∷◌, ◌++◌, append-nil, map}
use Prim.Native.Nat.{ℕ, zero, suc, ◌+◌, ◌-◌, ◌<◌, ◌≤◌, min, max}
use native.Mathlib.Nat.{not-suc-le-zero}
use native.Mathlib.Omega.{arith}
use lib.Dec.{eqb}
use lib.ListN.{length, get_or, take, length-append, get_or-append}
use lib.Seq.{take-suc, take-length, append_snoc, get_or-append-add, get_or-append_seam}
use borrow.Author.Tests.{eq-eqb, ne_eqb}
use Rattle.num.specs.Choice.{when◌then◌else◌}
use Rattle.num.proofs.Choice.{if_true, if_false}
use Rattle.building.specs.Taken.{gathered, greatest_of, least_of, last_of}

module _ {A B : Type 0} (f : A → B) where
  pub map_more : (l : List A) (x : A) → map f (l ++ (x ∷ [])) ≡ map f l ++ (f x ∷ [])
  map_more [] x = refl
  map_more (y ∷ l) x = ap (λ (m : List B). f y ∷ m) (map_more l x)

module _ {A : Type 0} where
  pub length_more : (l : List A) (x : A) → length (l ++ (x ∷ [])) ≡ length l + 1
  length_more l x = length-append l (x ∷ [])

  pub last_at : (l : List A) (x d : A) → get_or (l ++ (x ∷ [])) (length (l ++ (x ∷ [])) - 1) d ≡ x
  last_at l x d =
      let n : length (l ++ (x ∷ [])) - 1 ≡ length l = let m = length_more l x in omega arith in
      ap (λ (i : ℕ). get_or (l ++ (x ∷ [])) i d) n ∙ get_or-append_seam l x [] d

  -- what holds of no element, and of one more behind any, holds of every list
  pub grown : (P : List A → Type 0) → P [] → ((l : List A) (x : A) → P l → P (l ++ (x ∷ []))) → (l : List A) → P l
  grown P none more l = go [] none l
    where
      go : (before : List A) → P before → (l : List A) → P (before ++ l)
      go before h [] = subst⁻¹ P (append-nil before) h
      go before h (x ∷ xs) = subst P (append_snoc before x xs) (go (before ++ (x ∷ [])) (more before x h) xs)

  -- a list with an element is one that grew
  pub last_split : (l : List A) (d : A) → 0 < length l → take (length l - 1) l ++ (get_or l (length l - 1) d ∷ []) ≡ l
  last_split l d h =
      let n : suc (length l - 1) ≡ length l = omega arith in
      sym (take-suc l (length l - 1) d (omega arith)) ∙ ap (λ (k : ℕ). take k l) n ∙ take-length l

  -- what holds of each element of two parts holds of all
  pub either_part : (P : A → Type 0) (a b : List A) (d : A) → ((i : ℕ) → i < length a → P (get_or a i d)) → ((i : ℕ) → i < length b → P (get_or b i d))
      → (i : ℕ) → i < length (a ++ b) → P (get_or (a ++ b) i d)
  either_part P [] b d first second i h = second i h
  either_part P (x ∷ a) b d first second zero h = first 0 (omega arith)
  either_part P (x ∷ a) b d first second (suc i) h = either_part P a b d (λ k l. first (suc k) (omega arith)) second i (omega arith)

  pub part_either : (P : A → Type 0) (a b : List A) (d : A) → ((i : ℕ) → i < length (a ++ b) → P (get_or (a ++ b) i d))
      → ((i : ℕ) → i < length a → P (get_or a i d)) × ((i : ℕ) → i < length b → P (get_or b i d))
  part_either P a b d all = (
    λ i h. let n = length-append a b in subst P (get_or-append a b d i h) (all i (omega arith)),
    λ i h. let n = length-append a b in subst P (get_or-append-add a b i d) (all (length a + i) (omega arith)),
  )

  pub one_part : (P : A → Type 0) (x d : A) → P x → (i : ℕ) → i < 1 → P (get_or (x ∷ []) i d)
  one_part P x d p zero h = p
  one_part P x d p (suc i) h = absurd (not-suc-le-zero (let l : suc i ≤ 0 = omega arith in l))

  module _ (f : A → ℕ) where
    gathered-more : (op : ℕ → ℕ → ℕ) (m : ℕ) (l : List A) (x : A) → gathered op f m (l ++ (x ∷ [])) ≡ op (gathered op f m l) (f x)
    unfolding gathered
    gathered-more op m [] x = refl
    gathered-more op m (y ∷ l) x = gathered-more op (op m (f y)) l x

    pub greatest_more : (l : List A) (x : A) → greatest_of f (l ++ (x ∷ [])) ≡ max (greatest_of f l) (f x)
    unfolding greatest_of
    greatest_more l x = gathered-more max 0 l x

    pub last_more : (l : List A) (x : A) → last_of f (l ++ (x ∷ [])) ≡ f x
    unfolding last_of
    last_more l x = gathered-more (λ m n. n) 0 l x

    pub least_more : (l : List A) (x : A) → least_of f (l ++ (x ∷ [])) ≡ (when eqb (length l) 0 then f x else min (least_of f l) (f x))
    unfolding least_of gathered
    least_more [] x = sym (if_true (eqb 0 0) (f x) (min 0 (f x)) (eq-eqb 0 0 refl))
    least_more (y ∷ l) x =
        gathered-more min (f y) l x
        ∙ sym (if_false (eqb (suc (length l)) 0) (f x) (min (gathered min f (f y) l) (f x)) (ne_eqb (suc (length l)) 0 (λ e. omega arith)))

    -- ---- bounds

    from_le : (m : ℕ) (l : List A) → m ≤ gathered max f m l
    unfolding gathered
    from_le m [] = omega arith
    from_le m (x ∷ l) = let h = from_le (max m (f x)) l in omega arith

    gathered-each : (m : ℕ) (l : List A) (d : A) (i : ℕ) → i < length l → f (get_or l i d) ≤ gathered max f m l
    unfolding gathered
    gathered-each m [] d i h = absurd (not-suc-le-zero h)
    gathered-each m (x ∷ l) d zero h = let g = from_le (max m (f x)) l in omega arith
    gathered-each m (x ∷ l) d (suc i) h = gathered-each (max m (f x)) l d i (omega arith)

    pub greatest_each : (l : List A) (d : A) (i : ℕ) → i < length l → f (get_or l i d) ≤ greatest_of f l
    unfolding greatest_of
    greatest_each l d i h = gathered-each 0 l d i h

    gathered-below : (m b : ℕ) (l : List A) (d : A) → m ≤ b → ((i : ℕ) → i < length l → f (get_or l i d) ≤ b) → gathered max f m l ≤ b
    unfolding gathered
    gathered-below m b [] d h each = h
    gathered-below m b (x ∷ l) d h each = let z = each 0 (omega arith) in gathered-below (max m (f x)) b l d (omega arith) (λ i k. each (suc i) (omega arith))

    pub greatest_below : (b : ℕ) (l : List A) (d : A) → ((i : ℕ) → i < length l → f (get_or l i d) ≤ b) → greatest_of f l ≤ b
    unfolding greatest_of
    greatest_below b l d each = gathered-below 0 b l d (omega arith) each

    le_from : (m : ℕ) (l : List A) → gathered min f m l ≤ m
    unfolding gathered
    le_from m [] = omega arith
    le_from m (x ∷ l) = let h = le_from (min m (f x)) l in omega arith

    each-gathered : (m : ℕ) (l : List A) (d : A) (i : ℕ) → i < length l → gathered min f m l ≤ f (get_or l i d)
    unfolding gathered
    each-gathered m [] d i h = absurd (not-suc-le-zero h)
    each-gathered m (x ∷ l) d zero h = let g = le_from (min m (f x)) l in omega arith
    each-gathered m (x ∷ l) d (suc i) h = each-gathered (min m (f x)) l d i (omega arith)

    pub least_each : (l : List A) (d : A) (i : ℕ) → i < length l → least_of f l ≤ f (get_or l i d)
    unfolding least_of
    least_each [] d i h = absurd (not-suc-le-zero h)
    least_each (x ∷ l) d zero h = le_from (f x) l
    least_each (x ∷ l) d (suc i) h = each-gathered (f x) l d i (omega arith)

    gathered-last : (m b : ℕ) (l : List A) (d : A) → m < b → ((i : ℕ) → i < length l → f (get_or l i d) < b) → gathered (λ p q. q) f m l < b
    unfolding gathered
    gathered-last m b [] d h each = h
    gathered-last m b (x ∷ l) d h each = gathered-last (f x) b l d (each 0 (omega arith)) (λ i k. each (suc i) (omega arith))

    pub last_below : (b : ℕ) (l : List A) (d : A) → 0 < b → ((i : ℕ) → i < length l → f (get_or l i d) < b) → last_of f l < b
    unfolding last_of
    last_below b l d h each = gathered-last 0 b l d h each
