-- What a test that came out true or false says.
-- Assumes nothing.
use Rattle.std.proofs.Common.{◌≡◌, ℕ, Bool, true, false, eqb, List, [], ◌∷◌, sym, refl, ap, ◌∙◌, arith, eqb-true}
use mathlib.Core.Path.{subst⁻¹}
use Rattle.num.specs.Choice.{when◌then◌else◌, both, either, one_of}

pub false_true : {A : Type 0} → false ≡ true → A
false_true e = absurd (let z : ◌≡◌ {A = ℕ} 0 1 = cc in omega arith)

pub both_true : (a b : Bool) → both a b ≡ true → (a ≡ true) × (b ≡ true)
unfolding both
both_true true b e = (refl, e)
both_true false b e = false_true e

pub true_both : (a b : Bool) → a ≡ true → b ≡ true → both a b ≡ true
unfolding both
true_both a b p q = rw (p, q)

-- what holds of each arm under its test holds of the choice
pub if_case : {A : Type 0} (P : A → Type 0) (t : Bool) (a b : A) → (t ≡ true → P a) → (t ≡ false → P b) → P (when◌then◌else◌ t a b)
unfolding when◌then◌else◌
if_case P true a b p q = p refl
if_case P false a b p q = q refl

-- where neither of two tests holds, both are false
pub either_false : (a b : Bool) → either a b ≡ false → (a ≡ false) × (b ≡ false)
unfolding either
either_false true b e = false_true (sym e)
either_false false b e = (refl, e)

-- it holds of every number of the list
abbrev pub Each : (ℕ → Type 0) → List ℕ → Type 0
Each P [] = Unit {0}
Each P (x ∷ xs) = P x × Each P xs

-- what holds of every number of a list holds of one of them
pub one_of-case : (P : ℕ → Type 0) (xs : List ℕ) (n : ℕ) → one_of xs n ≡ true → Each P xs → P n
unfolding one_of either
one_of-case P [] n e h = false_true e
one_of-case P (x ∷ xs) n e h = go (eqb n x) refl e (λ q. one_of-case P xs n q h.1)
  where
    go : (b : Bool) → eqb n x ≡ b → either b (one_of xs n) ≡ true → (one_of xs n ≡ true → P n) → P n
    go true p q rest = subst⁻¹ P (eqb-true n x p) h.0
    go false p q rest = rest q

-- ---- chains of questions, as code with early returns walks them: each yes goes on, the first no is the answer

pub both_no : (a b : Bool) → a ≡ false → false ≡ both a b
unfolding both
both_no a b e = sym (ap (λ (t : Bool). both t b) e)

pub both_yes : (a b r : Bool) → a ≡ true → r ≡ b → r ≡ both a b
unfolding both
both_yes a b r e p = p ∙ sym (ap (λ (t : Bool). both t b) e)

-- the same with an alternative: the first yes is the answer, each no goes on
pub either_yes : (a b : Bool) → a ≡ true → true ≡ either a b
unfolding either
either_yes a b e = sym (ap (λ (t : Bool). either t b) e)

pub either_no : (a b r : Bool) → a ≡ false → r ≡ b → r ≡ either a b
unfolding either
either_no a b r e p = p ∙ sym (ap (λ (t : Bool). either t b) e)

-- ---- choices and disjunctions that are decided

-- a choice whose second arm is not the result came out at the first
pub if_first : {A : Type 0} (b : Bool) (x y z : A) → (y ≡ z → ⊥) → (when b then x else y) ≡ z → (b ≡ true) × (x ≡ z)
unfolding when◌then◌else◌
if_first true x y z n e = (refl, e)
if_first false x y z n e = absurd (n e)

-- under its test a choice is the first arm
pub if_true : {A : Type 0} (b : Bool) (x y : A) → b ≡ true → (when b then x else y) ≡ x
unfolding when◌then◌else◌
if_true b x y e = ap (λ (t : Bool). when t then x else y) e

-- without it the second
pub if_false : {A : Type 0} (b : Bool) (x y : A) → b ≡ false → (when b then x else y) ≡ y
unfolding when◌then◌else◌
if_false b x y e = ap (λ (t : Bool). when t then x else y) e

-- of two tests one of which holds the second holds if the first does not
pub either_second : (a b : Bool) → either a b ≡ true → a ≡ false → b ≡ true
unfolding either
either_second true b e f = false_true (sym f)
either_second false b e f = e

-- and conversely one of them holds
pub second_either : (a b : Bool) → (a ≡ false → b ≡ true) → either a b ≡ true
unfolding either
second_either true b h = refl
second_either false b h = h refl

-- ---- tests that are true in the same cases

-- a test that cannot be true is false
pub never_true : (a : Bool) → (a ≡ true → ⊥) → a ≡ false
never_true true n = absurd (n refl)
never_true false n = refl

-- two tests that imply each other
pub same_truth : (a b : Bool) → (a ≡ true → b ≡ true) → (b ≡ true → a ≡ true) → a ≡ b
same_truth true b f g = sym (f refl)
same_truth false true f g = g refl
same_truth false false f g = refl
