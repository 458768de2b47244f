-- Sums and long division of polynomials modulo 2.
-- Assumes nothing.
use mathlib.Core.Path.{◌≡◌, refl, sym, ap, ap₂, ◌∙◌}
use mathlib.Core.List.{List, [], ◌∷◌, ◌++◌, append_assoc, append-nil}
use mathlib.Core.Bool.{Bool, true, false}
use Prim.Native.Nat.{ℕ, zero, suc, ◌+◌, ◌-◌, ◌≤◌}
use native.Mathlib.Nat.{suc_inj, le_of_suc-le-suc, not-suc-le-zero}
use native.Mathlib.Omega.{arith}
use lib.ListN.{length, drop, replicate, length-append, length-replicate}
use Rattle.num.specs.Choice.{when◌then◌else◌, choice_defs}
use Rattle.crc32.specs.V42.{sum, add, times_power, polynomial, generator, division_steps, remainder, sum_of_remainders}

sum_assoc : (a b c : Bool) → sum (sum a b) c ≡ sum a (sum b c)
unfolding sum
sum_assoc true true true = refl
sum_assoc true true false = refl
sum_assoc true false c = refl
sum_assoc false b c = refl

sum_comm : (a b : Bool) → sum a b ≡ sum b a
unfolding sum
sum_comm true true = refl
sum_comm true false = refl
sum_comm false true = refl
sum_comm false false = refl

sum_swap : (a b c : Bool) → sum (sum a b) c ≡ sum (sum a c) b
sum_swap a b c = sum_assoc a b c ∙ ap (sum a) (sum_comm b c) ∙ sym (sum_assoc a c b)

pub length_add : (p q : List Bool) → length (add p q) ≡ length p
unfolding add
length_add [] q = refl
length_add (a ∷ p) [] = refl
length_add (a ∷ p) (b ∷ q) = ap suc (length_add p q)

add_none : (p : List Bool) → add p [] ≡ p
unfolding add
add_none [] = refl
add_none (a ∷ p) = refl

-- the order of two additions does not matter
add_swap : (p q r : List Bool) → add (add p q) r ≡ add (add p r) q
unfolding add
add_swap [] q r = refl
add_swap (a ∷ p) [] [] = refl
add_swap (a ∷ p) [] (c ∷ r) = refl
add_swap (a ∷ p) (b ∷ q) [] = refl
add_swap (a ∷ p) (b ∷ q) (c ∷ r) = ap₂ ◌∷◌ (sum_swap a b c) (add_swap p q r)

add_assoc : (p q r : List Bool) → length p ≡ length q → add p (add q r) ≡ add (add p q) r
unfolding add
add_assoc [] q r h = refl
add_assoc (a ∷ p) [] r h = absurd (let z : ◌≡◌ {A = ℕ} 0 1 = omega arith in omega arith)
add_assoc (a ∷ p) (b ∷ q) [] h = refl
add_assoc (a ∷ p) (b ∷ q) (c ∷ r) h = ap₂ ◌∷◌ (sym (sum_assoc a b c)) (add_assoc p q r (suc_inj h))

sum_twice : (a b : Bool) → sum (sum a b) b ≡ a
unfolding sum
sum_twice true true = refl
sum_twice true false = refl
sum_twice false true = refl
sum_twice false false = refl

add_twice : (p q : List Bool) → add (add p q) q ≡ p
unfolding add
add_twice [] q = refl
add_twice (a ∷ p) [] = refl
add_twice (a ∷ p) (b ∷ q) = ap₂ ◌∷◌ (sum_twice a b) (add_twice p q)

-- what stands behind the shorter summand stays
add_front : (p q z : List Bool) → length q ≤ length p → add (p ++ z) q ≡ add p q ++ z
unfolding add
add_front p [] z h = add_none (p ++ z) ∙ ap (λ (l : List Bool). l ++ z) (sym (add_none p))
add_front [] (b ∷ q) z h = absurd (not-suc-le-zero h)
add_front (a ∷ p) (b ∷ q) z h = ap (λ (l : List Bool). sum a b ∷ l) (add_front p q z (le_of_suc-le-suc h))

add_zeros : (n : ℕ) (p : List Bool) → add p (replicate n false) ≡ p
unfolding add sum
add_zeros zero p = add_none p
add_zeros (suc n) [] = refl
add_zeros (suc n) (true ∷ p) = ap (λ (l : List Bool). true ∷ l) (add_zeros n p)
add_zeros (suc n) (false ∷ p) = ap (λ (l : List Bool). false ∷ l) (add_zeros n p)

-- the generator without its leading term
unfoldable pub rest : List Bool
unfolding generator polynomial choice_defs
rest = drop 1 generator

pub length_rest : length rest ≡ 32
unfolding rest generator polynomial
length_rest = refl

-- what a step of the division makes of the coefficients behind the leading one
unfoldable pub reduced : Bool → List Bool → List Bool
reduced true p = add p rest
reduced false p = p

step_reduced : (c : Bool) (p : List Bool) → drop 1 (when◌then◌else◌ c (add (c ∷ p) generator) (c ∷ p)) ≡ reduced c p
unfolding reduced rest add when◌then◌else◌ generator polynomial
step_reduced true p = refl
step_reduced false p = refl

pub divide_step : (n : ℕ) (c : Bool) (p : List Bool) → division_steps (suc n) (c ∷ p) ≡ division_steps n (reduced c p)
unfolding division_steps
divide_step n c p = ap (division_steps n) (step_reduced c p)

pub length_reduced : (c : Bool) (p : List Bool) → length (reduced c p) ≡ length p
unfolding reduced
length_reduced true p = length_add p rest
length_reduced false p = refl

reduced_add : (c d : Bool) (p q : List Bool) → length p ≡ length q → add (reduced c p) (reduced d q) ≡ reduced (sum c d) (add p q)
unfolding reduced sum
reduced_add true true p q h = add_swap p rest (add q rest) ∙ ap (λ (l : List Bool). add l rest) (add_assoc p q rest h) ∙ add_twice (add p q) rest
reduced_add true false p q h = add_swap p rest q
reduced_add false true p q h = add_assoc p q rest h
reduced_add false false p q h = refl

-- the division is linear
pub divide_add : (n : ℕ) (p q : List Bool) → length p ≡ length q → add (division_steps n p) (division_steps n q) ≡ division_steps n (add p q)
unfolding division_steps add
divide_add zero p q h = refl
divide_add (suc n) [] q h = refl
divide_add (suc n) (c ∷ p) [] h = absurd (let z : ◌≡◌ {A = ℕ} 0 1 = omega arith in omega arith)
divide_add (suc n) (c ∷ p) (d ∷ q) h =
    ap₂ add (divide_step n c p) (divide_step n d q)
    ∙ divide_add n (reduced c p) (reduced d q) (length_reduced c p ∙ suc_inj h ∙ sym (length_reduced d q))
    ∙ ap (division_steps n) (reduced_add c d p q (suc_inj h))
    ∙ sym (divide_step n (sum c d) (add p q))

length_times_power : (k : ℕ) (p : List Bool) → length (times_power k p) ≡ length p + k
unfolding times_power
length_times_power k p = length-append p (replicate k false) ∙ ap (λ (n : ℕ). length p + n) (length-replicate k false)

pub length_division_steps : (n : ℕ) (p : List Bool) → length (division_steps n p) ≡ length p - n
unfolding division_steps
length_division_steps zero p = omega arith
length_division_steps (suc n) [] = omega arith
length_division_steps (suc n) (c ∷ p) =
    ap length (divide_step n c p) ∙ length_division_steps n (reduced c p) ∙ let e = length_reduced c p in omega arith

-- the two sumOfRemainders are that of the sum of the dividends, for a preset of 32 coefficients
remainders_one : (r m : List Bool) → length r ≡ 32 → sum_of_remainders r m ≡ division_steps (length m) (add (times_power (length m) r) (times_power 32 m))
unfolding sum_of_remainders remainder
remainders_one r m h =
    let a : length (times_power (length m) r) ≡ length m + 32 = omega (arith, length_times_power (length m) r) in
    let b : length (times_power 32 m) ≡ length m + 32 = length_times_power 32 m in
    let n : length m + 32 - 32 ≡ length m = omega arith in
    ap₂ add (ap (λ (k : ℕ). division_steps (k - 32) (times_power (length m) r)) a ∙ ap (λ (k : ℕ). division_steps k (times_power (length m) r)) n)
    (ap (λ (k : ℕ). division_steps (k - 32) (times_power 32 m)) b ∙ ap (λ (k : ℕ). division_steps k (times_power 32 m)) n)
    ∙ divide_add (length m) (times_power (length m) r) (times_power 32 m) (a ∙ sym b)

-- with no content the preset is left
pub remainders_none : (r : List Bool) → length r ≡ 32 → sum_of_remainders r [] ≡ r
unfolding division_steps times_power
remainders_none r h = remainders_one r [] h ∙ add_zeros 32 (r ++ []) ∙ append-nil r

as_times_power : (k : ℕ) (p : List Bool) → p ++ replicate k false ≡ times_power k p
unfolding times_power
as_times_power k p = refl

divide_first : (c : Bool) (t : List Bool) (x : Bool) (m : List Bool)
    → division_steps (length (x ∷ m)) (add (times_power (length (x ∷ m)) (c ∷ t)) (times_power 32 (x ∷ m)))
    ≡ division_steps (length m) (reduced (sum c x) (add (t ++ (false ∷ replicate (length m) false)) (times_power 32 m)))
unfolding times_power add
divide_first c t x m = divide_step (length m) (sum c x) _

reduced_front : (b : Bool) (u z y : List Bool) → length u ≡ 32 → reduced b (add (u ++ z) y) ≡ add (reduced b u ++ z) y
unfolding reduced
reduced_front true u z y h = add_swap (u ++ z) y rest ∙ ap (λ (l : List Bool). add l y) (add_front u rest z (omega (arith, length_rest)))
reduced_front false u z y h = refl

-- a bit of the content: it is added to the leading coefficient of the preset, which decides the step of the division
pub remainders_bit : (c : Bool) (t : List Bool) (x : Bool) (m : List Bool) → length t ≡ 31
    → sum_of_remainders (c ∷ t) (x ∷ m) ≡ sum_of_remainders (reduced (sum c x) (t ++ (false ∷ []))) m
remainders_bit c t x m h =
    remainders_one (c ∷ t) (x ∷ m) (ap suc h)
    ∙ divide_first c t x m
    ∙ ap (division_steps (length m)) (ap (λ (l : List Bool). reduced (sum c x) (add l (times_power 32 m))) (sym (append_assoc t (false ∷ []) (replicate (length m) false)))
    ∙ reduced_front (sum c x) (t ++ (false ∷ [])) (replicate (length m) false) (times_power 32 m) l)
    ∙ ap (λ (l : List Bool). division_steps (length m) (add l (times_power 32 m))) (as_times_power (length m) (reduced (sum c x) (t ++ (false ∷ []))))
    ∙ sym (remainders_one (reduced (sum c x) (t ++ (false ∷ []))) m (length_reduced (sum c x) (t ++ (false ∷ [])) ∙ l))
  where
    l : length (t ++ (false ∷ [])) ≡ 32
    l = length-append t (false ∷ []) ∙ ap (λ (n : ℕ). n + 1) h

pub length_sum_of_remainders : (r m : List Bool) → length r ≡ 32 → length (sum_of_remainders r m) ≡ 32
length_sum_of_remainders r m h =
    ap length (remainders_one r m h)
    ∙ length_division_steps (length m) _
    ∙ omega (arith, length_add (times_power (length m) r) (times_power 32 m), length_times_power (length m) r)
