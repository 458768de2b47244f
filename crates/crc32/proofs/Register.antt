-- The register: one division step per bit on a number of 32 bits, the coefficient of x^31 as the lowest.
-- Its steps are linear, so a register takes whole bytes and words at once.
-- Assumes nothing.
use mathlib.Core.Path.{◌≡◌, refl, sym, ap, ap₂, ◌∙◌}
use mathlib.Core.List.{List, [], ◌∷◌, ◌++◌}
use Prim.Native.Nat.{ℕ, zero, suc, ◌+◌, ◌*◌, ◌/◌, ◌%◌, ◌<◌, ◌^◌}
use native.Mathlib.Nat.{mod-lt, zero-add, suc-add}
use native.Mathlib.Omega.{arith}
use lib.Dec.{lit<, eqb}
use lib.Pow.{pow_pos, split}
use lib.Bits.{bit_xor, xor_assoc, xor_shr, xor_mod, xor_shifted, xor_comm, xor_zero_r, shifted_half, shifted_even}
use Rattle.num.specs.Choice.{when◌then◌else◌}
use Rattle.num.specs.Number.{le_bytes}
use Rattle.num.proofs.Number.{pow_step}

-- the generator without x^32, the coefficient of x^31 as the lowest bit
abbrev pub poly : ℕ
poly = 0xEDB88320

unfoldable pub bit_step : ℕ → ℕ
bit_step c = when◌then◌else◌ (eqb (c % 2) 1) (bit_xor poly (c / 2)) (c / 2)

unfoldable pub steps : ℕ → ℕ → ℕ
steps zero c = c
steps (suc n) c = steps n (bit_step c)

unfoldable pub byte_step : ℕ → ℕ → ℕ
byte_step c b = steps 8 (bit_xor c b)

unfoldable pub register : ℕ → List ℕ → ℕ
register c [] = c
register c (b ∷ bs) = register (byte_step c b) bs

-- what a step adds to the shifted register
extra : ℕ → ℕ
extra x = when◌then◌else◌ (eqb x 1) poly 0

step_as : (c : ℕ) → bit_step c ≡ bit_xor (extra (c % 2)) (c / 2)
unfolding bit_step extra when◌then◌else◌
step_as c = by_bit (c % 2) (mod-lt c (lit< tt))
  where
    by_bit : (x : ℕ) → x < 2 → when◌then◌else◌ (eqb x 1) (bit_xor poly (c / 2)) (c / 2) ≡ bit_xor (when◌then◌else◌ (eqb x 1) poly 0) (c / 2)
    by_bit zero h = refl
    by_bit (suc zero) h = refl
    by_bit (suc (suc x)) h = absurd (omega arith)

extra_linear : (x y : ℕ) → x < 2 → y < 2 → extra (bit_xor x y) ≡ bit_xor (extra x) (extra y)
unfolding extra when◌then◌else◌
extra_linear zero zero h k = refl
extra_linear zero (suc zero) h k = refl
extra_linear (suc zero) zero h k = refl
extra_linear (suc zero) (suc zero) h k = refl
extra_linear zero (suc (suc y)) h k = absurd (omega arith)
extra_linear (suc zero) (suc (suc y)) h k = absurd (omega arith)
extra_linear (suc (suc x)) y h k = absurd (omega arith)

-- four numbers, paired anew
xor_swap : (p q x y : ℕ) → bit_xor (bit_xor p q) (bit_xor x y) ≡ bit_xor (bit_xor p x) (bit_xor q y)
xor_swap p q x y =
    xor_assoc p q (bit_xor x y)
    ∙ ap (bit_xor p) (sym (xor_assoc q x y) ∙ ap (λ (n : ℕ). bit_xor n y) (xor_comm q x) ∙ xor_assoc x q y)
    ∙ sym (xor_assoc p x (bit_xor q y))

pub step_linear : (a b : ℕ) → bit_step (bit_xor a b) ≡ bit_xor (bit_step a) (bit_step b)
step_linear a b =
    step_as (bit_xor a b)
    ∙ ap₂ bit_xor (ap extra (xor_mod a b 1) ∙ extra_linear (a % 2) (b % 2) (mod-lt a (lit< tt)) (mod-lt b (lit< tt))) (xor_shr a b 1)
    ∙ xor_swap (extra (a % 2)) (extra (b % 2)) (a / 2) (b / 2)
    ∙ ap₂ bit_xor (sym (step_as a)) (sym (step_as b))

pub steps_linear : (n a b : ℕ) → steps n (bit_xor a b) ≡ bit_xor (steps n a) (steps n b)
unfolding steps
steps_linear zero a b = refl
steps_linear (suc n) a b = ap (steps n) (step_linear a b) ∙ steps_linear n (bit_step a) (bit_step b)

extra_none : (x : ℕ) → bit_xor (extra 0) x ≡ x
unfolding extra when◌then◌else◌
extra_none x = refl

-- a step of an even register is a shift
pub step_even : (h n : ℕ) → bit_step (h * 2 ^ suc n) ≡ h * 2 ^ n
step_even h n =
    step_as (h * 2 ^ suc n) ∙ ap₂ (λ (x y : ℕ). bit_xor (extra x) y) (shifted_even h n) (shifted_half h n) ∙ extra_none (h * 2 ^ n)

-- the bits above those that are stepped through only move down
pub steps_high : (n h : ℕ) → steps n (h * 2 ^ n) ≡ h
unfolding steps
steps_high zero h = omega arith
steps_high (suc n) h = ap (steps n) (step_even h n) ∙ steps_high n h

pub steps_add : (m n c : ℕ) → steps (m + n) c ≡ steps n (steps m c)
unfolding steps
steps_add zero n c = ap (λ (k : ℕ). steps k c) (zero-add n)
steps_add (suc m) n c = ap (λ (k : ℕ). steps k c) (suc-add m n) ∙ steps_add m n (bit_step c)

-- a number by its k low bits and the rest
pub low_high : (k : ℕ) (v : ℕ) → bit_xor (v % 2 ^ k) (v / 2 ^ k * 2 ^ k) ≡ v
low_high k v =
    xor_comm (v % 2 ^ k) (v / 2 ^ k * 2 ^ k)
    ∙ xor_shifted (v / 2 ^ k) k (v % 2 ^ k) (mod-lt v (pow_pos k))
    ∙ split v k

-- the low byte steps; what stands above it moves down beside it
pub steps_byte : (n c v : ℕ) → steps (8 + n) (bit_xor c v) ≡ steps n (bit_xor (steps 8 (bit_xor c (v % 256))) (v / 256))
steps_byte n c v =
    steps_add 8 n (bit_xor c v)
    ∙ ap (steps n)
    (ap (steps 8) (ap (bit_xor c) (sym (low_high 8 v)) ∙ sym (xor_assoc c (v % 256) (v / 256 * 2 ^ 8)))
    ∙ steps_linear 8 (bit_xor c (v % 256)) (v / 256 * 2 ^ 8)
    ∙ ap (bit_xor (steps 8 (bit_xor c (v % 256)))) (steps_high 8 (v / 256)))

pub steps_none : (c : ℕ) → steps 0 c ≡ c
unfolding steps
steps_none c = refl

-- a word's bytes, one after the other, are stepped through as a whole
pub register_word : (w v c : ℕ) → v < 2 ^ (8 * w) → register c (le_bytes w v) ≡ steps (8 * w) (bit_xor c v)
unfolding register le_bytes byte_step
register_word zero v c h =
    let z : v ≡ 0 = omega arith in
    sym (ap (λ (x : ℕ). steps (8 * 0) (bit_xor c x)) z ∙ steps_none (bit_xor c 0) ∙ xor_zero_r c)
register_word (suc w) v c h =
    let h' : v < 256 * 2 ^ (8 * w) = rw pow_step at h in
    let n : 8 + 8 * w ≡ 8 * suc w = omega arith in
    register_word w (v / 256) (byte_step c (v % 256)) (omega arith)
    ∙ sym (steps_byte (8 * w) c v)
    ∙ ap (λ (k : ℕ). steps k (bit_xor c v)) n

pub register_append : (xs ys : List ℕ) (c : ℕ) → register c (xs ++ ys) ≡ register (register c xs) ys
unfolding register
register_append [] ys c = refl
register_append (x ∷ xs) ys c = register_append xs ys (byte_step c x)
