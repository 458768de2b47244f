-- Products and shifts modulo a power of two.
-- Assumes nothing.
use Rattle.std.proofs.Common.{◌≡◌, ℕ, ◌+◌, ◌-◌, ◌*◌, ◌/◌, ◌%◌, ◌^◌, ◌<◌, sym, ap, ◌∙◌, lt_of_le_of_lt, add-zero, le_of_lt, add_assoc, mul_assoc, mul_comm, add-mul, add_comm, mul-le-mul_left, mul-lt-mul_of_pos_right, div-add-mod', mul-add, mul-div_cancel, mul_left_comm, arith, pow_pos, pow-add, shr_lt}
use mathlib.Core.Path.{subst⁻¹}
use native.Mathlib.Nat.{add_left_comm, mul-add-mod_self_right, add-mod-mod, mul-mod_left}
use lib.Pow.{mod-pow-add}
use lib.Bits.{bit_or, or_shifted}
use Rattle.num.specs.Wrapping.{rotl}

-- a product of two numbers of k bits has at most 2k bits
pub below : (k : ℕ) {a b : ℕ} → a < 2 ^ k → b < 2 ^ k → a * b < 2 ^ (k + k)
below k {a} {b} ha hb =
    subst⁻¹ (λ (n : ℕ). a * b < n) (pow-add 2 k k)
    (lt_of_le_of_lt (mul-le-mul_left a (le_of_lt hb)) (mul-lt-mul_of_pos_right ha (pow_pos k)))

-- a factor may be reduced first
pub mod-mul-mod : (x p m : ℕ) → ((x % m) * p) % m ≡ (x * p) % m
mod-mul-mod x p m =
    sym (mul-add-mod_self_right (x / m * p) m ((x % m) * p))
    ∙ ap (λ (n : ℕ). n % m) (regroup (x / m) (x % m) ∙ ap (λ (n : ℕ). n * p) (div-add-mod' x m))
  where
    regroup : (q r : ℕ) → q * p * m + r * p ≡ (q * m + r) * p
    regroup q r = simp (add-mul, mul_assoc, mul_comm, mul_left_comm)

expand : (p ah al bh bl : ℕ) → (ah * p + al) * (bh * p + bl) ≡ ah * bh * (p * p) + (al * bl + (ah * bl + al * bh) * p)
expand p ah al bh bl = simp (mul-add, add-mul, mul_assoc, mul_comm, mul_left_comm, add_assoc, add_comm, add_left_comm)

-- the product of the low halves and the crossed products, shifted, are the product modulo p * p
pub halves : (p a b : ℕ) → (((a % p) * (b % p)) + ((((a / p) * (b % p)) + ((a % p) * (b / p))) % (p * p) * p) % (p * p)) % (p * p) ≡ (a * b) % (p * p)
halves p a b =
    ap (λ (n : ℕ). (((a % p) * (b % p)) + n) % (p * p)) (mod-mul-mod _ p (p * p))
    ∙ add-mod-mod ((a % p) * (b % p)) _ (p * p)
    ∙ sym (mul-add-mod_self_right ((a / p) * (b / p)) (p * p) _)
    ∙ ap (λ (n : ℕ). n % (p * p)) (sym (expand p (a / p) (a % p) (b / p) (b % p)) ∙ (λ i. div-add-mod' a p i * div-add-mod' b p i))

-- a shift that drops the high bits
pub shl_mod : (x j k : ℕ) → (x * 2 ^ k) % 2 ^ (j + k) ≡ (x % 2 ^ j) * 2 ^ k
shl_mod x j k =
    mod-pow-add (x * 2 ^ k) j k
    ∙ (λ i. (mul-div_cancel x {n = 2 ^ k} (pow_pos k) i % 2 ^ j) * 2 ^ k + mul-mod_left x (2 ^ k) i)
    ∙ add-zero _

-- the two shifts of a rotation do not overlap
pub rotated : (x k : ℕ) → x < 2 ^ 64 → k < 64 → bit_or ((x * 2 ^ k) % 2 ^ 64) (x / 2 ^ (64 - k)) ≡ rotl x k
rotated x k h q =
    let n : 64 - k + k ≡ 64 = omega arith in
    let m : k + (64 - k) ≡ 64 = omega arith in
    let high : (x * 2 ^ k) % 2 ^ 64 ≡ (x % 2 ^ (64 - k)) * 2 ^ k = ap (λ (j : ℕ). (x * 2 ^ k) % 2 ^ j) (sym n) ∙ shl_mod x (64 - k) k in
    let low : x / 2 ^ (64 - k) < 2 ^ k = shr_lt k (64 - k) (subst⁻¹ (λ (j : ℕ). x < 2 ^ j) m h) in
    ap (λ (y : ℕ). bit_or y (x / 2 ^ (64 - k))) high
    ∙ or_shifted (x % 2 ^ (64 - k)) k (x / 2 ^ (64 - k)) low
    ∙ ap (λ (y : ℕ). y + x / 2 ^ (64 - k)) (sym high)
