-- A number's low bytes are what a mask leaves of it.
-- Assumes nothing.
use mathlib.Core.Path.{◌≡◌, refl, ap, ◌∙◌}
use mathlib.Core.Bool.{true}
use mathlib.Core.List.{List}
use Prim.Native.Nat.{ℕ, ◌+◌, ◌*◌, ◌-◌, ◌/◌, ◌%◌, ◌^◌, ◌<◌, ◌≤◌}
use native.Mathlib.Nat.{add_comm, mul_comm}
use native.Mathlib.Omega.{arith}
use lib.Arith.{digits_mod}
use lib.Bits.{bit_and, and_mask}
use Rattle.num.specs.Number.{Bytes, le_at, is_width}
use Rattle.num.proofs.Choice.{one_of-case}
use Rattle.num.proofs.Number.{le_at-lt, le_at-split}
use Rattle.words.specs.Mask.{mask_of}

-- all of 64 bits, without those above the width
pub mask_shifted : (w : ℕ) → is_width w ≡ true → (2 ^ 64 - 1) / 2 ^ (64 - 8 * w) ≡ mask_of w
unfolding is_width mask_of
mask_shifted w e = one_of-case (λ n. (2 ^ 64 - 1) / 2 ^ (64 - 8 * n) ≡ 2 ^ (8 * n) - 1) _ _ e (refl, (refl, (refl, (refl, tt))))

pub width_some : (w : ℕ) → is_width w ≡ true → 0 < w
unfolding is_width
width_some w e = one_of-case (λ n. 0 < n) _ _ e (omega arith, (omega arith, (omega arith, (omega arith, tt))))

pub width_le : (w : ℕ) → is_width w ≡ true → w ≤ 8
unfolding is_width
width_le w e = one_of-case (λ n. n ≤ 8) _ _ e (omega arith, (omega arith, (omega arith, (omega arith, tt))))

low_bytes : (s : List ℕ) → Bytes s → (w at : ℕ) → is_width w ≡ true → le_at s at 8 % 2 ^ (8 * w) ≡ le_at s at w
unfolding is_width
low_bytes s b w at e =
    one_of-case (λ n. le_at s at 8 % 2 ^ (8 * n) ≡ le_at s at n) _ _ e
    (part 1 7, (part 2 6, (part 4 4, (part 8 0, tt))))
  where
    turned : (a p x : ℕ) → a + p * x ≡ x * p + a
    turned a p x = ap (λ (k : ℕ). a + k) (mul_comm p x) ∙ add_comm a (x * p)

    part : (n m : ℕ) → le_at s at (n + m) % 2 ^ (8 * n) ≡ le_at s at n
    part n m =
        ap (λ (k : ℕ). k % 2 ^ (8 * n)) (le_at-split s m n at ∙ turned (le_at s at n) (2 ^ (8 * n)) (le_at s (at + n) m))
        ∙ digits_mod (le_at s (at + n) m) (le_at-lt s b n at)

pub masked_low : (s : List ℕ) → Bytes s → (w at : ℕ) → is_width w ≡ true → {m : ℕ} → m ≡ mask_of w → bit_and (le_at s at 8) m ≡ le_at s at w
unfolding mask_of
masked_low s b w at e m = ap (bit_and (le_at s at 8)) m ∙ and_mask (le_at s at 8) (8 * w) ∙ low_bytes s b w at e
