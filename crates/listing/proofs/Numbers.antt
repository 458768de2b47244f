-- The numbers of a file, stored one by one.
-- Assumes nothing.
use mathlib.Core.Path.{◌≡◌, refl, sym, ap, ◌∙◌}
use mathlib.Core.List.{List}
use Prim.Native.Nat.{ℕ, zero, suc, ◌+◌, ◌*◌, ◌-◌, ◌/◌, ◌<◌, ◌≤◌}
use native.Mathlib.Omega.{arith}
use lib.ListN.{length, set, take}
use lib.Seq.{sets}
use Rattle.num.specs.Number.{le_at}
use Rattle.num.proofs.Lists.{part_sets_same}
use Rattle.listing.specs.Listing.{numbers_from, numbers_in}

pub numbers_length : (s : List ℕ) (at k : ℕ) → length (numbers_from s at k) ≡ k
unfolding numbers_from
numbers_length s at zero = refl
numbers_length s at (suc k) = ap suc (numbers_length s (at + 8) k)

-- a turn of the loop: what is left to store from there is what was left before
pub numbers_step : (to s : List ℕ) (count i : ℕ) → i < count
    → sets (set to i (le_at s (8 * i) 8)) (i + 1) (numbers_from s (8 * (i + 1)) (count - (i + 1))) ≡ sets to i (numbers_from s (8 * i) (count - i))
unfolding numbers_from
numbers_step to s count i h =
    let n : count - i ≡ suc (count - (i + 1)) = omega arith in
    let m : i + 1 ≡ suc i = omega arith in
    let k : 8 * (i + 1) ≡ 8 * i + 8 = omega arith in
    sym
    (ap (λ (j : ℕ). sets to i (numbers_from s (8 * i) j)) n
    ∙ (λ j. sets (set to i (le_at s (8 * i) 8)) (sym m j) (numbers_from s (sym k j) (count - (i + 1)))))

pub numbers_done : (to s : List ℕ) (count i : ℕ) → count ≤ i → sets to i (numbers_from s (8 * i) (count - i)) ≡ to
unfolding numbers_from
numbers_done to s count i h =
    let n : count - i ≡ 0 = omega arith in
    ap (λ (j : ℕ). sets to i (numbers_from s (8 * i) j)) n

-- the front of what they were stored in
pub numbers_front : (to after s : List ℕ) → length s ≤ 8 * length to → after ≡ sets to 0 (numbers_in s) → take (length s / 8) after ≡ numbers_in s
unfolding numbers_in
numbers_front to after s h e =
    let n : length s / 8 ≡ length (numbers_from s 0 (length s / 8)) = sym (numbers_length s 0 (length s / 8)) in
    (λ j. take (n j) (e j)) ∙ part_sets_same (numbers_from s 0 (length s / 8)) to 0 (omega arith)
