-- Buckets, positions and slots: where they lie.
-- Assumes nothing.
use mathlib.Core.Path.{◌≡◌, refl, subst⁻¹}
use mathlib.Core.Bool.{Bool, true, false}
use Prim.Native.Nat.{ℕ, ◌<◌}
use native.Mathlib.Nat.{mod-lt}
use Rattle.num.specs.Choice.{when◌then◌else◌}
use Rattle.point.specs.Hash.{bucket_of, position_of, is_direct, direct_slot, slot_of}

-- a bucket is one of `count`
pub bucket_lt : (h count : ℕ) → 0 < count → bucket_of h count < count
unfolding bucket_of
bucket_lt h count p = mod-lt h p

-- a position is one of n
pub position_lt : (h pilot n : ℕ) → 0 < n → position_of h pilot n < n
unfolding position_of
position_lt h pilot n p = mod-lt _ p

-- a pilot with bit 31 names its slot
pub slot_direct : (h pilot n : ℕ) → is_direct pilot ≡ true → slot_of h pilot n ≡ direct_slot pilot
unfolding slot_of when◌then◌else◌
slot_direct h pilot n e = rw e

-- another gives a position
pub slot_position : (h pilot n : ℕ) → is_direct pilot ≡ false → slot_of h pilot n ≡ position_of h pilot n
unfolding slot_of when◌then◌else◌
slot_position h pilot n e = rw e

-- a slot is one of n, if a slot that the pilot names is
pub slot_lt : (h pilot n : ℕ) → 0 < n → (is_direct pilot ≡ true → direct_slot pilot < n) → slot_of h pilot n < n
slot_lt h pilot n p d = go (is_direct pilot) refl
  where
    go : (b : Bool) → is_direct pilot ≡ b → slot_of h pilot n < n
    go true e = subst⁻¹ (λ (k : ℕ). k < n) (slot_direct h pilot n e) (d e)
    go false e = subst⁻¹ (λ (k : ℕ). k < n) (slot_position h pilot n e) (position_lt h pilot n p)
