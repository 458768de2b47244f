-- Where the heads of an area's keys stand.
-- Assumes nothing.
use mathlib.Core.Path.{◌≡◌, refl, ap}
use mathlib.Core.List.{List}
use Prim.Native.Nat.{ℕ, zero, suc, ◌+◌, ◌-◌, ◌<◌, ◌≤◌}
use native.Mathlib.Nat.{not-suc-le-zero}
use native.Mathlib.Omega.{arith}
use Rattle.area.specs.Area.{first_version_at, next_head, keys_end}

-- one key more stands behind the others
pub keys_next : (n : ℕ) (area : List ℕ) (head : ℕ) → keys_end (suc n) area head ≡ next_head area (keys_end n area head)
unfolding keys_end
keys_next zero area head = refl
keys_next (suc n) area head = keys_next n area (next_head area head)

-- a walk over keys does not go back
pub keys_from : (n : ℕ) (area : List ℕ) (head : ℕ) → head ≤ keys_end n area head
unfolding keys_end next_head first_version_at
keys_from zero area head = omega arith
keys_from (suc n) area head = omega (arith, keys_from n area (next_head area head))

pub keys_rise : (i n : ℕ) (area : List ℕ) (head : ℕ) → i ≤ n → keys_end i area head ≤ keys_end n area head
unfolding keys_end
keys_rise zero n area head h = keys_from n area head
keys_rise (suc i) zero area head h = absurd (not-suc-le-zero h)
keys_rise (suc i) (suc n) area head h = keys_rise i n area (next_head area head) (omega arith)

-- the first of some keys, and the others, lie below what is behind all
pub keys_first : (n : ℕ) (area : List ℕ) (head : ℕ) → 0 < n → next_head area head ≤ keys_end n area head
unfolding keys_end
keys_first zero area head h = absurd (not-suc-le-zero h)
keys_first (suc n) area head h = keys_from n area (next_head area head)

pub first_inside : (n : ℕ) (area : List ℕ) (head : ℕ) → 0 < n → first_version_at area head ≤ keys_end n area head
unfolding next_head
first_inside n area head h = omega (arith, keys_first n area head h)

pub keys_others : (n : ℕ) (area : List ℕ) (head : ℕ) → 0 < n → keys_end (n - 1) area (next_head area head) ≡ keys_end n area head
unfolding keys_end
keys_others zero area head h = absurd (not-suc-le-zero h)
keys_others (suc n) area head h =
    let e : suc n - 1 ≡ n = omega arith in
    ap (λ (k : ℕ). keys_end k area (next_head area head)) e

-- a key takes a byte at least
pub keys_long : (n : ℕ) (area : List ℕ) (head : ℕ) → head + n ≤ keys_end n area head
unfolding keys_end next_head first_version_at
keys_long zero area head = omega arith
keys_long (suc n) area head = omega (arith, keys_long n area (next_head area head))
