-- Products and rotations of numbers of 64 bits.
use Rattle.std.specs.Prelude.{ℕ, ◌+◌, ◌-◌, ◌*◌, ◌/◌, ◌%◌, ◌^◌}

abbrev pub mul_mod : ℕ → ℕ → ℕ
mul_mod a b = (a * b) % 2 ^ 64

-- the rotation to the left of x, below 2^64, by k, at most 64
abbrev pub rotl : ℕ → ℕ → ℕ
rotl x k = (x * 2 ^ k) % 2 ^ 64 + x / 2 ^ (64 - k)
