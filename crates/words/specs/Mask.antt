-- The greatest number of a width: all its bits are set.
use Rattle.std.specs.Prelude.{ℕ, ◌*◌, ◌-◌, ◌^◌}

unfoldable pub mask_of : ℕ → ℕ
mask_of width = 2 ^ (8 * width) - 1
