-- What construction asks of the builder's area.
use Rattle.std.specs.Prelude.{ℕ, ◌≤◌, List, length}
use Rattle.area.specs.Area.{keys_end}

-- the first n keys lie in the area, each with its head and its versions
pub record KeysStand (area : List ℕ) (n : ℕ) : Type 0 where
  pub inside : keys_end n area 0 ≤ length area
