-- Not on the reading path: what the contracts of private functions speak of.
use Rattle.std.specs.Prelude.{◌≡◌, true, List, ℕ, ◌<◌, length}
use Rattle.construction.specs.Construct.{is_free, least_free}

-- a slot is free: the least one is
pub record HasFree (slots : List ℕ) : Type 0 where
  pub inside : least_free slots < length slots
  pub free : is_free slots (least_free slots) ≡ true
