-- Not on the reading path: what writing the versions of a key asks of the builder's area.
use Rattle.std.specs.Prelude.{List, ℕ, ◌+◌, ◌*◌, ◌<◌, ◌≤◌, length}
use Rattle.num.specs.Number.{le_at}
use Rattle.area.specs.Area.{area_version_len}

-- so many versions from a place on lie in the area, and none has a sequence below the least
pub record VersionsStand (area : List ℕ) (first count least : ℕ) : Type 0 where
  pub inside : first + area_version_len * count ≤ length area
  pub least_first : (j : ℕ) → j < count → least ≤ le_at area (first + area_version_len * j) 8
