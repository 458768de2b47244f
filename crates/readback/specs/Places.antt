-- Where the keys of an area stand that reads back: one behind the other from its start.
use Rattle.std.specs.Prelude.{ℕ, zero, suc, ◌+◌, ◌*◌, ◌≤◌, ◌<◌, ◌≡◌, true, List, [], ◌∷◌}
use Rattle.num.specs.Choice.{one_of}
use Rattle.area.specs.Area.{area_version_len, area_versions, first_version_at, next_head, area_kind}

-- of the key whose head stands at a place: the place of a version
unfoldable pub area_version_at : List ℕ → ℕ → ℕ → ℕ
area_version_at area head j = first_version_at area head + area_version_len * j

-- the place of the head of a key
unfoldable pub head_at_of : List ℕ → ℕ → ℕ
head_at_of area zero = 0
head_at_of area (suc i) = next_head area (head_at_of area i)

-- a key stands before an end: it has a version, and each is of a known kind
pub record AreaKeyStands (area : List ℕ) (end head : ℕ) : Type 0 where
  pub inside : next_head area head ≤ end
  pub some_version : 0 < area_versions area head
  pub kinds : (j : ℕ) → j < area_versions area head → one_of (1 ∷ 2 ∷ []) (area_kind area (area_version_at area head j)) ≡ true

-- so many keys stand up to an end
pub record AreaStands (area : List ℕ) (end n : ℕ) : Type 0 where
  pub each : (i : ℕ) → i < n → AreaKeyStands area end (head_at_of area i)
  pub to_the_end : head_at_of area n ≡ end
