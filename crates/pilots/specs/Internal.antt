-- Not on the reading path: what the contracts of private functions speak of.
use Rattle.std.specs.Prelude.{◌≡◌, true, false, List, ℕ, ◌<◌, ◌≤◌, ◌^◌, Option, Some, None, length, get_or, take}
use Rattle.construction.specs.Construct.{placeable, positions_of, pilot_limit}

-- the members of a bucket, the slots of all keys, and room for the search
pub record Fits (hs members slots candidates indices : List ℕ) : Type 0 where
  pub some_key : 1 ≤ length hs
  pub few : length hs ≤ 2 ^ 20
  pub size : length members ≤ length hs
  pub keys : (j : ℕ) → j < length members → get_or members j 0 < length hs
  pub slots_length : length slots ≡ length hs
  pub candidates_room : length hs ≤ length candidates
  pub indices_room : length hs ≤ length indices

-- the candidates of so many members or fewer have no index
abbrev pub few : ℕ
few = 8

-- each candidate has its index
pub record Indexed (candidates indices : List ℕ) : Type 0 where
  pub index : (i : ℕ) → i < length candidates → get_or indices (get_or candidates i 0) 0 ≡ i

-- the least pilot under which the members' slots are free and different, and these slots as the first candidates
pub record Found (hs slots members : List ℕ) (pilot : ℕ) (candidates : List ℕ) : Type 0 where
  pub bounded : pilot < pilot_limit
  pub serving : placeable slots (positions_of hs members pilot) ≡ true
  pub lower : (p : ℕ) → p < pilot → placeable slots (positions_of hs members p) ≡ false
  pub chosen : take (length members) candidates ≡ positions_of hs members pilot

-- what the search leaves
abbrev pub Searched : List ℕ → List ℕ → List ℕ → Option ℕ → List ℕ → Type 0
Searched hs slots members (Some pilot) candidates = Found hs slots members pilot candidates
Searched hs slots members None candidates = (p : ℕ) → p < pilot_limit → placeable slots (positions_of hs members p) ≡ false
