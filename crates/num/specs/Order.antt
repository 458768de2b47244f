-- The lexicographic order of byte lists, in which a proper prefix comes first, and common prefixes.
use Rattle.std.specs.Prelude.{ℕ, suc, Bool, true, false, List, [], ◌∷◌, ◌==◌, nat_lt}
use Rattle.num.specs.Choice.{when◌then◌else◌, both}

unfoldable pub less_than : List ℕ → List ℕ → Bool
less_than xs [] = false
less_than [] (y ∷ ys) = true
less_than (x ∷ xs) (y ∷ ys) = when x == y then less_than xs ys else nat_lt x y

-- how many leading elements two lists share
unfoldable pub common_prefix_len : List ℕ → List ℕ → ℕ
common_prefix_len [] ys = 0
common_prefix_len (x ∷ xs) [] = 0
common_prefix_len (x ∷ xs) (y ∷ ys) = when x == y then suc (common_prefix_len xs ys) else 0

-- are two lists the same, element by element?
unfoldable pub equal_bytes : List ℕ → List ℕ → Bool
equal_bytes [] [] = true
equal_bytes [] (y ∷ ys) = false
equal_bytes (x ∷ xs) [] = false
equal_bytes (x ∷ xs) (y ∷ ys) = both (x == y) (equal_bytes xs ys)
