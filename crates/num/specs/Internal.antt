-- Not on the reading path: what a region of a slice holds, and what a writer leaves alone. Contracts of functions that keep several lists in one
-- lent slice speak of these.
use Rattle.std.specs.Prelude.{◌≡◌, ℕ, ◌+◌, ◌<◌, ◌≤◌, List, length, drop, slice_index}
use Rattle.num.specs.Choice.{choice_defs}
use Rattle.num.specs.Number.{is_width}
use Rattle.num.specs.Order.{equal_bytes}

-- the places lo to hi of the region at `at` hold the values of f
pub record RegionHolds (s : List ℕ) (at lo hi : ℕ) (f : ℕ → ℕ) : Type 0 where
  pub value : (k : ℕ) → lo ≤ k → k < hi → slice_index s (at + k) ≡ f k

-- the length is kept, and only the first m places were written
pub record Frame (m : ℕ) (s₀ s : List ℕ) : Type 0 where
  pub size : length s ≡ length s₀
  pub behind : drop m s ≡ drop m s₀

-- for proofs alone: `unfolding few_defs` opens what the comparison of few bytes asks
unfoldable pub few_defs : ℕ
unfolding is_width choice_defs equal_bytes
few_defs = 0
