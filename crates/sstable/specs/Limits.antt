-- The longest key and the longest value (questions 14 and 30).
use Rattle.std.specs.Prelude.{ℕ, Bool, leb}
use Rattle.num.specs.Choice.{both}

unfoldable pub max_key_bytes : ℕ
max_key_bytes = 1048576

unfoldable pub max_value_bytes : ℕ
max_value_bytes = 16777216

-- are a key and a value of these lengths within the limits?
unfoldable pub within_limits : ℕ → ℕ → Bool
within_limits keyLength valueLength = both (leb keyLength max_key_bytes) (leb valueLength max_value_bytes)

-- for proofs alone: `unfolding limit_defs` opens the definitions of this file
unfoldable pub limit_defs : ℕ
unfolding max_key_bytes max_value_bytes within_limits
limit_defs = 0
