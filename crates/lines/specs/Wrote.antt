-- Not on the reading path: what each writer of a part of a line leaves.
use Rattle.std.specs.Prelude.{ℕ, ◌+◌, ◌≤◌, ◌≡◌, List, length}
use Rattle.std.proofs.lemmas.List.Edits.{sets}

-- these bytes stand at a place of what was lent, and nothing else was written; the answer is the place behind them
pub record Wrote (before after : List ℕ) (at : ℕ) (bytes : List ℕ) (end : ℕ) : Type 0 where
  pub stored : after ≡ sets before at bytes
  pub behind : end ≡ at + length bytes
  pub kept : length after ≡ length before
  pub inside : end ≤ length after
