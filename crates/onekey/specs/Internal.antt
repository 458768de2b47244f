-- Not on the reading path: what the contract of `put_key` speaks of.
use Rattle.std.specs.Prelude.{◌≡◌, List, ℕ, Option, Some, None, Result, Ok}
use Rattle.refusal.specs.declared.Refusal.{Refusal}
use Rattle.spans.specs.Span.{Pair, pairs_written, spanned_read}

-- either the answer of the key is given, so many pairs, and written, or nothing is
unfoldable pub KeyPut : Option ℕ → Result (List Pair) Refusal → List ℕ → List ℕ → Type 0
KeyPut (Some n) a before after = (Ok n ≡ spanned_read a) × (after ≡ pairs_written a before)
KeyPut None a before after = after ≡ before
