-- Not on the reading path: what the contracts of private functions speak of.
use Rattle.std.specs.Prelude.{ℕ, ◌+◌, ◌*◌, ◌<◌, ◌≤◌, List, [], length, get_or, Result, Ok, Err}
use Rattle.refusal.specs.declared.Refusal.{Refusal}
use Rattle.block.specs.Verify.{meta_of, SoundBlock}
use Rattle.opening.specs.Open.{block_bytes}
use Rattle.blocks.specs.declared.BlockRecord.{BlockRecord}
use Rattle.num.specs.Choice.{when◌then◌else◌, both, either}
use Rattle.blocks.specs.Blocks.{record_value, pair_record, record_for, fill_of, filled_read}

-- an answer without what it gives
unfoldable pub verdict_of : {A : Type 0} → Result A Refusal → Result (Unit {0}) Refusal
verdict_of (Ok a) = Ok tt
verdict_of (Err n) = Err n

-- offset and length of a pair
unfoldable pub offset_at : List ℕ → ℕ → ℕ
offset_at blocks i = get_or blocks (2 * i) 0

unfoldable pub len_at : List ℕ → ℕ → ℕ
len_at blocks i = get_or blocks (2 * i + 1) 0

-- the bytes of a pair's block, and its record
unfoldable pub bytes_at : List ℕ → List ℕ → ℕ → List ℕ
bytes_at «data» blocks i = block_bytes «data» (offset_at blocks i) (len_at blocks i)

unfoldable pub record_at : List ℕ → List ℕ → ℕ → BlockRecord
record_at «data» blocks i = record_value (offset_at blocks i) (len_at blocks i) (meta_of (bytes_at «data» blocks i))

-- a pair whose block lies in the data and is sound
pub record Passed («data» blocks : List ℕ) (i : ℕ) : Type 0 where
  pub listed : 2 * i + 1 < length blocks
  pub inside : offset_at blocks i + len_at blocks i ≤ length «data»
  pub sound : SoundBlock (bytes_at «data» blocks i) (meta_of (bytes_at «data» blocks i))

-- the records that filling writes
unfoldable pub written_of : Result (List BlockRecord) Refusal → List BlockRecord
written_of (Ok rs) = rs
written_of (Err n) = []

-- for proofs alone: what they open together
unfoldable pub pair_defs : ℕ
unfolding pair_record record_for verdict_of when◌then◌else◌ both either
pair_defs = 0

unfoldable pub fill_defs : ℕ
unfolding fill_of filled_read when◌then◌else◌ both either
fill_defs = 0
