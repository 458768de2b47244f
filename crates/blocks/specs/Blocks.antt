-- A lent list of block records: filling asks 11 and 12 of all pairs, then 41; finding goes by offset
-- (document 01, "a lent list of block records").
use Rattle.std.specs.Prelude.{ℕ, ◌+◌, ◌%◌, List, [], ◌∷◌, ◌++◌, eqb, leb, length, drop, Result, Ok, Err, Option, Some, None, position, ◌==◌}
use Rattle.refusal.specs.Refusal.{answer_left}
use Rattle.refusal.specs.declared.Refusal.{Refusal}
use Rattle.refusal.specs.declared.Refusal.TheVariants as refusal
use Rattle.num.specs.Choice.{ask◌otherwise◌then◌}
use Rattle.block.specs.declared.BlockMeta.{BlockMeta}
use Rattle.block.specs.Verify.{verify_of}
use Rattle.opening.specs.Open.{block_bytes, pair_fits}
use Rattle.blocks.specs.declared.BlockRecord.{BlockRecord}

-- ---- filling

-- the record of a block: its pair, and the three numbers of `BlockMeta`
unfoldable pub record_value : ℕ → ℕ → BlockMeta → BlockRecord
record_value offset len m =
    record {
      offset = offset;
      len = len;
      entries_end = m.entries_end;
      restart_start = m.restart_start;
      num_restarts = m.num_restarts;
    }

-- the record of a block that passes question 12
unfoldable pub record_for : ℕ → ℕ → Result BlockMeta Refusal → Result BlockRecord Refusal
record_for offset len (Ok m) = Ok (record_value offset len m)
record_for offset len (Err n) = Err n

-- questions 11 and 12 of one pair behind a place of the data: the block's record, or the first "no"
unfoldable pub pair_record : List ℕ → ℕ → ℕ → ℕ → Result BlockRecord Refusal
pair_record «data» at offset len =
    ask pair_fits (length «data») at offset len otherwise Err refusal.BlockList then  -- 11
    record_for offset len (verify_of (block_bytes «data» offset len))

-- a record in front of others
unfoldable pub with_record : BlockRecord → Result (List BlockRecord) Refusal → Result (List BlockRecord) Refusal
with_record r (Ok rs) = Ok (r ∷ rs)
with_record r (Err n) = Err n

-- questions 11 and 12 of the pairs in list order, behind a place of the data; the list is even (asked before)
unfoldable pub records_from : List ℕ → List ℕ → ℕ → Result (List BlockRecord) Refusal
records_from «data» [] at = Ok []
records_from «data» (offset ∷ []) at = Err refusal.BlockList  -- 11
records_from «data» (offset ∷ len ∷ pairs) at =
    elim (pair_record «data» at offset len) [
      | Ok r ↦ with_record r (records_from «data» pairs (offset + len))
      | Err n ↦ Err n
    ]

-- question 41: one place per pair?
unfoldable pub placed_for : ℕ → Result (List BlockRecord) Refusal → Result (List BlockRecord) Refusal
placed_for places (Ok rs) =
    ask leb (length rs) places otherwise Err refusal.BlocksRoom then  -- 41
    Ok rs
placed_for places (Err n) = Err n

-- filling a number of places: the records in pair order, or the first "no"
unfoldable pub fill_of : List ℕ → List ℕ → ℕ → Result (List BlockRecord) Refusal
fill_of «data» blocks places =
    ask eqb (length blocks % 2) 0 otherwise Err refusal.BlockList then  -- 11
    placed_for places (records_from «data» blocks 0)

-- what filling answers: how many records it wrote, or the first "no"
unfoldable pub filled_read : Result (List BlockRecord) Refusal → Result ℕ Refusal
filled_read (Ok rs) = Ok (length rs)
filled_read (Err n) = Err n

-- the count afterwards, for a caller that is given a number: how many records were written, or what stood there
abbrev pub filled_count : Result ℕ Refusal → ℕ → ℕ
filled_count = answer_left

-- the places afterwards: the records, then what stood behind them; on a refusal all that stood there
unfoldable pub filled_places : Result (List BlockRecord) Refusal → List BlockRecord → List BlockRecord
filled_places (Ok rs) before = rs ++ drop (length rs) before
filled_places (Err n) before = before

-- ---- finding

-- the lowest place with that offset in the part lent
abbrev pub find_of : List BlockRecord → ℕ → Option ℕ
find_of rs offset = position (λ r. r.offset == offset) rs

-- the place as a number, for a list of a length: the length itself for none
abbrev pub found_place : ℕ → Option ℕ → ℕ
found_place size (Some i) = i
found_place size None = size

-- what is read behind the end of a list of records
unfoldable pub no_record : BlockRecord
no_record = record { offset = 0; len = 0; entries_end = 0; restart_start = 0; num_restarts = 0 }
