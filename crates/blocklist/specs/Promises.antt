-- What filling a list of block records promises, and what finding in it does, in plain terms.
use Rattle.std.specs.Prelude.{◌≡◌, List, [], ◌∷◌, true, ◌↔◌, ℕ, ◌+◌, ◌*◌, ◌<◌, ◌≤◌, length, get_or, take, drop, Ok, Err, Some, None}
use Rattle.refusal.specs.declared.Refusal.{Refusal}
use Rattle.refusal.specs.declared.Refusal.TheVariants as refusal
use Rattle.refusal.specs.Refusal.{refusal_number}
use Rattle.num.specs.Choice.{one_of}
use Rattle.block.specs.declared.BlockMeta.{BlockMeta}
use Rattle.block.specs.Verify.{SoundBlock}
use Rattle.opening.specs.Open.{block_bytes}
use Rattle.blocks.specs.declared.BlockRecord.{BlockRecord}
use Rattle.blocks.specs.Blocks.{fill_of, filled_read, filled_places, find_of, no_record}

-- the record at a place
abbrev pub at_place : List BlockRecord → ℕ → BlockRecord
at_place rs i = get_or rs i no_record

-- the three numbers of `BlockMeta` in a record
unfoldable pub meta_in : BlockRecord → BlockMeta
meta_in r = record { entries_end = r.entries_end; restart_start = r.restart_start; num_restarts = r.num_restarts }

-- ---- filling

-- a record is that of pair i: its offset and length, inside the data, and the numbers of its block, which is sound (12)
pub record PairRecord («data» blocks : List ℕ) (i : ℕ) (r : BlockRecord) : Type 0 where
  pub offset_is : r.offset ≡ get_or blocks (2 * i) 0
  pub len_is : r.len ≡ get_or blocks (2 * i + 1) 0
  pub inside : r.offset + r.len ≤ length «data»
  pub sound : SoundBlock (block_bytes «data» r.offset r.len) (meta_in r)

-- the records are those of the pairs, one for each, which follow one another from a place of the data on (11)
pub record PairRecords («data» blocks : List ℕ) (at : ℕ) (rs : List BlockRecord) : Type 0 where
  pub paired : length blocks ≡ 2 * length rs
  pub each : (i : ℕ) → i < length rs → PairRecord «data» blocks i (at_place rs i)
  pub first : 0 < length rs → (at_place rs 0).offset ≡ at
  pub follow : (i : ℕ) → i + 1 < length rs → (at_place rs (i + 1)).offset ≡ (at_place rs i).offset + (at_place rs i).len

-- filling gives exactly the records of the pairs that pass 11 and 12, if there is a place for each (41)
unfoldable pub FillsExactly : Type 0
FillsExactly = («data» blocks : List ℕ) (places : ℕ) (rs : List BlockRecord) → (fill_of «data» blocks places ≡ Ok rs) ↔ (PairRecords «data» blocks 0 rs × (length rs ≤ places))

-- the places behind a fill that wrote n records: each of the first n has its pair's record, each further one what stood there
pub record FilledList («data» blocks : List ℕ) (n : ℕ) (before after : List BlockRecord) : Type 0 where
  pub paired : length blocks ≡ 2 * n
  pub room : n ≤ length before
  pub kept : length after ≡ length before
  pub each : (i : ℕ) → i < n → PairRecord «data» blocks i (at_place after i)
  pub further : (i : ℕ) → n ≤ i → at_place after i ≡ at_place before i

-- a fill that wrote leaves the places so
unfoldable pub FillsPlaces : Type 0
FillsPlaces = («data» blocks : List ℕ) (n : ℕ) (before : List BlockRecord) → filled_read (fill_of «data» blocks (length before)) ≡ Ok n
    → FilledList «data» blocks n before (filled_places (fill_of «data» blocks (length before)) before)

-- a refusal leaves every place as it was
unfoldable pub RefusalLeaves : Type 0
RefusalLeaves = («data» blocks : List ℕ) (n : Refusal) (before : List BlockRecord) → filled_read (fill_of «data» blocks (length before)) ≡ Err n
    → filled_places (fill_of «data» blocks (length before)) before ≡ before

-- 41 is said only of pairs that all pass 11 and 12, and are more than the places
unfoldable pub PlacesAskedLast : Type 0
PlacesAskedLast = («data» blocks : List ℕ) (places : ℕ) → fill_of «data» blocks places ≡ Err refusal.BlocksRoom
    → (rs : List BlockRecord) × PairRecords «data» blocks 0 rs × (places < length rs)

-- another refusal is the same for any number of places
unfoldable pub PairsAskedFirst : Type 0
PairsAskedFirst = («data» blocks : List ℕ) (places : ℕ) (n : Refusal) → fill_of «data» blocks places ≡ Err n → (n ≡ refusal.BlocksRoom → ⊥)
    → (others : ℕ) → fill_of «data» blocks others ≡ Err n

-- a refusal has one of filling's own numbers
unfoldable pub FillNumbers : Type 0
FillNumbers = («data» blocks : List ℕ) (places : ℕ) (n : Refusal) → fill_of «data» blocks places ≡ Err n → one_of (11 ∷ 12 ∷ 41 ∷ []) (refusal_number n) ≡ true

-- ---- finding

-- place i is the lowest with the offset
pub record Lowest (rs : List BlockRecord) (offset i : ℕ) : Type 0 where
  pub within : i < length rs
  pub there : (at_place rs i).offset ≡ offset
  pub lower : (j : ℕ) → j < i → (at_place rs j).offset ≡ offset → ⊥

-- the lowest place with the offset is found, in any list
unfoldable pub FindsLowest : Type 0
FindsLowest = (rs : List BlockRecord) (offset i : ℕ) → (find_of rs offset ≡ Some i) ↔ Lowest rs offset i

-- none is found exactly if no record has the offset
unfoldable pub FindsNone : Type 0
FindsNone = (rs : List BlockRecord) (offset : ℕ) → (find_of rs offset ≡ None) ↔ ((i : ℕ) → i < length rs → (at_place rs i).offset ≡ offset → ⊥)

-- behind a fill that wrote n records, in any part of the places that holds a pair's, the offset of that pair finds it
unfoldable pub FindsPairs : Type 0
FindsPairs = («data» blocks : List ℕ) (n : ℕ) (before : List BlockRecord) → filled_read (fill_of «data» blocks (length before)) ≡ Ok n
    → (from count i : ℕ) → from + count ≤ length before → i < count → from + i < n
    → find_of (take count (drop from (filled_places (fill_of «data» blocks (length before)) before))) (get_or blocks (2 * (from + i)) 0) ≡ Some i
