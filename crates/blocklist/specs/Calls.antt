-- What the entries `kiban_fill_blocks` and `kiban_find_block` return and leave, in plain terms. A call is what its entry was lent, its result
-- and what it left, in the words of its contract (crates/kiban/src/lib.rt).
use Rattle.std.specs.Prelude.{◌≡◌, List, ◌↔◌, ℕ, zero, suc, ◌+◌, ◌*◌, ◌%◌, ◌<◌, ◌≤◌, length, get_or}
use Rattle.refusal.specs.Refusal.{answer_number}
use Rattle.block.specs.declared.BlockMeta.{BlockMeta}
use Rattle.block.specs.Verify.{SoundBlock}
use Rattle.opening.specs.Open.{block_bytes}
use Rattle.blocks.specs.declared.BlockRecord.{BlockRecord}
use Rattle.blocks.specs.Blocks.{fill_of, filled_read, filled_count, filled_places, find_of, found_place}
use Rattle.blocklist.specs.Promises.{at_place, FilledList, Lowest}

-- ---- calls

-- a call of `kiban_fill_blocks`, with any records and any count before
pub record FillCall : Type 0 where
  pub backing : List ℕ
  pub blocks : List ℕ
  pub before : List BlockRecord
  pub count : ℕ
  pub result : ℕ
  pub after : List BlockRecord
  pub count_after : ℕ
  pub returns : result ≡ answer_number (filled_read (fill_of backing blocks (length before)))
  pub leaves : after ≡ filled_places (fill_of backing blocks (length before)) before
  pub leaves_count : count_after ≡ filled_count (filled_read (fill_of backing blocks (length before))) count

-- a call of `kiban_find_block`
pub record FindCall : Type 0 where
  pub records : List BlockRecord
  pub offset : ℕ
  pub result : ℕ
  pub returns : result ≡ found_place (length records) (find_of records offset)

-- ---- filling

-- where pair i has to begin: the first at 0, each further one at the last one's end
unfoldable pub begin_of : List ℕ → ℕ → ℕ
begin_of blocks zero = 0
begin_of blocks (suc i) = get_or blocks (2 * i) 0 + get_or blocks (2 * i + 1) 0

-- question 11 of pair i
pub record PairLies («data» blocks : List ℕ) (i : ℕ) : Type 0 where
  pub begins : get_or blocks (2 * i) 0 ≡ begin_of blocks i
  pub finishes : get_or blocks (2 * i) 0 + get_or blocks (2 * i + 1) 0 ≤ length «data»

-- question 12 of pair i
unfoldable pub PairSound : List ℕ → List ℕ → ℕ → Type 0
PairSound «data» blocks i = (m : BlockMeta) × SoundBlock (block_bytes «data» (get_or blocks (2 * i) 0) (get_or blocks (2 * i + 1) 0)) m

-- the first n pairs pass both
unfoldable pub PairsPass : List ℕ → List ℕ → ℕ → Type 0
PairsPass «data» blocks n = (i : ℕ) → i < n → PairLies «data» blocks i × PairSound «data» blocks i

-- the result of `kiban_fill_blocks`: the first question that is answered with no, or 0. A list of n pairs has 2 n numbers; each pair is asked 11,
-- then 12, before the next one; 41 is asked behind all of them
pub data FillResult («data» blocks : List ℕ) (places : ℕ) : ℕ → Type 0 where
  odd : length blocks % 2 ≡ 1 → FillResult «data» blocks places 11
  asked_11 : (n i : ℕ) → length blocks ≡ 2 * n → i < n → PairsPass «data» blocks i → (PairLies «data» blocks i → ⊥) → FillResult «data» blocks places 11
  asked_12 : (n i : ℕ) → length blocks ≡ 2 * n → i < n → PairsPass «data» blocks i → PairLies «data» blocks i → (PairSound «data» blocks i → ⊥)
      → FillResult «data» blocks places 12
  asked_41 : (n : ℕ) → length blocks ≡ 2 * n → PairsPass «data» blocks n → places < n → FillResult «data» blocks places 41
  filled : (n : ℕ) → length blocks ≡ 2 * n → PairsPass «data» blocks n → n ≤ places → FillResult «data» blocks places 0

-- a number is the result of a call of `kiban_fill_blocks` exactly if the questions give it
unfoldable pub FillCalls : Type 0
FillCalls = (c : FillCall) (n : ℕ) → (c.result ≡ n) ↔ FillResult c.backing c.blocks (length c.before) n

-- what a call leaves: on 0 the count is the number of pairs, and the places are filled with their records; on any other result both are as before
pub record FillLeft (c : FillCall) : Type 0 where
  pub zero : c.result ≡ 0 → FilledList c.backing c.blocks c.count_after c.before c.after
  pub other : (c.result ≡ 0 → ⊥) → (c.after ≡ c.before) × (c.count_after ≡ c.count)

-- every call of `kiban_fill_blocks` leaves this
unfoldable pub FillLeaves : Type 0
FillLeaves = (c : FillCall) → FillLeft c

-- ---- finding

-- the result of `kiban_find_block`: the lowest place with the offset, or the number of records if none has it
pub data FindResult (rs : List BlockRecord) (offset : ℕ) : ℕ → Type 0 where
  found : (i : ℕ) → Lowest rs offset i → FindResult rs offset i
  none : ((i : ℕ) → i < length rs → (at_place rs i).offset ≡ offset → ⊥) → FindResult rs offset (length rs)

-- a number is the result of a call of `kiban_find_block` exactly if it is that; a place found is below the number of records
unfoldable pub FindCalls : Type 0
FindCalls = (c : FindCall) (n : ℕ) → (c.result ≡ n) ↔ FindResult c.records c.offset n
