-- Questions 11, 12, 13, and 22 of the data, in plain terms over the whole block list; and the records of all blocks as one list.
use Rattle.std.specs.Prelude.{◌≡◌, List, [], ◌∷◌, ◌++◌, map, ℕ, zero, suc, ◌+◌, ◌*◌, ◌/◌, ◌%◌, ◌<◌, ◌≤◌, length, get_or, take, drop}
use Rattle.block.specs.declared.BlockMeta.{BlockMeta}
use Rattle.block.specs.declared.EntryHeader.{EntryHeader}
use Rattle.block.specs.Verify.{SoundBlock}
use Rattle.block.specs.EntryHeader.{SoundEntry}
use Rattle.block.specs.Walk.{Entry, records_of}
use Rattle.opening.specs.Open.{block_bytes}

-- the offset of pair i
unfoldable pub offset_at : List ℕ → ℕ → ℕ
offset_at blocks i = get_or blocks (2 * i) 0

-- its length
unfoldable pub length_at : List ℕ → ℕ → ℕ
length_at blocks i = get_or blocks (2 * i + 1) 0

-- where pair i ends
unfoldable pub pair_end : List ℕ → ℕ → ℕ
pair_end blocks i = offset_at blocks i + length_at blocks i

-- where pair i is to begin: the first at 0, each other where the one before ends
unfoldable pub pair_start : List ℕ → ℕ → ℕ
pair_start blocks zero = 0
pair_start blocks (suc i) = pair_end blocks i

-- the bytes of pair i
unfoldable pub block_at : List ℕ → List ℕ → ℕ → List ℕ
block_at «data» blocks i = block_bytes «data» (offset_at blocks i) (length_at blocks i)

-- question 13 of a record at a place of a block whose entries end at `end`, behind the previous key: its entry's numbers `h` are
-- sound, it shares no more than that key's length, and its key is what it shares, then its own bytes
pub record EntryStands (raw : List ℕ) (end pos : ℕ) (prev : List ℕ) (h : EntryHeader) (e : Entry) : Type 0 where
  pub sound : SoundEntry raw end pos h
  pub shared : h.shared ≤ length prev
  pub key : e.key ≡ take h.shared prev ++ take h.non_shared (drop (pos + 21) raw)
  pub seq : e.seq ≡ h.seq
  pub kind : e.kind ≡ h.kind
  pub place : e.place ≡ pos + 21 + h.non_shared
  pub size : e.size ≡ h.value_len

-- records stand one behind the other from a place to the end of the entries
unfoldable pub EntriesStand : List ℕ → ℕ → ℕ → List ℕ → List Entry → Type 0
EntriesStand raw end pos prev [] = pos ≡ end
EntriesStand raw end pos prev (e ∷ es) =
    (h : EntryHeader) × EntryStands raw end pos prev h e × EntriesStand raw end (e.place + e.size) e.key es

-- the block list passes questions 11 to 13, and its pairs cover the data
pub record Covers («data» blocks : List ℕ) : Type 0 where
  -- 11
  pub even : length blocks % 2 ≡ 0
  pub begins : (i : ℕ) → 2 * i + 1 < length blocks → offset_at blocks i ≡ pair_start blocks i
  pub finishes : (i : ℕ) → 2 * i + 1 < length blocks → pair_end blocks i ≤ length «data»
  -- 12 and 13: the block is sound, and its records stand from its start, behind no key, to the end of its entries
  pub sound : (i : ℕ) → 2 * i + 1 < length blocks → (m : BlockMeta) × SoundBlock (block_at «data» blocks i) m
      × EntriesStand (block_at «data» blocks i) m.entries_end 0 [] (records_of (block_at «data» blocks i)).entries
  -- 22: the last pair ends where the data do; without a pair they are empty
  pub whole : pair_start blocks (length blocks / 2) ≡ length «data»

-- a block's record, its value's place counted from the data's start
unfoldable pub in_data : ℕ → Entry → Entry
in_data offset e = record { key = e.key; seq = e.seq; kind = e.kind; place = offset + e.place; size = e.size }

-- the records of the block at an offset, their values' places counted in the data
unfoldable pub block_entries : List ℕ → ℕ → ℕ → List Entry
block_entries «data» offset len = map (in_data offset) (records_of (block_bytes «data» offset len)).entries

-- the records of all blocks, one block behind the other
unfoldable pub store_entries : List ℕ → List ℕ → List Entry
store_entries «data» [] = []
store_entries «data» (offset ∷ []) = []
store_entries «data» (offset ∷ len ∷ pairs) = block_entries «data» offset len ++ store_entries «data» pairs

-- names all definitions of this file: `unfolding block_defs` opens them
unfoldable pub block_defs : ℕ
unfolding offset_at length_at pair_end pair_start block_at EntriesStand in_data block_entries store_entries
block_defs = 0
