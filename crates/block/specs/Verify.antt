-- Question 12: does the block pass `VerifiedBlock::verify`?
-- A block is entries, restart offsets of 4 bytes, their number in 4 bytes, a type byte, and the CRC-32 of all before it.
use Rattle.std.specs.Prelude.{◌≡◌, ℕ, zero, suc, ◌+◌, ◌*◌, ◌-◌, ◌<◌, ◌≤◌, List, Bool, true, leb, ltb, eqb, length, get_or, take, Result, Ok, Err}
use Rattle.num.specs.Choice.{when◌then◌else◌, ask◌otherwise◌then◌, both, either}
use Rattle.num.specs.Number.{le_at}
use Rattle.crc32.specs.V42.{crc_of}
use Rattle.block.specs.declared.BlockMeta.{BlockMeta}
use Rattle.refusal.specs.declared.Refusal.{Refusal}
use Rattle.refusal.specs.declared.Refusal.TheVariants as refusal

-- the number of restart offsets
unfoldable pub restarts_in : List ℕ → ℕ
restarts_in raw = le_at raw (length raw - 9) 4

-- where the entries end and the restart offsets begin, if the restart offsets fit
unfoldable pub entries_end_in : List ℕ → ℕ
entries_end_in raw = length raw - 9 - 4 * restarts_in raw

-- restart offset i of those that begin at a place
unfoldable pub restart_at : List ℕ → ℕ → ℕ → ℕ
restart_at raw start i = le_at raw (start + 4 * i) 4

-- is restart offset i inside the entries, and above the one before it?
unfoldable pub restart_sound : List ℕ → ℕ → ℕ → Bool
restart_sound raw end i = both (ltb (restart_at raw end i) end) (either (eqb i 0) (ltb (restart_at raw end (i - 1)) (restart_at raw end i)))

-- the same of all restart offsets before a count
unfoldable pub restarts_sound : List ℕ → ℕ → ℕ → Bool
restarts_sound raw end zero = true
restarts_sound raw end (suc i) = both (restarts_sound raw end i) (restart_sound raw end i)

unfoldable pub meta_of : List ℕ → BlockMeta
meta_of raw = record { entries_end = entries_end_in raw; restart_start = entries_end_in raw; num_restarts = restarts_in raw }

-- from the number of restart offsets on
unfoldable pub restarts_verified : List ℕ → Result BlockMeta Refusal
restarts_verified raw =
    ask ltb 0 (restarts_in raw) otherwise Err refusal.Block then
    ask leb (4 * restarts_in raw) (length raw - 9) otherwise Err refusal.Block then
    ask leb 21 (entries_end_in raw) otherwise Err refusal.Block then
    ask restarts_sound raw (entries_end_in raw) (restarts_in raw) otherwise Err refusal.Block then
    ask eqb (restart_at raw (entries_end_in raw) 0) 0 otherwise Err refusal.Block then
    Ok (meta_of raw)

unfoldable pub verify_of : List ℕ → Result BlockMeta Refusal
verify_of raw =
    ask leb (21 + 4 + 4 + 5) (length raw) otherwise Err refusal.Block then
    ask eqb (get_or raw (length raw - 5) 0) 0 otherwise Err refusal.Block then
    ask eqb (le_at raw (length raw - 4) 4) (crc_of (take (length raw - 4) raw)) otherwise Err refusal.Block then
    restarts_verified raw

-- question 12 in plain terms: a sound block, and the numbers that are answered
pub record SoundBlock (raw : List ℕ) (m : BlockMeta) : Type 0 where
  pub long : 34 ≤ length raw
  pub type_zero : get_or raw (length raw - 5) 0 ≡ 0
  pub crc : le_at raw (length raw - 4) 4 ≡ crc_of (take (length raw - 4) raw)
  pub restarts : le_at raw (length raw - 9) 4 ≡ m.num_restarts
  pub nonzero : 0 < m.num_restarts
  pub fitting : m.entries_end + 4 * m.num_restarts + 9 ≡ length raw
  pub start : m.restart_start ≡ m.entries_end
  pub room : 21 ≤ m.entries_end
  pub inside : (i : ℕ) → i < m.num_restarts → restart_at raw m.entries_end i < m.entries_end
  pub rising : (i j : ℕ) → i < j → j < m.num_restarts → restart_at raw m.entries_end i < restart_at raw m.entries_end j
  pub first : restart_at raw m.entries_end 0 ≡ 0

-- for proofs alone: `unfolding verify_defs` opens the definitions of this file
unfoldable pub verify_defs : ℕ
unfolding restarts_in entries_end_in restart_at restart_sound restarts_sound meta_of restarts_verified verify_of when◌then◌else◌
verify_defs = 0
