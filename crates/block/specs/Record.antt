-- Question 13: the numbers of the record at a place, if it passes `header_at` and shares no more than the length of the previous key.
use Rattle.std.specs.Prelude.{ℕ, ◌+◌, List, leb, Result, Ok, Err}
use Rattle.num.specs.Choice.{when◌then◌else◌, ask◌otherwise◌then◌}
use Rattle.refusal.specs.declared.Refusal.{Refusal}
use Rattle.refusal.specs.declared.Refusal.TheVariants as refusal
use Rattle.block.specs.declared.EntryHeader.{EntryHeader}
use Rattle.block.specs.declared.Record.{Record}
use Rattle.block.specs.EntryHeader.{entry_header_of}

-- A record's numbers, at a place of a block: kind and sequence; how many bytes its key shares with the previous key, and how many it
-- has in all; the place and the length of its value; and the place of the next record.
unfoldable pub record_from : ℕ → EntryHeader → Record
record_from pos h =
    record {
      kind = h.kind;
      seq = h.seq;
      shared = h.shared;
      key_len = h.shared + h.non_shared;
      place = pos + 21 + h.non_shared;
      size = h.value_len;
      next = pos + 21 + h.non_shared + h.value_len;
    }

-- does it share no more than the length of the previous key?
unfoldable pub record_at_for : ℕ → ℕ → Result EntryHeader Refusal → Result Record Refusal
record_at_for pos keyLen (Ok h) =
    ask leb h.shared keyLen otherwise Err refusal.Entry then
    Ok (record_from pos h)
record_at_for pos keyLen (Err e) = Err e

-- the record at a place before the end of the entries, behind a key of a length
unfoldable pub record_at : List ℕ → ℕ → ℕ → ℕ → Result Record Refusal
record_at s end pos keyLen = record_at_for pos keyLen (entry_header_of s end pos)

-- for proofs alone: `unfolding record_at_defs` opens the definitions of this file
unfoldable pub record_at_defs : ℕ
unfolding record_from record_at_for record_at when◌then◌else◌
record_at_defs = 0
