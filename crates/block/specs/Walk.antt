-- The records of a block, one after another (question 13).
use Rattle.std.specs.Prelude.{ℕ, zero, suc, ◌+◌, ◌-◌, List, [], ◌∷◌, ◌++◌, true, false, leb, length, take, drop, Result, Ok, Err}
use Rattle.sstable.specs.declared.Kind.{Kind}
use Rattle.block.specs.declared.Record.{Record}
use Rattle.refusal.specs.declared.Refusal.{Refusal}
use Rattle.block.specs.Record.{record_at}
use Rattle.block.specs.Verify.{entries_end_in}

-- a record: its key, its sequence, its kind, and the place and the length of its value; the place counts from the block's start, and
-- where several blocks are one list from the data's start
pub record Entry : Type 0 where
  pub key : List ℕ
  pub seq : ℕ
  pub kind : Kind
  pub place : ℕ
  pub size : ℕ

-- one step: the entry met with the place behind it, or the stop of question 13
pub data Step : Type 0 where
  met : Entry → ℕ → Step
  stop : Step

-- a record that stands at a place, with its key: what it shares with the previous key, then its own bytes
unfoldable pub entry_of : List ℕ → ℕ → List ℕ → Record → Entry
entry_of s pos prev r =
    record {
      key = take r.shared prev ++ take (r.key_len - r.shared) (drop (pos + 21) s);
      seq = r.seq;
      kind = r.kind;
      place = r.place;
      size = r.size;
    }

unfoldable pub step_for : List ℕ → ℕ → List ℕ → Result Record Refusal → Step
step_for s pos prev (Ok r) = met (entry_of s pos prev r) r.next
step_for s pos prev (Err e) = stop

-- the step from a place, behind the previous key
unfoldable pub step_of : List ℕ → ℕ → ℕ → List ℕ → Step
step_of s end pos prev = step_for s pos prev (record_at s end pos (length prev))

-- how a walk ended: at the end of the entries, or by the stop of question 13
pub data WalkEnd : Type 0 where
  at_end : WalkEnd
  stopped : WalkEnd

-- the entries met, in order, and how the walk ended
pub record Walk : Type 0 where
  pub entries : List Entry
  pub ended : WalkEnd

unfoldable pub no_entries : WalkEnd → Walk
no_entries how = record { entries = []; ended = how }

unfoldable pub entry_then : Entry → Walk → Walk
entry_then e w = record { entries = e ∷ w.entries; ended = w.ended }

-- from a place and the key before it, in at most as many steps as the first number says
unfoldable pub walk_from : ℕ → List ℕ → ℕ → ℕ → List ℕ → Walk
walk_from zero s end pos prev = no_entries stopped
walk_from (suc f) s end pos prev =
    elim (leb end pos) [
      | true ↦ no_entries at_end
      | false ↦ elim (step_of s end pos prev) [ met e next ↦ entry_then e (walk_from f s end next e.key) | stop ↦ no_entries stopped ]
    ]

-- a step passes a byte at least, so one step for each byte left and one for the end are enough
unfoldable pub walk_at : List ℕ → ℕ → ℕ → List ℕ → Walk
walk_at s end pos prev = walk_from (suc (end - pos)) s end pos prev

-- the records of a whole block that is sound
unfoldable pub records_of : List ℕ → Walk
records_of raw = walk_at raw (entries_end_in raw) 0 []

-- for proofs alone: `unfolding block_walk_defs` opens the definitions of this file
unfoldable pub block_walk_defs : ℕ
unfolding entry_of step_for step_of no_entries entry_then walk_from walk_at records_of
block_walk_defs = 0
