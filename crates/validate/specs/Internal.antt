-- Not on the reading path: what the contracts of private functions speak of. A step of the walk with the key before it in the block,
-- and the walk's keys as they lie in the lent key scratch, the key before in the block at its front, the last key of the arena behind its half.
use Rattle.std.specs.Prelude.{ℕ, ◌-◌, ◌+◌, ◌≤◌, List, ◌++◌, length, take, drop, Result, Ok, Err}
use Rattle.refusal.specs.declared.Refusal.{Refusal}
use Rattle.refusal.specs.declared.Refusal.TheVariants as refusal
use Rattle.arena.specs.declared.Cursor.{Cursor}
use Rattle.arena.specs.Internal.{Readable, Inside}
use Rattle.block.specs.declared.Record.{Record}
use Rattle.block.specs.Walk.{Entry, Step, met, stop, step_of}
use Rattle.header.specs.declared.Opened.{Opened}
use Rattle.validate.specs.declared.Carried.{Carried}
use Rattle.validate.specs.Walk.{Inputs, Progress, placed, entry_asked}

-- what the walk carries: the key before in the block, the last key of the arena, and the cursor
pub record State : Type 0 where
  pub key : List ℕ
  pub previous : List ℕ
  pub cursor : Cursor

-- without the key before in the block
unfoldable pub progress_of : State → Progress
progress_of st = record { previous = st.previous; cursor = st.cursor }

-- behind a record, the place of the next with the state: the key is the one before from now on
unfoldable pub asked_from : ℕ → List ℕ → Result Progress Refusal → Result (ℕ × State) Refusal
asked_from next key (Err n) = Err n
asked_from next key (Ok p) = Ok (next, record { key = key; previous = p.previous; cursor = p.cursor })

-- questions 14 to 21 of a record
unfoldable pub record_asked : Inputs → State → ℕ → Entry → Result (ℕ × State) Refusal
record_asked t st next e = asked_from next e.key (entry_asked t (progress_of st) e)

-- questions 13 to 21 of the record at a place of a block that starts at an offset of the data
unfoldable pub step_asked : Inputs → ℕ → State → Step → Result (ℕ × State) Refusal
step_asked t offset st stop = Err refusal.Entry  -- 13
step_asked t offset st (met e next) = record_asked t st next (placed offset e)

unfoldable pub asked_at : Inputs → ℕ → List ℕ → ℕ → ℕ → State → Result (ℕ × State) Refusal
asked_at t offset raw entriesEnd pos st = step_asked t offset st (step_of raw entriesEnd pos st.key)

-- a store with the arena's end and half the key scratch as numbers
abbrev pub inputs_with : List ℕ → List ℕ → Opened → ℕ → ℕ → Inputs
inputs_with s «data» o end half = record { section = s; backing = «data»; opened = o; end = end; half = half }

-- What the code carries beside the scratch is a record of numbers, `Carried`: the lengths of both keys, and the cursor.
-- The state that they and the scratch say:
unfoldable pub state_in : ℕ → List ℕ → Carried → State
state_in half scratch w =
    record { key = take w.key_len scratch; previous = take w.previous_len (drop half scratch); cursor = w.cursor }

-- and the progress
unfoldable pub progress_in : ℕ → List ℕ → Carried → Progress
progress_in half scratch w = record { previous = take w.previous_len (drop half scratch); cursor = w.cursor }

-- both keys lie in their halves
pub record Held (half : ℕ) (w : Carried) : Type 0 where
  pub key : w.key_len ≤ half
  pub previous : w.previous_len ≤ half

-- what the walk counts on: a record that was read from the section, a cursor inside its arena, and the keys in the scratch
pub record Ready (s : List ℕ) (o : Opened) (end half : ℕ) (scratch : List ℕ) (w : Carried) : Type 0 where
  pub readable : Readable s o
  pub inside : Inside s o end w.cursor
  pub halves : half + half ≤ length scratch
  pub held : Held half w

-- what is answered behind a record, read back from the scratch
unfoldable pub asked_for : ℕ → List ℕ → Result (ℕ × Carried) Refusal → Result (ℕ × State) Refusal
asked_for half scratch (Ok (next, w)) = Ok (next, state_in half scratch w)
asked_for half scratch (Err n) = Err n

-- both keys lie in their halves behind a record
abbrev pub RecordHeld : ℕ → Result (ℕ × Carried) Refusal → Type 0
RecordHeld half (Ok (next, w)) = Held half w
RecordHeld half (Err n) = Unit {0}

-- a record of a block of a length, behind a key of a length
pub record Lies (len keyLen : ℕ) (r : Record) : Type 0 where
  pub shared : r.shared ≤ keyLen
  pub longer : r.shared ≤ r.key_len
  pub own : r.key_len - r.shared ≤ r.place
  pub inside : r.place + r.size ≤ len

-- a block's record with its key: what it shares with the previous key, then its own bytes before its value
unfoldable pub entry_in : List ℕ → List ℕ → Record → Entry
entry_in raw prev r =
    record {
      key = take r.shared prev ++ take (r.key_len - r.shared) (drop (r.place - (r.key_len - r.shared)) raw);
      seq = r.seq;
      kind = r.kind;
      place = r.place;
      size = r.size;
    }

-- behind a block
abbrev pub BlockHeld : ℕ → Result Carried Refusal → Type 0
BlockHeld half (Ok w) = Held half w
BlockHeld half (Err n) = Unit {0}

unfoldable pub answer_for : ℕ → List ℕ → Result Carried Refusal → Result Progress Refusal
answer_for half scratch (Ok w) = Ok (progress_in half scratch w)
answer_for half scratch (Err n) = Err n
