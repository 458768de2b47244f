-- The records of the blocks in turn: questions 13 to 21.
use Rattle.std.specs.Prelude.{ℕ, ◌+◌, List, [], ◌∷◌, map, eqb, leb, length, take, drop, Result, Ok, Err}
use Rattle.refusal.specs.declared.Refusal.{Refusal}
use Rattle.refusal.specs.declared.Refusal.TheVariants as refusal
use Rattle.num.specs.Choice.{when◌then◌else◌, ask◌otherwise◌then◌}
use Rattle.sstable.specs.Limits.{within_limits}
use Rattle.block.specs.Walk.{Entry, Walk, WalkEnd, at_end, stopped}
use Rattle.header.specs.declared.Opened.{Opened}
use Rattle.arena.specs.declared.Cursor.{Cursor}
use Rattle.versions.specs.Version.{visit_of}

-- what the questions are about: the section, the backing data, the record that the header gives, the arena's end, and half the key scratch
pub record Inputs : Type 0 where
  pub section : List ℕ
  pub backing : List ℕ
  pub opened : Opened
  pub end : ℕ
  pub half : ℕ

-- what is carried from record to record: the last key of the arena, and the cursor in it
pub record Progress : Type 0 where
  pub previous : List ℕ
  pub cursor : Cursor

-- a block's record, its value's place counted in the data
unfoldable pub placed : ℕ → Entry → Entry
placed offset e = record { key = e.key; seq = e.seq; kind = e.kind; place = offset + e.place; size = e.size }

-- the bytes of a record's value, its place counted in the data
unfoldable pub value_of : List ℕ → Entry → List ℕ
value_of «data» e = take e.size (drop e.place «data»)

-- behind a record: its key is the last one if it was a key's first record
unfoldable pub progress_for : Progress → Entry → Result Cursor Refusal → Result Progress Refusal
progress_for p e (Err n) = Err n
progress_for p e (Ok c) = Ok (record { previous = when eqb p.cursor.remaining 0 then e.key else p.previous; cursor = c })

-- questions 14 to 21 of a record
unfoldable pub entry_asked : Inputs → Progress → Entry → Result Progress Refusal
entry_asked t p e =
    ask within_limits (length e.key) e.size otherwise Err refusal.Limits then  -- 14
    ask leb (length e.key) t.half otherwise Err refusal.KeyRoom then  -- 15
    progress_for p e (visit_of t.section t.opened t.end p.cursor p.previous e (value_of t.backing e))

-- questions 14 to 21 of records, one after another
unfoldable pub entries_from : Inputs → Progress → List Entry → Result Progress Refusal
entries_from t p [] = Ok p
entries_from t p (e ∷ es) = elim (entry_asked t p e) [ Ok q ↦ entries_from t q es | Err n ↦ Err n ]

-- question 13, behind the records that the walk of a block met: did it reach the end of the entries?
unfoldable pub walk_ended : WalkEnd → Result Progress Refusal → Result Progress Refusal
walk_ended how (Err n) = Err n
walk_ended at_end (Ok p) = Ok p
walk_ended stopped (Ok p) = Err refusal.Entry  -- 13

-- questions 13 to 21 of the records of a block that starts at an offset of the data
unfoldable pub records_asked : Inputs → ℕ → Progress → Walk → Result Progress Refusal
records_asked t offset p w = walk_ended w.ended (entries_from t p (map (placed offset) w.entries))

-- for proofs alone: `unfolding walk_defs` opens the definitions of this file
unfoldable pub walk_defs : ℕ
unfolding placed value_of progress_for entry_asked entries_from walk_ended records_asked
walk_defs = 0
