-- What the program `keys` prints of three files (document 01, "One store, worked through").
use Rattle.std.specs.Prelude.{ℕ, zero, suc, ◌+◌, ◌/◌, ◌%◌, List, [], ◌∷◌, ◌++◌, Bool, eqb, length, Result, Ok, Err}
use Rattle.num.specs.Choice.{both, when◌then◌else◌, ask◌otherwise◌then◌}
use Rattle.num.specs.Number.{le_at}
use Rattle.block.specs.Walk.{Entry}
use Rattle.refusal.specs.declared.Refusal.{Refusal}
use Rattle.refusal.specs.Refusal.{refusal_number}
use Rattle.header.specs.declared.Opened.{Opened}
use Rattle.opening.specs.Open.{open_of}
use Rattle.admission.specs.Blocks.{store_entries}
use Rattle.lines.specs.Lines.{names_line, record_line, live_of, mean_of, totals_line, refused_line, unreadable_line}

-- the lines of records, in order
unfoldable pub record_lines : List Entry → List ℕ
record_lines [] = []
record_lines (e ∷ es) = record_line e ++ record_lines es

-- the lines of records, and the totals of a section of a length with that many keys
unfoldable pub listed_of : ℕ → ℕ → List Entry → List ℕ
listed_of sectionLen keys entries = record_lines entries ++ totals_line keys (live_of entries) (mean_of sectionLen keys)

-- what is printed of a store: the names, each record in block order, the totals; of a refusal its line alone
unfoldable pub store_text : List ℕ → List ℕ → List ℕ → Result Opened Refusal → List ℕ
store_text s «data» blocks (Ok o) = names_line ++ listed_of (length s) o.count (store_entries «data» blocks)
store_text s «data» blocks (Err e) = refused_line (refusal_number e)

-- as many numbers of 8 bytes as the last number says, from a place on
unfoldable pub numbers_from : List ℕ → ℕ → ℕ → List ℕ
numbers_from s at zero = []
numbers_from s at (suc k) = le_at s at 8 ∷ numbers_from s (at + 8) k

-- the numbers that a file of whole numbers is made of
unfoldable pub numbers_in : List ℕ → List ℕ
numbers_in s = numbers_from s 0 (length s / 8)

-- the length of the key scratch that the store is opened with
unfoldable pub key_scratch : ℕ
key_scratch = 32768

-- What is printed of a section, its data and its block list, as they were read: were all three there, with no more bytes than were
-- read, and is the list made of whole numbers?
unfoldable pub output_of : Bool → List ℕ → List ℕ → List ℕ → List ℕ
output_of whole s «data» list =
    ask both whole (eqb (length list % 8) 0) otherwise unreadable_line then
    store_text s «data» (numbers_in list) (open_of s «data» (numbers_in list) key_scratch)

-- for proofs alone: `unfolding listing_defs` opens the definitions of this file
unfoldable pub listing_defs : ℕ
unfolding record_lines listed_of store_text numbers_from numbers_in key_scratch output_of when◌then◌else◌ both
listing_defs = 0
