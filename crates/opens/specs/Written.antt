-- What the two openings leave in the memory that they are lent.
use Rattle.std.specs.Prelude.{ℕ, List, length, Result, Ok, Err}
use Rattle.std.proofs.lemmas.List.Edits.{sets}
use Rattle.refusal.specs.declared.Refusal.{Refusal}
use Rattle.refusal.specs.Refusal.{answer_number}
use Rattle.header.specs.declared.Opened.{Opened}
use Rattle.packing.specs.Packing.{PackedForm, packed_read}
use Rattle.numbers.specs.Numbers.{record_numbers}

-- the record behind an opening: its sixteen numbers, or what stood there
unfoldable pub record_written : Result Opened Refusal → List ℕ → List ℕ
record_written (Ok o) before = sets before 0 (record_numbers o)
record_written (Err e) before = before

-- the record behind a packed opening: the sixteen numbers of the packed record, or what stood there
unfoldable pub packed_record_written : Result PackedForm Refusal → List ℕ → List ℕ
packed_record_written (Ok p) before = sets before 0 (record_numbers p.opened)
packed_record_written (Err n) before = before

-- the length behind a packed opening: the number of packed bytes, or what stood there
unfoldable pub packed_len_written : Result PackedForm Refusal → ℕ → ℕ
packed_len_written (Ok p) before = length p.bytes
packed_len_written (Err n) before = before

-- for proofs alone: `unfolding packed_defs` opens what a packed opening answers and writes
unfoldable pub packed_defs : ℕ
unfolding answer_number packed_read packed_record_written packed_len_written
packed_defs = 0
