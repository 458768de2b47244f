-- What the entries of building are given, answer, and leave in the memory that they are lent.
use Rattle.std.specs.Prelude.{ℕ, List, true, false, eqb, length, Result, Ok, Err}
use Rattle.std.proofs.lemmas.List.Edits.{sets}
use Rattle.refusal.specs.Refusal.{answer_left}
use Rattle.refusal.specs.declared.Refusal.{Refusal}
use Rattle.num.specs.Choice.{when◌then◌else◌}
use Rattle.sstable.specs.declared.Kind.TheVariants.{Put, Tombstone}
use Rattle.builder.specs.Offer.{Offer}
use Rattle.builder.specs.Add.{BuilderState}
use Rattle.numbers.specs.BuilderNumbers.{builder_numbers}

-- the offer that the numbers of a call make: 0 is a Put, any other number a tombstone; 0 is no new key, any other
-- number one
unfoldable pub offer_from : ℕ → List ℕ → List ℕ → ℕ → ℕ → ℕ → Offer
offer_from tombstone key value seq new offset =
    record {
      kind = when eqb tombstone 0 then Put else Tombstone;
      key = key;
      value = value;
      seq = seq;
      new_key = when eqb new 0 then false else true;
      offset = offset;
    }

-- the record behind an add: the sixteen numbers of the record with the entry, or what stood there
unfoldable pub builder_written : Result BuilderState Refusal → List ℕ → List ℕ
builder_written (Ok s) before = sets before 0 (builder_numbers s.builder)
builder_written (Err e) before = before

-- the size behind its telling: the section's length, or what stood there
unfoldable pub size_written : Result ℕ Refusal → ℕ → ℕ
size_written = answer_left

-- the length behind writing: the number of bytes written, or what stood there
unfoldable pub section_len_written : Result (List ℕ) Refusal → ℕ → ℕ
section_len_written (Ok s) before = length s
section_len_written (Err e) before = before
