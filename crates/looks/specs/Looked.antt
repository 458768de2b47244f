-- What a lookup over sixteen numbers answers, and what it leaves in the memory that it is lent.
use Rattle.std.specs.Prelude.{ℕ, List, Some, None, Ok, Err}
use Rattle.std.proofs.lemmas.List.Edits.{sets}
use Rattle.num.specs.Choice.{ask◌otherwise◌then◌}
use Rattle.locator.specs.Locator.{Located}
use Rattle.lookup.specs.Lookup.{locate_of}
use Rattle.refusal.specs.declared.Refusal.TheVariants as refusal
use Rattle.numbers.specs.Numbers.{opened_of, is_record_numbers, answer_numbers, none_numbers}

-- a lookup over sixteen numbers: those that are no record are none that an opening gave (24)
unfoldable pub lookup_of : List ℕ → List ℕ → List ℕ → ℕ → Located
lookup_of s numbers key limit =
    ask is_record_numbers numbers otherwise Err refusal.RecordGiven then
    locate_of s (opened_of numbers) key limit

-- the answer behind a lookup: the version's six numbers, six zeros for none, or what stood there
unfoldable pub answer_written : Located → List ℕ → List ℕ
answer_written (Ok (Some l)) before = sets before 0 (answer_numbers l)
answer_written (Ok None) before = sets before 0 none_numbers
answer_written (Err e) before = before
