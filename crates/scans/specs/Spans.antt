-- What `kiban_span` answers, and what it leaves in the memory that it is lent.
use Rattle.std.specs.Prelude.{ℕ, List, length, Result, Ok, Err}
use Rattle.refusal.specs.declared.Refusal.{Refusal}
use Rattle.refusal.specs.declared.Refusal.TheVariants as refusal
use Rattle.num.specs.Choice.{ask◌otherwise◌then◌}
use Rattle.numbers.specs.Numbers.{opened_of, is_record_numbers}
use Rattle.spans.specs.Span.{Pair, span_of}

-- a span over sixteen numbers: those that are no record are none that an opening gave (24)
unfoldable pub span_of_numbers : List ℕ → List ℕ → ℕ → ℕ → ℕ → ℕ → Result (List Pair) Refusal
span_of_numbers s numbers first count limit places =
    ask is_record_numbers numbers otherwise Err refusal.RecordGiven then
    span_of s (opened_of numbers) first count limit places

-- the number behind a span: how many pairs there are, or what stood there
unfoldable pub found_written : Result (List Pair) Refusal → ℕ → ℕ
found_written (Ok ps) before = length ps
found_written (Err e) before = before
