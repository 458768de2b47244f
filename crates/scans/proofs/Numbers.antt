-- A span over sixteen numbers that are a record is the span over that record, and what its answer says of the number behind it.
-- Assumes nothing.
use mathlib.Core.Path.{◌≡◌, refl, sym, ap, ◌∙◌}
use mathlib.Core.Bool.{true, false}
use mathlib.Core.List.{List}
use Prim.Native.Nat.{ℕ}
use Rattle.std.specs.Prelude.{Result, Ok, Err}
use Rattle.refusal.specs.declared.Refusal.{Refusal}
use Rattle.refusal.specs.declared.Refusal.TheVariants as refusal
use Rattle.num.proofs.Choice.{if_true, if_false}
use Rattle.header.specs.declared.Opened.{Opened}
use Rattle.opened.specs.Opened.{is_record_of}
use Rattle.numbers.specs.Numbers.{opened_of, is_record_numbers}
use Rattle.refusal.specs.Refusal.{answer_left, answer_number}
use Rattle.spans.specs.Span.{Pair, span_of, spanned_read}
use Rattle.scans.specs.Spans.{span_of_numbers, found_written}

module _ (s numbers : List ℕ) (first count limit places : ℕ) where
  pub no_numbers : is_record_numbers numbers ≡ false → span_of_numbers s numbers first count limit places ≡ Err refusal.RecordGiven
  unfolding span_of_numbers
  no_numbers e = if_false _ _ _ e

  pub spanned_over : {o : Opened} → is_record_numbers numbers ≡ true → o ≡ opened_of numbers → span_of s o first count limit places ≡ span_of_numbers s numbers first count limit places
  unfolding span_of_numbers
  spanned_over is same = ap (λ (p : Opened). span_of s p first count limit places) same ∙ sym (if_true (is_record_numbers numbers) _ _ is)

  pub no_record : is_record_numbers numbers ≡ true → is_record_of s (opened_of numbers) ≡ false → span_of_numbers s numbers first count limit places ≡ Err refusal.RecordGiven
  unfolding span_of
  no_record e n = sym (spanned_over e refl) ∙ if_false _ _ _ n

answer_left_lem : (x : Result (List Pair) Refusal) (found : ℕ) → answer_left (spanned_read x) found ≡ found_written x found
unfolding spanned_read found_written
answer_left_lem (Ok ps) found = refl
answer_left_lem (Err e) found = refl

-- what was answered is answered of the whole span
pub outcome : (x : Result (List Pair) Refusal) {spanned : Result ℕ Refusal} → spanned ≡ spanned_read x → (found : ℕ) {r after : ℕ}
    → (r ≡ answer_number spanned) × (after ≡ answer_left spanned found) → (r ≡ answer_number (spanned_read x)) × (after ≡ found_written x found)
outcome x e found told =
    (told.0 ∙ ap answer_number e, told.1 ∙ ap (λ (a : Result ℕ Refusal). answer_left a found) e ∙ answer_left_lem x found)
