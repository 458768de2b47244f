-- A lookup is refused with 24 exactly if its sixteen numbers are no record or the bytes do not give it.
-- Assumes nothing.
use mathlib.Core.Path.{◌≡◌, refl, sym, ap, ◌∙◌}
use mathlib.Core.Bool.{Bool, true, false}
use mathlib.Core.List.{List}
use Prim.Native.Nat.{ℕ}
use borrow.Author.Tests.{leb-true, le-leb, eqb-true, eq-eqb}
use Rattle.num.proofs.Choice.{both_true, true_both, if_true, if_false}
use Rattle.refusal.specs.Refusal.{answer_number}
use Rattle.opened.specs.Opened.{is_record_of, RecordExactly}
use Rattle.opened.proofs.Records.{record_exactly}
use Rattle.point.specs.Hash.{hash_value}
use Rattle.lookup.specs.Lookup.{hash_read, locate_of}
use Rattle.numbers.specs.Numbers.{opened_of, is_record_numbers}
use Rattle.looks.specs.Looked.{lookup_of}
use Rattle.numbered.proofs.Numbers.{reads_not_24}
use Rattle.calls.specs.Calls.{Holding, GivesRecord, RecordCalls}

-- both tests of question 24 at the entry
pub passed : (h : Holding) → is_record_numbers h.numbers ≡ true → is_record_of h.bytes (opened_of h.numbers) ≡ true → GivesRecord h
unfolding is_record_numbers RecordExactly
passed h n r =
    let a = both_true _ _ n in
    let b = both_true _ _ a.1 in
    let c = both_true _ _ b.1 in
    let d = both_true _ _ c.1 in
    record {
      checksums = leb-true _ _ a.0;
      packed = leb-true _ _ b.0;
      zeros = (eqb-true _ _ c.0, eqb-true _ _ d.0, eqb-true _ _ d.1);
      given = (record_exactly h.bytes (opened_of h.numbers)).0 r;
    }

pub numbers_pass : (h : Holding) → GivesRecord h → is_record_numbers h.numbers ≡ true
unfolding is_record_numbers
numbers_pass h g =
    let z = g.zeros in
    true_both _ _ (le-leb _ _ g.checksums)
    (true_both _ _ (le-leb _ _ g.packed)
    (true_both _ _ (eq-eqb _ _ z.0) (true_both _ _ (eq-eqb _ _ z.1) (eq-eqb _ _ z.2))))

pub bytes_pass : (h : Holding) → GivesRecord h → is_record_of h.bytes (opened_of h.numbers) ≡ true
unfolding RecordExactly
bytes_pass h g = (record_exactly h.bytes (opened_of h.numbers)).1 g.given

module _ (h : Holding) (key : List ℕ) (limit : ℕ) where
  number : ℕ
  number = answer_number (lookup_of h.bytes h.numbers key limit)

  -- behind both tests come the reads
  read_number : GivesRecord h → number ≡ answer_number (hash_read h.bytes (opened_of h.numbers) key limit (hash_value key (opened_of h.numbers).seed))
  unfolding number lookup_of locate_of
  read_number g = ap answer_number (if_true _ _ _ (numbers_pass h g) ∙ if_true _ _ _ (bytes_pass h g))

  refused_number : (GivesRecord h → ⊥) → number ≡ 24
  unfolding number lookup_of locate_of answer_number
  refused_number n = go (is_record_numbers h.numbers) (is_record_of h.bytes (opened_of h.numbers)) refl refl
    where
      go : (a b : Bool) → is_record_numbers h.numbers ≡ a → is_record_of h.bytes (opened_of h.numbers) ≡ b → number ≡ 24
      go false b p q = ap answer_number (if_false _ _ _ p)
      go true false p q = ap answer_number (if_true _ _ _ p ∙ if_false _ _ _ q)
      go true true p q = absurd (n (passed h p q))

pub record_calls : RecordCalls
unfolding RecordCalls number
record_calls h key limit c = (
  λ e g. reads_not_24 h.bytes (opened_of h.numbers) key limit _ (sym (read_number h key limit g) ∙ sym c.returns ∙ e),
  λ n. c.returns ∙ refused_number h key limit n,
)
