-- What the answers of the entries of building say of the memory behind them.
-- Assumes nothing.
use mathlib.Core.Path.{◌≡◌, refl, sym, ap}
use mathlib.Core.Bool.{Bool, true, false, not}
use mathlib.Core.List.{List}
use Prim.Native.Nat.{ℕ}
use lib.Dec.{eqb}
use lib.Seq.{sets}
use Rattle.std.specs.Prelude.{Result, Ok, Err}
use Rattle.num.specs.Choice.{when◌then◌else◌}
use Rattle.refusal.specs.declared.Refusal.{Refusal}
use Rattle.refusal.specs.Refusal.{refusal_number, answer_number, answer_left}
use Rattle.refusal.proofs.Asked.{refused_ok, same_ok, same_refusal}
use Rattle.sstable.specs.declared.Kind.{Kind}
use Rattle.sstable.specs.declared.Kind.TheVariants.{Put, Tombstone}
use Rattle.builder.specs.declared.Builder.{Builder}
use Rattle.builder.specs.Add.{BuilderState, add_of, added_builder}
use Rattle.writing.specs.Wrote.{wrote_read}
use Rattle.numbers.specs.BuilderNumbers.{builder_numbers, builder_in}
use Rattle.builds.specs.Built.{offer_from, builder_written, section_len_written}

-- ---- adding

pub not_if : (b : Bool) → not b ≡ (when b then false else true)
unfolding when◌then◌else◌
not_if true = refl
not_if false = refl

-- the add that is called is the one that the numbers of the call make
pub same_add : (area numbers : List ℕ) (b : Builder) (kind : Kind) (tombstone : ℕ) (key value : List ℕ) (seq mark offset : ℕ)
    → b ≡ builder_in numbers → kind ≡ (when eqb tombstone 0 then Put else Tombstone)
    → add_of area b (record { kind = kind; key = key; value = value; seq = seq; new_key = not (eqb mark 0); offset = offset })
    ≡ add_of area (builder_in numbers) (offer_from tombstone key value seq mark offset)
unfolding offer_from
same_add area numbers b kind tombstone key value seq mark offset p q = rw (p, q, not_if (eqb mark 0))

pub added_taken : (x : Result BuilderState Refusal) (after : Builder) (before : List ℕ) → Ok after ≡ added_builder x
    → (0 ≡ answer_number x) × (sets before 0 (builder_numbers after) ≡ builder_written x before)
unfolding added_builder answer_number builder_written
added_taken (Ok s) after before e = (refl, ap (λ (b : Builder). sets before 0 (builder_numbers b)) (same_ok e))
added_taken (Err r) after before e = refused_ok (sym e)

pub added_refused : (x : Result BuilderState Refusal) (r : Refusal) (before : List ℕ) → Err r ≡ added_builder x
    → (refusal_number r ≡ answer_number x) × (before ≡ builder_written x before)
unfolding added_builder answer_number builder_written
added_refused (Ok s) r before e = refused_ok e
added_refused (Err q) r before e = (ap refusal_number (same_refusal e), refl)

-- ---- writing

-- the length behind writing is what an answer leaves of it
pub length_left : (x : Result (List ℕ) Refusal) (before : ℕ) → answer_left (wrote_read x) before ≡ section_len_written x before
unfolding wrote_read section_len_written
length_left (Ok s) before = refl
length_left (Err e) before = refl

-- and its number is the number of writing
pub number_left : (x : Result (List ℕ) Refusal) → answer_number (wrote_read x) ≡ answer_number x
unfolding wrote_read answer_number
number_left (Ok s) = refl
number_left (Err e) = refl
