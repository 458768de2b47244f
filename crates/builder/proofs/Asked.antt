-- What an add that is taken has passed, and what it answers.
-- Assumes nothing.
use Rattle.std.proofs.Common.{◌≡◌, ℕ, ◌+◌, ◌^◌, ◌≤◌, Bool, true, false, List, length, Result, Ok, Err, refl, sym, ap, ◌∙◌}
use borrow.Author.Tests.{leb-true}
use Rattle.num.specs.Choice.{when◌then◌else◌}
use Rattle.num.proofs.Choice.{both_true}
use Rattle.refusal.specs.declared.Refusal.{Refusal}
use Rattle.refusal.proofs.Asked.{asked, refused_ok, same_ok}
use Rattle.sstable.specs.Limits.{within_limits, limit_defs}
use Rattle.builder.specs.declared.Builder.{Builder}
use Rattle.builder.specs.Offer.{Offer, entry_len}
use Rattle.builder.specs.Record.{builder_after}
use Rattle.builder.specs.Add.{max_keys, area_after_of, counted_of, BuilderState, add_of, refusal_in, RefusedWith, added_builder, added_area}
use Rattle.builder.specs.Internal.{Passed, questions_of}

-- a key within the limits
pub key_limit : (keyLen valueLen : ℕ) → within_limits keyLen valueLen ≡ true → keyLen ≤ 1048576
unfolding limit_defs
key_limit keyLen valueLen e = leb-true _ _ (both_true _ _ e).0

-- and a value
pub value_limit : (keyLen valueLen : ℕ) → within_limits keyLen valueLen ≡ true → valueLen ≤ 16777216
unfolding limit_defs
value_limit keyLen valueLen e = leb-true _ _ (both_true _ _ e).1

-- what all questions leave of an offer that is taken
pub record Accepted (area : List ℕ) (b : Builder) (e : Offer) : Type 0 where
  pub passed : Passed area b e
  pub offset : b.totals.last_value_offset ≤ e.offset
  pub few : b.totals.keys + (when e.new_key then 1 else 0) ≤ max_keys
  pub bound : b.used + entry_len e ≤ 2 ^ 30

abbrev state_after : List ℕ → Builder → Offer → BuilderState
state_after area b e = record { area = area_after_of area b e; builder = builder_after area b (counted_of area b e) }

module _ (area : List ℕ) (b : Builder) (e : Offer) where
  -- the answer of an offer that is taken
  pub accepted : (s : BuilderState) → add_of area b e ≡ Ok s → Accepted area b e × (s ≡ state_after area b e)
  unfolding add_of
  accepted s q =
      let q₀ = asked _ _ _ _ q in
      let q₁ = asked _ _ _ _ q₀.1 in
      let q₂ = asked _ _ _ _ q₁.1 in
      let q₃ = asked _ _ _ _ q₂.1 in
      let q₄ = asked _ _ _ _ q₃.1 in
      let q₅ = asked _ _ _ _ q₄.1 in
      let r = both_true _ _ q₅.0 in (
        record {
          passed = record { limits = q₀.0; follows = q₁.0; stands = q₄.0; room = leb-true _ _ r.0 };
          offset = leb-true _ _ q₂.0;
          few = leb-true _ _ q₃.0;
          bound = leb-true _ _ r.1;
        },
        sym (same_ok q₅.1),
      )

  -- no question fails: the offer is taken
  pub taken : Ok tt ≡ refusal_in (add_of area b e) → Passed area b e × (add_of area b e ≡ Ok (state_after area b e))
  unfolding refusal_in
  taken h = go (add_of area b e) refl h
    where
      go : (a : Result BuilderState Refusal) → add_of area b e ≡ a → Ok tt ≡ refusal_in a → Passed area b e × (add_of area b e ≡ Ok (state_after area b e))
      go (Ok s) q h = let t = accepted s q in (t.0.passed, q ∙ ap Ok t.1)
      go (Err r) q h = refused_ok (sym h)

-- what an add answers and leaves where its questions are passed, and where one is not
pub taken_answer : (a : Result BuilderState Refusal) (s : BuilderState) (before : List ℕ) → a ≡ Ok s → {r : Builder} {x : List ℕ} → r ≡ s.builder → x ≡ s.area
    → (Ok r ≡ added_builder a) × (x ≡ added_area a before)
unfolding added_builder added_area
taken_answer a s before q p f =
    (ap Ok p ∙ sym (ap added_builder q), f ∙ sym (ap (λ (y : Result BuilderState Refusal). added_area y before) q))

pub refused_builder : (a : Result BuilderState Refusal) (e : Refusal) → Err e ≡ refusal_in a → added_builder a ≡ Err e
unfolding refusal_in added_builder
refused_builder (Ok s) e h = refused_ok h
refused_builder (Err r) e h = cc

pub refused_area : (a : Result BuilderState Refusal) (e : Refusal) (before : List ℕ) → Err e ≡ refusal_in a → added_area a before ≡ before
unfolding refusal_in added_area
refused_area (Ok s) e before h = refused_ok h
refused_area (Err r) e before h = refl

-- a question of an add is one of the questions by lengths
question : (test : Bool) (r : Refusal) (q : Result (Unit {0}) Refusal) (a : Result BuilderState Refusal) → q ≡ refusal_in a
    → (when test then q else Err r) ≡ refusal_in (when test then a else Err r)
unfolding when◌then◌else◌ refusal_in
question true r q a h = h
question false r q a h = refl

questions_same : (area : List ℕ) (b : Builder) (e : Offer) → questions_of area b (length e.key) (length e.value) e.new_key e.offset ≡ refusal_in (add_of area b e)
unfolding questions_of add_of refusal_in entry_len
questions_same area b e =
    question _ _ _ _ (question _ _ _ _ (question _ _ _ _ (question _ _ _ _ (question _ _ _ _ (question _ _ _ _ refl)))))

-- what the questions by lengths answer, they answer of every offer of these lengths
pub refused_with : (area : List ℕ) (b : Builder) (keyLen valueLen : ℕ) (new : Bool) (place : ℕ) (answer : Result (Unit {0}) Refusal)
    → answer ≡ questions_of area b keyLen valueLen new place → RefusedWith area b keyLen valueLen new place answer
refused_with area b keyLen valueLen new place answer h =
    record { each = λ e l. h ∙ (rw (← l.key_len, ← l.value_len, ← l.new_key, ← l.offset) (questions_same area b e)) }
