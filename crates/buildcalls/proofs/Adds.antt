-- A list of adds at the entries is a run: the sixteen numbers are the record's, and the used bytes the run's.
-- Assumes nothing.
use mathlib.Core.Path.{◌≡◌, refl, sym, ap, ap₂, ◌∙◌, subst⁻¹}
use mathlib.Core.List.{List, [], ◌∷◌, ◌++◌}
use Prim.Native.Nat.{ℕ}
use lib.ListN.{length, take}
use lib.Seq.{take_at}
use borrow.Author.Tests.{eq-eqb, ne_eqb}
use Rattle.std.specs.Prelude.{Result, Ok, Err}
use Rattle.refusal.specs.declared.Refusal.{Refusal}
use Rattle.refusal.specs.Refusal.{answer_number}
use Rattle.num.proofs.Choice.{if_true, if_false}
use Rattle.builder.specs.declared.Builder.{Builder}
use Rattle.builder.specs.Offer.{Offer}
use Rattle.builder.specs.Record.{empty_builder}
use Rattle.builder.specs.Add.{BuilderState, add_of, added_area}
use Rattle.building.specs.Run.{Lending, Run, empty_run, run_for, run_step, run_from, run_of}
use Rattle.building.specs.Taken.{builder_of}
use Rattle.building.specs.State.{RunsKeep}
use Rattle.building.proofs.State.{runs_keep}
use Rattle.numbers.specs.BuilderNumbers.{builder_numbers, builder_in}
use Rattle.numbers.proofs.BuilderNumbers.{builder_read}
use Rattle.builds.specs.Built.{builder_written}
use Rattle.calls.specs.Calls.{place}
use Rattle.buildcalls.specs.BuildCalls.{offered, adds, AddCall, Memory, no_entries, AsLeft, left_by, taken_with, AddCalls, none, next}
use Rattle.buildcalls.proofs.Answers.{not_both, same_offer, added, added_left}

-- one more add at the end of a run
run_more : (r : Run) (ls : List Lending) (l : Lending) → run_from r (ls ++ (l ∷ [])) ≡ run_step (run_from r ls) l
unfolding run_from
run_more r [] l = refl
run_more r (k ∷ ls) l = run_more (run_step r k) ls l

-- what a run leaves at the entries
pub record Leaves (r : Run) (m : Memory) (taken : List Offer) : Type 0 where
  pub numbers : m.numbers ≡ builder_numbers r.builder
  pub used : m.used ≡ r.used
  pub entries : taken ≡ r.taken

-- what is lent behind it
module _ {r : Run} {m : Memory} {taken : List Offer} (v : Leaves r m taken) {numbers area : List ℕ} (left : AsLeft m numbers area) where
  pub same_builder : builder_in numbers ≡ r.builder
  same_builder = ap builder_in (left.same ∙ v.numbers) ∙ builder_read r.builder

  pub same_area : area ≡ r.used ++ left.rest
  same_area = left.begins ∙ ap (λ (u : List ℕ). u ++ left.rest) v.used

-- the used bytes are as many as the record says
used_length : (ls : List Lending) → length (run_of ls).used ≡ (run_of ls).builder.used
unfolding RunsKeep builder_of
used_length ls = let k = runs_keep ls in ap length k.area_is ∙ ap (λ (b : Builder). b.used) (sym k.record_is)

-- one call more
module _ (c : AddCall) {m : Memory} (left : AsLeft m c.lent.numbers c.lent.area) where
  pub lending : Lending
  unfolding offered
  lending = record { offer = offered c.lent; seq_fits = c.lent.seq_fits; offset_fits = c.lent.offset_fits; rest = left.rest }

  module _ (ls : List Lending) (taken : List Offer) (v : Leaves (run_of ls) m taken) where
    abbrev run : Run
    run = run_of ls

    pub same_add : adds c.lent ≡ add_of (run.used ++ lending.rest) run.builder lending.offer
    unfolding lending
    same_add = same_offer c.lent ∙ ap₂ (λ (u : List ℕ) (b : Builder). add_of u b (offered c.lent)) (same_area v left) (same_builder v left)

    -- taken
    add-taken : (s : BuilderState) → adds c.lent ≡ Ok s → Leaves (run_for run lending.offer (Ok s)) (left_by c) (taken_with taken c)
    unfolding lending left_by taken_with run_for builder_numbers answer_number
    add-taken s q =
        let zero : c.result ≡ 0 = c.returns ∙ ap (λ (a : Result BuilderState Refusal). answer_number a) q in
        let l = added_left c s q in
        record {
          numbers = l.0;
          used = ap₂ (λ (n l : List ℕ). take (place n 3) l) l.0 l.1;
          entries = if_true _ _ _ (eq-eqb c.result 0 zero) ∙ ap (λ (l : List Offer). l ++ (offered c.lent ∷ [])) v.entries;
        }

    -- refused
    add-refused : (n : Refusal) → adds c.lent ≡ Err n → Leaves run (left_by c) (taken_with taken c)
    unfolding left_by taken_with builder_numbers builder_written added_area
    add-refused n q =
        let some : c.result ≡ 0 → ⊥ = λ z. let s = added c z in not_both n s.0 (sym q ∙ s.1) in
        let numbers : c.numbers_after ≡ builder_numbers run.builder
        = c.leaves ∙ ap (λ (a : Result BuilderState Refusal). builder_written a c.lent.numbers) q ∙ left.same ∙ v.numbers in
        let area : c.area_after ≡ run.used ++ left.rest
        = c.leaves_area ∙ ap (λ (a : Result BuilderState Refusal). added_area a c.lent.area) q ∙ same_area v left in
        record {
          numbers = numbers;
          used = ap₂ (λ (n l : List ℕ). take (place n 3) l) numbers area ∙ take_at run.used left.rest run.builder.used (used_length ls);
          entries = if_false _ _ _ (ne_eqb c.result 0 some) ∙ v.entries;
        }

    one_more : Leaves (run_of (ls ++ (lending ∷ []))) (left_by c) (taken_with taken c)
    unfolding run_of run_step run_for
    one_more = subst⁻¹ (λ (r : Run). Leaves r (left_by c) (taken_with taken c)) (run_more empty_run ls lending) (go _ refl)
      where
        go : (a : Result BuilderState Refusal) → add_of (run.used ++ lending.rest) run.builder lending.offer ≡ a
            → Leaves (run_for run lending.offer a) (left_by c) (taken_with taken c)
        go (Ok s) q = add-taken s (same_add ∙ q)
        go (Err n) q = add-refused n (same_add ∙ q)

-- every list of adds leaves what a run leaves
pub run_of_lem : (m : Memory) (taken : List Offer) → AddCalls m taken → (ls : List Lending) × Leaves (run_of ls) m taken
unfolding no_entries run_of run_from empty_run empty_builder builder_numbers
run_of_lem m taken none = ([], record { numbers = refl; used = refl; entries = refl })
run_of_lem m taken (next n t calls c left) = let r = run_of_lem n t calls in (r.0 ++ (lending c left ∷ []), one_more c left r.0 t r.1)
