-- What the number of a call says of the answer behind it, and what the call then leaves.
-- Assumes nothing.
use mathlib.Core.Path.{◌≡◌, refl, sym, ap, ◌∙◌}
use mathlib.Core.List.{List}
use Prim.Native.Nat.{ℕ}
use native.Mathlib.Omega.{arith}
use lib.ListN.{length}
use lib.Seq.{sets}
use Rattle.std.specs.Prelude.{Result, Ok}
use Rattle.refusal.specs.declared.Refusal.{Refusal}
use Rattle.builder.specs.Add.{BuilderState, add_of, added_area}
use Rattle.writer.specs.Write.{section_written}
use Rattle.numbers.specs.BuilderNumbers.{builder_numbers, builder_in}
use Rattle.numbers.proofs.BuilderNumbers.{builder_stands}
use Rattle.refusal.proofs.Asked.{refused_ok}
use Rattle.std.specs.Prelude.{Err}
use Rattle.numbered.specs.Numbers.{AddsNumbered, WritesNumbered}
use Rattle.numbered.proofs.Numbers.{adds_numbered, writes_numbered}
use Rattle.builds.specs.Built.{offer_from, builder_written, section_len_written}
use Rattle.buildcalls.specs.BuildCalls.{AddLent, offered, adds, AddCall, writes, WriteCall}

pub same_given : {A : Type 0} {a b : A} → ◌≡◌ {A = Result A Refusal} (Ok a) (Ok b) → a ≡ b
same_given e = cc

pub not_both : {A : Type 0} (n : Refusal) (a : A) → ◌≡◌ {A = Result A Refusal} (Err n) (Ok a) → ⊥
not_both n a e = refused_ok e

-- ---- adds

-- the entry of the contract is the one that the call offers
pub same_offer : (lent : AddLent) → adds lent ≡ add_of lent.area (builder_in lent.numbers) (offered lent)
unfolding offered offer_from
same_offer lent = refl

-- the result 0: the entry was taken
pub added : (c : AddCall) → c.result ≡ 0 → (s : BuilderState) × (adds c.lent ≡ Ok s)
unfolding AddsNumbered
added c z =
    let l = c.lent in
    (adds_numbered l.area l.numbers (offer_from l.tombstone l.key l.value l.seq l.new_key l.offset)).zero.0 (sym c.returns ∙ z)

pub added_left : (c : AddCall) (s : BuilderState) → adds c.lent ≡ Ok s → (c.numbers_after ≡ builder_numbers s.builder) × (c.area_after ≡ s.area)
unfolding builder_written added_area
added_left c s q = (
  c.leaves ∙ ap (λ (a : Result BuilderState Refusal). builder_written a c.lent.numbers) q ∙ builder_stands c.lent.numbers s.builder c.lent.sixteen,
  c.leaves_area ∙ ap (λ (a : Result BuilderState Refusal). added_area a c.lent.area) q,
)

-- ---- writing

-- the result 0: the section was written
pub wrote : (c : WriteCall) → c.result ≡ 0 → (s : List ℕ) × (writes c.lent ≡ Ok s)
unfolding WritesNumbered
wrote c z =
    let l = c.lent in
    (writes_numbered l.area l.numbers l.prefix l.room64 l.room32 (length l.output)).zero.0 (sym c.returns ∙ z)

pub wrote_left : (c : WriteCall) (s : List ℕ) → writes c.lent ≡ Ok s → (c.output_after ≡ sets c.lent.output 0 s) × (c.len_after ≡ length s)
unfolding section_written section_len_written
wrote_left c s q = (
  c.leaves_output ∙ ap (λ (a : Result (List ℕ) Refusal). section_written a c.lent.output) q,
  c.leaves_len ∙ ap (λ (a : Result (List ℕ) Refusal). section_len_written a c.lent.len) q,
)
