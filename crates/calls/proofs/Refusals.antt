-- A call whose result is not 0 writes nothing.
-- Assumes nothing.
use mathlib.Core.Path.{◌≡◌, refl, ◌∙◌}
use mathlib.Core.List.{List}
use Prim.Native.Nat.{ℕ}
use Rattle.std.specs.Prelude.{Some, None, Result, Ok, Err}
use Rattle.refusal.specs.Refusal.{answer_number}
use Rattle.refusal.specs.declared.Refusal.{Refusal}
use Rattle.header.specs.declared.Opened.{Opened}
use Rattle.packing.specs.Packing.{PackedForm, packed_read, packed_written}
use Rattle.locator.specs.Locator.{Located}
use Rattle.opens.specs.Written.{record_written, packed_record_written, packed_len_written}
use Rattle.looks.specs.Looked.{answer_written}
use Rattle.calls.specs.Calls.{packs, RefusalsWriteNothing}

-- what is left, where the number is not 0
record_kept : (r : Result Opened Refusal) (before : List ℕ) → (answer_number r ≡ 0 → ⊥) → record_written r before ≡ before
unfolding answer_number record_written
record_kept (Ok o) before n = absurd (n refl)
record_kept (Err k) before n = refl

pack_kept : (x : Result PackedForm Refusal) (output before : List ℕ) (len : ℕ) → (answer_number (packed_read x) ≡ 0 → ⊥)
    → (packed_written x output ≡ output) × ((packed_record_written x before ≡ before) × (packed_len_written x len ≡ len))
unfolding answer_number packed_read packed_written packed_record_written packed_len_written
pack_kept (Ok p) output before len n = absurd (n refl)
pack_kept (Err k) output before len n = (refl, (refl, refl))

answer_kept : (r : Located) (before : List ℕ) → (answer_number r ≡ 0 → ⊥) → answer_written r before ≡ before
unfolding answer_number answer_written
answer_kept (Ok (Some l)) before n = absurd (n refl)
answer_kept (Ok None) before n = absurd (n refl)
answer_kept (Err k) before n = refl

pub refusals_write_nothing : RefusalsWriteNothing
refusals_write_nothing =
    record {
      opening = λ c n. c.leaves ∙ record_kept _ c.before (λ z. n (c.returns ∙ z));
      packing = λ c n.
          let k = pack_kept (packs c.lent _) c.output c.before c.len (λ z. n (c.returns ∙ z)) in
          (c.leaves_output ∙ k.0, (c.leaves ∙ k.1.0, c.leaves_len ∙ k.1.1));
      lookup = λ h key limit c n. c.leaves ∙ answer_kept _ c.before (λ z. n (c.returns ∙ z));
    }
