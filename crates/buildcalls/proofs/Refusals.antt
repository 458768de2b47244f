-- A call of building that is refused writes nothing.
-- Assumes nothing.
use mathlib.Core.Path.{◌≡◌, refl, ◌∙◌}
use mathlib.Core.List.{List}
use Prim.Native.Nat.{ℕ}
use Rattle.std.specs.Prelude.{Result, Ok, Err}
use Rattle.refusal.specs.declared.Refusal.{Refusal}
use Rattle.refusal.specs.Refusal.{answer_number}
use Rattle.builder.specs.Add.{BuilderState, added_area}
use Rattle.writer.specs.Write.{section_written}
use Rattle.builds.specs.Built.{builder_written, size_written, section_len_written}
use Rattle.buildcalls.specs.BuildCalls.{adds, writes, BuildRefusalsWriteNothing}

add_kept : (x : Result BuilderState Refusal) (area numbers : List ℕ) → (answer_number x ≡ 0 → ⊥)
    → (added_area x area ≡ area) × (builder_written x numbers ≡ numbers)
unfolding answer_number added_area builder_written
add_kept (Ok s) area numbers n = absurd (n refl)
add_kept (Err k) area numbers n = (refl, refl)

size_kept : (x : Result ℕ Refusal) (before : ℕ) → (answer_number x ≡ 0 → ⊥) → size_written x before ≡ before
unfolding answer_number size_written
size_kept (Ok k) before n = absurd (n refl)
size_kept (Err k) before n = refl

write_kept : (x : Result (List ℕ) Refusal) (output : List ℕ) (len : ℕ) → (answer_number x ≡ 0 → ⊥)
    → (section_written x output ≡ output) × (section_len_written x len ≡ len)
unfolding answer_number section_written section_len_written
write_kept (Ok s) output len n = absurd (n refl)
write_kept (Err k) output len n = (refl, refl)

pub build_refusals_write_nothing : BuildRefusalsWriteNothing
build_refusals_write_nothing =
    record {
      adding = λ c n.
          let k = add_kept (adds c.lent) c.lent.area c.lent.numbers (λ z. n (c.returns ∙ z)) in
          (c.leaves_area ∙ k.0, c.leaves ∙ k.1);
      sizing = λ c n. c.leaves ∙ size_kept _ c.before (λ z. n (c.returns ∙ z));
      writing = λ c n.
          let k = write_kept (writes c.lent) c.lent.output c.lent.len (λ z. n (c.returns ∙ z)) in
          (c.leaves_output ∙ k.0, c.leaves_len ∙ k.1);
    }
