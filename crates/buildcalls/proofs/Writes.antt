-- What stands behind a list of adds, and what writing gives there.
-- Assumes nothing.
use mathlib.Core.Path.{◌≡◌, refl, sym, ap, ap₂, ◌∙◌, subst, subst⁻¹}
use mathlib.Core.Bool.{true}
use mathlib.Core.List.{List, []}
use Prim.Native.Nat.{ℕ, ◌≤◌}
use native.Mathlib.Omega.{arith}
use lib.ListN.{length, take}
use borrow.Author.Tests.{leb-true}
use Rattle.std.specs.Prelude.{Result, Ok, Err}
use Rattle.refusal.specs.declared.Refusal.{Refusal}
use Rattle.refusal.specs.declared.Refusal.TheVariants as refusal
use Rattle.refusal.specs.Refusal.{answer_number}
use Rattle.refusal.proofs.Asked.{refused_ok}
use Rattle.num.proofs.Choice.{if_true, if_first, both_true}
use Rattle.num.proofs.Lists.{part_sets_same}
use Rattle.encoding.specs.Encoding.{encoding_of, section_len_of}
use Rattle.area.specs.Area.{keys_in_of}
use Rattle.construction.specs.Construct.{construct_of}
use Rattle.builder.specs.declared.Builder.{Builder}
use Rattle.builder.specs.Offer.{Offer}
use Rattle.builder.specs.Record.{sizeable, size_of_section}
use Rattle.builder.specs.Add.{BuilderState}
use Rattle.readback.specs.ReadBack.{reads_back_of}
use Rattle.writer.specs.Write.{section_for, write_of}
use Rattle.building.specs.Run.{Lending, run_of}
use Rattle.building.specs.Taken.{groups_of, area_of, builder_of}
use Rattle.building.specs.State.{RunsKeep}
use Rattle.building.specs.Builds.{size_for, write_run, Outcome, prefix_long, no_entry, scratch_short, output_short, no_seed, section, WritesExactly, BuiltSection, SizeIsLength, SameSections}
use Rattle.building.proofs.State.{runs_keep}
use Rattle.building.proofs.Writing.{writes_exactly}
use Rattle.building.proofs.Promises.{size_is_length, same_sections}
use Rattle.numbers.specs.BuilderNumbers.{builder_numbers, builder_in}
use Rattle.builds.specs.Built.{size_written}
use Rattle.buildcalls.specs.BuildCalls.{SizeCall, writes, WriteCall, Memory, AsLeft, numbers_for, AddsKeep, WriteCalls, Built, SizeCalls, SameSectionCalls}
use Rattle.buildcalls.proofs.Answers.{same_given, wrote, wrote_left}
use Rattle.buildcalls.proofs.Adds.{Leaves, same_builder, same_area, lending, same_add, run_of_lem}

-- what the questions leave of a section that is written
pub record Fits (area : List ℕ) (b : Builder) (prefix room : ℕ) (s : List ℕ) : Type 0 where
  pub sized : sizeable b ≡ true
  pub read : reads_back_of area b ≡ true
  pub inside : section_len_of (encoding_of b.totals) b.totals prefix ≤ room
  pub bytes : section_for area b prefix (construct_of (keys_in_of area b.totals.keys)) ≡ Ok s

pub fits : (area : List ℕ) (b : Builder) (prefix room64 room32 room : ℕ) (s : List ℕ) → write_of area b prefix room64 room32 room ≡ Ok s
    → Fits area b prefix room s
unfolding write_of
fits area b prefix room64 room32 room s q =
    let q₀ = if_first _ _ _ _ refused_ok q in
    let q₁ = if_first _ _ _ _ refused_ok q₀.1 in
    let q₂ = if_first _ _ _ _ refused_ok q₁.1 in
    let q₃ = if_first _ _ _ _ refused_ok q₂.1 in
    let q₄ = if_first _ _ _ _ refused_ok q₃.1 in
    let r = both_true _ _ q₂.0 in
    record { sized = r.0; read = r.1; inside = leb-true _ _ q₄.0; bytes = q₄.1 }

-- ---- behind a run

module _ (ls : List Lending) {m : Memory} {taken : List Offer} (v : Leaves (run_of ls) m taken) where
  size_same : (c : SizeCall) → c.numbers ≡ m.numbers → size_of_section (builder_in c.numbers) c.prefix ≡ size_of_section (run_of ls).builder c.prefix
  size_same c e = ap (λ (b : Builder). size_of_section b c.prefix) (same_builder v (record { same = e; rest = []; begins = refl }))

  -- the size told
  size_told : (c : SizeCall) → c.numbers ≡ m.numbers → size_of_section (builder_in c.numbers) c.prefix ≡ Ok (size_for taken c.prefix)
  unfolding RunsKeep size_of_section size_for builder_of
  size_told c e =
      let k = runs_keep ls in
      size_same c e
      ∙ if_true _ _ (Err refusal.Builder) k.sizes
      ∙ ap (λ (b : Builder). Ok (section_len_of (encoding_of b.totals) b.totals c.prefix)) k.record_is
      ∙ ap (λ (t : List Offer). Ok (size_for t c.prefix)) (sym v.entries)

  -- ---- a call of writing

  module _ (c : WriteCall) (left : AsLeft m c.lent.numbers c.lent.area) where
    write_same : writes c.lent ≡ write_run ls left.rest c.lent.prefix c.lent.room64 c.lent.room32 (length c.lent.output)
    unfolding write_run
    write_same =
        ap₂ (λ (u : List ℕ) (b : Builder). write_of u b c.lent.prefix c.lent.room64 c.lent.room32 (length c.lent.output)) (same_area v left) (same_builder v left)

    outcome : Outcome taken c.lent.prefix c.lent.room64 c.lent.room32 (length c.lent.output) (writes c.lent)
    unfolding WritesExactly
    outcome =
        subst⁻¹ (λ (t : List Offer). Outcome t c.lent.prefix c.lent.room64 c.lent.room32 (length c.lent.output) (writes c.lent)) v.entries
        ((writes_exactly ls left.rest c.lent.prefix c.lent.room64 c.lent.room32 (length c.lent.output) (writes c.lent)).0 (sym write_same))

    module _ (s : List ℕ) (q : writes c.lent ≡ Ok s) where
      section-of : BuiltSection ls c.lent.prefix s
      section-of =
          record {
            rest = left.rest;
            room64 = c.lent.room64;
            room32 = c.lent.room32;
            room = length c.lent.output;
            written = sym write_same ∙ q;
          }

      -- it lies in the output
      section_inside : length s ≤ length c.lent.output
      unfolding SizeIsLength size_of_section
      section_inside =
          let f = fits c.lent.area (builder_in c.lent.numbers) c.lent.prefix c.lent.room64 c.lent.room32 (length c.lent.output) s q in
          let l = f.inside in
          let size = sym (if_true _ _ (Err refusal.Builder) f.sized) ∙ ap (λ (b : Builder). size_of_section b c.lent.prefix) (same_builder v left)
          ∙ size_is_length ls c.lent.prefix s section-of in
          let e = same_given size in
          omega arith

-- 37 is no outcome
not_37 : (taken : List Offer) (prefix room64 room32 room : ℕ) (a : Result (List ℕ) Refusal) → Outcome taken prefix room64 room32 room a → answer_number a ≡ 37 → ⊥
unfolding answer_number
not_37 taken prefix room64 room32 room a (prefix_long p) e = absurd (omega arith)
not_37 taken prefix room64 room32 room a (no_entry p n) e = absurd (omega arith)
not_37 taken prefix room64 room32 room a (scratch_short p h s) e = absurd (omega arith)
not_37 taken prefix room64 room32 room a (output_short p h s l) e = absurd (omega arith)
not_37 taken prefix room64 room32 room a (no_seed p h s l f) e = absurd (omega arith)
not_37 taken prefix room64 room32 room a (section p h s l c q) e = absurd (omega arith)

-- ---- the demands

pub adds_keep : AddsKeep
unfolding AddsKeep RunsKeep numbers_for builder_numbers builder_of answer_number size_written
adds_keep m taken calls =
    let r = run_of_lem m taken calls in
    let ls = r.0 in
    let v = r.1 in
    let k = runs_keep ls in
    record {
      numbers = v.numbers ∙ ap builder_numbers k.record_is ∙ ap numbers_for (sym v.entries);
      used = v.used ∙ k.area_is ∙ ap (λ (t : List Offer). area_of (groups_of t)) (sym v.entries);
      adding = λ c left e.
          k.adds (lending c left)
          (ap (λ (a : Result BuilderState Refusal). answer_number a) (sym (same_add c left ls taken v)) ∙ (sym c.returns ∙ e));
      sizing = λ c e.
          let s = size_told ls v c e in
          (c.returns ∙ ap (λ (a : Result ℕ Refusal). answer_number a) s, c.leaves ∙ ap (λ (a : Result ℕ Refusal). size_written a c.before) s);
      writing = λ c left e. not_37 _ _ _ _ _ _ (outcome ls v c left) (sym c.returns ∙ e);
    }

pub write_calls : WriteCalls
unfolding WriteCalls
write_calls m taken calls c left =
    let r = run_of_lem m taken calls in
    record { answer = writes c.lent; outcome = outcome r.0 r.1 c left; result = c.returns; output = c.leaves_output; len = c.leaves_len }

-- a section that was built at the entries is one that a run built
pub record ByRun (ls : List Lending) (taken : List Offer) (memory : Memory) (prefix : ℕ) (s : List ℕ) : Type 0 where
  pub leaves : Leaves (run_of ls) memory taken
  pub section : BuiltSection ls prefix s

pub by_run : (taken : List Offer) (prefix : ℕ) (s : List ℕ) (b : Built taken prefix s) → (ls : List Lending) × ByRun ls taken b.memory prefix s
by_run taken prefix s b =
    let r = run_of_lem b.memory taken b.entries in
    let c = b.call in
    let t = wrote c b.zero in
    let l = wrote_left c t.0 t.1 in
    let h = section_inside r.0 r.1 c b.left t.0 t.1 in
    let same : s ≡ t.0
    = b.bytes ∙ ap₂ (λ (n : ℕ) (o : List ℕ). take n o) l.1 l.0 ∙ part_sets_same t.0 c.lent.output 0 (omega arith) in (
      r.0,
      record {
        leaves = r.1;
        section =
            subst⁻¹ (BuiltSection r.0 prefix) same
            (subst (λ (p : ℕ). BuiltSection r.0 p t.0) b.same_prefix (section-of r.0 r.1 c b.left t.0 t.1));
      },
    )

pub size_calls : SizeCalls
unfolding SizeCalls SizeIsLength size_written
size_calls taken prefix s b c e p =
    let r = by_run taken prefix s b in
    let v = r.1.leaves in
    c.leaves
    ∙ ap (λ (a : Result ℕ Refusal). size_written a c.before)
    (size_same r.0 v c e ∙ ap (size_of_section (run_of r.0).builder) p ∙ size_is_length r.0 prefix s r.1.section)

-- P8 at the entries
pub same_section_calls : SameSectionCalls
unfolding SameSectionCalls SameSections
same_section_calls taken prefix s t a b =
    let x = by_run taken prefix s a in
    let y = by_run taken prefix t b in
    same_sections x.0 y.0 prefix s t x.1.section y.1.section (sym x.1.leaves.entries ∙ y.1.leaves.entries)
