-- The results of every call of `kiban_size` and of `kiban_write`, by their questions in plain terms.
-- Assumes nothing.
use mathlib.Core.Path.{◌≡◌, refl, sym, ap, ◌∙◌, subst}
use mathlib.Core.Bool.{Bool, true, false}
use mathlib.Core.List.{List}
use mathlib.Core.Logic.{◌↔◌}
use Prim.Native.Nat.{ℕ, ◌<◌, ◌≤◌}
use native.Mathlib.Omega.{arith}
use lib.Dec.{leb, ltb}
use lib.ListN.{length}
use borrow.Author.Tests.{leb-true, leb-false, le-leb, lt-leb, ltb-true, ltb-false, lt-ltb, le-ltb}
use Rattle.std.specs.Prelude.{Result, Ok, Err}
use Rattle.refusal.specs.declared.Refusal.{Refusal}
use Rattle.refusal.specs.declared.Refusal.TheVariants as refusal
use Rattle.refusal.specs.Refusal.{refusal_number, answer_number}
use Rattle.num.specs.Choice.{when◌then◌else◌, both}
use Rattle.num.proofs.Choice.{if_true, if_false, if_case, both_true, true_both}
use Rattle.encoding.specs.Encoding.{encoding_of, section_len_of}
use Rattle.construction.specs.Construct.{Constructed, construct_of}
use Rattle.construction.specs.Promises.{SeedDecided}
use Rattle.construction.proofs.Promises.{seed_decided}
use Rattle.area.specs.Area.{keys_in_of}
use Rattle.builder.specs.declared.Builder.{Builder}
use Rattle.builder.specs.Record.{sizeable, size_of_section}
use Rattle.readback.specs.ReadBack.{reads_back_of}
use Rattle.writer.specs.Write.{scratch_enough, section_for, write_of}
use Rattle.numbers.specs.BuilderNumbers.{builder_in}
use Rattle.calls.specs.Calls.{place}
use Rattle.buildcalls.specs.BuildCalls.{WriteLent, writes}
use Rattle.buildcalls.proofs.Answers.{same_given, not_both}
use Rattle.buildasks.specs.Asked.{Sizeable, SizesExactly, Writable, ScratchesHold, OutputHolds, NoSeed, WriteResult, asked_35, asked_36, asked_37, asked_38, asked_39, asked_40, written, WritesAsked}
use Rattle.buildasks.proofs.Records.{no_of, of_no, sizeable_asked}

-- ---- size

module _ (numbers : List ℕ) (prefix : ℕ) where
  abbrev told : ℕ
  told = answer_number (size_of_section (builder_in numbers) prefix)

  size_yes : Sizeable numbers → told ≡ 0
  unfolding size_of_section answer_number
  size_yes s = ap (λ (a : Result ℕ Refusal). answer_number a) (if_true _ _ (Err refusal.Builder) ((sizeable_asked numbers).1 s))

  size_no : (Sizeable numbers → ⊥) → told ≡ 37
  unfolding size_of_section answer_number
  size_no n = ap (λ (a : Result ℕ Refusal). answer_number a) (if_false _ _ (Err refusal.Builder) (of_no _ (sizeable_asked numbers) n))

  yes_size : told ≡ 0 → Sizeable numbers
  yes_size z = go (sizeable (builder_in numbers)) refl
    where
      go : (t : Bool) → sizeable (builder_in numbers) ≡ t → Sizeable numbers
      go true q = (sizeable_asked numbers).0 q
      go false q = absurd (let n = size_no (no_of _ (sizeable_asked numbers) q) in omega arith)

pub sizes_exactly : SizesExactly
sizes_exactly =
    record {
      zero = λ c. (λ z. yes_size c.numbers c.prefix (sym c.returns ∙ z), λ s. c.returns ∙ size_yes c.numbers c.prefix s);
      refused_37 = λ c. (
        λ r s. let z = c.returns ∙ size_yes c.numbers c.prefix s in absurd (omega arith),
        λ n. c.returns ∙ size_no c.numbers c.prefix n,
      );
    }

-- ---- writing

-- the number of an answer
refused_with : {a : Result (List ℕ) Refusal} {r : Refusal} → a ≡ Err r → answer_number a ≡ refusal_number r
unfolding answer_number
refused_with q = ap (λ (x : Result (List ℕ) Refusal). answer_number x) q

module _ (lent : WriteLent) where
  abbrev b : Builder
  b = builder_in lent.numbers

  abbrev keys : ℕ
  keys = place lent.numbers 0

  abbrev size : ℕ
  size = section_len_of (encoding_of b.totals) b.totals lent.prefix

  -- ---- each test says what its plain terms say

  abbrev t35 : Bool
  t35 = leb lent.prefix 24

  abbrev t36 : Bool
  t36 = ltb 0 keys

  abbrev t37 : Bool
  t37 = both (sizeable b) (reads_back_of lent.area b)

  writable : (t37 ≡ true) ↔ Writable lent
  writable = (
    λ q. let p = both_true _ _ q in record { sizes = (sizeable_asked lent.numbers).0 p.0; reads = p.1 },
    λ w. true_both _ _ ((sizeable_asked lent.numbers).1 w.sizes) w.reads,
  )

  abbrev t38 : Bool
  t38 = scratch_enough keys lent.room64 lent.room32

  scratches : (t38 ≡ true) ↔ ScratchesHold lent
  unfolding scratch_enough
  scratches = (
    λ q. let p = both_true _ _ q in record { numbers64 = leb-true _ _ p.0; numbers32 = leb-true _ _ p.1 },
    λ s. true_both _ _ (le-leb _ _ s.numbers64) (le-leb _ _ s.numbers32),
  )

  abbrev t39 : Bool
  t39 = leb size (length lent.output)

  size_told : Writable lent → size_of_section b lent.prefix ≡ Ok size
  unfolding size_of_section answer_number
  size_told w = if_true _ _ (Err refusal.Builder) ((sizeable_asked lent.numbers).1 w.sizes)

  output : Writable lent → (t39 ≡ true) ↔ OutputHolds lent
  output w = (
    λ q. record { size = size; told = size_told w; holds = leb-true size (length lent.output) q },
    λ h.
        let e : h.size ≡ size = same_given (sym h.told ∙ size_told w) in
        let l = h.holds in
        le-leb size (length lent.output) (omega arith),
  )

  abbrev area_keys : List (List ℕ)
  area_keys = keys_in_of lent.area keys

  -- ---- the questions in their order

  abbrev section : Result (List ℕ) Refusal
  section = section_for lent.area b lent.prefix (construct_of area_keys)

  abbrev from39 : Result (List ℕ) Refusal
  from39 = when t39 then section else Err refusal.SectionRoom

  abbrev from38 : Result (List ℕ) Refusal
  from38 = when t38 then from39 else Err refusal.BuildScratch

  abbrev from37 : Result (List ℕ) Refusal
  from37 = when t37 then from38 else Err refusal.Builder

  abbrev from36 : Result (List ℕ) Refusal
  from36 = when t36 then from37 else Err refusal.NoKey

  abbrev from35 : Result (List ℕ) Refusal
  from35 = when t35 then from36 else Err refusal.PrefixLong

  questions : writes lent ≡ from35
  unfolding write_of builder_in
  questions = refl

  -- ---- from the result

  constructed : lent.prefix ≤ 24 → 0 < keys → Writable lent → ScratchesHold lent → OutputHolds lent → (a : Result Constructed Refusal) → construct_of area_keys ≡ a
      → WriteResult lent (answer_number (section_for lent.area b lent.prefix a))
  unfolding section_for answer_number SeedDecided NoSeed
  constructed p h w s o (Ok c) e = written p h w s o (λ x. not_both refusal.NoSeed c (sym ((seed_decided area_keys).refuses.1 x) ∙ e))
  constructed p h w s o (Err n) e =
      let q = (seed_decided area_keys).never n e in
      subst (λ (k : Refusal). WriteResult lent (refusal_number k)) (sym q) (asked_40 p h w s o ((seed_decided area_keys).refuses.0 (e ∙ ap Err q)))

  outcome : WriteResult lent (answer_number from35)
  unfolding answer_number
  outcome =
      if_case P t35 from36 (Err refusal.PrefixLong)
      (λ q₀. if_case P t36 from37 (Err refusal.NoKey)
      (λ q₁. if_case P t37 from38 (Err refusal.Builder)
      (λ q₂. if_case P t38 from39 (Err refusal.BuildScratch)
      (λ q₃. if_case P t39 section (Err refusal.SectionRoom)
      (λ q₄. constructed (short q₀) (some q₁) (writable.0 q₂) (scratches.0 q₃) ((output (writable.0 q₂)).0 q₄) (construct_of area_keys) refl)
      (λ n. asked_39 (short q₀) (some q₁) (writable.0 q₂) (scratches.0 q₃) (no_of t39 (output (writable.0 q₂)) n)))
      (λ n. asked_38 (short q₀) (some q₁) (writable.0 q₂) (no_of t38 scratches n)))
      (λ n. asked_37 (short q₀) (some q₁) (no_of t37 writable n)))
      (λ n. asked_36 (short q₀) (let l = ltb-false 0 keys n in omega arith)))
      (λ n. asked_35 (leb-false lent.prefix 24 n))
    where
      P : Result (List ℕ) Refusal → Type 0
      P a = WriteResult lent (answer_number a)

      short : t35 ≡ true → lent.prefix ≤ 24
      short q = leb-true lent.prefix 24 q

      some : t36 ≡ true → 0 < keys
      some q = ltb-true 0 keys q

  -- ---- to the result

  pass_35 : lent.prefix ≤ 24 → from35 ≡ from36
  pass_35 p = if_true t35 from36 (Err refusal.PrefixLong) (le-leb lent.prefix 24 p)

  pass_36 : lent.prefix ≤ 24 → 0 < keys → from35 ≡ from37
  pass_36 p h = pass_35 p ∙ if_true t36 from37 (Err refusal.NoKey) (lt-ltb 0 keys h)

  pass_37 : lent.prefix ≤ 24 → 0 < keys → Writable lent → from35 ≡ from38
  pass_37 p h w = pass_36 p h ∙ if_true t37 from38 (Err refusal.Builder) (writable.1 w)

  pass_38 : lent.prefix ≤ 24 → 0 < keys → Writable lent → ScratchesHold lent → from35 ≡ from39
  pass_38 p h w s = pass_37 p h w ∙ if_true t38 from39 (Err refusal.BuildScratch) (scratches.1 s)

  pass_39 : lent.prefix ≤ 24 → 0 < keys → Writable lent → ScratchesHold lent → OutputHolds lent → from35 ≡ section
  pass_39 p h w s o = pass_38 p h w s ∙ if_true t39 section (Err refusal.SectionRoom) ((output w).1 o)

  no_seed : NoSeed lent → section ≡ Err refusal.NoSeed
  unfolding NoSeed SeedDecided section_for answer_number
  no_seed x = ap (section_for lent.area b lent.prefix) ((seed_decided area_keys).refuses.1 x)

  a_seed : (NoSeed lent → ⊥) → (a : Result Constructed Refusal) → construct_of area_keys ≡ a → answer_number (section_for lent.area b lent.prefix a) ≡ 0
  unfolding NoSeed SeedDecided section_for answer_number
  a_seed some (Ok c) e = refl
  a_seed some (Err n) e = absurd (some ((seed_decided area_keys).refuses.0 (e ∙ ap Err ((seed_decided area_keys).never n e))))

  answered : (n : ℕ) → WriteResult lent n → answer_number from35 ≡ n
  answered n (asked_35 p) = refused_with (if_false t35 from36 (Err refusal.PrefixLong) (lt-leb lent.prefix 24 p))
  answered n (asked_36 p z) = refused_with (pass_35 p ∙ if_false t36 from37 (Err refusal.NoKey) (le-ltb 0 keys (omega arith)))
  answered n (asked_37 p h x) = refused_with (pass_36 p h ∙ if_false t37 from38 (Err refusal.Builder) (of_no t37 writable x))
  answered n (asked_38 p h w x) = refused_with (pass_37 p h w ∙ if_false t38 from39 (Err refusal.BuildScratch) (of_no t38 scratches x))
  answered n (asked_39 p h w s x) = refused_with (pass_38 p h w s ∙ if_false t39 section (Err refusal.SectionRoom) (of_no t39 (output w) x))
  answered n (asked_40 p h w s o x) = refused_with (pass_39 p h w s o ∙ no_seed x)
  answered n (written p h w s o some) =
      ap (λ (x : Result (List ℕ) Refusal). answer_number x) (pass_39 p h w s o) ∙ a_seed some (construct_of area_keys) refl

pub writes_asked : WritesAsked
unfolding WritesAsked
writes_asked c n =
    let number = c.returns ∙ ap (λ (a : Result (List ℕ) Refusal). answer_number a) (questions c.lent) in (
      λ e. subst (WriteResult c.lent) (sym number ∙ e) (outcome c.lent),
      λ r. number ∙ answered c.lent n r,
    )
