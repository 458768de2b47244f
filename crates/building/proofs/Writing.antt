-- When writing gives which answer.
-- Assumes nothing.
use mathlib.Core.Path.{◌≡◌, refl, sym, ap, ap₂, ◌∙◌, subst, subst⁻¹}
use mathlib.Core.Bool.{Bool, true}
use mathlib.Core.List.{List, [], ◌∷◌, ◌++◌}
use Prim.Native.Nat.{ℕ, zero, suc, ◌+◌, ◌*◌, ◌<◌, ◌≤◌}
use native.Mathlib.Omega.{arith}
use lib.Dec.{leb, ltb}
use lib.ListN.{length, get_or, length-append, length-map}
use borrow.Author.Tests.{leb-true, leb-false, ltb-true, ltb-false, le-leb, lt-leb, lt-ltb, le-ltb}
use Rattle.num.specs.Choice.{when◌then◌else◌}
use Rattle.std.specs.Prelude.{Result, Ok, Err}
use Rattle.refusal.specs.declared.Refusal.{Refusal}
use Rattle.refusal.specs.declared.Refusal.TheVariants as refusal
use Rattle.num.proofs.Choice.{if_true, if_false, if_case, both_true, true_both, never_true, false_true}
use Rattle.encoding.specs.Encoding.{encoding_of, section_len_of}
use Rattle.construction.specs.Construct.{Constructed, construct_of}
use Rattle.construction.specs.Promises.{SeedDecided}
use Rattle.construction.proofs.Promises.{seed_decided}
use Rattle.area.specs.Area.{keys_in_of}
use Rattle.builder.specs.Offer.{Offer}
use Rattle.builder.specs.Record.{sizeable}
use Rattle.readback.specs.ReadBack.{reads_back_of}
use Rattle.written.specs.Arena.{KeyGroup}
use Rattle.written.specs.Section.{section_bytes}
use Rattle.writer.specs.Write.{groups_in, scratch_enough, section_for, write_of}
use Rattle.building.specs.Run.{run_of}
use Rattle.building.specs.Taken.{groups_with, groups_of, new_group, more_group, groups_before, last_group, stored_of, area_of, group_totals, builder_of}
use Rattle.building.specs.State.{keys_of}
use Rattle.building.specs.Builds.{size_for, section_of, write_run, ScratchEnough, Outcome, prefix_long, no_entry, scratch_short, output_short, no_seed, section, WritesExactly}
use Rattle.building.specs.Internal.{Sound}
use Rattle.building.proofs.Lists.{length_more, grown}
use Rattle.building.proofs.AreaRead.{groups_in_lem, keys_in}
use Rattle.building.proofs.ReadsBack.{reads_back}
use Rattle.building.proofs.Standing.{size_passes}
use Rattle.building.proofs.Taking.{area_begins}
use Rattle.building.proofs.Runs.{groups_more, no_groups, kept}
use Rattle.building.proofs.State.{same_state}

-- ---- entries and keys

with_some : (gs : List KeyGroup) (e : Offer) → 0 < length (groups_with gs e)
unfolding groups_with
with_some gs e =
    if_case (λ (l : List KeyGroup). 0 < length l) e.new_key (gs ++ (new_group e.key (stored_of e) ∷ [])) (groups_before gs ++ (more_group (last_group gs) (stored_of e) ∷ []))
    (λ _. let n = length_more gs (new_group e.key (stored_of e)) in omega arith)
    (λ _. let n = length_more (groups_before gs) (more_group (last_group gs) (stored_of e)) in omega arith)

pub some_groups : (taken : List Offer) → 0 < length taken → 0 < length (groups_of taken)
some_groups =
    grown (λ taken. 0 < length taken → 0 < length (groups_of taken)) (λ h. absurd (omega arith))
    (λ taken e _ _. subst⁻¹ (λ (l : List KeyGroup). 0 < length l) (groups_more taken e) (with_some (groups_of taken) e))

some_taken : (taken : List Offer) → 0 < length (groups_of taken) → 0 < length taken
some_taken taken h = go (length taken) refl
  where
    go : (n : ℕ) → length taken ≡ n → 0 < length taken
    go zero q = absurd (let z = no_groups taken q in omega arith)
    go (suc n) q = omega arith

-- ---- the questions without 37

module _ (taken : List Offer) (prefix room64 room32 room : ℕ) where
  abbrev gs : List KeyGroup
  gs = groups_of taken

  -- the section, by what construction gives
  answer_for : Result Constructed Refusal → Result (List ℕ) Refusal
  answer_for (Ok c) = Ok (section_of taken prefix c)
  answer_for (Err n) = Err n

  abbrev chain : Result (List ℕ) Refusal
  chain =
      when leb prefix 24 then
      (when ltb 0 (length gs) then
      (when scratch_enough (length gs) room64 room32 then
      (when leb (size_for taken prefix) room then answer_for (construct_of (keys_of taken)) else Err refusal.SectionRoom) else Err refusal.BuildScratch) else Err refusal.NoKey) else Err refusal.PrefixLong

  section_for_lem : (area : List ℕ) → groups_in area (length gs) ≡ gs → (a : Result Constructed Refusal) → section_for area (builder_of gs) prefix a ≡ answer_for a
  unfolding section_for answer_for section_of builder_of group_totals
  section_for_lem area e (Ok c) =
      ap (λ (l : List KeyGroup).
      Ok (section_bytes (encoding_of (group_totals gs)) c.seed (group_totals gs).min_seq l (λ x. get_or c.placement.pilots x 0) (λ m. get_or c.placement.slots m 0) prefix)) e
  section_for_lem area e (Err n) = refl

  chain_of : Sound gs → (rest : List ℕ) → write_of (area_of gs ++ rest) (builder_of gs) prefix room64 room32 room ≡ chain
  unfolding write_of builder_of group_totals size_for keys_of
  chain_of sound rest =
      let area = area_of gs ++ rest in
      let r = reads_back area gs sound (area_begins gs rest) (let n = length-append (area_of gs) rest in omega arith) in
      let q = true_both (sizeable (builder_of gs)) (reads_back_of area (builder_of gs)) (size_passes gs sound) r in
      let e = section_for_lem area (groups_in_lem gs sound.small (area_begins gs rest)) (construct_of (keys_in_of area (length gs)))
      ∙ ap (λ (l : List (List ℕ)). answer_for (construct_of l)) (keys_in gs sound.small (area_begins gs rest)) in
      ap₂ (λ (t : Bool) (a : Result (List ℕ) Refusal).
      when leb prefix 24 then
      (when ltb 0 (length gs) then
      (when t then
      (when scratch_enough (length gs) room64 room32 then
      (when leb (section_len_of (encoding_of (group_totals gs)) (group_totals gs) prefix) room then a else Err refusal.SectionRoom) else Err refusal.BuildScratch) else Err refusal.Builder) else Err refusal.NoKey) else Err refusal.PrefixLong) q e
      ∙ ap (λ (b : Result (List ℕ) Refusal). when leb prefix 24 then (when ltb 0 (length gs) then b else Err refusal.NoKey) else Err refusal.PrefixLong)
      (if_true true (when scratch_enough (length gs) room64 room32 then
      (when leb (section_len_of (encoding_of (group_totals gs)) (group_totals gs) prefix) room then answer_for (construct_of (keys_of taken)) else Err refusal.SectionRoom) else Err refusal.BuildScratch) (Err refusal.Builder) refl)

  -- ---- tests and facts

  keys_length : length (keys_of taken) ≡ length gs
  unfolding keys_of
  keys_length = length-map gs (λ g. g.key)

  enough_true : ScratchEnough (length (keys_of taken)) room64 room32 → scratch_enough (length gs) room64 room32 ≡ true
  unfolding scratch_enough
  enough_true s =
      let n = keys_length in
      let a = s.numbers64 in
      let b = s.numbers32 in
      true_both _ _ (le-leb (length gs) room64 (omega arith)) (le-leb (6 * length gs + 8) room32 (omega arith))

  true_enough : scratch_enough (length gs) room64 room32 ≡ true → ScratchEnough (length (keys_of taken)) room64 room32
  unfolding scratch_enough
  true_enough q =
      let p = both_true _ _ q in
      let n = keys_length in
      let a = leb-true (length gs) room64 p.0 in
      let b = leb-true (6 * length gs + 8) room32 p.1 in
      record { numbers64 = omega arith; numbers32 = omega arith }

  some_true : 0 < length taken → ltb 0 (length gs) ≡ true
  some_true h = lt-ltb 0 (length gs) (some_groups taken h)

  -- ---- from the answer

  abbrev Out : Result (List ℕ) Refusal → Type 0
  Out = Outcome taken prefix room64 room32 room

  built : prefix ≤ 24 → 0 < length taken → ScratchEnough (length (keys_of taken)) room64 room32 → size_for taken prefix ≤ room
      → (a : Result Constructed Refusal) → construct_of (keys_of taken) ≡ a → Out (answer_for a)
  unfolding answer_for SeedDecided
  built p h s l (Ok c) e = section p h s l c e
  built p h s l (Err n) e =
      let q = (seed_decided (keys_of taken)).never n e in
      subst (λ (k : Refusal). Out (Err k)) (sym q) (no_seed p h s l ((seed_decided (keys_of taken)).refuses.0 (e ∙ ap Err q)))

  outcome : Out chain
  outcome =
      if_case Out (leb prefix 24) _ (Err refusal.PrefixLong)
      (λ p. if_case Out (ltb 0 (length gs)) _ (Err refusal.NoKey)
      (λ h. if_case Out (scratch_enough (length gs) room64 room32) _ (Err refusal.BuildScratch)
      (λ s. if_case Out (leb (size_for taken prefix) room) _ (Err refusal.SectionRoom)
      (λ l. built (leb-true prefix 24 p) (some_taken taken (ltb-true 0 (length gs) h)) (true_enough s) (leb-true (size_for taken prefix) room l) (construct_of (keys_of taken)) refl)
      (λ l. output_short (leb-true prefix 24 p) (some_taken taken (ltb-true 0 (length gs) h)) (true_enough s) (leb-false (size_for taken prefix) room l)))
      (λ s. scratch_short (leb-true prefix 24 p) (some_taken taken (ltb-true 0 (length gs) h)) (λ x. false_true (sym s ∙ enough_true x))))
      (λ h. no_entry (leb-true prefix 24 p) (none_taken (ltb-false 0 (length gs) h))))
      (λ p. prefix_long (leb-false prefix 24 p))
    where
      none_taken : length gs ≤ 0 → length taken ≡ 0
      none_taken h = go (length taken) refl
        where
          go : (n : ℕ) → length taken ≡ n → length taken ≡ 0
          go zero q = q
          go (suc n) q = absurd (let z = some_groups taken (omega arith) in omega arith)

  -- ---- to the answer

  to_40 : prefix ≤ 24 → 0 < length taken → ScratchEnough (length (keys_of taken)) room64 room32 → size_for taken prefix ≤ room
      → chain ≡ answer_for (construct_of (keys_of taken))
  to_40 p h s l =
      if_true (leb prefix 24) _ (Err refusal.PrefixLong) (le-leb prefix 24 p)
      ∙ if_true (ltb 0 (length gs)) _ (Err refusal.NoKey) (some_true h)
      ∙ if_true (scratch_enough (length gs) room64 room32) _ (Err refusal.BuildScratch) (enough_true s)
      ∙ if_true (leb (size_for taken prefix) room) _ (Err refusal.SectionRoom) (le-leb (size_for taken prefix) room l)

  answered : (a : Result (List ℕ) Refusal) → Out a → chain ≡ a
  unfolding answer_for SeedDecided
  answered a (prefix_long p) = if_false (leb prefix 24) _ (Err refusal.PrefixLong) (lt-leb prefix 24 p)
  answered a (no_entry p n) =
      if_true (leb prefix 24) _ (Err refusal.PrefixLong) (le-leb prefix 24 p)
      ∙ if_false (ltb 0 (length gs)) _ (Err refusal.NoKey) (le-ltb 0 (length gs) (let z = no_groups taken n in omega arith))
  answered a (scratch_short p h s) =
      if_true (leb prefix 24) _ (Err refusal.PrefixLong) (le-leb prefix 24 p)
      ∙ if_true (ltb 0 (length gs)) _ (Err refusal.NoKey) (some_true h)
      ∙ if_false (scratch_enough (length gs) room64 room32) _ (Err refusal.BuildScratch) (never_true _ (λ q. s (true_enough q)))
  answered a (output_short p h s l) =
      if_true (leb prefix 24) _ (Err refusal.PrefixLong) (le-leb prefix 24 p)
      ∙ if_true (ltb 0 (length gs)) _ (Err refusal.NoKey) (some_true h)
      ∙ if_true (scratch_enough (length gs) room64 room32) _ (Err refusal.BuildScratch) (enough_true s)
      ∙ if_false (leb (size_for taken prefix) room) _ (Err refusal.SectionRoom) (lt-leb (size_for taken prefix) room l)
  answered a (no_seed p h s l f) = to_40 p h s l ∙ ap answer_for ((seed_decided (keys_of taken)).refuses.1 f)
  answered a (section p h s l c e) = to_40 p h s l ∙ ap answer_for e

-- ---- the promise

pub writes_exactly : WritesExactly
unfolding WritesExactly write_run
writes_exactly ls rest prefix room64 room32 room a =
    let k = kept ls in
    let taken = (run_of ls).taken in
    let e = same_state (run_of ls) k (λ u b. write_of u b prefix room64 room32 room) rest ∙ chain_of taken prefix room64 room32 room k.sound rest in (
      λ q. subst (Outcome taken prefix room64 room32 room) (sym e ∙ q) (outcome taken prefix room64 room32 room),
      λ o. e ∙ answered taken prefix room64 room32 room a o,
    )
