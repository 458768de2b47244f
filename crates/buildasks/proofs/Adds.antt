-- The result of every call of `kiban_add`, by its questions in plain terms.
-- Assumes nothing.
use mathlib.Core.Path.{◌≡◌, refl, sym, ap, ◌∙◌, subst}
use mathlib.Core.Bool.{Bool, true, false}
use mathlib.Core.Logic.{◌↔◌, inl, inr}
use Prim.Native.Nat.{ℕ, ◌+◌, ◌^◌}
use native.Mathlib.Omega.{arith}
use lib.Dec.{eqb, leb, ltb}
use lib.ListN.{length}
use borrow.Author.Tests.{leb-true, le-leb, ltb-true, lt-ltb, eqb-false, ne_eqb}
use Rattle.std.specs.Prelude.{Result, Ok, Err}
use Rattle.refusal.specs.declared.Refusal.{Refusal}
use Rattle.refusal.specs.declared.Refusal.TheVariants as refusal
use Rattle.refusal.specs.Refusal.{refusal_number, answer_number}
use Rattle.num.specs.Choice.{when◌then◌else◌, both, either}
use Rattle.num.proofs.Choice.{if_true, if_false, if_case, both_true, true_both, either_second, second_either, false_true}
use Rattle.sstable.specs.Limits.{within_limits, limit_defs}
use Rattle.builder.specs.declared.Builder.{Builder}
use Rattle.builder.specs.Offer.{Offer, entry_len}
use Rattle.builder.specs.Record.{builder_after, standing}
use Rattle.area.specs.Area.{head_len}
use Rattle.builder.specs.Add.{max_keys, area_after_of, counted_of, BuilderState, add_of}
use Rattle.numbers.specs.BuilderNumbers.{builder_in}
use Rattle.calls.specs.Calls.{place}
use Rattle.buildcalls.specs.BuildCalls.{AddLent, offered, adds}
use Rattle.buildcalls.proofs.Answers.{same_offer}
use Rattle.buildasks.specs.Asked.{WithinLimits, Follows, OffsetRises, FewKeys, bytes_for, Room, Stands, AddResult, asked_30, asked_31, asked_32, asked_33, asked_37, asked_34, taken, AddsExactly}
use Rattle.buildasks.proofs.Records.{no_of, of_no, same_used, standing_asked}

-- a choice by the mark of a call: 0 is no new key
by_mark : (t : Bool) (x y : ℕ) → (when (when t then false else true) then x else y) ≡ (when t then y else x)
unfolding when◌then◌else◌
by_mark true x y = refl
by_mark false x y = refl

-- the number of an answer
refused_with : {a : Result BuilderState Refusal} {r : Refusal} → a ≡ Err r → answer_number a ≡ refusal_number r
unfolding answer_number
refused_with q = ap (λ (x : Result BuilderState Refusal). answer_number x) q

given_one : {a : Result BuilderState Refusal} {s : BuilderState} → a ≡ Ok s → answer_number a ≡ 0
unfolding answer_number
given_one q = ap (λ (x : Result BuilderState Refusal). answer_number x) q

module _ (lent : AddLent) where
  abbrev b : Builder
  b = builder_in lent.numbers

  abbrev e : Offer
  e = offered lent

  abbrev keys : ℕ
  keys = place lent.numbers 0

  abbrev used : ℕ
  used = place lent.numbers 3

  abbrev new : Bool
  new = when eqb lent.new_key 0 then false else true

  -- ---- each test says what its plain terms say

  abbrev t30 : Bool
  t30 = within_limits (length lent.key) (length lent.value)

  limits : (t30 ≡ true) ↔ WithinLimits lent
  unfolding limit_defs
  limits = (
    λ q. let p = both_true _ _ q in record { key = leb-true _ _ p.0; value = leb-true _ _ p.1 },
    λ l. true_both _ _ (le-leb _ _ l.key) (le-leb _ _ l.value),
  )

  abbrev t31 : Bool
  t31 = either new (ltb 0 keys)

  follows : (t31 ≡ true) ↔ Follows lent
  unfolding Follows
  follows = (λ q. forth (eqb lent.new_key 0) refl q, λ f. second_either new (ltb 0 keys) (back f))
    where
      forth : (t : Bool) → eqb lent.new_key 0 ≡ t → t31 ≡ true → Follows lent
      forth true p q = inr (ltb-true 0 keys (either_second new (ltb 0 keys) q (if_true _ false true p)))
      forth false p q = inl (eqb-false lent.new_key 0 p)

      back : Follows lent → new ≡ false → ltb 0 keys ≡ true
      back (inr h) f = lt-ltb 0 keys h
      back (inl n) f = false_true (sym f ∙ if_false _ false true (ne_eqb lent.new_key 0 n))

  abbrev t32 : Bool
  t32 = leb (place lent.numbers 9) lent.offset

  rises : (t32 ≡ true) ↔ OffsetRises lent
  unfolding OffsetRises
  rises = (leb-true (place lent.numbers 9) lent.offset, le-leb (place lent.numbers 9) lent.offset)

  abbrev t33 : Bool
  t33 = leb (keys + (when new then 1 else 0)) max_keys

  few : (t33 ≡ true) ↔ FewKeys lent
  unfolding FewKeys
  few =
      let m = by_mark (eqb lent.new_key 0) 1 0 in (
        λ q. let l = leb-true (keys + (when new then 1 else 0)) max_keys q in omega arith,
        λ l. le-leb (keys + (when new then 1 else 0)) max_keys (omega arith),
      )

  abbrev t37 : Bool
  t37 = standing lent.area b

  stands : (t37 ≡ true) ↔ Stands lent.area lent.numbers
  stands = standing_asked lent.numbers lent.area

  abbrev t34 : Bool
  t34 = both (leb (b.used + entry_len e) (length lent.area)) (leb (b.used + entry_len e) (2 ^ 30))

  -- of a record that stands
  room : Stands lent.area lent.numbers → (t34 ≡ true) ↔ Room lent
  unfolding bytes_for entry_len offered
  room s =
      let u = same_used lent.numbers s.totals in
      let m = by_mark (eqb lent.new_key 0) (head_len + length lent.key) 0 in (
        λ q.
            let p = both_true _ _ q in
            let l = leb-true (b.used + entry_len e) (length lent.area) p.0 in
            let k = leb-true (b.used + entry_len e) (2 ^ 30) p.1 in
            record { lent_area = omega arith; most = omega arith },
        λ r.
            let l = r.lent_area in
            let k = r.most in
            true_both _ _ (le-leb (b.used + entry_len e) (length lent.area) (omega arith)) (le-leb (b.used + entry_len e) (2 ^ 30) (omega arith)),
      )

  -- ---- the questions in their order

  abbrev from34 : Result BuilderState Refusal
  from34 = when t34 then Ok (record { area = area_after_of lent.area b e; builder = builder_after lent.area b (counted_of lent.area b e) }) else Err refusal.AreaRoom

  abbrev from37 : Result BuilderState Refusal
  from37 = when t37 then from34 else Err refusal.Builder

  abbrev from33 : Result BuilderState Refusal
  from33 = when t33 then from37 else Err refusal.TooManyKeys

  abbrev from32 : Result BuilderState Refusal
  from32 = when t32 then from33 else Err refusal.OffsetFalls

  abbrev from31 : Result BuilderState Refusal
  from31 = when t31 then from32 else Err refusal.FirstNotNew

  abbrev from30 : Result BuilderState Refusal
  from30 = when t30 then from31 else Err refusal.AddLimits

  questions : adds lent ≡ from30
  unfolding add_of builder_in offered
  questions = same_offer lent

  -- ---- from the result

  outcome : AddResult lent (answer_number from30)
  unfolding answer_number
  outcome =
      if_case P t30 from31 (Err refusal.AddLimits)
      (λ q₀. if_case P t31 from32 (Err refusal.FirstNotNew)
      (λ q₁. if_case P t32 from33 (Err refusal.OffsetFalls)
      (λ q₂. if_case P t33 from37 (Err refusal.TooManyKeys)
      (λ q₃. if_case P t37 from34 (Err refusal.Builder)
      (λ q₄. if_case P t34 _ (Err refusal.AreaRoom)
      (λ q₅. taken (limits.0 q₀) (follows.0 q₁) (rises.0 q₂) (few.0 q₃) (stands.0 q₄) ((room (stands.0 q₄)).0 q₅))
      (λ n. asked_34 (limits.0 q₀) (follows.0 q₁) (rises.0 q₂) (few.0 q₃) (stands.0 q₄) (no_of t34 (room (stands.0 q₄)) n)))
      (λ n. asked_37 (limits.0 q₀) (follows.0 q₁) (rises.0 q₂) (few.0 q₃) (no_of t37 stands n)))
      (λ n. asked_33 (limits.0 q₀) (follows.0 q₁) (rises.0 q₂) (no_of t33 few n)))
      (λ n. asked_32 (limits.0 q₀) (follows.0 q₁) (no_of t32 rises n)))
      (λ n. asked_31 (limits.0 q₀) (no_of t31 follows n)))
      (λ n. asked_30 (no_of t30 limits n))
    where
      P : Result BuilderState Refusal → Type 0
      P a = AddResult lent (answer_number a)

  -- ---- to the result

  pass_30 : WithinLimits lent → from30 ≡ from31
  pass_30 l = if_true t30 from31 (Err refusal.AddLimits) (limits.1 l)

  pass_31 : WithinLimits lent → Follows lent → from30 ≡ from32
  pass_31 l f = pass_30 l ∙ if_true t31 from32 (Err refusal.FirstNotNew) (follows.1 f)

  pass_32 : WithinLimits lent → Follows lent → OffsetRises lent → from30 ≡ from33
  pass_32 l f r = pass_31 l f ∙ if_true t32 from33 (Err refusal.OffsetFalls) (rises.1 r)

  pass_33 : WithinLimits lent → Follows lent → OffsetRises lent → FewKeys lent → from30 ≡ from37
  pass_33 l f r k = pass_32 l f r ∙ if_true t33 from37 (Err refusal.TooManyKeys) (few.1 k)

  pass_37 : WithinLimits lent → Follows lent → OffsetRises lent → FewKeys lent → Stands lent.area lent.numbers → from30 ≡ from34
  pass_37 l f r k s = pass_33 l f r k ∙ if_true t37 from34 (Err refusal.Builder) (stands.1 s)

  answered : (n : ℕ) → AddResult lent n → answer_number from30 ≡ n
  answered n (asked_30 x) = refused_with (if_false t30 from31 (Err refusal.AddLimits) (of_no t30 limits x))
  answered n (asked_31 l x) = refused_with (pass_30 l ∙ if_false t31 from32 (Err refusal.FirstNotNew) (of_no t31 follows x))
  answered n (asked_32 l f x) = refused_with (pass_31 l f ∙ if_false t32 from33 (Err refusal.OffsetFalls) (of_no t32 rises x))
  answered n (asked_33 l f r x) = refused_with (pass_32 l f r ∙ if_false t33 from37 (Err refusal.TooManyKeys) (of_no t33 few x))
  answered n (asked_37 l f r k x) = refused_with (pass_33 l f r k ∙ if_false t37 from34 (Err refusal.Builder) (of_no t37 stands x))
  answered n (asked_34 l f r k s x) = refused_with (pass_37 l f r k s ∙ if_false t34 _ (Err refusal.AreaRoom) (of_no t34 (room s) x))
  answered n (taken l f r k s m) = given_one (pass_37 l f r k s ∙ if_true t34 _ (Err refusal.AreaRoom) ((room s).1 m))

pub adds_exactly : AddsExactly
unfolding AddsExactly
adds_exactly c n =
    let number = c.returns ∙ ap (λ (a : Result BuilderState Refusal). answer_number a) (questions c.lent) in (
      λ e. subst (AddResult c.lent) (sym number ∙ e) (outcome c.lent),
      λ r. number ∙ answered c.lent n r,
    )
