-- The tests of question 37 say of sixteen numbers what its plain terms say.
-- Assumes nothing.
use mathlib.Core.Path.{◌≡◌, refl, sym, ap, ◌∙◌}
use mathlib.Core.Bool.{Bool, true, false}
use mathlib.Core.List.{List}
use mathlib.Core.Logic.{◌↔◌}
use Prim.Native.Nat.{ℕ, zero, suc, ◌+◌, ◌-◌, ◌^◌, ◌<◌, ◌≤◌}
use native.Mathlib.Omega.{arith}
use lib.ListN.{length}
use borrow.Author.Tests.{leb-true, le-leb, eqb-true, eqb-false, eq-eqb}
use Rattle.num.proofs.Choice.{if_true, if_false, both_true, true_both, second_either, never_true, false_true}
use Rattle.area.specs.Area.{head_len, area_key_len, area_versions}
use Rattle.builder.specs.Record.{totals_small, key_lies, standing, sizeable}
use Rattle.builder.proofs.Standing.{small, stood}
use Rattle.numbers.specs.BuilderNumbers.{is_builder_numbers, used_in, builder_in}
use Rattle.calls.specs.Calls.{place}
use Rattle.buildasks.specs.Asked.{TotalsSmall, KeyLies, Stands, Sizeable}

-- ---- a question that is answered with no

pub no_of : {P : Type 0} (t : Bool) → ((t ≡ true) ↔ P) → t ≡ false → P → ⊥
no_of t d f p = false_true (sym f ∙ d.1 p)

pub of_no : {P : Type 0} (t : Bool) → ((t ≡ true) ↔ P) → (P → ⊥) → t ≡ false
of_no t d n = never_true t (λ e. n (d.0 e))

-- ---- the last four places

module _ (numbers : List ℕ) where
  zeros_of : is_builder_numbers numbers ≡ true → (i : ℕ) → 12 ≤ i → i < 16 → place numbers i ≡ 0
  unfolding is_builder_numbers
  zeros_of e i from to =
      let a = both_true _ _ e in
      let b = both_true _ _ a.1 in
      let c = both_true _ _ b.1 in
      let same : 12 + (i - 12) ≡ i = omega arith in
      sym (ap (place numbers) same) ∙ go (i - 12) (omega arith) (eqb-true _ _ a.0) (eqb-true _ _ b.0) (eqb-true _ _ c.0) (eqb-true _ _ c.1)
    where
      go : (k : ℕ) → k < 4 → place numbers 12 ≡ 0 → place numbers 13 ≡ 0 → place numbers 14 ≡ 0 → place numbers 15 ≡ 0 → place numbers (12 + k) ≡ 0
      go zero h p q r s = p
      go (suc zero) h p q r s = q
      go (suc (suc zero)) h p q r s = r
      go (suc (suc (suc zero))) h p q r s = s
      go (suc (suc (suc (suc k)))) h p q r s = absurd (omega arith)

  of_zeros : ((i : ℕ) → 12 ≤ i → i < 16 → place numbers i ≡ 0) → is_builder_numbers numbers ≡ true
  unfolding is_builder_numbers
  of_zeros z =
      true_both _ _ (eq-eqb _ 0 (z 12 (omega arith) (omega arith)))
      (true_both _ _ (eq-eqb _ 0 (z 13 (omega arith) (omega arith)))
      (true_both _ _ (eq-eqb _ 0 (z 14 (omega arith) (omega arith))) (eq-eqb _ 0 (z 15 (omega arith) (omega arith)))))

  -- with zeros there the used bytes are place 3, otherwise more than 2^30
  used_is : is_builder_numbers numbers ≡ true → used_in numbers ≡ place numbers 3
  unfolding used_in
  used_is e = if_true (is_builder_numbers numbers) (place numbers 3) 18446744073709551615 e

  builder_numbers_lem : used_in numbers ≤ 2 ^ 30 → is_builder_numbers numbers ≡ true
  unfolding used_in
  builder_numbers_lem l = go (is_builder_numbers numbers) refl
    where
      go : (b : Bool) → is_builder_numbers numbers ≡ b → is_builder_numbers numbers ≡ true
      go true e = e
      go false e = absurd (let u = if_false (is_builder_numbers numbers) (place numbers 3) 18446744073709551615 e in omega arith)

  -- ---- the totals

  small_of : totals_small (builder_in numbers) ≡ true → TotalsSmall numbers
  unfolding builder_in
  small_of e =
      let s = small (builder_in numbers) e in
      let b = builder_numbers_lem s.used in
      let u = used_is b in
      let l = s.used in
      record {
        zeros = zeros_of b;
        keys = s.keys;
        versions = s.versions;
        suffix_bytes = s.suffix_bytes;
        used = omega arith;
        longest_key = s.max_key_len;
        longest_value = s.max_value_len;
        most_versions = s.max_versions;
      }

  pub same_used : TotalsSmall numbers → (builder_in numbers).used ≡ place numbers 3
  unfolding builder_in
  same_used t = used_is (of_zeros t.zeros)

  of_small : TotalsSmall numbers → totals_small (builder_in numbers) ≡ true
  unfolding totals_small builder_in
  of_small t =
      let u = same_used t in
      let l = t.used in
      true_both _ _ (le-leb _ _ t.keys)
      (true_both _ _ (le-leb _ _ t.versions)
      (true_both _ _ (le-leb _ _ t.suffix_bytes)
      (true_both _ _ (le-leb (used_in numbers) (2 ^ 30) (omega arith))
      (true_both _ _ (le-leb _ _ t.longest_key) (true_both _ _ (le-leb _ _ t.longest_value) (le-leb _ _ t.most_versions))))))

  -- ---- size's question

  pub sizeable_asked : (sizeable (builder_in numbers) ≡ true) ↔ Sizeable numbers
  unfolding sizeable builder_in
  sizeable_asked = (
    λ e. let p = both_true _ _ e in record { totals = small_of p.0; sequences = leb-true _ _ p.1 },
    λ s. true_both _ _ (of_small s.totals) (le-leb _ _ s.sequences),
  )

  -- ---- adding's question

  module _ (area : List ℕ) where
    of_lies : (head : ℕ) → TotalsSmall numbers → KeyLies area numbers head → key_lies area (builder_in numbers) head ≡ true
    unfolding key_lies KeyLies area_key_len
    of_lies head t l =
        let u = same_used t in
        let b = builder_in numbers in
        true_both _ _ (le-leb (head + head_len) b.used (omega arith)) (le-leb (head + head_len + area_key_len area head) b.used (omega arith))

    stands_of : standing area (builder_in numbers) ≡ true → Stands area numbers
    unfolding standing KeyLies area_key_len area_versions builder_in
    stands_of e =
        let s = stood area (builder_in numbers) e in
        let t = small_of (both_true _ _ (both_true _ _ e).1).0 in
        let u = same_used t in
        let i = s.inside in
        record {
          totals = t;
          inside = omega arith;
          last_key = λ h. let l = (s.keyed h).last.key_inside in omega arith;
          anchor = λ h. let l = (s.keyed h).anchor.key_inside in omega arith;
          count = λ h. (s.keyed h).few;
        }

    of-stands : Stands area numbers → standing area (builder_in numbers) ≡ true
    unfolding standing area_versions builder_in
    of-stands s =
        let u = same_used s.totals in
        let i = s.inside in
        true_both _ _ (le-leb (used_in numbers) (length area) (omega arith))
        (true_both _ _ (of_small s.totals)
        (second_either _ _ (λ f.
        let n = eqb-false (place numbers 0) 0 f in
        let h : 0 < place numbers 0 = positive (place numbers 0) n in
        true_both _ _ (of_lies (place numbers 10) s.totals (s.last_key h))
        (true_both _ _ (of_lies (place numbers 11) s.totals (s.anchor h)) (le-leb _ _ (s.count h))))))
      where
        positive : (n : ℕ) → (n ≡ 0 → ⊥) → 0 < n
        positive zero n = absurd (n refl)
        positive (suc k) n = omega arith

    pub standing_asked : (standing area (builder_in numbers) ≡ true) ↔ Stands area numbers
    standing_asked = (stands_of, of-stands)
