-- Question 25 of a list of touches: an answer is 25 where one of them is not good, and what they end with where all are.
-- Assumes nothing.
use mathlib.Core.Path.{◌≡◌, refl, ◌∙◌, subst⁻¹}
use mathlib.Core.Logic.{◌⊎◌, inl, inr}
use mathlib.Core.Bool.{Bool, true, false}
use mathlib.Core.List.Memᴰ
use mathlib.Core.List.{List, Memᴰ}
use mathlib.Core.Option.{Option, none, some}
use Prim.Native.Nat.{ℕ, ◌+◌, ◌≤◌}
use native.Mathlib.Omega.{arith}
use lib.Dec.{leb}
use lib.ListN.{length}
use borrow.Author.Tests.{leb-true, leb-false}
use Rattle.std.specs.Prelude.{Some, None, Ok, Err}
use Rattle.num.specs.Choice.{when◌then◌else◌}
use Rattle.num.proofs.Choice.{if_true, if_false}
use Rattle.refusal.specs.declared.Refusal.TheVariants as refusal
use Rattle.locator.specs.declared.ValueLocator.{ValueLocator}
use Rattle.locator.specs.Locator.{Located}
use Rattle.reads.specs.Reads.{Touch, reading, Good, Touched, answering, Giving, ◌>>=◌, ◌>>◌, AllGood, SomeBad}

-- an answer as a lookup gives it
unfoldable pub located : Option ValueLocator → Located
located none = Ok None
located (some l) = Ok (Some l)

pub data Judged (s : List ℕ) (t : Touched) (r : Located) : Type 0 where
  bad : SomeBad s t → r ≡ Err refusal.Read → Judged s t r
  good : AllGood s t → r ≡ located t.answer → Judged s t r

module _ (s : List ℕ) where
  -- an equal answer is judged alike
  pub judged_same : {t : Touched} {q r : Located} → r ≡ q → Judged s t q → Judged s t r
  judged_same e (bad b f) = bad b (e ∙ f)
  judged_same e (good g f) = good g (e ∙ f)

  -- nothing more is touched
  pub judged_end : (a : Option ValueLocator) {r : Located} → r ≡ located a → Judged s (answering a) r
  unfolding answering AllGood
  judged_end a e = good (λ x m. absurd (Memᴰ.not-nil m)) e

  -- a test
  pub judged_test : {b c : Bool} {t : Touched} {r : Located} → c ≡ b → Judged s t r → Judged s (◌>>◌ b t) (when c then r else Ok None)
  unfolding ◌>>◌ when◌then◌else◌ located
  judged_test {b = true} e j = judged_same (if_true _ _ _ e) j
  judged_test {b = false} e j = judged_end none (if_false _ _ _ e)

  module _ {A : Type 0} (x : Giving A) (next : A → Touched) where
    -- the first of good touches is good
    pub first_good : AllGood s (◌>>=◌ x next) → Good s x.touch
    unfolding ◌>>=◌ AllGood
    first_good all = all x.touch (Memᴰ.head refl)

    -- a touch that is not good
    judged-bad : (Good s x.touch → ⊥) → {r : Located} → r ≡ Err refusal.Read → Judged s (◌>>=◌ x next) r
    unfolding ◌>>=◌ SomeBad
    judged-bad n e = bad (x.touch, Memᴰ.head refl, n) e

    -- a touch that is good if those behind it are
    pub judged_good : {r : Located} → (AllGood s (next x.gives) → Good s x.touch) → Judged s (next x.gives) r → Judged s (◌>>=◌ x next) r
    unfolding ◌>>=◌ AllGood SomeBad
    judged_good g (bad (y, m, n) e) = bad (y, Memᴰ.tail m, n) e
    judged_good g (good all e) = good (λ y m. go y (Memᴰ.cases_cons m)) e
      where
        go : (y : Touch) → (y ≡ x.touch) ⊎ Memᴰ y (next x.gives).touches → Good s y
        go y (inl p) = subst⁻¹ (Good s) p (g all)
        go y (inr m) = all y m

    -- a touch that is good exactly if a test holds
    pub judged_asked : (b : Bool) (r : Located) → (b ≡ true → Good s x.touch) → (b ≡ false → Good s x.touch → ⊥)
        → (b ≡ true → Judged s (next x.gives) r) → Judged s (◌>>=◌ x next) (when b then r else Err refusal.Read)
    unfolding when◌then◌else◌
    judged_asked true r g n j = judged_good (λ _. g refl) (j refl)
    judged_asked false r g n j = judged-bad (n refl) refl

  -- a read that ends where the section is asked
  pub judged_read : {A : Type 0} {a : A} (place bytes end : ℕ) (next : A → Touched) (r : Located) → place + bytes ≡ end → (end ≤ length s → Judged s (next a) r)
      → Judged s (◌>>=◌ (record { touch = reading place bytes; gives = a }) next) (when leb end (length s) then r else Err refusal.Read)
  unfolding Good
  judged_read {a = a} place bytes end next r e j =
      judged_asked (record { touch = reading place bytes; gives = a }) next (leb end (length s)) r
      (λ p. let l = leb-true end (length s) p in omega arith)
      (λ p g. let l = leb-false end (length s) p in omega arith)
      (λ p. j (leb-true end (length s) p))
