-- What a lookup gives, by what it touches: 24, 25, none or a version, each exactly in its case.
-- Assumes nothing.
use mathlib.Core.Path.{◌≡◌, refl, sym, ap, ◌∙◌}
use mathlib.Core.Logic.{◌↔◌}
use mathlib.Core.List.{List}
use mathlib.Core.Option.{Option, none, some}
use Prim.Native.Nat.{ℕ}
use native.Mathlib.Omega.{arith}
use Rattle.std.specs.Prelude.{Err}
use Rattle.num.proofs.Choice.{never_true, if_false}
use Rattle.refusal.specs.declared.Refusal.{Refusal}
use Rattle.refusal.specs.declared.Refusal.TheVariants as refusal
use Rattle.refusal.specs.Refusal.{refusal_number}
use Rattle.locator.specs.declared.ValueLocator.{ValueLocator}
use Rattle.locator.specs.Locator.{Located}
use Rattle.lookup.specs.Lookup.{locate_of}
use Rattle.reads.specs.Reads.{Touched, AllGood, SomeBad, Gives24, Gives25, GivesNone, GivesVersion}
use Rattle.reads.proofs.Judged.{located, Judged, bad, good}
use Rattle.reads.proofs.Touching.{lookup_judged}

-- a version or none is no refusal
located_refused : (a : Option ValueLocator) (n : Refusal) → located a ≡ Err n → ⊥
unfolding located
located_refused none n e = let z : ◌≡◌ {A = ℕ} 0 1 = cc in omega arith
located_refused (some l) n e = let z : ◌≡◌ {A = ℕ} 0 1 = cc in omega arith

-- and one answer
located_same : (a b : Option ValueLocator) → located a ≡ located b → a ≡ b
unfolding located
located_same none none e = refl
located_same none (some l) e = absurd (let z : ◌≡◌ {A = ℕ} 0 1 = cc in omega arith)
located_same (some l) none e = absurd (let z : ◌≡◌ {A = ℕ} 0 1 = cc in omega arith)
located_same (some l) (some m) e = cc

-- not every touch is good if some is bad
good_bad : (s : List ℕ) (t : Touched) → AllGood s t → SomeBad s t → ⊥
unfolding AllGood SomeBad
good_bad s t g (x, m, n) = n (g x m)

module _ {s : List ℕ} {t : Touched} {r : Located} where
  judged_never : (n : Refusal) → (refusal.Read ≡ n → ⊥) → Judged s t r → r ≡ Err n → ⊥
  judged_never n d (bad b f) e = d (cc)
  judged_never n d (good g f) e = located_refused t.answer n (sym f ∙ e)

  judged_25 : Judged s t r → (r ≡ Err refusal.Read) ↔ SomeBad s t
  judged_25 (bad b f) = (λ _. b, λ _. f)
  judged_25 (good g f) = (λ e. absurd (located_refused t.answer refusal.Read (sym f ∙ e)), λ b. absurd (good_bad s t g b))

  judged_answer : (a : Option ValueLocator) → Judged s t r → (r ≡ located a) ↔ (AllGood s t × (t.answer ≡ a))
  judged_answer a (bad b f) = (λ e. absurd (located_refused a refusal.Read (sym e ∙ f)), λ g. absurd (good_bad s t g.0 b))
  judged_answer a (good g f) = (λ e. (g, located_same t.answer a (sym f ∙ e)), λ h. f ∙ ap located h.1)

pub lookup_24 : Gives24
unfolding Gives24 locate_of
lookup_24 s o key limit =
    (λ e. never_true _ (λ r. judged_never refusal.RecordGiven (λ z. let n : ◌≡◌ {A = ℕ} 25 24 = ap refusal_number z in omega arith) (lookup_judged s o key limit r) e), λ f. if_false _ _ _ f)

pub lookup_25 : Gives25
unfolding Gives25
lookup_25 s o key limit r = judged_25 (lookup_judged s o key limit r)

pub lookup_none : GivesNone
unfolding GivesNone located
lookup_none s o key limit r = judged_answer none (lookup_judged s o key limit r)

pub lookup_found : GivesVersion
unfolding GivesVersion located
lookup_found s o key limit r l = judged_answer (some l) (lookup_judged s o key limit r)
