-- The lowest place with an offset is found, or none.
-- Assumes nothing.
use mathlib.Core.Path.{◌≡◌, refl, sym, ap, ◌∙◌, subst}
use mathlib.Core.List.{List, [], ◌∷◌}
use mathlib.Core.Bool.{Bool, true, false}
use mathlib.Core.Logic.{◌⊎◌, inl, inr}
use Prim.Native.Nat.{ℕ, zero, suc, ◌+◌, ◌<◌}
use native.Mathlib.Omega.{arith}
use lib.Dec.{eqb, ltb}
use lib.ListN.{length}
use borrow.Author.Tests.{eqb-true, eqb-false, ltb-true, ltb-false}
use Rattle.blocks.specs.declared.BlockRecord.{BlockRecord}
use Rattle.blocks.specs.Blocks.{find_of}
use Rattle.std.specs.Prelude.{Option, Some, None}
use Rattle.std.specs.List.{position_from}
use Rattle.std.proofs.lemmas.Iterator.Adapters.{position_from-zero}
use mathlib.Core.Bool.{cond}
use Rattle.blocklist.specs.Promises.{at_place, Lowest, FindsLowest, FindsNone}

-- the lowest place with that offset, of places counted from a number on
abbrev find_from : ℕ → List BlockRecord → ℕ → Option ℕ
find_from k rs offset = position_from (λ (r : BlockRecord). eqb r.offset offset) k rs

find_first : (rs : List BlockRecord) (offset : ℕ) → find_of rs offset ≡ find_from 0 rs offset
find_first rs offset = position_from-zero (λ (r : BlockRecord). eqb r.offset offset) rs

-- no record has the offset
abbrev Nowhere : List BlockRecord → ℕ → Type 0
Nowhere rs offset = (i : ℕ) → i < length rs → (at_place rs i).offset ≡ offset → ⊥

-- what a search of places counted from a number on finds
Outcome : List BlockRecord → ℕ → ℕ → Type 0
Outcome rs offset k = ((i : ℕ) × Lowest rs offset i × (find_from k rs offset ≡ Some (k + i))) ⊎ (Nowhere rs offset × (find_from k rs offset ≡ None))

module _ (r : BlockRecord) (rs : List BlockRecord) (offset k : ℕ) where
  tested : Bool → Option ℕ
  tested b = cond b (Some k) (find_from (k + 1) rs offset)

  test : find_from k (r ∷ rs) offset ≡ tested (eqb r.offset offset)
  unfolding tested
  test = refl

  here : eqb r.offset offset ≡ true → Outcome (r ∷ rs) offset k
  unfolding Outcome tested
  here e =
      let z : k ≡ k + 0 = omega arith in
      inl (0, record { within = omega arith; there = eqb-true r.offset offset e; lower = λ j l x. omega arith }, test ∙ ap tested e ∙ ap (λ (n : ℕ). Some n) z)

  behind_here : eqb r.offset offset ≡ false → (i : ℕ) → Lowest rs offset i → Lowest (r ∷ rs) offset (suc i)
  behind_here e i p = record { within = let w = p.within in omega arith; there = p.there; lower = below }
    where
      below : (j : ℕ) → j < suc i → (at_place (r ∷ rs) j).offset ≡ offset → ⊥
      below zero l x = eqb-false r.offset offset e x
      below (suc j) l x = p.lower j (omega arith) x

  nowhere_here : eqb r.offset offset ≡ false → Nowhere rs offset → Nowhere (r ∷ rs) offset
  nowhere_here e n zero l x = eqb-false r.offset offset e x
  nowhere_here e n (suc i) l x = n i (omega arith) x

  further : eqb r.offset offset ≡ false → Outcome rs offset (k + 1) → Outcome (r ∷ rs) offset k
  unfolding Outcome tested
  further e (inl p) =
      let z : k + 1 + p.0 ≡ k + suc p.0 = omega arith in
      inl (suc p.0, behind_here e p.0 p.1, test ∙ ap tested e ∙ p.2 ∙ ap (λ (n : ℕ). Some n) z)
  further e (inr p) = inr (nowhere_here e p.0, test ∙ ap tested e ∙ p.1)

outcome : (rs : List BlockRecord) (offset k : ℕ) → Outcome rs offset k
unfolding Outcome
outcome [] offset k = inr (λ i l x. omega arith, refl)
outcome (r ∷ rs) offset k = go (eqb r.offset offset) refl (outcome rs offset (k + 1))
  where
    go : (b : Bool) → eqb r.offset offset ≡ b → Outcome rs offset (k + 1) → Outcome (r ∷ rs) offset k
    go true e o = here r rs offset k e
    go false e o = further r rs offset k e o

-- two lowest places are the same
lowest_one : (rs : List BlockRecord) (offset i j : ℕ) → Lowest rs offset i → Lowest rs offset j → i ≡ j
lowest_one rs offset i j p q = go (ltb i j) refl (ltb j i) refl
  where
    go : (b : Bool) → ltb i j ≡ b → (c : Bool) → ltb j i ≡ c → i ≡ j
    go true e c f = absurd (q.lower i (ltb-true i j e) p.there)
    go false e true f = absurd (p.lower j (ltb-true j i f) q.there)
    go false e false f = let a = ltb-false i j e in let b = ltb-false j i f in omega arith

pub finds_lowest : FindsLowest
unfolding FindsLowest Outcome
finds_lowest rs offset i = (λ e. there (outcome rs offset 0) (sym (find_first rs offset) ∙ e), λ p. find_first rs offset ∙ found (outcome rs offset 0) p)
  where
    there : Outcome rs offset 0 → find_from 0 rs offset ≡ Some i → Lowest rs offset i
    there (inl o) e =
        let z : 0 + o.0 ≡ i = cc o.2 in
        let n : o.0 ≡ i = omega arith in
        subst (Lowest rs offset) n o.1
    there (inr o) e = absurd (let z : ◌≡◌ {A = ℕ} 0 1 = cc o.1 in omega arith)

    found : Outcome rs offset 0 → Lowest rs offset i → find_from 0 rs offset ≡ Some i
    found (inl o) p =
        let n = lowest_one rs offset o.0 i o.1 p in
        let z : 0 + o.0 ≡ i = omega arith in
        o.2 ∙ ap (λ (n : ℕ). Some n) z
    found (inr o) p = absurd (o.0 i p.within p.there)

pub finds_none : FindsNone
unfolding FindsNone Outcome
finds_none rs offset = (λ e. there (outcome rs offset 0) (sym (find_first rs offset) ∙ e), λ n. find_first rs offset ∙ found (outcome rs offset 0) n)
  where
    there : Outcome rs offset 0 → find_from 0 rs offset ≡ None → Nowhere rs offset
    there (inl o) e = absurd (let z : ◌≡◌ {A = ℕ} 0 1 = cc o.2 in omega arith)
    there (inr o) e = o.0

    found : Outcome rs offset 0 → Nowhere rs offset → find_from 0 rs offset ≡ None
    found (inl o) n = absurd (n o.0 o.1.within o.1.there)
    found (inr o) n = o.1
