-- Records one after another: one list behind another, and the cursor stays in the arena.
-- Assumes nothing.
use mathlib.Core.Path.{◌≡◌, refl, sym, ap, ◌∙◌, subst}
use mathlib.Core.List.{List, [], ◌∷◌, ◌++◌}
use Rattle.std.specs.Prelude.{Result, Ok, Err}
use Rattle.refusal.specs.declared.Refusal.{Refusal}
use Rattle.refusal.proofs.Asked.{refused_ok, same_ok, asked}
use Rattle.block.specs.Walk.{Entry}
use Rattle.arena.specs.declared.Cursor.{Cursor}
use Rattle.versions.specs.Version.{visit_of}
use Rattle.arena.specs.Internal.{Readable, Inside}
use Rattle.versions.proofs.Visiting.{visit_inside}
use Rattle.validate.specs.Walk.{Inputs, Progress, value_of, progress_for, entry_asked, entries_from}

-- the records that follow, from what was reached before them
unfoldable pub follow : Inputs → List Entry → Result Progress Refusal → Result Progress Refusal
follow t es (Ok q) = entries_from t q es
follow t es (Err n) = Err n

-- one record, then the others
pub entries_cons : (t : Inputs) (p : Progress) (e : Entry) (es : List Entry) → entries_from t p (e ∷ es) ≡ follow t es (entry_asked t p e)
unfolding entries_from follow
entries_cons t p e es = go (entry_asked t p e)
  where
    go : (r : Result Progress Refusal) → (elim r as (λ (x : Result Progress Refusal). Result Progress Refusal) [ Ok q ↦ entries_from t q es | Err n ↦ Err n ]) ≡ follow t es r
    go (Ok q) = refl
    go (Err n) = refl

pub entries_nil : (t : Inputs) (p : Progress) → entries_from t p [] ≡ Ok p
unfolding entries_from
entries_nil t p = refl

follow_append : (t : Inputs) (xs ys : List Entry) → ((q : Progress) → entries_from t q (xs ++ ys) ≡ follow t ys (entries_from t q xs))
    → (r : Result Progress Refusal) → follow t (xs ++ ys) r ≡ follow t ys (follow t xs r)
unfolding follow
follow_append t xs ys h (Ok q) = h q
follow_append t xs ys h (Err n) = refl

-- one list behind another
pub entries_append : (t : Inputs) (xs ys : List Entry) (p : Progress) → entries_from t p (xs ++ ys) ≡ follow t ys (entries_from t p xs)
unfolding follow entries_from
entries_append t [] ys p = refl
entries_append t (e ∷ xs) ys p =
    entries_cons t p e (xs ++ ys)
    ∙ follow_append t xs ys (entries_append t xs ys) (entry_asked t p e)
    ∙ ap (follow t ys) (sym (entries_cons t p e xs))

split_for : (t : Inputs) (ys : List Entry) (r : Result Progress Refusal) (q : Progress) → follow t ys r ≡ Ok q → (o : Progress) × (r ≡ Ok o) × (entries_from t o ys ≡ Ok q)
unfolding follow
split_for t ys (Ok o) q e = (o, refl, e)
split_for t ys (Err n) q e = refused_ok e

-- a record that is followed passed, and so did those behind it
pub entries_passed : (t : Inputs) (p q : Progress) (e : Entry) (es : List Entry) → entries_from t p (e ∷ es) ≡ Ok q
    → (x : Progress) × (entry_asked t p e ≡ Ok x) × (entries_from t x es ≡ Ok q)
entries_passed t p q e es r = split_for t es (entry_asked t p e) q (sym (entries_cons t p e es) ∙ r)

-- and conversely
pub passed_entries : (t : Inputs) (p x q : Progress) (e : Entry) (es : List Entry) → entry_asked t p e ≡ Ok x → entries_from t x es ≡ Ok q
    → entries_from t p (e ∷ es) ≡ Ok q
unfolding follow
passed_entries t p x q e es f g = entries_cons t p e es ∙ ap (follow t es) f ∙ g

-- a walk to the end passes the first list, and then the second
pub entries_split : (t : Inputs) (xs ys : List Entry) (p q : Progress) → entries_from t p (xs ++ ys) ≡ Ok q
    → (o : Progress) × (entries_from t p xs ≡ Ok o) × (entries_from t o ys ≡ Ok q)
entries_split t xs ys p q e = split_for t ys (entries_from t p xs) q (sym (entries_append t xs ys p) ∙ e)

-- and conversely
pub entries_join : (t : Inputs) (xs ys : List Entry) (p o q : Progress) → entries_from t p xs ≡ Ok o → entries_from t o ys ≡ Ok q
    → entries_from t p (xs ++ ys) ≡ Ok q
unfolding follow
entries_join t xs ys p o q e f = entries_append t xs ys p ∙ ap (follow t ys) e ∙ f

-- ---- the cursor

went_for : (p q : Progress) (e : Entry) (v : Result Cursor Refusal) → progress_for p e v ≡ Ok q → v ≡ Ok q.cursor
unfolding progress_for
went_for p q e (Err n) h = refused_ok h
went_for p q e (Ok c) h =
    ap (λ (x : Progress). Ok x.cursor) (same_ok h)

-- a record that passes was visited
pub entry_went : (t : Inputs) (p q : Progress) (e : Entry) → entry_asked t p e ≡ Ok q
    → visit_of t.section t.opened t.end p.cursor p.previous e (value_of t.backing e) ≡ Ok q.cursor
unfolding entry_asked
entry_went t p q e h =
    went_for p q e _ (asked _ _ _ q (asked _ _ _ q h).1).1

module _ (t : Inputs) (r : Readable t.section t.opened) where
  pub entry_inside : (p q : Progress) (e : Entry) → Inside t.section t.opened t.end p.cursor → entry_asked t p e ≡ Ok q
      → Inside t.section t.opened t.end q.cursor
  entry_inside p q e i h =
      visit_inside t.section t.opened t.end p.cursor p.previous e (value_of t.backing e) q.cursor r i (entry_went t p q e h)

  -- behind records that pass the cursor lies in the arena
  pub entries_inside : (es : List Entry) (p q : Progress) → Inside t.section t.opened t.end p.cursor → entries_from t p es ≡ Ok q
      → Inside t.section t.opened t.end q.cursor
  entries_inside [] p q i h =
      subst (λ (x : Progress). Inside t.section t.opened t.end x.cursor) (same_ok (sym (entries_nil t p) ∙ h)) i
  entries_inside (e ∷ es) p q i h =
      let s = entries_passed t p q e es h in
      entries_inside es s.0 q (entry_inside p s.0 e i s.1) s.2
