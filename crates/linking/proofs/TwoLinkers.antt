-- Two linkers whose stores hold the same versions of a key within a limit link the same.
-- Assumes nothing.
use mathlib.Core.Path.{◌≡◌, refl, sym, ◌∙◌}
use mathlib.Core.List.{List}
use Prim.Native.Nat.{ℕ}
use Rattle.locator.specs.declared.ValueLocator.{ValueLocator}
use Rattle.locator.specs.Locator.{Located}
use Rattle.std.specs.Prelude.{Some, None, Ok, Err}
use Rattle.locating.specs.Store.{LinkerStore, Version, Within}
use Rattle.locating.specs.Looks.{lookup, NoneWithin, Greatest, Answers, Looks, LooksExactly}
use Rattle.locating.proofs.Accepted.{lookup_exactly}
use Rattle.linking.specs.Linkers.{SameVersions, Alike, LinkSame, none_alike, found_alike, TwoLinkers}

-- answers that are one version
answers_alike : (a b : LinkerStore) (v : Version) (l m : ValueLocator) → Answers a v l → Answers b v m → Alike a b l m
answers_alike a b v l m p q =
    record {
      kind = p.kind ∙ sym q.kind;
      seq = p.seq ∙ sym q.seq;
      len = p.len ∙ sym q.len;
      value = p.value ∙ sym q.value;
      checksum = λ s t. p.checksum s ∙ sym (q.checksum t);
    }

module _ (a b : LinkerStore) (key : List ℕ) (limit : ℕ) (s : SameVersions a b key limit) where
  -- a version of the key within the limit is one in either store
  within_there : (v : Version) → Within a key limit v → Within b key limit v
  within_there v w =
      record { held = s.there v w.held w.same_key w.within; same_key = w.same_key; within = w.within }

  within_back : (v : Version) → Within b key limit v → Within a key limit v
  within_back v w =
      record { held = s.back v w.held w.same_key w.within; same_key = w.same_key; within = w.within }

  none_there : NoneWithin a key limit → NoneWithin b key limit
  unfolding NoneWithin
  none_there n v w = n v (within_back v w)

  greatest_there : (v : Version) → Greatest a key limit v → Greatest b key limit v
  greatest_there v g = record { within = within_there v g.within; greatest = λ w h. g.greatest w (within_back w h) }

-- they find none, or one version
looks_same : (a b : LinkerStore) (key : List ℕ) (limit : ℕ) → Looks a key limit → Looks b key limit → SameVersions a b key limit
    → LinkSame a b key limit
looks_same a b key limit p q s = go (lookup a key limit) refl
  where
    go : (r : Located) → lookup a key limit ≡ r → LinkSame a b key limit
    go (Ok None) e = let n = p.none.0 e in let k = none_there a b key limit s n in none_alike n k e (q.none.1 k)
    go (Ok (Some l)) e =
        let x = p.found l e in
        let g = greatest_there a b key limit s x.0 x.1 in
        let y = q.finds x.0 g in
        found_alike x.0 l y.0 x.1 g e x.2 y.1 y.2 (answers_alike a b x.0 l y.0 x.2 y.2)
    go (Err n) e = absurd (p.never n e)

-- any two linkers, plain or packed, whose stores hold the same versions of a key within a limit link the same thing (P5)
pub two_linkers : TwoLinkers
unfolding TwoLinkers LooksExactly
two_linkers a b p q key limit = looks_same a b key limit (lookup_exactly a p key limit) (lookup_exactly b q key limit)
