-- A lookup in an indexed store finds the version of greatest sequence within the limit, or none where there is none.
-- Assumes nothing.
use mathlib.Core.Path.{◌≡◌, sym, ap, ◌∙◌, subst}
use mathlib.Core.Logic.{◌⊎◌, inl, inr}
use mathlib.Core.Bool.{true}
use mathlib.Core.List.{List}
use Prim.Native.Nat.{ℕ, ◌<◌, ◌≤◌}
use native.Mathlib.Nat.{zero-add}
use native.Mathlib.Omega.{arith}
use Rattle.num.specs.Order.{equal_bytes}
use Rattle.num.proofs.Order.{equal_bytes-true, equal_bytes-same}
use Rattle.num.proofs.Steps.{first_or_later}
use Rattle.agreement.specs.Keys.{version_count, key_at, version_place, version_seq}
use Rattle.admission.specs.Blocks.{store_entries}
use Rattle.refusal.specs.declared.Refusal.{Refusal}
use Rattle.locator.specs.declared.ValueLocator.{ValueLocator}
use Rattle.locator.specs.Locator.{Located}
use Rattle.std.specs.Prelude.{Some, None, Ok, Err}
use Rattle.locator.specs.Locator.{locator_at, versions_from}
use Rattle.locating.specs.Store.{LinkerStore, Version, Within}
use Rattle.locating.specs.Looks.{lookup, NoneWithin, Greatest, Answers, Looks}
use Rattle.num.proofs.Counting.{search_below}
use Rattle.locating.proofs.Indexed.{Indexed}
use Rattle.locating.proofs.Reading.{located_own, located_other}
use Rattle.locating.proofs.Versions.{Answered, none, first, FirstWithin, answered, version_at, version_key, version_seq_lem, version_held, version_answers, listed, own_version, version_names}

-- a lookup misses, and nothing is within the limit, or it meets the greatest version
data Outcome (t : LinkerStore) (key : List ℕ) (limit : ℕ) : Type 0 where
  missed : lookup t key limit ≡ Ok None → NoneWithin t key limit → Outcome t key limit
  met : (v : Version) (l : ValueLocator) → lookup t key limit ≡ Ok (Some l) → Greatest t key limit v → Answers t v l → Outcome t key limit

-- the three answers are different, and what is found is one
missing_found : (r : Located) (l : ValueLocator) → r ≡ Ok None → r ≡ Ok (Some l) → ⊥
missing_found r l e f = let z : ◌≡◌ {A = ℕ} 0 1 = cc in omega arith

missing_refused : (r : Located) (n : Refusal) → r ≡ Ok None → r ≡ Err n → ⊥
missing_refused r n e f = let z : ◌≡◌ {A = ℕ} 0 1 = cc in omega arith

found_refused : (r : Located) (l : ValueLocator) (n : Refusal) → r ≡ Ok (Some l) → r ≡ Err n → ⊥
found_refused r l n e f = let z : ◌≡◌ {A = ℕ} 0 1 = cc in omega arith

found_same : (r : Located) (l m : ValueLocator) → r ≡ Ok (Some l) → r ≡ Ok (Some m) → l ≡ m
found_same r l m e f = cc

module _ (t : LinkerStore) (x : Indexed t.bytes t.opened t.backing (store_entries t.backing t.blocks)) where
  open t use {bytes as s, backing as «data», blocks, opened as o}

  -- a version of key k within a limit is one of the key's, of a sequence within the limit
  record OwnWithin (k limit : ℕ) (v : Version) : Type 0 where
    index : ℕ
    below : index < version_count s o k
    seq : v.seq ≡ version_seq s o k index
    within : version_seq s o k index ≤ limit

  module _ (k : ℕ) (h : k < o.count) (limit : ℕ) where
    own-within : (v : Version) → Within t (key_at s o k) limit v → OwnWithin k limit v
    own-within v w =
        let y = own_version t x k h v w.held w.same_key in
        let e : v.seq ≡ version_seq s o k y.0 = ap (λ (u : Version). u.seq) (sym y.2) ∙ version_seq_lem t x k y.0 h y.1 in
        let l = w.within in
        record { index = y.0; below = y.1; seq = e; within = omega arith }

    -- the first version within the limit is the greatest
    first-greatest : (i : ℕ) → FirstWithin s o k limit 0 i → Greatest t (key_at s o k) limit (version_at t k i)
    first-greatest i f =
        let b = f.below in
        let e = version_seq_lem t x k i h b in
        let n = f.within in
        record {
          within = record { held = version_held t x k i h b; same_key = version_key t x k i h b; within = omega arith };
          greatest = λ v w.
              let y = own-within v w in
              let j = y.index in
              let c = y.below in
              let m = y.within in
              let a : j < i → ⊥ = λ l. let z = f.earlier j (omega arith) l in omega arith in
              let g = first_or_later (λ (u : ℕ). version_seq s o k u ≤ version_seq s o k i) i j (omega arith) (omega arith)
              (λ l. let z = x.falling k i j h l c in omega arith) in
              let d = y.seq in
              omega arith;
        }

    -- a key of the arena
    own-outcome : Answered s o k limit 0 (versions_from (version_count s o k) s o (version_place s o k 0) limit) → Outcome t (key_at s o k) limit
    unfolding lookup NoneWithin
    own-outcome (none above e) =
        missed (located_own s o «data» (store_entries «data» blocks) x k h limit ∙ e)
        (λ v w. let y = own-within v w in let m = y.within in let a = above y.index (omega arith) y.below in omega arith)
    own-outcome (first i f e) =
        met (version_at t k i) (locator_at s o (version_place s o k i)) (located_own s o «data» (store_entries «data» blocks) x k h limit ∙ e)
        (first-greatest i f) (version_answers t x k i h f.below)

  module _ (key : List ℕ) (limit : ℕ) where
    -- a key that the arena does not have has no version
    other-outcome : ((k : ℕ) → k < o.count → key ≡ key_at s o k → ⊥) → Outcome t key limit
    unfolding lookup NoneWithin
    other-outcome n =
        missed (located_other s o «data» (store_entries «data» blocks) x key limit n)
        (λ v w.
        let y = listed t x v w.held in
        n y.key y.key_below
        (sym w.same_key ∙ ap (λ (u : Version). u.key) (sym y.same) ∙ version_key t x y.key y.version y.key_below y.version_below))

    -- any key
    outcome : Outcome t key limit
    outcome = go (search_below (λ k. equal_bytes key (key_at s o k)) o.count)
      where
        go : ((k : ℕ) × (k < o.count) × (equal_bytes key (key_at s o k) ≡ true)) ⊎ ((k : ℕ) → k < o.count → equal_bytes key (key_at s o k) ≡ true → ⊥)
            → Outcome t key limit
        go (inl w) =
            subst (λ (a : List ℕ). Outcome t a limit) (sym (equal_bytes-true _ _ w.2))
            (own-outcome w.0 w.1 limit
            (answered s o «data» (store_entries «data» blocks) x w.0 w.1 limit (version_count s o w.0) 0 (zero-add (version_count s o w.0))))
        go (inr n) = other-outcome (λ k h e. n k h (equal_bytes-same key (key_at s o k) e))

    -- there is one greatest version
    greatest-one : (v w : Version) → Greatest t key limit v → Greatest t key limit w → v ≡ w
    greatest-one v w a b =
        let p = a.greatest w b.within in
        let q = b.greatest v a.within in
        version_names t x v w a.within.held b.within.held (a.within.same_key ∙ sym b.within.same_key) (omega arith)

    -- either outcome is what is promised
    looks-of : Outcome t key limit → Looks t key limit
    unfolding NoneWithin
    looks-of (missed e n) =
        record {
          none = (λ _. n, λ _. e);
          found = λ l f. absurd (missing_found (lookup t key limit) l e f);
          finds = λ v g. absurd (n v g.within);
          never = λ i f. missing_refused (lookup t key limit) i e f;
        }
    looks-of (met v l e g a) =
        record {
          none = (λ f. absurd (missing_found (lookup t key limit) l f e), λ n. absurd (n v g.within));
          found = λ m f. (v, g, subst (Answers t v) (found_same (lookup t key limit) l m e f) a);
          finds = λ w b. (l, e, subst (λ (u : Version). Answers t u l) (greatest-one v w g b) a);
          never = λ i f. found_refused (lookup t key limit) l i e f;
        }

-- a lookup in an indexed store gives what is promised
pub indexed_looks : (t : LinkerStore) → Indexed t.bytes t.opened t.backing (store_entries t.backing t.blocks)
    → (key : List ℕ) (limit : ℕ) → Looks t key limit
indexed_looks t x key limit = looks-of t x key limit (outcome t x key limit)
