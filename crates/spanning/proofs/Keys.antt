-- The keys of the blocks are the keys of the arena, in their order.
-- Assumes nothing.
use mathlib.Core.Path.{◌≡◌, refl, sym, ap, ap₂, ◌∙◌}
use mathlib.Core.Bool.{Bool, true, false}
use mathlib.Core.List.{List, [], ◌∷◌}
use Prim.Native.Nat.{ℕ, zero, suc, ◌+◌, ◌-◌, ◌<◌}
use native.Mathlib.Omega.{arith}
use lib.Dec.{ltb}
use lib.ListN.{length, get_or, take, drop}
use lib.Seq.{drop-cons, drop-length}
use borrow.Author.Tests.{ltb-true, ltb-false}
use Rattle.num.specs.Order.{equal_bytes}
use Rattle.num.proofs.Order.{less_than-different, equal_bytes-same, equal_bytes-other}
use Rattle.block.specs.Walk.{Entry}
use Rattle.header.specs.declared.Opened.{Opened}
use Rattle.agreement.specs.Keys.{version_count, key_at, first_version}
use Rattle.agreement.specs.Agrees.{no_entry_of, entry_at, Agrees}
use Rattle.agreement.proofs.Indices.{first_version_next, first_version_le}
use Rattle.spanning.specs.Spans.{keys_behind, keys_listed}

-- so many keys of the arena, from one on
unfoldable pub arena_keys : List ℕ → Opened → ℕ → ℕ → List (List ℕ)
arena_keys s o zero k = []
arena_keys s o (suc n) k = key_at s o k ∷ arena_keys s o n (suc k)

module _ (s : List ℕ) (o : Opened) where
  pub keys_length : (n k : ℕ) → length (arena_keys s o n k) ≡ n
  unfolding arena_keys
  keys_length zero k = refl
  keys_length (suc n) k = ap suc (keys_length n (suc k))

  pub keys_at : (n k i : ℕ) → i < n → get_or (arena_keys s o n k) i [] ≡ key_at s o (k + i)
  unfolding arena_keys
  keys_at zero k i h = absurd (omega arith)
  keys_at (suc n) k zero h = let e : k ≡ k + 0 = omega arith in ap (key_at s o) e
  keys_at (suc n) k (suc i) h = let e : suc k + i ≡ k + suc i = omega arith in keys_at n (suc k) i (omega arith) ∙ ap (key_at s o) e

  keys_dropped : (first n k : ℕ) → drop first (arena_keys s o (first + n) k) ≡ arena_keys s o n (k + first)
  unfolding arena_keys
  keys_dropped zero n k = let e : 0 + n ≡ n = omega arith in let f : k ≡ k + 0 = omega arith in ap₂ (arena_keys s o) e f
  keys_dropped (suc first) n k =
      let e : suc first + n ≡ suc (first + n) = omega arith in
      let f : suc k + first ≡ k + suc first = omega arith in
      ap (λ (m : ℕ). drop (suc first) (arena_keys s o m k)) e ∙ keys_dropped first n (suc k) ∙ ap (arena_keys s o n) f

  keys_taken : (count n k : ℕ) → take count (arena_keys s o (count + n) k) ≡ arena_keys s o count k
  unfolding arena_keys
  keys_taken zero n k = refl
  keys_taken (suc count) n k =
      let e : suc count + n ≡ suc (count + n) = omega arith in
      ap (λ (m : ℕ). take (suc count) (arena_keys s o m k)) e ∙ ap (λ (l : List (List ℕ)). key_at s o k ∷ l) (keys_taken count n (suc k))

  -- a part of them
  pub keys_part : (n first count rest : ℕ) → first + (count + rest) ≡ n → take count (drop first (arena_keys s o n 0)) ≡ arena_keys s o count first
  keys_part n first count rest e =
      let f : 0 + first ≡ first = omega arith in
      ap (λ (m : ℕ). take count (drop first (arena_keys s o m 0))) (sym e)
      ∙ ap (take count) (keys_dropped first (count + rest) 0)
      ∙ keys_taken count rest (0 + first)
      ∙ ap (arena_keys s o count) f

module _ {s «data» : List ℕ} {scratch : ℕ} {o : Opened} {es : List Entry} (a : Agrees s «data» scratch o es) where
  -- the next record's key, listed unless it is the last one
  behind : List ℕ → ℕ → Bool → List (List ℕ)
  unfolding keys_behind
  behind last r same =
      elim same [ true ↦ keys_behind last (drop (suc r) es) | false ↦ (entry_at es r).key ∷ keys_behind (entry_at es r).key (drop (suc r) es) ]

  one_behind : (last : List ℕ) (r : ℕ) (same : Bool) → r < length es → equal_bytes last (entry_at es r).key ≡ same → keys_behind last (drop r es) ≡ behind last r same
  unfolding keys_behind behind entry_at
  one_behind last r same h e = ap (keys_behind last) (drop-cons es r no_entry_of h) ∙ ap (behind last r) e

  key_is : (k j : ℕ) → k < o.count → j < version_count s o k → (entry_at es (first_version s o k + j)).key ≡ key_at s o k
  key_is k j h l = (a.versions k j h l).key

  -- the records of key k end before those of the keys behind it, of which there is one
  next_first : (k q : ℕ) → suc k + suc q ≡ o.count → first_version s o k + version_count s o k < length es
  next_first k q e =
      let v = (a.keys (suc k) (omega arith)).some_version in
      let f = first_version_next s o k in
      let g = first_version_next s o (suc k) in
      let l = first_version_le s o (suc (suc k)) o.count (omega arith) in
      let n = a.records_end in
      omega arith

  -- where record r is the first of the next key
  next_key_lem : (m k q r : ℕ) → suc k + q ≡ o.count → r ≡ first_version s o k + version_count s o k → r + suc m ≡ length es
      → ((p : ℕ) → suc (suc k) + p ≡ o.count → 0 < version_count s o (suc k) → keys_behind (key_at s o (suc k)) (drop (suc r) es) ≡ arena_keys s o p (suc (suc k)))
      → keys_behind (key_at s o k) (drop r es) ≡ arena_keys s o q (suc k)
  unfolding behind arena_keys
  next_key_lem m k zero r ek er em rest =
      let f = first_version_next s o k in
      let n = a.records_end in
      let c : o.count ≡ suc k = omega arith in
      let d = ap (first_version s o) c in
      absurd (omega arith)
  next_key_lem m k (suc q) r ek er em rest =
      let h : suc k < o.count = omega arith in
      let v = (a.keys (suc k) h).some_version in
      let f = first_version_next s o k in
      let g : r ≡ first_version s o (suc k) + 0 = omega arith in
      let e = ap (λ (n : ℕ). (entry_at es n).key) g ∙ key_is (suc k) 0 h v in
      let d = equal_bytes-other (key_at s o k) (entry_at es r).key (λ p. less_than-different _ _ (a.rising k h) (p ∙ e)) in
      one_behind (key_at s o k) r false (omega arith) d
      ∙ ap₂ (λ (x : List ℕ) (l : List (List ℕ)). x ∷ l) e
      (ap (λ (x : List ℕ). keys_behind x (drop (suc r) es)) e ∙ rest q (omega arith) v)

  -- behind version j of key k stand its other versions and then those of the other keys
  keys_behind_lem : (m k j q r : ℕ) → suc k + q ≡ o.count → j < version_count s o k → r ≡ suc (first_version s o k + j) → r + m ≡ length es
      → keys_behind (key_at s o k) (drop r es) ≡ arena_keys s o q (suc k)
  unfolding keys_behind behind arena_keys
  keys_behind_lem zero k j zero r ek l er em =
      let e : r ≡ length es = omega arith in
      ap (λ (n : ℕ). keys_behind (key_at s o k) (drop n es)) e ∙ ap (keys_behind (key_at s o k)) (drop-length es)
  keys_behind_lem zero k j (suc q) r ek l er em = let n = next_first k q ek in absurd (omega arith)
  keys_behind_lem (suc m) k j q r ek l er em =
      go (ltb (suc j) (version_count s o k)) refl
      (λ h. keys_behind_lem m k (suc j) q (suc r) ek h (omega arith) (omega arith))
      (λ p n v e. keys_behind_lem m (suc k) 0 p (suc r) n v (let f = first_version_next s o k in omega arith) (omega arith))
    where
      go : (b : Bool) → ltb (suc j) (version_count s o k) ≡ b → (suc j < version_count s o k → keys_behind (key_at s o k) (drop (suc r) es) ≡ arena_keys s o q (suc k))
          → ((p : ℕ) → suc (suc k) + p ≡ o.count → 0 < version_count s o (suc k) → version_count s o k ≡ suc j
          → keys_behind (key_at s o (suc k)) (drop (suc r) es) ≡ arena_keys s o p (suc (suc k)))
          → keys_behind (key_at s o k) (drop r es) ≡ arena_keys s o q (suc k)
      go true e own others =
          let h = ltb-true (suc j) (version_count s o k) e in
          let f : r ≡ first_version s o k + suc j = omega arith in
          let same = sym (ap (λ (n : ℕ). (entry_at es n).key) f ∙ key_is k (suc j) (omega arith) h) in
          one_behind (key_at s o k) r true (omega arith) (equal_bytes-same _ _ same)
          ∙ own h
      go false e own others =
          let h = ltb-false (suc j) (version_count s o k) e in
          next_key_lem m k q r ek (omega arith) em (λ p n v. others p n v (omega arith))

  -- the keys of all records
  pub keys_in : (q : ℕ) → suc q ≡ o.count → keys_listed es ≡ arena_keys s o (suc q) 0
  unfolding keys_listed arena_keys entry_at first_version
  keys_in q e =
      let h : 0 < o.count = omega arith in
      let v = (a.keys 0 h).some_version in
      let f = first_version_next s o 0 in
      let l = first_version_le s o 1 o.count (omega arith) in
      let n = a.records_end in
      let some : 0 < length es = omega arith in
      let m : 1 + (length es - 1) ≡ length es = omega arith in
      let k = key_is 0 0 h v in
      ap keys_listed (drop-cons es 0 no_entry_of some)
      ∙ ap₂ (λ (x : List ℕ) (l : List (List ℕ)). x ∷ l) k
      (ap (λ (x : List ℕ). keys_behind x (drop 1 es)) k ∙ keys_behind_lem (length es - 1) 0 0 q 1 (omega arith) v refl m)
