-- The key and the value length that an arena stores.
-- Assumes nothing.
use mathlib.Core.Path.{◌≡◌, sym, ap, ap₂, ◌∙◌}
use mathlib.Core.List.{List, ◌++◌}
use mathlib.Core.Bool.{true, false}
use Prim.Native.Nat.{ℕ, ◌+◌, ◌*◌, ◌-◌, ◌%◌, ◌<◌, ◌≤◌}
use native.Mathlib.Nat.{mod-eq_of_lt, mod-eq-sub-mod}
use native.Mathlib.Omega.{arith}
use lib.Dec.{eqb}
use lib.ListN.{length, take, drop, length-append, length-drop, take-append-drop}
use lib.Seq.{take_at, drop_at, take_all}
use borrow.Author.Tests.{le-leb, lt-leb}
use Rattle.num.specs.Choice.{when◌then◌else◌, both}
use Rattle.num.specs.Order.{equal_bytes}
use Rattle.num.proofs.Lists.{part_length}
use Rattle.num.proofs.Order.{equal_bytes-true, equal_bytes-same, equal_bytes-false}
use Rattle.num.proofs.Choice.{never_true, same_truth}
use Rattle.sstable.specs.declared.Kind.{Kind}
use Rattle.sstable.specs.declared.Kind.TheVariants.{Put, Tombstone}
use Rattle.encoding.specs.Encoding.{tombstone_of}
use Rattle.header.specs.declared.Opened.{Opened}
use Rattle.arena.specs.declared.Cursor.{Cursor}
use Rattle.versions.specs.Version.{stored_key, kind_in, length_in, same_kind}
use Rattle.arena.specs.Internal.{Standing}

-- the anchor's part of a key
abbrev pub shared_part : List ℕ → Opened → Cursor → List ℕ
shared_part s o c = take c.shared (drop (o.arena + c.anchor) s)

-- and its own
abbrev pub suffix_part : List ℕ → Cursor → List ℕ
suffix_part s c = take c.suffix_len (drop c.suffix s)

module _ (s : List ℕ) (o : Opened) (c : Cursor) (g : Standing s o c) where
  shared_length : length (shared_part s o c) ≡ c.shared
  shared_length = part_length s (o.arena + c.anchor) c.shared g.shared

  -- a stored key is as long as its two parts
  pub stored_length : length (stored_key s o c) ≡ c.shared + c.suffix_len
  unfolding stored_key
  stored_length =
      length-append (shared_part s o c) (suffix_part s c)
      ∙ ap₂ (λ (a b : ℕ). a + b) shared_length (part_length s c.suffix c.suffix_len g.suffix)

  -- it begins with the anchor's part
  pub stored_front : take c.shared (stored_key s o c) ≡ shared_part s o c
  unfolding stored_key
  stored_front = take_at (shared_part s o c) (suffix_part s c) c.shared shared_length

  -- and ends with its own
  pub stored_back : drop c.shared (stored_key s o c) ≡ suffix_part s c
  unfolding stored_key
  stored_back = drop_at (shared_part s o c) (suffix_part s c) c.shared shared_length

  module _ (key : List ℕ) where
    -- a key of another length is no stored key
    pub other_length : (length key ≡ c.shared + c.suffix_len → ⊥) → equal_bytes key (stored_key s o c) ≡ false
    other_length n = never_true _ (λ t. n (ap length (equal_bytes-true _ _ t) ∙ stored_length))

    -- nor is one that begins otherwise
    pub other_front : (n m : ℕ) → n ≡ c.shared → m ≡ c.shared
        → equal_bytes (take n key) (take m (drop (o.arena + c.anchor) s)) ≡ false → equal_bytes key (stored_key s o c) ≡ false
    other_front n m e d f =
        never_true _ (λ t. equal_bytes-false _ _ f
        (ap (λ (k : ℕ). take k key) e
        ∙ ap (take c.shared) (equal_bytes-true _ _ t)
        ∙ stored_front
        ∙ ap (λ (k : ℕ). take k (drop (o.arena + c.anchor) s)) (sym d)))

    -- one that begins so is the stored key if it ends so
    pub same_back : (n m i j : ℕ) → n ≡ c.shared → m ≡ c.shared → length key ≤ c.shared + i → j ≡ c.suffix_len
        → equal_bytes (take n key) (take m (drop (o.arena + c.anchor) s)) ≡ true
        → equal_bytes (take i (drop c.shared key)) (take j (drop c.suffix s)) ≡ equal_bytes key (stored_key s o c)
    unfolding stored_key
    same_back n m i j e d l x f =
        let rest : take i (drop c.shared key) ≡ drop c.shared key = take_all i (drop c.shared key) (omega (arith, length-drop c.shared key)) in
        let part : take j (drop c.suffix s) ≡ suffix_part s c = ap (λ (k : ℕ). take k (drop c.suffix s)) x in
        let front : take c.shared key ≡ shared_part s o c =
        ap (λ (k : ℕ). take k key) (sym e) ∙ equal_bytes-true _ _ f ∙ ap (λ (k : ℕ). take k (drop (o.arena + c.anchor) s)) d in
        same_truth _ _
        (λ t. equal_bytes-same _ _
        (sym (take-append-drop c.shared key)
        ∙ ap₂ (λ (a b : List ℕ). a ++ b) front (sym rest ∙ equal_bytes-true _ _ t ∙ part)))
        (λ t. equal_bytes-same _ _ (rest ∙ ap (drop c.shared) (equal_bytes-true _ _ t) ∙ stored_back ∙ sym part))

-- ---- the value length

module _ (o : Opened) (stored size : ℕ) where
  -- a stored length from the top bit on is no put's
  pub put_marked : tombstone_of o.encoding ≤ stored → both (same_kind (kind_in o stored) Put) (eqb (length_in o stored) size) ≡ false
  unfolding kind_in same_kind both when◌then◌else◌
  put_marked h = rw (le-leb _ _ h)

  -- one below it is the put's length
  pub put_length : stored < tombstone_of o.encoding → eqb stored size ≡ both (same_kind (kind_in o stored) Put) (eqb (length_in o stored) size)
  unfolding kind_in length_in same_kind both when◌then◌else◌
  put_length h = rw (lt-leb _ _ h, mod-eq_of_lt h)

  -- one below it is no tombstone's
  pub tombstone_unmarked : stored < tombstone_of o.encoding → both (same_kind (kind_in o stored) Tombstone) (eqb (length_in o stored) size) ≡ false
  unfolding kind_in same_kind both when◌then◌else◌
  tombstone_unmarked h = rw (lt-leb _ _ h)

  -- one from it on is the tombstone's length above it
  pub tombstone_length : tombstone_of o.encoding ≤ stored → stored < 2 * tombstone_of o.encoding
      → eqb (stored - tombstone_of o.encoding) size ≡ both (same_kind (kind_in o stored) Tombstone) (eqb (length_in o stored) size)
  unfolding kind_in length_in same_kind both when◌then◌else◌
  tombstone_length h l =
      let m : stored - tombstone_of o.encoding < tombstone_of o.encoding = omega arith in
      let e : stored % tombstone_of o.encoding ≡ stored - tombstone_of o.encoding = mod-eq-sub-mod h ∙ mod-eq_of_lt m in
      rw (le-leb _ _ h, e)

-- ---- kind and length of a record

module _ (o : Opened) (kind : Kind) (v n t size : ℕ) (e : n ≡ v) (z : t ≡ tombstone_of o.encoding) where
  pub put_agrees : kind ≡ Put → n < t → eqb n size ≡ both (same_kind (kind_in o v) kind) (eqb (length_in o v) size)
  put_agrees k h = rw (k, ← e) (put_length o n size (omega (arith, z, h)))

  pub put_refused : kind ≡ Put → t ≤ n → false ≡ both (same_kind (kind_in o v) kind) (eqb (length_in o v) size)
  put_refused k h = rw (k, ← e) (sym (put_marked o n size (omega (arith, z, h))))

  pub tombstone_agrees : kind ≡ Tombstone → t ≤ n → n < 2 * tombstone_of o.encoding
      → eqb (n - t) size ≡ both (same_kind (kind_in o v) kind) (eqb (length_in o v) size)
  tombstone_agrees k h b = rw (k, ← e, z) (tombstone_length o n size (omega (arith, z, h)) b)

  pub tombstone_refused : kind ≡ Tombstone → n < t → false ≡ both (same_kind (kind_in o v) kind) (eqb (length_in o v) size)
  tombstone_refused k h = rw (k, ← e) (sym (tombstone_unmarked o n size (omega (arith, z, h))))
