-- What a span reads decides 25, and its pairs are those of the key records read.
-- Assumes nothing.
use mathlib.Core.Path.{◌≡◌, refl, sym, ap, ap₂, subst}
use mathlib.Core.Bool.{Bool, true, false}
use mathlib.Core.List.{List, [], ◌∷◌, ◌++◌}
use Prim.Native.Nat.{ℕ, zero, suc, ◌+◌, ◌*◌, ◌%◌, ◌^◌, ◌<◌, ◌≤◌}
use native.Mathlib.Nat.{mod-eq_of_lt}
use native.Mathlib.Omega.{arith}
use lib.Dec.{leb, ltb}
use lib.ListN.{length, length-append}
use borrow.Author.Tests.{leb-true, leb-false, ltb-true, ltb-false}
use Rattle.std.specs.Prelude.{Result, Ok, Err}
use Rattle.num.specs.Choice.{when◌then◌else◌, both}
use Rattle.num.proofs.Steps.{first_or_later}
use Rattle.refusal.specs.declared.Refusal.{Refusal}
use Rattle.refusal.specs.declared.Refusal.TheVariants as refusal
use Rattle.sstable.specs.declared.Kind.TheVariants.{Put, Tombstone}
use Rattle.encoding.specs.Encoding.{key_header_len_of, version_len_of, tombstone_of}
use Rattle.header.specs.declared.Opened.{Opened}
use Rattle.arena.specs.Key.{key_header_at}
use Rattle.versions.specs.Version.{stored_seq, stored_value, kind_in, length_in, stored_offset}
use Rattle.agreement.specs.Keys.{key_header_size, version_size, key_header_in, key_record_len, top_bit}
use Rattle.agreement.proofs.Same.{version_size_is}
use Rattle.locator.specs.Locator.{readable}
use Rattle.spans.specs.Span.{Pair, scan_address, value_end, unless_tombstone, value_at, first_within, versions_start, key_value, next_address_of, pairs_joined, values_from}
use Rattle.spanning.specs.Reads.{header_at, place_at, seq_at, marked_at, value_offset_at, read_end, Reached, Unread, header, sequence, sum, value_fields, RecordGives, put_read, tombstone_read, none_read, address_read, SomeUnread, RecordsGive, no_record, next_record, RecordsGiveOne}

-- an answer is 25 and a read fails, or none does and the pairs are given
pub data Judged (ReadFails : Type 0) (Gives : List Pair → Type 0) (r : Result (List Pair) Refusal) : Type 0 where
  bad : ReadFails → r ≡ Err refusal.Read → Judged ReadFails Gives r
  good : (ps : List Pair) → (ReadFails → ⊥) → Gives ps → r ≡ Ok ps → Judged ReadFails Gives r

-- ---- one key record

module _ (s : List ℕ) (o : Opened) (limit address : ℕ) where
  abbrev at : ℕ → ℕ
  at j = place_at s o address j

  abbrev seq : ℕ → ℕ
  seq j = seq_at s o address j

  -- a version is followed by the next
  next_version : (j : ℕ) → at j + version_len_of o.encoding ≡ at (suc j)
  unfolding place_at
  next_version j = omega (arith, version_size_is o.encoding)

  -- the versions before j are read, and above the limit
  record Passed (j : ℕ) : Type 0 where
    inside : (i : ℕ) → i < j → at i + o.encoding.seq ≤ length s
    below : (i : ℕ) → i < j → seq i < 2 ^ 64
    above : (i : ℕ) → i < j → limit < seq i

  none_passed : Passed 0
  none_passed = record { inside = λ i h. absurd (omega arith); below = λ i h. absurd (omega arith); above = λ i h. absurd (omega arith) }

  latest : (P : ℕ → Type 0) (j i : ℕ) → i < suc j → (i < j → P i) → P j → P i
  latest P j i h before now = go (leb j i) refl
    where
      go : (b : Bool) → leb j i ≡ b → P i
      go true e = let l = leb-true j i e in subst P (omega arith) now
      go false e = before (leb-false j i e)

  one_passed : (j : ℕ) → Passed j → at j + o.encoding.seq ≤ length s → seq j < 2 ^ 64 → limit < seq j → Passed (suc j)
  one_passed j p a b c =
      record {
        inside = λ i h. latest (λ k. at k + o.encoding.seq ≤ length s) j i h (p.inside i) a;
        below = λ i h. latest (λ k. seq k < 2 ^ 64) j i h (p.below i) b;
        above = λ i h. latest (λ k. limit < seq k) j i h (p.above i) c;
      }

  module _ (inside : o.arena + address + key_header_size o.encoding ≤ length s) where
    -- where all versions are passed nothing fails
    passed-all : (j : ℕ) → (header_at s o address).versions ≤ j → Passed j → Unread s o limit address → ⊥
    passed-all j n p (header l) = omega arith
    passed-all j n p (sequence i r l) = let v = r.version in let a = p.inside i (omega arith) in omega arith
    passed-all j n p (sum i r l) = let v = r.version in let a = p.below i (omega arith) in omega arith
    passed-all j n p (value_fields i r w l) = let v = r.version in let a = p.above i (omega arith) in omega arith

    -- nor where the first version within the limit is read
    met-whole : (j : ℕ) → Passed j → at j + o.encoding.seq ≤ length s → seq j < 2 ^ 64 → seq j ≤ limit → read_end s o address j ≤ length s
        → Unread s o limit address → ⊥
    met-whole j p a b w e u = go u
      where
        -- no version behind it is come to
        met : (i : ℕ) → Reached s o limit address i → i ≤ j
        met i r = go (leb i j) refl
          where
            go : (t : Bool) → leb i j ≡ t → i ≤ j
            go true q = leb-true i j q
            go false q = let l = r.above j (leb-false i j q) in absurd (omega arith)

        go : Unread s o limit address → ⊥
        go (header l) = omega arith
        go (sequence i r l) =
            latest (λ k. length s < at k + o.encoding.seq → ⊥) j i (let m = met i r in omega arith) (λ h m. let a = p.inside i h in omega arith)
            (λ m. omega arith) l
        go (sum i r l) =
            latest (λ k. 2 ^ 64 ≤ seq k → ⊥) j i (let m = met i r in omega arith) (λ h m. let a = p.below i h in omega arith)
            (λ m. omega arith) (let k : 2 ^ 64 ≤ seq i = omega (arith, l) in k)
        go (value_fields i r v l) =
            latest (λ k. seq k ≤ limit → length s < read_end s o address k → ⊥) j i
            (let m = met i r in omega arith) (λ h n m. let a = p.above i h in omega arith) (λ n m. omega arith) v l

  -- the pairs of the version that is met
  met_read : (j : ℕ) → Reached s o limit address j → seq j ≤ limit → RecordGives s o limit address (value_at s o (at j))
  unfolding value_at unless_tombstone kind_in length_in stored_value stored_offset when◌then◌else◌ tombstone_of top_bit marked_at value_offset_at
  met_read j r w = go (leb (tombstone_of o.encoding) (stored_value s o (at j))) refl
    where
      pair : Pair
      pair = record { offset = stored_offset s o (at j); len = length_in o (stored_value s o (at j)) }

      short : stored_value s o (at j) < tombstone_of o.encoding → pair ≡ record { offset = value_offset_at s o address j; len = marked_at s o address j }
      short l = ap (λ (n : ℕ). record { offset = value_offset_at s o address j; len = n }) (mod-eq_of_lt l)

      go : (b : Bool) → leb (tombstone_of o.encoding) (stored_value s o (at j)) ≡ b
          → RecordGives s o limit address (unless_tombstone (when b then Tombstone else Put) pair)
      go true e = tombstone_read j r w (leb-true _ _ e)
      go false e =
          let l = leb-false (tombstone_of o.encoding) (stored_value s o (at j)) e in
          subst (λ (p : Pair). RecordGives s o limit address (p ∷ [])) (sym (short l)) (put_read j r w l)

  abbrev KeyJudged : Result (List Pair) Refusal → Type 0
  KeyJudged = Judged (Unread s o limit address) (RecordGives s o limit address)

  module _ (inside : o.arena + address + key_header_size o.encoding ≤ length s) where
    -- the versions from j on
    versions_judged : (n j : ℕ) → j + n ≡ (header_at s o address).versions → Passed j → KeyJudged (first_within n s o (at j) limit)
    unfolding first_within readable stored_seq seq_at read_end both value_end when◌then◌else◌
    versions_judged zero j e p =
        good [] (passed-all inside j (omega arith) p) (none_read (λ i h. p.above i (omega arith))) refl
    versions_judged (suc n) j e p =
        go (leb (at j + o.encoding.seq) (length s)) refl (ltb (seq j) (2 ^ 64)) refl (leb (seq j) limit) refl
        (leb (at j + value_end o.encoding) (length s)) refl
        (λ q. subst (λ (a : ℕ). KeyJudged (first_within n s o a limit)) (sym (next_version j)) (versions_judged n (suc j) (omega arith) q))
      where
        r : Reached s o limit address j
        r = record { version = omega arith; above = p.above }

        go : (read : Bool) → leb (at j + o.encoding.seq) (length s) ≡ read → (sums : Bool) → ltb (seq j) (2 ^ 64) ≡ sums
            → (low : Bool) → leb (seq j) limit ≡ low → (whole : Bool) → leb (at j + value_end o.encoding) (length s) ≡ whole
            → (Passed (suc j) → KeyJudged (first_within n s o (at j + version_len_of o.encoding) limit))
            → KeyJudged (elim (both read sums) [
              | false ↦ Err refusal.Read
              | true ↦ elim low [
                | true ↦ when whole then Ok (value_at s o (at j)) else Err refusal.Read
                | false ↦ first_within n s o (at j + version_len_of o.encoding) limit
              ]
            ])
        go false a sums b low c whole d rest = bad (sequence j r (leb-false _ _ a)) refl
        go true a false b low c whole d rest = bad (sum j r (ltb-false _ _ b)) refl
        go true a true b false c whole d rest = rest (one_passed j p (leb-true _ _ a) (ltb-true _ _ b) (leb-false _ _ c))
        go true a true b true c false d rest = let l = leb-false (at j + value_end o.encoding) (length s) d in bad (value_fields j r (leb-true _ _ c) (omega arith)) refl
        go true a true b true c true d rest =
            let l = leb-true (at j + value_end o.encoding) (length s) d in
            good (value_at s o (at j)) (met-whole inside j p (leb-true _ _ a) (ltb-true _ _ b) (leb-true _ _ c) (omega arith))
            (met_read j r (leb-true _ _ c)) refl

  -- the whole key record
  key_judged : KeyJudged (key_value s o limit address (key_header_at s o.encoding (o.arena + address)))
  unfolding key_value readable when◌then◌else◌ key_header_len_of key_header_size key_header_at key_header_in header_at versions_start place_at
  key_judged = go (leb (o.arena + address + key_header_len_of o.encoding) (length s)) refl
    where
      from : ℕ
      from = o.arena + address + versions_start o (key_header_at s o.encoding (o.arena + address))

      first : from ≡ at 0
      first = omega arith

      go : (b : Bool) → leb (o.arena + address + key_header_len_of o.encoding) (length s) ≡ b
          → KeyJudged (when b then first_within (header_at s o address).versions s o from limit else Err refusal.Read)
      go true e =
          subst (λ (a : ℕ). KeyJudged (first_within (header_at s o address).versions s o a limit)) (sym first)
          (versions_judged (leb-true _ _ e) (header_at s o address).versions 0 (omega arith) none_passed)
      go false e = bad (header (leb-false _ _ e)) refl

-- ---- the key records of a span

module _ (s : List ℕ) (o : Opened) (first limit : ℕ) where
  -- one of so many of them from one on is not read
  SomeFrom : ℕ → ℕ → Type 0
  SomeFrom i count = (k : ℕ) × (i ≤ k) × (k < i + count) × Unread s o limit (address_read s o first k)

  next_address : (i : ℕ) → next_address_of o (address_read s o first i) (key_header_at s o.encoding (o.arena + address_read s o first i))
      ≡ address_read s o first (suc i)
  unfolding next_address_of versions_start address_read key_record_len key_header_len_of key_header_size version_len_of version_size key_header_at key_header_in header_at
  next_address i =
      let a = address_read s o first i in
      let h = key_header_at s o.encoding (o.arena + a) in
      let e : a + versions_start o h + h.versions * version_len_of o.encoding ≡ a + key_record_len o.encoding h = omega arith in
      ap (λ (m : ℕ). m % 2 ^ 32) e

  -- a key record before the others
  joined : (i count : ℕ) (a b : Result (List Pair) Refusal) → KeyJudged s o limit (address_read s o first i) a
      → Judged (SomeFrom (suc i) count) (RecordsGive s o first limit (suc i) count) b
      → Judged (SomeFrom i (suc count)) (RecordsGive s o first limit i (suc count)) (pairs_joined a b)
  unfolding pairs_joined SomeFrom
  joined i count a b (bad u e) q = bad (i, omega arith, omega arith, u) (ap (λ (x : Result (List Pair) Refusal). pairs_joined x b) e)
  joined i count a b (good ps n g e) (bad (k, l, m, u) f) = bad (k, omega arith, omega arith, u) (ap₂ pairs_joined e f)
  joined i count a b (good ps n g e) (good qs m h f) = good (ps ++ qs) none_fails (next_record g h) (ap₂ pairs_joined e f)
    where
      none_fails : (k : ℕ) × (i ≤ k) × (k < i + suc count) × Unread s o limit (address_read s o first k) → ⊥
      none_fails (k, l, below, u) =
          first_or_later (λ (j : ℕ). Unread s o limit (address_read s o first j) → ⊥) i k l n (λ later v. m (k, later, omega arith, v)) u

  -- so many from one on
  keys_judged : (count i : ℕ) → Judged (SomeFrom i count) (RecordsGive s o first limit i count) (values_from count s o limit (address_read s o first i))
  unfolding values_from SomeFrom
  keys_judged zero i = good [] (λ (k, l, m, u). omega arith) no_record refl
  keys_judged (suc count) i =
      joined i count _ _ (key_judged s o limit (address_read s o first i))
      (subst (λ (a : ℕ). Judged (SomeFrom (suc i) count) (RecordsGive s o first limit (suc i) count) (values_from count s o limit a)) (sym (next_address i))
      (keys_judged count (suc i)))

  -- the walk of a span
  pub span_judged : (count : ℕ)
      → Judged (SomeUnread s o first count limit) (RecordsGive s o first limit 0 count) (values_from count s o limit (scan_address s o first))
  unfolding scan_address address_read SomeFrom
  span_judged count = go (keys_judged count 0)
    where
      go : Judged (SomeFrom 0 count) (RecordsGive s o first limit 0 count) (values_from count s o limit (scan_address s o first))
          → Judged (SomeUnread s o first count limit) (RecordsGive s o first limit 0 count) (values_from count s o limit (scan_address s o first))
      go (bad (k, l, m, u) e) = bad (record { index = k; below = omega arith; unread = u }) e
      go (good ps n g e) =
          good ps (λ f. let b = f.below in n (f.index, omega arith, omega arith, f.unread)) g e

-- a key record gives one pair at most
key_few : {s : List ℕ} {o : Opened} {limit address : ℕ} {ps : List Pair} → RecordGives s o limit address ps → length ps ≤ 1
key_few (put_read j r w l) = omega arith
key_few (tombstone_read j r w l) = omega arith
key_few (none_read n) = omega arith

pub keys_few : {s : List ℕ} {o : Opened} {first limit i count : ℕ} {ps : List Pair} → RecordsGive s o first limit i count ps → length ps ≤ count
keys_few no_record = omega arith
keys_few (next_record {ps = one} {qs = rest} k r) = let a = key_few k in let b = keys_few r in omega (arith, length-append one rest)

-- ---- the pairs are one list

module _ (s : List ℕ) (o : Opened) (limit address : ℕ) where
  -- one version alone is come to and within the limit
  met_one : (i j : ℕ) → Reached s o limit address i → Reached s o limit address j → seq_at s o address i ≤ limit → seq_at s o address j ≤ limit → i ≡ j
  met_one i j p q a b =
      let m : i < j → ⊥ = λ l. let z = q.above i l in omega arith in
      let n : j < i → ⊥ = λ l. let z = p.above j l in omega arith in
      omega (arith, m, n)

  key_one : (ps qs : List Pair) → RecordGives s o limit address ps → RecordGives s o limit address qs → ps ≡ qs
  key_one ps qs (put_read i p a m) (put_read j q b n) =
      ap (λ (k : ℕ). record { offset = value_offset_at s o address k; len = marked_at s o address k } ∷ []) (met_one i j p q a b)
  key_one ps qs (put_read i p a m) (tombstone_read j q b n) =
      let e = ap (marked_at s o address) (met_one i j p q a b) in absurd (omega arith)
  key_one ps qs (put_read i p a m) (none_read n) = let z = n i p.version in absurd (omega arith)
  key_one ps qs (tombstone_read i p a m) (put_read j q b n) =
      let e = ap (marked_at s o address) (met_one i j p q a b) in absurd (omega arith)
  key_one ps qs (tombstone_read i p a m) (tombstone_read j q b n) = refl
  key_one ps qs (tombstone_read i p a m) (none_read n) = refl
  key_one ps qs (none_read m) (put_read j q b n) = let z = m j q.version in absurd (omega arith)
  key_one ps qs (none_read m) (tombstone_read j q b n) = refl
  key_one ps qs (none_read m) (none_read n) = refl

pub records_give_one : RecordsGiveOne
unfolding RecordsGiveOne
records_give_one s o first limit i count ps qs no_record no_record = refl
records_give_one s o first limit i count ps qs (next_record k r) (next_record l q) =
    ap₂ (λ (a b : List Pair). a ++ b) (key_one s o limit (address_read s o first i) _ _ k l) (records_give_one s o first limit (suc i) _ _ _ r q)
