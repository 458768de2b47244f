-- The versions of a key, by index: the first within the limit is answered, and the versions of the store are those of the keys.
-- Assumes nothing.
use mathlib.Core.Path.{◌≡◌, refl, sym, ap, ap₂, ◌∙◌, subst}
use mathlib.Core.Bool.{Bool, true, false}
use mathlib.Core.List.Memᴰ
use mathlib.Core.List.{List}
use Prim.Native.Nat.{ℕ, zero, suc, ◌+◌, ◌^◌, ◌<◌, ◌≤◌}
use native.Mathlib.Omega.{arith}
use lib.Dec.{leb, ltb}
use lib.ListN.{length}
use borrow.Author.Tests.{leb-true, leb-false, le-leb, lt-leb, lt-ltb}
use Rattle.num.specs.Choice.{both}
use Rattle.num.proofs.Choice.{if_true, if_false, true_both}
use Rattle.num.proofs.Steps.{first_or_later}
use Rattle.block.specs.Walk.{Entry}
use Rattle.encoding.specs.Encoding.{version_len_of}
use Rattle.header.specs.declared.Opened.{Opened}
use Rattle.versions.specs.Version.{stored_seq}
use Rattle.validate.specs.Walk.{value_of}
use Rattle.agreement.specs.Keys.{version_size, version_count, key_at, first_version, version_place, version_seq}
use Rattle.agreement.specs.Agrees.{entry_at}
use Rattle.agreement.proofs.Same.{version_size_is, seq_is, kind_is, length_is, offset_is, checksum_is}
use Rattle.agreement.proofs.Laws.{member_index, index_member}
use Rattle.admission.specs.Blocks.{store_entries}
use Rattle.admission.proofs.Stored.{StoredEntry}
use Rattle.locator.specs.Locator.{Located}
use Rattle.std.specs.Prelude.{Some, None, Ok, Err}
use Rattle.refusal.specs.declared.Refusal.TheVariants as refusal
use Rattle.num.specs.Choice.{when◌then◌else◌}
use Rattle.locator.specs.Locator.{readable, locator_at, versions_from}
use Rattle.lookup.specs.Value.{value_inside_of, value_part, value_number}
use Rattle.locating.specs.Store.{LinkerStore, Version, version_in, store_versions, Holds}
use Rattle.locating.specs.Looks.{Answers}
use Rattle.locating.proofs.Indexed.{Indexed}
use Rattle.locating.proofs.Reading.{reads}

-- ---- the walk over the versions of a key

-- what the two tests of a version lead to
unfoldable tested : Located → Located → Bool → Bool → Located
tested met passed inside within = elim inside [ true ↦ elim within [ true ↦ met | false ↦ passed ] | false ↦ Err refusal.Read ]

module _ (s : List ℕ) (o : Opened) (pos limit count : ℕ) (r : pos + version_len_of o.encoding ≤ length s) (b : stored_seq s o pos < 2 ^ 64) where
  -- its sequence lies in the section, and is below 2^64
  version_asked : both (readable s pos o.encoding.seq) (ltb (stored_seq s o pos) (2 ^ 64)) ≡ true
  unfolding readable version_len_of
  version_asked = let l : pos + o.encoding.seq ≤ length s = omega arith in true_both _ _ (le-leb _ _ l) (lt-ltb _ _ b)

  -- so the limit decides
  version_decided : (within : Bool) → leb (stored_seq s o pos) limit ≡ within → versions_from (suc count) s o pos limit
      ≡ tested (when readable s pos (version_len_of o.encoding) then Ok (Some (locator_at s o pos)) else Err refusal.Read) (versions_from count s o (pos + version_len_of o.encoding) limit) true within
  unfolding versions_from tested
  version_decided within e =
      ap₂ (tested (when readable s pos (version_len_of o.encoding) then Ok (Some (locator_at s o pos)) else Err refusal.Read) (versions_from count s o (pos + version_len_of o.encoding) limit))
      version_asked e

  -- within the limit it is answered
  version_met : stored_seq s o pos ≤ limit → versions_from (suc count) s o pos limit ≡ Ok (Some (locator_at s o pos))
  unfolding tested
  version_met h = version_decided true (le-leb _ _ h) ∙ reads s pos (version_len_of o.encoding) (Ok (Some (locator_at s o pos))) r

  -- above it it is passed
  version_passed : limit < stored_seq s o pos → versions_from (suc count) s o pos limit ≡ versions_from count s o (pos + version_len_of o.encoding) limit
  unfolding tested
  version_passed h = version_decided false (lt-leb _ _ h)

-- version i of key k is within the limit, and those before it from a version on are above
pub record FirstWithin (s : List ℕ) (o : Opened) (k limit from i : ℕ) : Type 0 where
  pub below : i < version_count s o k
  pub within : version_seq s o k i ≤ limit
  pub earlier : (m : ℕ) → from ≤ m → m < i → limit < version_seq s o k m

-- the answer of the versions of key k from one on
pub data Answered (s : List ℕ) (o : Opened) (k limit from : ℕ) (answer : Located) : Type 0 where
  none : ((m : ℕ) → from ≤ m → m < version_count s o k → limit < version_seq s o k m) → answer ≡ Ok None → Answered s o k limit from answer
  first : (i : ℕ) → FirstWithin s o k limit from i → answer ≡ Ok (Some (locator_at s o (version_place s o k i))) → Answered s o k limit from answer

-- a version is followed by the next
pub next_place : (s : List ℕ) (o : Opened) (k j : ℕ) → version_place s o k j + version_len_of o.encoding ≡ version_place s o k (suc j)
unfolding version_place
next_place s o k j = omega (arith, version_size_is o.encoding)

-- behind a version above the limit the answer is that of the rest
answered_behind : (s : List ℕ) (o : Opened) (k limit j : ℕ) (answer rest : Located) → limit < version_seq s o k j → answer ≡ rest
    → Answered s o k limit (suc j) rest → Answered s o k limit j answer
answered_behind s o k limit j answer rest a e (none above f) =
    none (λ m p q. first_or_later (λ (i : ℕ). limit < version_seq s o k i) j m p a (λ l. above m l q)) (e ∙ f)
answered_behind s o k limit j answer rest a e (first i w f) =
    first i
    (record {
      below = w.below;
      within = w.within;
      earlier = λ m p q. first_or_later (λ (n : ℕ). limit < version_seq s o k n) j m p a (λ l. w.earlier m l q);
    })
    (e ∙ f)

module _ (s : List ℕ) (o : Opened) («data» : List ℕ) (es : List Entry) (x : Indexed s o «data» es) (k : ℕ) (h : k < o.count) (limit : ℕ) where
  -- the walk over the versions of key k from one on answers so
  pub answered : (count j : ℕ) → j + count ≡ version_count s o k → Answered s o k limit j (versions_from count s o (version_place s o k j) limit)
  unfolding versions_from version_seq stored_seq version_len_of version_size
  answered zero j n = none (λ m p q. absurd (omega arith)) refl
  answered (suc count) j n = go (leb (version_seq s o k j) limit) refl (answered count (suc j) (omega arith))
    where
      l : j < version_count s o k
      l = omega arith

      go : (b : Bool) → leb (version_seq s o k j) limit ≡ b → Answered s o k limit (suc j) (versions_from count s o (version_place s o k (suc j)) limit)
          → Answered s o k limit j (versions_from (suc count) s o (version_place s o k j) limit)
      go true e rest =
          let w : version_seq s o k j ≤ limit = leb-true _ _ e in
          first j (record { below = l; within = w; earlier = λ m p q. absurd (omega arith) })
          (version_met s o (version_place s o k j) limit count (x.version_inside k j h l) (x.versions k j h l).sum w)
      go false e rest =
          let a : limit < version_seq s o k j = leb-false _ _ e in
          answered_behind s o k limit j _ _ a
          (version_passed s o (version_place s o k j) limit count (x.version_inside k j h l) (x.versions k j h l).sum a
          ∙ ap (λ (p : ℕ). versions_from count s o p limit) (next_place s o k j))
          rest

-- ---- the versions of the store

-- a record's value is what the value entry gives
module _ («data» : List ℕ) (e : Entry) (v : StoredEntry «data» e) where
  value_number_lem : value_number «data» e.place e.size ≡ 0
  unfolding value_number value_inside_of
  value_number_lem = if_true _ _ _ (le-leb _ _ v.value_inside)

  value_part_lem : value_part «data» e.place e.size ≡ value_of «data» e
  unfolding value_part value_inside_of value_of
  value_part_lem = if_true _ _ _ (le-leb _ _ v.value_inside)

-- version j of key k, as the blocks hold it
unfoldable pub version_at : LinkerStore → ℕ → ℕ → Version
version_at t k j = version_in t.backing (entry_at (store_entries t.backing t.blocks) (first_version t.bytes t.opened k + j))

-- the version is one of the store's, by key and index
pub record Listed (t : LinkerStore) (v : Version) : Type 0 where
  pub key : ℕ
  pub version : ℕ
  pub key_below : key < t.opened.count
  pub version_below : version < version_count t.bytes t.opened key
  pub same : version_at t key version ≡ v

module _ (t : LinkerStore) (x : Indexed t.bytes t.opened t.backing (store_entries t.backing t.blocks)) where
  open t use {bytes as s, backing as «data», blocks, opened as o}

  module _ (k j : ℕ) (h : k < o.count) (l : j < version_count s o k) where
    -- its key, its sequence, and that the store holds it
    pub version_key : (version_at t k j).key ≡ key_at s o k
    unfolding version_at version_in
    version_key = (x.versions k j h l).key

    pub version_seq_lem : (version_at t k j).seq ≡ version_seq s o k j
    unfolding version_at version_in
    version_seq_lem = (x.versions k j h l).seq

    pub version_held : Holds t (version_at t k j)
    unfolding Holds store_versions version_at
    version_held =
        Memᴰ.map (version_in «data») (index_member (store_entries «data» blocks) (first_version s o k + j) (x.version_listed k j h l))

    -- what stands at its place answers it
    pub version_answers : Answers t (version_at t k j) (locator_at s o (version_place s o k j))
    unfolding locator_at version_at version_in
    version_answers =
        let e = entry_at (store_entries «data» blocks) (first_version s o k + j) in
        let same = x.versions k j h l in
        let offset = sym (same.place ∙ offset_is s o k j) in
        let size = same.size ∙ length_is s o k j in
        let v = x.values (first_version s o k + j) (x.version_listed k j h l) in
        record {
          kind = sym (same.kind ∙ kind_is s o k j);
          seq = sym (same.seq ∙ seq_is s o k j);
          len = sym (v.value_length ∙ size);
          inside = ap₂ (value_number «data») offset (sym size) ∙ value_number_lem «data» e v;
          value = ap₂ (value_part «data») offset (sym size) ∙ value_part_lem «data» e v;
          checksum = λ c. if_true _ _ _ c ∙ sym (checksum_is s o k j) ∙ x.checksums c k j h l;
          no_checksum = λ c. if_false _ _ _ c;
        }

  -- every version of the store is one of a key
  pub listed : (v : Version) → Holds t v → Listed t v
  unfolding Holds store_versions version_at
  listed v m =
      let a = Memᴰ.of_map (version_in «data») (store_entries «data» blocks) m in
      let i = member_index (store_entries «data» blocks) a.0 a.1 in
      let w = x.record_version i.0 i.1 in
      record {
        key = w.0;
        version = w.1;
        key_below = w.2;
        version_below = w.3;
        same = ap (λ (r : ℕ). version_in «data» (entry_at (store_entries «data» blocks) r)) (sym w.4) ∙ ap (version_in «data») (sym i.2) ∙ a.2;
      }

  -- a version of key k is one of its versions
  pub own_version : (k : ℕ) → k < o.count → (v : Version) → Holds t v → v.key ≡ key_at s o k
      → (j : ℕ) × (j < version_count s o k) × (version_at t k j ≡ v)
  own_version k h v m e =
      let y = listed v m in
      let c : key_at s o y.key ≡ key_at s o k =
      sym (version_key y.key y.version y.key_below y.version_below) ∙ ap (λ (w : Version). w.key) y.same ∙ e in
      subst (λ (i : ℕ). (j : ℕ) × (j < version_count s o i) × (version_at t i j ≡ v)) (x.key_names y.key k y.key_below h c)
      (y.version, y.version_below, y.same)

  -- a sequence names one version of a key
  pub seq_names : (k i j : ℕ) → k < o.count → i < version_count s o k → j < version_count s o k → version_seq s o k i ≡ version_seq s o k j → i ≡ j
  seq_names k i j h p q e =
      let a : i < j → ⊥ = λ l. let z = x.falling k i j h l q in omega arith in
      let b : j < i → ⊥ = λ l. let z = x.falling k j i h l p in omega arith in
      omega arith

  -- key and sequence name a version of the store
  pub version_names : (v w : Version) → Holds t v → Holds t w → v.key ≡ w.key → v.seq ≡ w.seq → v ≡ w
  version_names v w m n e f =
      let y = listed v m in
      let k = y.key in
      let c : v.key ≡ key_at s o k = ap (λ (u : Version). u.key) (sym y.same) ∙ version_key k y.version y.key_below y.version_below in
      let z = own_version k y.key_below w n (sym e ∙ c) in
      let a : version_seq s o k y.version ≡ v.seq =
      sym (version_seq_lem k y.version y.key_below y.version_below) ∙ ap (λ (u : Version). u.seq) y.same in
      let b : version_seq s o k z.0 ≡ w.seq = sym (version_seq_lem k z.0 y.key_below z.1) ∙ ap (λ (u : Version). u.seq) z.2 in
      sym y.same ∙ ap (version_at t k) (seq_names k y.version z.0 y.key_below y.version_below z.1 (a ∙ f ∙ sym b)) ∙ z.2
