-- What the lookup of a key reads: the slot of its hash is that of a key, and only its own key record is answered from.
-- Assumes nothing.
use mathlib.Core.Path.{◌≡◌, refl, sym, ap, ap₂, ◌∙◌}
use mathlib.Core.List.{List, ◌++◌}
use Prim.Native.Nat.{ℕ, ◌+◌, ◌*◌, ◌<◌, ◌≤◌}
use native.Mathlib.Omega.{arith}
use lib.ListN.{length, take, drop, length-append, take-append-drop}
use lib.Seq.{take_at, drop_at}
use borrow.Author.Tests.{le-leb, eq-eqb}
use Rattle.num.specs.Number.{le_at}
use Rattle.num.proofs.Choice.{if_case, if_true, second_either}
use Rattle.num.proofs.Lists.{part_length}
use Rattle.num.proofs.Order.{equal_bytes-true, equal_bytes-same}
use Rattle.block.specs.Walk.{Entry}
use Rattle.point.specs.Hash.{hash_value, slot_of}
use Rattle.encoding.specs.Encoding.{header_len, key_header_len_of}
use Rattle.header.specs.declared.Opened.{Opened}
use Rattle.arena.specs.declared.KeyHeader.{KeyHeader}
use Rattle.arena.specs.Key.{key_header_at}
use Rattle.agreement.specs.Keys.{key_header_size, key_header_in, address_of, key_header_of, version_count, suffix_place, key_at, key_hash, version_place}
use Rattle.locator.specs.Locator.{Located}
use Rattle.std.specs.Prelude.{None, Ok, Err}
use Rattle.refusal.specs.declared.Refusal.TheVariants as refusal
use Rattle.num.specs.Choice.{when◌then◌else◌}
use Rattle.lookup.specs.Lookup.{pilot_len, pilot_of, slot_len, slot_offset, key_record_of, key_record_at, slot_read_of, hash_read, locate_of}
use Rattle.locator.specs.Locator.{readable, versions_from}
use Rattle.num.proofs.Counting.{all_taken}
use Rattle.locating.proofs.Indexed.{Indexed}

-- a read inside goes on
pub reads : (s : List ℕ) (place bytes : ℕ) (next : Located) → place + bytes ≤ length s → (when readable s place bytes then next else Err refusal.Read) ≡ next
unfolding readable
reads s place bytes next h = if_true _ next (Err refusal.Read) (le-leb _ _ h)

-- a list is its beginning and its rest
joined : (key p q : List ℕ) (n : ℕ) → take n key ≡ p → drop n key ≡ q → key ≡ p ++ q
joined key p q n e f = sym (take-append-drop n key) ∙ ap₂ (λ (u v : List ℕ). u ++ v) e f

module _ (s : List ℕ) (o : Opened) (key : List ℕ) (limit pos : ℕ) (h : KeyHeader)
    (a : o.arena + h.anchor + h.shared ≤ length s) (b : pos + key_header_len_of o.encoding + h.suffix_len ≤ length s) where
  -- of its own key the record's versions are asked
  record_own : key ≡ take h.shared (drop (o.arena + h.anchor) s) ++ take h.suffix_len (drop (pos + key_header_len_of o.encoding) s)
      → key_record_of s o key limit pos h ≡ versions_from h.versions s o (pos + key_header_len_of o.encoding + h.suffix_len) limit
  unfolding key_record_of
  record_own e =
      let p = take h.shared (drop (o.arena + h.anchor) s) in
      let q = take h.suffix_len (drop (pos + key_header_len_of o.encoding) s) in
      let n = part_length s (o.arena + h.anchor) h.shared a in
      let m = part_length s (pos + key_header_len_of o.encoding) h.suffix_len b in
      let l : length key ≡ h.shared + h.suffix_len = omega (arith, ap length e, length-append p q) in
      if_true _ _ _ (eq-eqb _ _ l)
      ∙ reads s _ _ _ a
      ∙ if_true _ _ _ (equal_bytes-same _ _ (ap (take h.shared) e ∙ take_at p q h.shared n))
      ∙ reads s _ _ _ b
      ∙ if_true _ _ _ (equal_bytes-same _ _ (ap (drop h.shared) e ∙ drop_at p q h.shared n))

  -- of another key nothing is found
  record_other : (key ≡ take h.shared (drop (o.arena + h.anchor) s) ++ take h.suffix_len (drop (pos + key_header_len_of o.encoding) s) → ⊥)
      → key_record_of s o key limit pos h ≡ Ok None
  unfolding key_record_of
  record_other n =
      if_case (λ (r : Located). r ≡ Ok None) _ _ _
      (λ _. reads s _ _ _ a ∙ if_case (λ (r : Located). r ≡ Ok None) _ _ _
      (λ e. reads s _ _ _ b ∙ if_case (λ (r : Located). r ≡ Ok None) _ _ _
      (λ f. absurd (n (joined key _ _ h.shared (equal_bytes-true _ _ e) (equal_bytes-true _ _ f)))) (λ _. refl))
      (λ _. refl))
      (λ _. refl)

-- the index of the slot of a hash
unfoldable slot_index : List ℕ → Opened → ℕ → ℕ
slot_index s o h = slot_of h (pilot_of s o h) o.count

-- slots of one index are one slot
slot_place_lem : (s : List ℕ) (o : Opened) (h g : ℕ) → slot_index s o h ≡ slot_index s o g → slot_offset s o h ≡ slot_offset s o g
unfolding slot_offset slot_index
slot_place_lem s o h g e = ap (λ (i : ℕ). header_len + pilot_len o * o.buckets + i * slot_len o) e

module _ (s : List ℕ) (o : Opened) («data» : List ℕ) (es : List Entry) (x : Indexed s o «data» es) where
  -- keys with one slot are one key
  slot_names_lem : (k m : ℕ) → k < o.count → m < o.count → slot_index s o (key_hash s o k) ≡ slot_index s o (key_hash s o m) → k ≡ m
  slot_names_lem k m h l e =
      x.address_names k m h l
      (sym (x.slot_address k h)
      ∙ ap (λ (p : ℕ). le_at s p o.encoding.address) (slot_place_lem s o (key_hash s o k) (key_hash s o m) e)
      ∙ x.slot_address m l)

  -- the slot of a hash is that of a key
  slot_taken : (h : ℕ) → (k : ℕ) × (k < o.count) × (slot_offset s o h ≡ slot_offset s o (key_hash s o k))
  unfolding slot_index
  slot_taken h =
      let w = all_taken o.count (λ k. slot_index s o (key_hash s o k)) (λ k _. x.slot_below (key_hash s o k)) slot_names_lem (slot_index s o h) (x.slot_below h) in
      (w.0, w.1, sym (slot_place_lem s o (key_hash s o w.0) h w.2))

  -- key k, as its record names its parts
  key_parts : (k : ℕ) → k < o.count → key_at s o k
      ≡ take (key_header_of s o k).shared (drop (o.arena + (key_header_of s o k).anchor) s)
      ++ take (key_header_of s o k).suffix_len (drop (o.arena + address_of s o k + key_header_len_of o.encoding) s)
  unfolding key_at suffix_place key_header_len_of key_header_size
  key_parts k h =
      ap (λ (p : ℕ). take (key_header_of s o k).shared (drop p s) ++ take (key_header_of s o k).suffix_len (drop (suffix_place s o k) s))
      (sym (x.anchor_place k h))

  -- they lie in the section
  anchor_inside : (k : ℕ) → k < o.count → o.arena + (key_header_of s o k).anchor + (key_header_of s o k).shared ≤ length s
  anchor_inside k h = omega (arith, x.anchor_place k h, x.shared_inside k h)

  suffix_inside : (k : ℕ) → k < o.count → o.arena + address_of s o k + key_header_len_of o.encoding + (key_header_of s o k).suffix_len ≤ length s
  unfolding suffix_place key_header_len_of key_header_size
  suffix_inside k h = x.suffix_inside k h

  -- the first version stands behind the suffix
  first_place : (k : ℕ) → o.arena + address_of s o k + key_header_len_of o.encoding + (key_header_of s o k).suffix_len ≡ version_place s o k 0
  unfolding version_place suffix_place key_header_len_of key_header_size
  first_place k = omega arith

  -- in its record a key of the arena meets its own versions
  key_own : (k : ℕ) → k < o.count → (limit : ℕ)
      → key_record_at s o (key_at s o k) limit (o.arena + address_of s o k) ≡ versions_from (version_count s o k) s o (version_place s o k 0) limit
  unfolding key_record_at key_header_of key_header_in key_header_at version_count key_header_len_of key_header_size
  key_own k h limit =
      reads s _ _ _ (x.header_inside k h)
      ∙ record_own s o (key_at s o k) limit (o.arena + address_of s o k) (key_header_of s o k) (anchor_inside k h) (suffix_inside k h) (key_parts k h)
      ∙ ap (λ (p : ℕ). versions_from (version_count s o k) s o p limit) (first_place k)

  -- and any other key nothing
  key_other : (k : ℕ) → k < o.count → (key : List ℕ) (limit : ℕ) → (key ≡ key_at s o k → ⊥) → key_record_at s o key limit (o.arena + address_of s o k) ≡ Ok None
  unfolding key_record_at key_header_of key_header_in key_header_at key_header_len_of key_header_size
  key_other k h key limit n =
      reads s _ _ _ (x.header_inside k h)
      ∙ record_other s o key limit (o.arena + address_of s o k) (key_header_of s o k) (anchor_inside k h) (suffix_inside k h) (λ e. n (e ∙ sym (key_parts k h)))

  -- its slot leads a key of the arena to its record
  slot_own : (k : ℕ) → k < o.count → (limit : ℕ)
      → slot_read_of s o (key_at s o k) limit (key_hash s o k) (slot_offset s o (key_hash s o k)) ≡ key_record_at s o (key_at s o k) limit (o.arena + address_of s o k)
  unfolding slot_read_of key_hash
  slot_own k h limit =
      reads s _ _ _ (x.slot_inside (key_hash s o k))
      ∙ if_true _ _ _ (second_either _ _ (λ p. eq-eqb _ _ (x.slot_fingerprint p k h)))
      ∙ ap (λ (a : ℕ). key_record_at s o (key_at s o k) limit (o.arena + a)) (x.slot_address k h)

  -- and any other key to nothing
  slot_other : (k : ℕ) → k < o.count → (key : List ℕ) (limit g : ℕ) → (key ≡ key_at s o k → ⊥)
      → slot_read_of s o key limit g (slot_offset s o (key_hash s o k)) ≡ Ok None
  unfolding slot_read_of key_hash
  slot_other k h key limit g n =
      reads s _ _ _ (x.slot_inside (key_hash s o k))
      ∙ if_case (λ (r : Located). r ≡ Ok None) _ _ _
      (λ _. ap (λ (a : ℕ). key_record_at s o key limit (o.arena + a)) (x.slot_address k h) ∙ key_other k h key limit n)
      (λ _. refl)

  -- every lookup comes to the slot of its hash
  slot_met : (key : List ℕ) (limit : ℕ) → locate_of s o key limit ≡ slot_read_of s o key limit (hash_value key o.seed) (slot_offset s o (hash_value key o.seed))
  unfolding locate_of hash_read
  slot_met key limit = if_true _ _ _ x.is_record ∙ reads s _ _ _ (x.pilot_inside (hash_value key o.seed))

  -- of a key of the arena its versions are asked
  pub located_own : (k : ℕ) → k < o.count → (limit : ℕ)
      → locate_of s o (key_at s o k) limit ≡ versions_from (version_count s o k) s o (version_place s o k 0) limit
  unfolding key_hash
  located_own k h limit = slot_met (key_at s o k) limit ∙ slot_own k h limit ∙ key_own k h limit

  -- of another key nothing is found
  pub located_other : (key : List ℕ) (limit : ℕ) → ((k : ℕ) → k < o.count → key ≡ key_at s o k → ⊥) → locate_of s o key limit ≡ Ok None
  located_other key limit n =
      let w = slot_taken (hash_value key o.seed) in
      slot_met key limit
      ∙ ap (slot_read_of s o key limit (hash_value key o.seed)) w.2
      ∙ slot_other w.0 w.1 key limit (hash_value key o.seed) (n w.0 w.1)
