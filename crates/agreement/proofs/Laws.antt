-- What follows where the records agree with the arena: keys, addresses and sequences are in order, every read lies in the arena, and
-- every record is a version of a key.
-- Assumes nothing.
use mathlib.Core.Path.{◌≡◌, sym, ap, ◌∙◌, subst}
use mathlib.Core.List.{List, Memᴰ}
use mathlib.Core.Bool.{true}
use Prim.Native.Nat.{ℕ, zero, suc, ◌+◌, ◌*◌, ◌<◌, ◌≤◌}
use native.Mathlib.Nat.{not-suc-le-zero, mul-le-mul_right}
use native.Mathlib.Omega.{arith}
use lib.ListN.{length, take, drop, length-append}
use Rattle.num.specs.Number.{le_at}
use Rattle.num.specs.Order.{less_than}
use Rattle.num.proofs.Lists as lists
use Rattle.num.proofs.Lists.{part_length}
use Rattle.num.proofs.Order.{less_than-transitive, less_than-different}
use Rattle.num.proofs.Steps.{neighbours}
use Rattle.block.specs.Walk.{Entry}
use Rattle.header.specs.declared.Opened.{Opened}
use Rattle.agreement.specs.Keys.{key_header_size, version_size, key_header_in, key_records_end, address_of, key_header_of, version_count, suffix_place, anchor_index, key_at, key_slot, first_version, version_place, version_seq}
use Rattle.agreement.specs.Agrees.{no_entry_of, entry_at, SameVersion, Agrees}
use Rattle.agreement.proofs.Indices.{anchor_le, address_next, address_le, version_before, version_of}

-- a number other than 0 has a width other than 0
width_some : (s : List ℕ) (at w : ℕ) → 0 < le_at s at w → 0 < w
unfolding le_at
width_some s at zero h = absurd (not-suc-le-zero h)
width_some s at (suc w) h = omega arith

-- a key header that counts versions is at least a byte long
header_some : (s : List ℕ) (o : Opened) (k : ℕ) → 0 < version_count s o k → 0 < key_header_size o.encoding
unfolding version_count key_header_of key_header_in key_header_size
header_some s o k h =
    let n = width_some s (o.arena + address_of s o k + o.encoding.address + 2 * o.encoding.key) o.encoding.count h in omega arith

-- the records of a list are those at its indices
pub member_index : (es : List Entry) (e : Entry) → Memᴰ e es → (r : ℕ) × (r < length es) × (e ≡ entry_at es r)
unfolding entry_at
member_index es e m = lists.member_index es e no_entry_of m

pub index_member : (es : List Entry) (r : ℕ) → r < length es → Memᴰ (entry_at es r) es
unfolding entry_at
index_member es r h = lists.index_member es r no_entry_of h

-- record r of a list, and the version that it is
pub record VersionOf (s : List ℕ) (o : Opened) (es : List Entry) (r : ℕ) : Type 0 where
  pub key : ℕ
  pub version : ℕ
  pub key_below : key < o.count
  pub version_below : version < version_count s o key
  pub index : r ≡ first_version s o key + version
  pub same : SameVersion s o key version (entry_at es r)

module _ {s «data» : List ℕ} {scratch : ℕ} {o : Opened} {es : List Entry} (a : Agrees s «data» scratch o es) where
  -- ---- order

  -- addresses rise from key to key, up to the arena's length
  pub addresses_rise : (k m : ℕ) → k < m → m ≤ o.count → address_of s o k < address_of s o m
  addresses_rise k m h l =
      let p = header_some s o k (a.keys k (omega arith)).some_version in
      let n = address_next s o k in
      let i = address_le s o (suc k) m h in
      omega arith

  -- so an address names one key
  pub address_names : (k m : ℕ) → k < o.count → m < o.count → address_of s o k ≡ address_of s o m → k ≡ m
  address_names k m h l e =
      let x : k < m → ⊥ = λ q. let z = addresses_rise k m q (omega arith) in omega arith in
      let y : m < k → ⊥ = λ q. let z = addresses_rise m k q (omega arith) in omega arith in
      omega arith

  -- keys rise
  pub keys_rise : (k m : ℕ) → k < m → m < o.count → less_than (key_at s o k) (key_at s o m) ≡ true
  keys_rise =
      neighbours (λ (i j : ℕ). less_than (key_at s o i) (key_at s o j) ≡ true) o.count
      (λ i j k p q. less_than-transitive (key_at s o i) (key_at s o j) (key_at s o k) p q) a.rising

  -- so a key's bytes name it
  pub key_names : (k m : ℕ) → k < o.count → m < o.count → key_at s o k ≡ key_at s o m → k ≡ m
  key_names k m h l e =
      let x : k < m → ⊥ = λ q. less_than-different _ _ (keys_rise k m q l) e in
      let y : m < k → ⊥ = λ q. less_than-different _ _ (keys_rise m k q h) (sym e) in
      omega arith

  -- keys with one slot are one key
  pub slot_names_lem : (k m : ℕ) → k < o.count → m < o.count → key_slot s o k ≡ key_slot s o m → k ≡ m
  slot_names_lem k m h l e =
      address_names k m h l
      (sym (a.slot_address k h) ∙ ap (λ (p : ℕ). le_at s p o.encoding.address) e ∙ a.slot_address m l)

  -- the sequences of a key fall
  pub sequences_fall : (k i j : ℕ) → k < o.count → i < j → j < version_count s o k → version_seq s o k j < version_seq s o k i
  sequences_fall k i j h =
      neighbours (λ (x y : ℕ). version_seq s o k y < version_seq s o k x) (version_count s o k) (λ x y z p q. omega arith) (λ x l. a.falling k x h l) i j

  -- ---- places: the key header, the suffix and the versions of a key lie in the arena by question 16

  -- the stored anchor is the address of the anchor's suffix
  pub anchor_place : (k : ℕ) → k < o.count → o.arena + (key_header_of s o k).anchor ≡ suffix_place s o (anchor_index k)
  unfolding suffix_place
  anchor_place k h = let e = (a.keys k h).anchor in omega arith

  -- what a key shares with its anchor lies in the arena
  pub shared_inside : (k : ℕ) → k < o.count → suffix_place s o (anchor_index k) + (key_header_of s o k).shared ≤ key_records_end s o
  shared_inside k h =
      let l = anchor_le k in
      let n : anchor_index k < o.count = omega arith in
      let p = (a.keys k h).shared in
      let q = (a.keys (anchor_index k) n).suffix_inside in
      omega arith

  -- and so does each version
  pub version_inside : (k j : ℕ) → k < o.count → j < version_count s o k → version_place s o k j + version_size o.encoding ≤ key_records_end s o
  unfolding version_place
  version_inside k j h l =
      let v = (a.keys k h).versions_inside in
      let m = mul-le-mul_right (version_size o.encoding) l in
      omega arith

  -- a key is as long as its two lengths say, in a section that reaches to the arena's end
  pub key_length : (k : ℕ) → k < o.count → key_records_end s o ≤ length s → length (key_at s o k) ≡ (key_header_of s o k).shared + (key_header_of s o k).suffix_len
  unfolding key_at
  key_length k h l =
      let p = shared_inside k h in
      let q = (a.keys k h).suffix_inside in
      let x = part_length s (suffix_place s o (anchor_index k)) (key_header_of s o k).shared (omega arith) in
      let y = part_length s (suffix_place s o k) (key_header_of s o k).suffix_len (omega arith) in
      let z = length-append (take (key_header_of s o k).shared (drop (suffix_place s o (anchor_index k)) s)) (take (key_header_of s o k).suffix_len (drop (suffix_place s o k) s)) in
      omega arith

  -- ---- records

  -- every version of a key is a record of the list
  pub version_listed : (k j : ℕ) → k < o.count → j < version_count s o k → first_version s o k + j < length es
  version_listed k j h l =
      let n = version_before s o k j o.count l h in
      let e = a.records_end in
      omega arith

  -- and every record of the list is a version of a key
  pub record_version : (r : ℕ) → r < length es → VersionOf s o es r
  record_version r h =
      let e = a.records_end in
      let w = version_of s o o.count r (omega arith) in
      record {
        key = w.0;
        version = w.1;
        key_below = w.2;
        version_below = w.3;
        index = w.4;
        same = subst (λ (i : ℕ). SameVersion s o w.0 w.1 (entry_at es i)) (sym w.4) (a.versions w.0 w.1 w.2 w.3);
      }
