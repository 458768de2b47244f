-- A lookup can count on the packed bytes of an admitted section.
-- Assumes nothing.
use mathlib.Core.Path.{◌≡◌, refl, sym, ap, ◌∙◌, subst, subst⁻¹}
use mathlib.Core.Bool.{Bool, true, false}
use mathlib.Core.List.{List}
use Prim.Native.Nat.{ℕ, ◌+◌, ◌*◌, ◌<◌, ◌≤◌, ◌^◌}
use native.Mathlib.Omega.{arith}
use lib.Dec.{leb}
use lib.ListN.{length}
use borrow.Author.Tests.{leb-false, le-leb, lt-leb}
use Rattle.num.specs.Choice.{when◌then◌else◌}
use Rattle.num.specs.Number.{le_at}
use Rattle.num.proofs.Choice.{if_true, if_false, false_true}
use Rattle.num.proofs.Parts.{entry_inside}
use Rattle.crc32.specs.V42.{crc_of}
use Rattle.block.specs.Walk.{Entry}
use Rattle.point.specs.Hash.{hash_value, bucket_of, is_direct, direct_slot, slot_of}
use Rattle.point.proofs.Slots.{bucket_lt, slot_direct, slot_lt}
use Rattle.encoding.specs.Encoding.{header_len}
use Rattle.header.specs.declared.Opened.{Opened}
use Rattle.header.specs.Header.{fits_packed, packed_record}
use Rattle.header.specs.Facts.{Header, from_plain}
use Rattle.header.proofs.Bounds.{buckets_range, arena_end}
use Rattle.arena.specs.declared.KeyHeader.{KeyHeader}
use Rattle.arena.specs.Key.{pilot_place, slot_place}
use Rattle.validate.specs.Walk.{value_of}
use Rattle.packed.specs.Packed.{pilot_at as plainPilot}
use Rattle.packed.specs.Packed.{pack_pilot, packed_bytes}
use Rattle.packed.proofs.Lengths.{length_packed}
use Rattle.packed.proofs.Bytes.{packed_end, packed_is_record, packed_pilot, packed_address, packed_part}
use Rattle.agreement.specs.Keys.{key_header_size, version_size, key_records_end, address_of, key_header_of, version_count, suffix_place, anchor_index, key_at, key_hash, first_version, version_place, version_seq, version_checksum}
use Rattle.agreement.specs.Agrees.{entry_at, SameVersion, Agrees}
use Rattle.agreement.proofs.Same.{end_is, slot_is}
use Rattle.agreement.proofs.Laws as laws
use Rattle.agreement.proofs.Indices.{anchor_le}
use Rattle.admission.specs.Blocks.{store_entries}
use Rattle.admission.specs.Admits.{PilotsInside, PilotsPack, Admits}
use Rattle.admission.proofs.Opening.{named_slot}
use Rattle.admission.proofs.PackedOpening.{pilot_packs_lem}
use Rattle.admission.proofs.Stored.{stored_entry}
use Rattle.lookup.specs.Lookup.{unpacked, pilot_len, pilot_offset, pilot_of, slot_len, slot_offset}
use Rattle.locating.proofs.Indexed.{Indexed}
use Rattle.locating.proofs.Moved.{ArenaKept, address_same, key_header_same, versions_same, first_same, suffix_moved, version_moved, key_same, seq_same, kind_same, length_same, offset_same, checksum_same}

-- ---- pilots and slots

-- a pilot that names its slot has bit 31 again
unpacked_direct : (q : ℕ) → direct_slot q < 2 ^ 23 → is_direct q ≡ true → unpacked (pack_pilot q) ≡ direct_slot q + 2 ^ 31
unfolding pack_pilot unpacked
unpacked_direct q b e =
    let p = if_true {A = ℕ} (is_direct q) (2 ^ 23) 0 e in
    let u = if_true {A = ℕ} (leb (2 ^ 23) (pack_pilot q)) (2 ^ 31) 0 (le-leb (2 ^ 23) (pack_pilot q) (omega arith)) in
    omega arith

-- another is as it was
unpacked_position : (q : ℕ) → direct_slot q < 2 ^ 23 → is_direct q ≡ false → unpacked (pack_pilot q) ≡ q
unfolding pack_pilot unpacked direct_slot is_direct
unpacked_position q b e =
    let l : q < 2 ^ 31 = leb-false (2 ^ 31) q e in
    let p = if_false {A = ℕ} (is_direct q) (2 ^ 23) 0 e in
    let u = if_false {A = ℕ} (leb (2 ^ 23) (pack_pilot q)) (2 ^ 31) 0 (lt-leb (2 ^ 23) (pack_pilot q) (omega arith)) in
    omega arith

-- the slot that it names
slot_named : (hash d n : ℕ) → d < 2 ^ 23 → slot_of hash (d + 2 ^ 31) n ≡ d
unfolding is_direct direct_slot
slot_named hash d n b = slot_direct hash (d + 2 ^ 31) n (le-leb (2 ^ 31) (d + 2 ^ 31) (omega arith)) ∙ omega arith

-- a pilot packed and unpacked gives the same slot
pub unpacked_slot : (hash q n : ℕ) → direct_slot q < 2 ^ 23 → slot_of hash (unpacked (pack_pilot q)) n ≡ slot_of hash q n
unpacked_slot hash q n b = go (is_direct q) refl
  where
    go : (t : Bool) → is_direct q ≡ t → slot_of hash (unpacked (pack_pilot q)) n ≡ slot_of hash q n
    go true e = ap (λ (k : ℕ). slot_of hash k n) (unpacked_direct q b e) ∙ slot_named hash (direct_slot q) n b ∙ sym (slot_direct hash q n e)
    go false e = ap (λ (k : ℕ). slot_of hash k n) (unpacked_position q b e)

module _ (s : List ℕ) (o : Opened) (h : Header s o) where
  -- a bucket is one of those of the record
  bucket_below : (hash : ℕ) → bucket_of hash o.buckets < o.buckets
  bucket_below hash = let r = buckets_range o h.dimensions in bucket_lt hash o.buckets (omega arith)

  -- the three bytes of a pilot lie in the packed bytes
  pilot_inside : (hash : ℕ) → pilot_offset (packed_record o) hash + pilot_len (packed_record o) ≤ length (packed_bytes s o)
  unfolding pilot_offset pilot_len packed_record when◌then◌else◌
  pilot_inside hash = let l = bucket_below hash in omega (arith, length_packed s o h)

  module _ (pack : PilotsPack s o) (direct : PilotsInside s o) where
    -- the slot of a hash is that in the section
    slot_same : (hash : ℕ) → slot_of hash (pilot_of (packed_bytes s o) (packed_record o) hash) o.count ≡ slot_of hash (le_at s (pilot_place o hash) 4) o.count
    unfolding pilot_of pilot_offset pilot_len plainPilot packed_record pilot_place when◌then◌else◌
    slot_same hash =
        let k = bucket_of hash o.buckets in
        let l = bucket_below hash in
        ap (λ (n : ℕ). slot_of hash (unpacked n) o.count) (packed_pilot s o h k l (pilot_packs_lem s o pack k l))
        ∙ unpacked_slot hash (le_at s (header_len + 4 * k) 4) o.count (pilot_packs_lem s o pack k l)

    -- so it is one of n
    slot_below : (hash : ℕ) → slot_of hash (pilot_of (packed_bytes s o) (packed_record o) hash) o.count < o.count
    unfolding pilot_place
    slot_below hash =
        let n = h.dimensions.some in
        subst⁻¹ (λ (k : ℕ). k < o.count) (slot_same hash)
        (slot_lt hash (le_at s (pilot_place o hash) 4) o.count (omega arith) (named_slot s o direct (bucket_of hash o.buckets) (bucket_below hash)))

    -- it lies in the packed bytes
    slot_inside : (hash : ℕ) → slot_offset (packed_bytes s o) (packed_record o) hash + slot_len (packed_record o) ≤ length (packed_bytes s o)
    unfolding slot_offset slot_len pilot_len packed_record when◌then◌else◌
    slot_inside hash =
        let e = entry_inside (slot_of hash (pilot_of (packed_bytes s o) (packed_record o) hash) o.count) o.count o.encoding.address (slot_below hash) in
        omega (arith, length_packed s o h)

    -- and holds the same address
    slot_holds : (hash : ℕ) → le_at (packed_bytes s o) (slot_offset (packed_bytes s o) (packed_record o) hash) o.encoding.address ≡ le_at s (slot_place s o hash) o.encoding.address
    unfolding slot_offset slot_len pilot_len packed_record slot_place when◌then◌else◌
    slot_holds hash =
        packed_address s o h (slot_of hash (pilot_of (packed_bytes s o) (packed_record o) hash) o.count) (slot_below hash)
        ∙ ap (λ (i : ℕ). le_at s (header_len + 4 * o.buckets + i * (o.encoding.address + 2)) o.encoding.address) (slot_same hash)

  -- what lies in the arena lies in the packed bytes
  place_inside : (x y n : ℕ) → x + o.arena ≡ y + (packed_record o).arena → y + n ≤ key_records_end s o → x + n ≤ length (packed_bytes s o)
  place_inside x y n e b = let a = arena_end s o (from_plain h) in omega (arith, end_is s o, packed_end s o h)

-- ---- keys and versions, of a store whose arena is kept in w

module _ {s «data» : List ℕ} {scratch : ℕ} {o : Opened} {w : List ℕ} (kept : ArenaKept s o w) {es : List Entry} (a : Agrees s «data» scratch o es) where
  -- a version of a key in w is one in the section
  version_below : (k j : ℕ) → k < o.count → j < version_count w (packed_record o) k → j < version_count s o k
  version_below k j l b = omega (arith, versions_same kept a k l)

  -- an address names one key
  address_names : (k m : ℕ) → k < o.count → m < o.count → address_of w (packed_record o) k ≡ address_of w (packed_record o) m → k ≡ m
  address_names k m l n e =
      laws.address_names a k m l n (sym (address_same kept a k (omega arith)) ∙ e ∙ address_same kept a m (omega arith))

  -- and so do a key's bytes
  key_names : (k m : ℕ) → k < o.count → m < o.count → key_at w (packed_record o) k ≡ key_at w (packed_record o) m → k ≡ m
  key_names k m l n e = laws.key_names a k m l n (sym (key_same kept a k l) ∙ e ∙ key_same kept a m n)

  -- the stored anchor is the address of the anchor's suffix
  anchor_place : (k : ℕ) → k < o.count → (packed_record o).arena + (key_header_of w (packed_record o) k).anchor ≡ suffix_place w (packed_record o) (anchor_index k)
  anchor_place k l =
      let n = anchor_le k in
      let x = laws.anchor_place a k l in
      let y = suffix_moved kept a (anchor_index k) (omega arith) in
      let z = ap (λ (r : KeyHeader). r.anchor) (key_header_same kept a k l) in
      omega arith

  -- the versions are the records
  same_version : (k j : ℕ) → k < o.count → j < version_count w (packed_record o) k
      → SameVersion w (packed_record o) k j (entry_at es (first_version w (packed_record o) k + j))
  same_version k j l b =
      let i = version_below k j l b in
      let v = a.versions k j l i in
      subst⁻¹ (λ (n : ℕ). SameVersion w (packed_record o) k j (entry_at es (n + j))) (first_same kept a k (omega arith))
      (record {
        key = v.key ∙ sym (key_same kept a k l);
        seq = v.seq ∙ sym (seq_same kept a k j l i);
        sum = subst⁻¹ (λ (n : ℕ). n < 2 ^ 64) (seq_same kept a k j l i) v.sum;
        kind = v.kind ∙ sym (kind_same kept a k j l i);
        size = v.size ∙ sym (length_same kept a k j l i);
        place = v.place ∙ sym (offset_same kept a k j l i);
      })

  -- every version is a record
  version_listed : (k j : ℕ) → k < o.count → j < version_count w (packed_record o) k → first_version w (packed_record o) k + j < length es
  version_listed k j l b =
      let n = laws.version_listed a k j l (version_below k j l b) in
      omega (arith, first_same kept a k (omega arith))

  -- and every record is a version
  record_version : (r : ℕ) → r < length es
      → (k : ℕ) × (j : ℕ) × (k < o.count) × (j < version_count w (packed_record o) k) × (r ≡ first_version w (packed_record o) k + j)
  record_version r l =
      let v = laws.record_version a r l in
      let b = v.key_below in
      let i = v.version_below in
      let e = v.index in
      let f = first_same kept a v.key (omega arith) in
      (v.key, v.version, b, omega (arith, versions_same kept a v.key b), omega arith)

  -- the sequences of a key fall
  falling : (k i j : ℕ) → k < o.count → i < j → j < version_count w (packed_record o) k → version_seq w (packed_record o) k j < version_seq w (packed_record o) k i
  falling k i j l h b =
      let m = version_below k j l b in
      let x = laws.sequences_fall a k i j l h m in
      let y = seq_same kept a k i l (omega arith) in
      let z = seq_same kept a k j l m in
      omega arith

  -- the stored checksums are those of the values
  checksums : o.encoding.checksum ≡ true → (k j : ℕ) → k < o.count → j < version_count w (packed_record o) k
      → version_checksum w (packed_record o) k j ≡ crc_of (value_of «data» (entry_at es (first_version w (packed_record o) k + j)))
  checksums c k j l b =
      let i = version_below k j l b in
      checksum_same kept a k j l i c
      ∙ a.checksums c k j l i
      ∙ ap (λ (n : ℕ). crc_of (value_of «data» (entry_at es (n + j)))) (sym (first_same kept a k (omega arith)))

  -- a slot that holds the address in the section holds the key's address
  slot_address : ((hash : ℕ) → le_at w (slot_offset w (packed_record o) hash) o.encoding.address ≡ le_at s (slot_place s o hash) o.encoding.address)
      → (k : ℕ) → k < o.count → le_at w (slot_offset w (packed_record o) (key_hash w (packed_record o) k)) o.encoding.address ≡ address_of w (packed_record o) k
  unfolding key_hash packed_record
  slot_address holds k l =
      ap (λ (key : List ℕ). le_at w (slot_offset w (packed_record o) (hash_value key o.seed)) o.encoding.address) (key_same kept a k l)
      ∙ holds (key_hash s o k)
      ∙ ap (λ (p : ℕ). le_at s p o.encoding.address) (sym (slot_is s o k))
      ∙ a.slot_address k l
      ∙ sym (address_same kept a k (omega arith))

  -- where all of the arena lies in w
  module _ (inside : (x y n : ℕ) → x + o.arena ≡ y + (packed_record o).arena → y + n ≤ key_records_end s o → x + n ≤ length w) where
    -- so do the key headers
    header_inside : (k : ℕ) → k < o.count → (packed_record o).arena + address_of w (packed_record o) k + key_header_size o.encoding ≤ length w
    header_inside k l =
        let e = address_same kept a k (omega arith) in
        inside ((packed_record o).arena + address_of w (packed_record o) k) (o.arena + address_of s o k) (key_header_size o.encoding) (omega arith)
        (a.keys k l).header_inside

    -- what keys share with their anchors
    shared_inside : (k : ℕ) → k < o.count → suffix_place w (packed_record o) (anchor_index k) + (key_header_of w (packed_record o) k).shared ≤ length w
    shared_inside k l =
        let n = anchor_le k in
        rw (key_header_same kept a k l)
        (inside _ _ (key_header_of s o k).shared (suffix_moved kept a (anchor_index k) (omega arith)) (laws.shared_inside a k l))

    -- their suffixes
    suffix_inside : (k : ℕ) → k < o.count → suffix_place w (packed_record o) k + (key_header_of w (packed_record o) k).suffix_len ≤ length w
    suffix_inside k l =
        rw (key_header_same kept a k l)
        (inside _ _ (key_header_of s o k).suffix_len (suffix_moved kept a k l) (a.keys k l).suffix_inside)

    -- and their versions
    version_inside : (k j : ℕ) → k < o.count → j < version_count w (packed_record o) k
        → version_place w (packed_record o) k j + version_size o.encoding ≤ length w
    version_inside k j l b =
        inside _ _ (version_size o.encoding) (version_moved kept a k j l) (laws.version_inside a k j l (version_below k j l b))

-- the packed bytes keep the arena
arena_kept : (s : List ℕ) (o : Opened) → Header s o → ArenaKept s o (packed_bytes s o)
arena_kept s o h = record { part = λ a n l. packed_part s o h a n (subst (λ (end : ℕ). o.arena + a + n ≤ end) (end_is s o) l) }

-- the packed bytes of an admitted section whose pilots pack
pub packed_indexed : (s «data» blocks : List ℕ) (scratch : ℕ) (o : Opened) → Admits s «data» blocks scratch o → fits_packed o ≡ true → PilotsPack s o
    → Indexed (packed_bytes s o) (packed_record o) «data» (store_entries «data» blocks)
unfolding packed_record
packed_indexed s «data» blocks scratch o m fits pack =
    let es = store_entries «data» blocks in
    let h = m.header in
    let a = m.agrees in
    let kept = arena_kept s o h in
    let inside = place_inside s o h in
    record {
      is_record = packed_is_record s o h fits;
      pilot_inside = pilot_inside s o h;
      slot_below = slot_below s o h pack m.pilots;
      slot_inside = slot_inside s o h pack m.pilots;
      slot_address = slot_address kept a (slot_holds s o h pack m.pilots);
      slot_fingerprint = λ e. false_true (sym e);
      address_names = address_names kept a;
      key_names = key_names kept a;
      header_inside = header_inside kept a inside;
      anchor_place = anchor_place kept a;
      shared_inside = shared_inside kept a inside;
      suffix_inside = suffix_inside kept a inside;
      version_inside = version_inside kept a inside;
      versions = same_version kept a;
      version_listed = version_listed kept a;
      record_version = record_version kept a;
      falling = falling kept a;
      values = λ r l. stored_entry «data» blocks m.covers (entry_at es r) (laws.index_member es r l);
      checksums = checksums kept a;
    }
