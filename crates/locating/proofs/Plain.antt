-- An admitted section with its record is what a lookup counts on.
-- Assumes nothing.
use mathlib.Core.Path.{◌≡◌, sym, ap, ◌∙◌}
use mathlib.Core.Bool.{false}
use mathlib.Core.List.{List}
use Prim.Native.Nat.{ℕ, ◌+◌, ◌*◌, ◌<◌, ◌≤◌}
use native.Mathlib.Omega.{arith}
use lib.ListN.{length}
use Rattle.num.specs.Number.{le_at}
use Rattle.num.proofs.Choice.{if_false}
use Rattle.point.specs.Hash.{bucket_of, slot_of}
use Rattle.point.proofs.Slots.{bucket_lt, slot_lt}
use Rattle.encoding.specs.Encoding.{header_len}
use Rattle.header.specs.declared.Opened.{Opened}
use Rattle.header.specs.Facts.{Header, from_plain}
use Rattle.opened.proofs.Records.{facts_record}
use Rattle.header.proofs.Bounds.{buckets_range, pilot_inside, slot_inside, arena_end}
use Rattle.arena.specs.Key.{pilot_place, slot_place}
use Rattle.agreement.specs.Keys.{key_hash, key_slot}
use Rattle.agreement.specs.Agrees.{entry_at}
use Rattle.agreement.proofs.Same.{end_is, slot_is}
use Rattle.agreement.proofs.Laws.{address_names, key_names, sequences_fall, anchor_place, shared_inside, version_inside, version_listed, record_version, index_member}
use Rattle.admission.specs.Blocks.{store_entries}
use Rattle.admission.specs.Admits.{PilotsInside, Admits}
use Rattle.admission.proofs.Opening.{named_slot}
use Rattle.admission.proofs.Stored.{stored_entry}
use Rattle.lookup.specs.Lookup.{pilot_len, pilot_offset, pilot_of, slot_len, slot_offset}
use Rattle.locating.proofs.Indexed.{Indexed}

-- ---- where a plain record has a lookup read: where the opening read

module _ (o : Opened) (p : o.packed ≡ false) where
  pilot_four : pilot_len o ≡ 4
  unfolding pilot_len
  pilot_four = if_false _ _ _ p

  slot_wide : slot_len o ≡ o.encoding.address + 2
  unfolding slot_len
  slot_wide = if_false _ _ _ p

  pilot_place_lem : (h : ℕ) → pilot_offset o h ≡ pilot_place o h
  unfolding pilot_offset pilot_place
  pilot_place_lem h = ap (λ (n : ℕ). header_len + n * bucket_of h o.buckets) pilot_four

  pilot_number_lem : (s : List ℕ) (h : ℕ) → pilot_of s o h ≡ le_at s (pilot_place o h) 4
  unfolding pilot_of
  pilot_number_lem s h = if_false _ _ _ p ∙ ap (λ (n : ℕ). le_at s n 4) (pilot_place_lem h)

  slot_place_lem : (s : List ℕ) (h : ℕ) → slot_offset s o h ≡ slot_place s o h
  unfolding slot_offset slot_place
  slot_place_lem s h = rw (pilot_four, slot_wide, pilot_number_lem s h)

module _ (s : List ℕ) (o : Opened) (h : Header s o) where
  arena_inside : o.arena ≤ length s
  arena_inside = let e = arena_end s o (from_plain h) in omega arith

  bucket_below : (x : ℕ) → bucket_of x o.buckets < o.buckets
  bucket_below x = bucket_lt x o.buckets (buckets_range o h.dimensions).0

  -- the pilot of a hash lies in the section
  pilot_fits : (x : ℕ) → pilot_offset o x + pilot_len o ≤ length s
  unfolding pilot_place
  pilot_fits x =
      let e = pilot_place_lem o h.plain x in
      let f = pilot_four o h.plain in
      let i = pilot_inside s o h (bucket_of x o.buckets) (bucket_below x) in
      let l = arena_inside in
      omega arith

  module _ (g : PilotsInside s o) where
    -- its slot is one of n, as the opening and as the lookup find it
    slot_named : (x : ℕ) → slot_of x (le_at s (pilot_place o x) 4) o.count < o.count
    unfolding pilot_place
    slot_named x = slot_lt x _ o.count h.dimensions.some (named_slot s o g (bucket_of x o.buckets) (bucket_below x))

    slot-found : (x : ℕ) → slot_of x (pilot_of s o x) o.count < o.count
    slot-found x = rw (pilot_number_lem o h.plain s x) (slot_named x)

    -- and lies in the section
    slot-fits : (x : ℕ) → slot_offset s o x + slot_len o ≤ length s
    unfolding slot_place
    slot-fits x =
        let e = slot_place_lem o h.plain s x in
        let f = slot_wide o h.plain in
        let i = slot_inside s o h _ (slot_named x) in
        let l = arena_inside in
        omega arith

-- the slot of a key is where the lookup of its hash finds it
key_slot_lem : (s : List ℕ) (o : Opened) → Header s o → (k : ℕ) → slot_offset s o (key_hash s o k) ≡ key_slot s o k
key_slot_lem s o h k = slot_place_lem o h.plain s (key_hash s o k) ∙ sym (slot_is s o k)

-- ---- the store

-- the records of the blocks are indexed
pub plain_indexed : (s «data» blocks : List ℕ) (scratch : ℕ) (o : Opened) → Admits s «data» blocks scratch o
    → Indexed s o «data» (store_entries «data» blocks)
plain_indexed s «data» blocks scratch o a =
    let es = store_entries «data» blocks in
    let g = a.agrees in
    let place = key_slot_lem s o a.header in
    let e = arena_end s o (from_plain a.header) in
    let f = end_is s o in
    record {
      is_record = facts_record s o (from_plain a.header);
      pilot_inside = pilot_fits s o a.header;
      slot_below = slot-found s o a.header a.pilots;
      slot_inside = slot-fits s o a.header a.pilots;
      slot_address = λ k h. rw (place k) (g.slot_address k h);
      slot_fingerprint = λ _ k h. rw (place k) (g.slot_fingerprint k h);
      address_names = address_names g;
      key_names = key_names g;
      header_inside = λ k h. let i = (g.keys k h).header_inside in omega arith;
      anchor_place = anchor_place g;
      shared_inside = λ k h. let i = shared_inside g k h in omega arith;
      suffix_inside = λ k h. let i = (g.keys k h).suffix_inside in omega arith;
      version_inside = λ k j h l. let i = version_inside g k j h l in omega arith;
      versions = g.versions;
      version_listed = version_listed g;
      record_version = λ r h. let v = record_version g r h in (v.key, v.version, v.key_below, v.version_below, v.index);
      falling = sequences_fall g;
      values = λ r h. stored_entry «data» blocks a.covers (entry_at es r) (index_member es r h);
      checksums = g.checksums;
    }
