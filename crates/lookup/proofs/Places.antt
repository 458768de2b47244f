-- Where a lookup reads before it comes to the key record: the pilots and the slots of a record that passed question 24.
-- Assumes nothing.
use mathlib.Core.Path.{◌≡◌, refl, sym, ap, ap₂, ◌∙◌, subst⁻¹}
use mathlib.Core.Bool.{Bool, true, false}
use mathlib.Core.List.{List}
use Prim.Native.Nat.{ℕ, ◌+◌, ◌*◌, ◌-◌, ◌^◌, ◌<◌, ◌≤◌}
use native.Mathlib.Omega.{arith}
use lib.Dec.{eqb}
use lib.ListN.{length, get_or}
use borrow.Author.Tests.{le-leb, lt-leb}
use Rattle.std.specs.Prelude.{None, Ok, Err}
use Rattle.num.specs.Choice.{when◌then◌else◌, either}
use Rattle.num.specs.Number.{le_at}
use Rattle.num.proofs.Choice.{false_true, if_case, if_true, if_false}
use Rattle.num.proofs.Number.{le_at-one, le_at-split}
use Rattle.point.specs.Hash.{bucket_of, is_direct, direct_slot, slot_of, fingerprint_of}
use Rattle.point.proofs.Slots.{bucket_lt, position_lt, slot_direct, slot_position}
use Rattle.encoding.specs.Encoding.{Widths}
use Rattle.encoding.proofs.Widths.{widths_le}
use Rattle.header.specs.declared.Opened.{Opened}
use Rattle.opened.specs.Opened.{is_record_of}
use Rattle.opened.proofs.Records.{record_facts}
use Rattle.header.specs.Facts.{Header, PackedHeader, IsRecord, from_plain, from_packed}
use Rattle.header.proofs.Bounds.{product_le, buckets_range, pilot_inside, packed_pilot_inside, arena_end, record_dimensions}
use Rattle.lookup.specs.Lookup.{unpacked, pilot_len, pilot_offset, pilot_of, slot_len, slot_offset, key_record_at, slot_read_of, hash_read}
use Rattle.locator.specs.Locator.{readable}
use Rattle.locator.specs.Locator.{Located}
use Rattle.refusal.specs.declared.Refusal.TheVariants as refusal

-- ---- pilots

-- a packed pilot without its bit
pub unpacked_low : (p : ℕ) → p < 2 ^ 23 → p ≡ unpacked p
unfolding unpacked when◌then◌else◌
unpacked_low p h = rw (lt-leb (2 ^ 23) p h) (omega arith)

-- with it
pub unpacked_high : (p : ℕ) → 2 ^ 23 ≤ p → p < 2 ^ 24 → p - 2 ^ 23 + 2 ^ 31 ≡ unpacked p
unfolding unpacked when◌then◌else◌
unpacked_high p h l = rw (le-leb (2 ^ 23) p h) (omega arith)

-- three bytes from two and one
pub three_bytes : (s : List ℕ) (at low high : ℕ) → low ≡ le_at s at 2 → high ≡ get_or s (at + 2) 0 → low + 65536 * high ≡ le_at s at 3
three_bytes s at low high p q = ap₂ (λ (x y : ℕ). x + 2 ^ 16 * y) p (q ∙ sym (le_at-one s (at + 2))) ∙ sym (le_at-split s 1 2 at)

direct_lt : (pilot : ℕ) → direct_slot pilot < 2 ^ 31
unfolding direct_slot
direct_lt pilot = omega arith

-- a slot has less than 2^31 before it, whatever the pilot
pub slot_below : (h pilot n : ℕ) → 0 < n → n < 2 ^ 31 → slot_of h pilot n < 2 ^ 31
slot_below h pilot n p l = go (is_direct pilot) refl
  where
    go : (b : Bool) → is_direct pilot ≡ b → slot_of h pilot n < 2 ^ 31
    go true e = subst⁻¹ (λ (k : ℕ). k < 2 ^ 31) (slot_direct h pilot n e) (direct_lt pilot)
    go false e = subst⁻¹ (λ (k : ℕ). k < 2 ^ 31) (slot_position h pilot n e) (let q = position_lt h pilot n p in omega arith)

-- ---- the pilot of a hash, by its bucket

pub pilot_packed : (s : List ℕ) (o : Opened) (h b : ℕ) {p : ℕ} → b ≡ bucket_of h o.buckets → o.packed ≡ true → p ≡ le_at s (64 + 3 * b) 3
    → unpacked p ≡ pilot_of s o h
unfolding pilot_of pilot_offset pilot_len
pilot_packed s o h b {p} eb t ep =
    let n : ◌≡◌ {A = ℕ} (when◌then◌else◌ o.packed 3 4) 3 = if_true o.packed 3 4 t in
    ((ap unpacked (ep ∙ ap₂ (λ (k m : ℕ). le_at s (64 + k * m) 3) (sym n) eb)) ∙ sym (if_true o.packed _ _ t))

pub pilot_plain : (s : List ℕ) (o : Opened) (h b : ℕ) {p : ℕ} → b ≡ bucket_of h o.buckets → o.packed ≡ false → p ≡ le_at s (64 + 4 * b) 4
    → p ≡ pilot_of s o h
unfolding pilot_of pilot_offset pilot_len
pilot_plain s o h b {p} eb t ep =
    let n : ◌≡◌ {A = ℕ} (when◌then◌else◌ o.packed 3 4) 4 = if_false o.packed 3 4 t in
    ((ep ∙ ap₂ (λ (k m : ℕ). le_at s (64 + k * m) 4) (sym n) eb) ∙ sym (if_false o.packed _ _ t))

-- a plain slot ends with the fingerprint
pub plain_slot : (o : Opened) → o.packed ≡ false → slot_len o ≡ o.encoding.address + 2
unfolding slot_len
plain_slot o t = if_false o.packed _ _ t

-- a slot begins with the address
pub address_le : (o : Opened) → o.encoding.address ≤ slot_len o
unfolding slot_len
address_le o = if_case (λ n. o.encoding.address ≤ n) o.packed _ _ (λ _. omega arith) (λ _. omega arith)

-- ---- the questions of a slot, in their order

module _ (s : List ℕ) (o : Opened) (key : List ℕ) (limit h at : ℕ) where
  -- do the fingerprints agree, where there is one?
  abbrev agrees : Bool
  agrees = either o.packed (eqb (le_at s (at + o.encoding.address) 2) (fingerprint_of h))

  abbrev named : Located
  named = when◌then◌else◌ agrees (key_record_at s o key limit (o.arena + le_at s at o.encoding.address)) (Ok None)

  pub slot_outside : length s < at + slot_len o → Err refusal.Read ≡ slot_read_of s o key limit h at
  unfolding slot_read_of readable
  slot_outside l = sym (if_false _ named _ (lt-leb (at + slot_len o) (length s) l))

  module _ (inside : at + slot_len o ≤ length s) where
    from-slot : (r : Located) → r ≡ named → r ≡ slot_read_of s o key limit h at
    unfolding slot_read_of readable
    from-slot r e = e ∙ sym (if_true _ named _ (le-leb (at + slot_len o) (length s) inside))

    pub other_fingerprint : agrees ≡ false → Ok None ≡ slot_read_of s o key limit h at
    other_fingerprint f = from-slot (Ok None) (sym (if_false _ _ _ f))

    pub slot_names_lem : agrees ≡ true → {address : ℕ} → address ≡ le_at s at o.encoding.address
        → key_record_at s o key limit (o.arena + address) ≡ slot_read_of s o key limit h at
    slot_names_lem t e = from-slot _ ((ap (λ (n : ℕ). key_record_at s o key limit (o.arena + n)) e) ∙ sym (if_true _ _ _ t))

-- ---- records

pub packed_header : (s : List ℕ) (o : Opened) → IsRecord s o → o.packed ≡ true → PackedHeader s o
packed_header s o (from_plain h) e = false_true (sym h.plain ∙ e)
packed_header s o (from_packed h) e = h

pub plain_header : (s : List ℕ) (o : Opened) → IsRecord s o → o.packed ≡ false → Header s o
plain_header s o (from_plain h) e = h
plain_header s o (from_packed h) e = false_true (sym e ∙ h.packed)

module _ (s : List ℕ) (o : Opened) (r : IsRecord s o) where
  pub record_widths : Widths o.encoding
  record_widths = (record_dimensions s o r).widths

  pub some_bucket : 0 < o.buckets
  some_bucket = (buckets_range o (record_dimensions s o r)).0

  pub some_key : 0 < o.count
  some_key = (record_dimensions s o r).some

  pub arena_inside : o.arena ≤ length s
  arena_inside = let a = arena_end s o r in omega arith

  pub slot_len_le : slot_len o ≤ 10
  unfolding slot_len
  slot_len_le =
      let w = (widths_le o.encoding record_widths).0 in
      if_case (λ n. n ≤ 10) o.packed _ _ (λ _. omega arith) (λ _. omega arith)

  -- all pilots together
  pilots_le : pilot_len o * o.buckets ≤ 2 ^ 32
  unfolding pilot_len
  pilots_le =
      let b = buckets_range o (record_dimensions s o r) in
      if_case (λ n. n * o.buckets ≤ 2 ^ 32) o.packed 3 4 (λ _. omega arith) (λ _. omega arith)

  pub pilots_fit : (n : ℕ) → n ≡ pilot_len o → n * o.buckets ≤ 2 ^ 32
  pilots_fit n e = subst⁻¹ (λ (k : ℕ). k * o.buckets ≤ 2 ^ 32) e pilots_le

  -- the slots before one
  pub slots_fit : (h pilot slot size : ℕ) → slot ≡ slot_of h pilot o.count → size ≡ slot_len o → slot * size ≤ 2 ^ 31 * 10
  slots_fit h pilot slot size e f =
      let b = slot_below h pilot o.count some_key (record_dimensions s o r).few in
      let l = slot_len_le in
      product_le slot size 10 (omega arith) (omega arith)

  module _ (h : ℕ) where
    -- a packed pilot lies in the section
    pub packed_pilot : (b : ℕ) → b ≡ bucket_of h o.buckets → o.packed ≡ true → 64 + 3 * b + 3 ≤ length s
    packed_pilot b e t =
        let l = bucket_lt h o.buckets some_bucket in
        let i = packed_pilot_inside s o (packed_header s o r t) b (omega arith) in
        let a = arena_inside in
        omega arith

    -- a plain one too
    pub plain_pilot : (b : ℕ) → b ≡ bucket_of h o.buckets → o.packed ≡ false → 64 + 4 * b + 4 ≤ length s
    plain_pilot b e t =
        let l = bucket_lt h o.buckets some_bucket in
        let i = pilot_inside s o (plain_header s o r t) b (omega arith) in
        let a = arena_inside in
        omega arith

    -- the pilot is read inside the section
    pilot-read : pilot_offset o h + pilot_len o ≤ length s
    unfolding pilot_offset pilot_len
    pilot-read =
        if_case (λ n. 64 + n * bucket_of h o.buckets + n ≤ length s) o.packed 3 4
        (λ t. packed_pilot (bucket_of h o.buckets) refl t)
        (λ t. plain_pilot (bucket_of h o.buckets) refl t)

    -- so a lookup comes to its slot
    pub hash_read_lem : (key : List ℕ) (limit : ℕ) → hash_read s o key limit h ≡ slot_read_of s o key limit h (slot_offset s o h)
    unfolding hash_read readable
    hash_read_lem key limit = if_true _ _ _ (le-leb _ _ pilot-read)

    -- the place of the slot is below 2^36
    pub slot_at_lt : slot_offset s o h < 2 ^ 36
    unfolding slot_offset
    slot_at_lt =
        let l = slots_fit h (pilot_of s o h) (slot_of h (pilot_of s o h) o.count) (slot_len o) refl refl in
        let p = pilots_le in
        omega arith

-- ---- what the record of an opened section gives

pub given_widths : (s : List ℕ) (o : Opened) → is_record_of s o ≡ true → Widths o.encoding
given_widths s o e = record_widths s o (record_facts s o e)

pub given_address : (s : List ℕ) (o : Opened) → is_record_of s o ≡ true → o.encoding.address ≤ 8
given_address s o e = (widths_le o.encoding (given_widths s o e)).0

pub given_packed : (s : List ℕ) (o : Opened) (h b : ℕ) → is_record_of s o ≡ true → b ≡ bucket_of h o.buckets → o.packed ≡ true
    → 64 + 3 * b + 3 ≤ length s
given_packed s o h b g = packed_pilot s o (record_facts s o g) h b

pub given_plain : (s : List ℕ) (o : Opened) (h b : ℕ) → is_record_of s o ≡ true → b ≡ bucket_of h o.buckets → o.packed ≡ false
    → 64 + 4 * b + 4 ≤ length s
given_plain s o h b g = plain_pilot s o (record_facts s o g) h b
