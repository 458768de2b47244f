-- Where the walk of the arena reads, and how large the numbers are that it finds.
-- Assumes nothing.
use mathlib.Core.Path.{◌≡◌, refl, sym, ap, ◌∙◌, subst⁻¹}
use mathlib.Core.List.{List, [], ◌∷◌}
use mathlib.Core.Bool.{Bool, true, false}
use Prim.Native.Nat.{ℕ, ◌+◌, ◌*◌, ◌-◌, ◌^◌, ◌<◌, ◌≤◌}
use native.Mathlib.Nat.{mul-le-mul_right}
use native.Mathlib.Omega.{arith}
use lib.Dec.{leb}
use lib.ListN.{length}
use borrow.Author.Tests.{leb-true, leb-false, le-leb, lt-leb}
use Rattle.num.specs.Choice.{either, one_of}
use Rattle.num.specs.Number.{Bytes, le_at, is_width}
use Rattle.num.proofs.Choice.{one_of-case}
use Rattle.num.proofs.Number.{le_at-lt}
use Rattle.num.proofs.Parts.{entry_inside}
use Rattle.point.specs.Hash.{bucket_of, slot_of}
use Rattle.point.proofs.Slots.{bucket_lt, slot_lt}
use Rattle.encoding.specs.declared.Encoding.{Encoding}
use Rattle.encoding.specs.Encoding.{Widths, buckets_of, arena_start_of, version_len_of}
use Rattle.header.specs.declared.Opened.{Opened}
use Rattle.arena.specs.declared.Cursor.{Cursor}
use Rattle.arena.specs.declared.KeyHeader.{KeyHeader}
use Rattle.arena.specs.Key.{key_header_at, pilot_place, slot_place}
use Rattle.arena.specs.Internal.{Readable, Inside, Standing, Narrow}

-- each width is one of those that are read
pub widths_read : (e : Encoding) → Widths e
    → (is_width e.address ≡ true) × (is_width e.key ≡ true) × (is_width e.count ≡ true) × (is_width e.seq ≡ true) × (is_width e.value ≡ true)
unfolding is_width one_of either
widths_read e w = (
  one_of-case (λ n. is_width n ≡ true) (4 ∷ 8 ∷ []) e.address w.address (refl, (refl, tt)),
  one_of-case (λ n. is_width n ≡ true) (1 ∷ 2 ∷ 4 ∷ []) e.key w.key (refl, (refl, (refl, tt))),
  one_of-case (λ n. is_width n ≡ true) (1 ∷ 2 ∷ 4 ∷ []) e.count w.count (refl, (refl, (refl, tt))),
  w.seq,
  one_of-case (λ n. is_width n ≡ true) (2 ∷ 4 ∷ []) e.value w.value (refl, (refl, tt)),
)

-- each of them alone
pub address_width : (e : Encoding) → Widths e → is_width e.address ≡ true
address_width e w = (widths_read e w).0

pub key_width : (e : Encoding) → Widths e → is_width e.key ≡ true
key_width e w = (widths_read e w).1

pub count_width : (e : Encoding) → Widths e → is_width e.count ≡ true
count_width e w = (widths_read e w).2

pub seq_width : (e : Encoding) → Widths e → is_width e.seq ≡ true
seq_width e w = (widths_read e w).3

pub value_width : (e : Encoding) → Widths e → is_width e.value ≡ true
value_width e w = (widths_read e w).4

-- a number of at most four bytes
four_bytes : (s : List ℕ) (at w : ℕ) → Bytes s → one_of (1 ∷ 2 ∷ 4 ∷ []) w ≡ true → le_at s at w < 2 ^ 32
four_bytes s at w b h =
    one_of-case (λ n. le_at s at n < 2 ^ 32) _ _ h
    (omega (arith, le_at-lt s b 1 at), (omega (arith, le_at-lt s b 2 at), (omega (arith, le_at-lt s b 4 at), tt)))

-- the lengths and the number of versions that a key header stores have four bytes at most
pub key_header_narrow : (s : List ℕ) (e : Encoding) (pos : ℕ) → Bytes s → Widths e → Narrow (key_header_at s e pos)
unfolding key_header_at
key_header_narrow s e pos b w =
    record {
      shared = four_bytes s _ _ b w.key;
      suffix = four_bytes s _ _ b w.key;
      versions = four_bytes s _ _ b w.count;
    }

pub narrow_for : (s : List ℕ) (e : Encoding) (pos : ℕ) (h : KeyHeader) → Bytes s → Widths e → h ≡ key_header_at s e pos → Narrow h
narrow_for s e pos h b w z = subst⁻¹ Narrow z (key_header_narrow s e pos b w)

module _ (s : List ℕ) (o : Opened) (r : Readable s o) where
  -- there is a bucket
  pub some_bucket : 0 < o.buckets
  unfolding buckets_of
  some_bucket = let b = r.buckets in let k = r.some_key in omega arith

  -- the slots end where the arena starts
  pub slots_end : 64 + 4 * o.buckets + o.count * (o.encoding.address + 2) ≡ o.arena
  unfolding arena_start_of
  slots_end = ap (λ (b : ℕ). 64 + 4 * b + o.count * (o.encoding.address + 2)) r.buckets ∙ sym r.arena

  -- a pilot lies before the slots
  pub pilot_inside : (h : ℕ) → pilot_place o h + 4 ≤ 64 + 4 * o.buckets
  unfolding pilot_place
  pilot_inside h = let l = bucket_lt h o.buckets some_bucket in omega arith

  -- the pilot of a bucket, which is read before that, and the slots behind all pilots
  pub pilot_read : (h b : ℕ) → b ≡ bucket_of h o.buckets
      → (64 + 4 * b + 4 ≤ 64 + 4 * o.buckets) × (64 + 4 * o.buckets ≤ o.arena) × (o.arena < length s)
  unfolding pilot_place
  pilot_read h b e = (omega (arith, pilot_inside h, e), omega (arith, slots_end), r.arena_inside)

  -- the slot that a hash's pilot names is one of n
  pub named_slot : (h : ℕ) → slot_of h (le_at s (pilot_place o h) 4) o.count < o.count
  unfolding pilot_place
  named_slot h = slot_lt h _ o.count r.some_key (r.pilots (bucket_of h o.buckets) (bucket_lt h o.buckets some_bucket))

  -- and lies before the arena
  pub slot_inside : (h : ℕ) → slot_place s o h + (o.encoding.address + 2) ≤ o.arena
  unfolding slot_place
  slot_inside h =
      let p = entry_inside _ o.count (o.encoding.address + 2) (named_slot h) in
      let e = slots_end in
      omega arith

  -- the scan address of a key lies in the section
  pub scan_address_inside : (k : ℕ) → (o.scan ≡ 0 → ⊥) → k < o.count → o.scan + 24 + k * o.encoding.address + o.encoding.address ≤ length s
  scan_address_inside k n h =
      let p = entry_inside k o.count o.encoding.address h in
      omega (arith, r.scan_inside n)

  -- the scan header too
  pub scan_header_inside : (o.scan ≡ 0 → ⊥) → o.scan + 24 ≤ length s
  scan_header_inside n = omega (arith, r.scan_inside n)

-- a cursor with a version to come stands at it
pub inside_standing : (s : List ℕ) (o : Opened) (end : ℕ) (c : Cursor) → Inside s o end c → 1 ≤ c.remaining → Standing s o c
inside_standing s o end c i h =
    let v = mul-le-mul_right {m = 1} {n = c.remaining} (version_len_of o.encoding) h in
    let w = i.versions in
    let e = i.end_inside in
    let a = i.anchor in
    let b = i.shared in
    let x = i.suffix in
    record { some_version = h; version = omega arith; shared = omega arith; suffix = omega arith }

-- what is left from a place holds a length exactly if the place and the length end in time
pub room_le : (n k pos end : ℕ) → pos ≤ end → n ≡ k → leb n (end - pos) ≡ leb (pos + k) end
room_le n k pos end h e = go (leb (pos + k) end) refl
  where
    go : (b : Bool) → leb (pos + k) end ≡ b → leb n (end - pos) ≡ leb (pos + k) end
    go true p = let l = leb-true (pos + k) end p in le-leb n (end - pos) (omega arith) ∙ sym p
    go false p = let l = leb-false (pos + k) end p in lt-leb n (end - pos) (omega arith) ∙ sym p

-- the slot that is found bucket by bucket and pilot by pilot is the one that the hash names
pub named : (s : List ℕ) (o : Opened) (h b p : ℕ) {n : ℕ} → b ≡ bucket_of h o.buckets → p ≡ le_at s (64 + 4 * b) 4 → n ≡ slot_of h p o.count
    → n ≡ slot_of h (le_at s (pilot_place o h) 4) o.count
unfolding pilot_place
named s o h b p eb ep en =
    en ∙ ap (λ (q : ℕ). slot_of h q o.count) (ep ∙ ap (λ (k : ℕ). le_at s (64 + 4 * k) 4) eb)
