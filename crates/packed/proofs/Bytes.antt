-- What the packed bytes keep of a section: the header, the pilots, the addresses and the arena.
-- Assumes nothing.
use mathlib.Core.Path.{◌≡◌, refl, sym, ap, ◌∙◌}
use mathlib.Core.Bool.{true}
use mathlib.Core.List.{List, ◌++◌}
use Prim.Native.Nat.{ℕ, ◌+◌, ◌*◌, ◌-◌, ◌<◌, ◌≤◌, ◌^◌}
use native.Mathlib.Nat.{zero-add, mul_comm}
use native.Mathlib.Omega.{arith}
use lib.ListN.{length, take, drop}
use lib.Seq.{take_at, drop_at, length-take-le}
use Rattle.num.specs.Number.{le_at}
use Rattle.num.proofs.Choice.{if_case}
use Rattle.num.proofs.Pieces.{standing_behind, standing_here, parts_same, le_at-parts, le_at-written, piece_stands}
use Rattle.point.specs.Hash.{is_direct, direct_slot}
use Rattle.encoding.specs.Encoding.{header_len, trailer_len}
use Rattle.header.specs.declared.Opened.{Opened}
use Rattle.header.specs.Header.{fits_packed, packed_record, arena_end_of}
use Rattle.opened.specs.Opened.{is_record_of}
use Rattle.header.specs.Facts.{Header, from_plain}
use Rattle.header.proofs.Bounds.{arena_end}
use Rattle.opened.proofs.Packed.{packed_passes}
use Rattle.packed.specs.Packed.{pilot_at, pack_pilot, packed_pilots, slot_address_of, packed_addresses, arena_bytes, packed_bytes}
use Rattle.packed.proofs.Lengths.{pilot_bytes, length_pilot, length_pilots, length_address, length_addresses, slots_fit, length_arena, length_packed}

-- a pilot that packs has 24 bits
pub pack_pilot-lt : (q : ℕ) → direct_slot q < 2 ^ 23 → pack_pilot q < 2 ^ 24
unfolding pack_pilot
pack_pilot-lt q h = if_case (λ n. direct_slot q + n < 2 ^ 24) (is_direct q) (2 ^ 23) 0 (λ _. omega arith) (λ _. omega arith)

-- the packed bytes from the arena on
abbrev arena_on : List ℕ → Opened → List ℕ
arena_on s o = arena_bytes s o ++ drop (length s - trailer_len) s

-- and from the addresses on
abbrev addresses_on : List ℕ → Opened → List ℕ
addresses_on s o = packed_addresses s o 0 o.count ++ arena_on s o

module _ (s : List ℕ) (o : Opened) (h : Header s o) where
  -- the arena starts before its end, which comes before the last five bytes
  inside : (o.arena < arena_end_of s o) × (arena_end_of s o + trailer_len ≤ length s)
  inside = let l = h.begins.long in let a = arena_end s o (from_plain h) in (a.0, omega arith)

  -- ---- where they stand

  -- the pilots, behind the header
  pilots_stand : drop header_len (packed_bytes s o) ≡ packed_pilots s 0 o.buckets ++ addresses_on s o
  unfolding packed_bytes
  pilots_stand = drop_at (take header_len s) (packed_pilots s 0 o.buckets ++ addresses_on s o) header_len (length-take-le header_len s (let l = h.begins.long in omega arith))

  -- the addresses, behind the pilots
  addresses_stand : drop (header_len + 3 * o.buckets) (packed_bytes s o) ≡ addresses_on s o
  addresses_stand =
      standing_behind (packed_bytes s o) (packed_pilots s 0 o.buckets) (addresses_on s o) header_len (3 * o.buckets) pilots_stand (length_pilots s 0 o.buckets)

  -- the arena, where the packed record says
  arena_stands : drop (packed_record o).arena (packed_bytes s o) ≡ arena_on s o
  unfolding packed_record
  arena_stands =
      standing_behind (packed_bytes s o) (packed_addresses s o 0 o.count) (arena_on s o) (header_len + 3 * o.buckets) (o.count * o.encoding.address)
      addresses_stand (length_addresses s o 0 o.count (omega arith) (slots_fit s o h))

  -- ---- what they keep

  -- the arena and the last five bytes end the packed bytes
  pub packed_end : (packed_record o).arena + (arena_end_of s o - o.arena) + trailer_len ≡ length (packed_bytes s o)
  unfolding packed_record
  packed_end = sym (length_packed s o h)

  -- the last five bytes
  pub packed_last : drop (length (packed_bytes s o) - trailer_len) (packed_bytes s o) ≡ drop (length s - trailer_len) s
  packed_last =
      let e : length (packed_bytes s o) - trailer_len ≡ (packed_record o).arena + (arena_end_of s o - o.arena) = omega (arith, packed_end) in
      ap (λ (n : ℕ). drop n (packed_bytes s o)) e
      ∙ standing_behind (packed_bytes s o) (arena_bytes s o) (drop (length s - trailer_len) s) (packed_record o).arena (arena_end_of s o - o.arena)
      arena_stands (length_arena s o h)

  -- the header
  pub packed_header : take header_len (packed_bytes s o) ≡ take header_len s
  unfolding packed_bytes
  packed_header = take_at (take header_len s) (packed_pilots s 0 o.buckets ++ addresses_on s o) header_len (length-take-le header_len s (let l = h.begins.long in omega arith))

  -- question 24
  pub packed_is_record : fits_packed o ≡ true → is_record_of (packed_bytes s o) (packed_record o) ≡ true
  packed_is_record f =
      let q = inside in
      let e = packed_end in
      packed_passes s (packed_bytes s o) o h f (sym packed_header) (omega arith)

  -- pilot k, if question 8 has a yes for it
  pub packed_pilot : (k : ℕ) → k < o.buckets → direct_slot (pilot_at s k) < 2 ^ 23
      → le_at (packed_bytes s o) (header_len + 3 * k) 3 ≡ pack_pilot (pilot_at s k)
  unfolding packed_pilots
  packed_pilot k l b =
      let e = piece_stands (pilot_bytes s) (packed_pilots s) (λ k. refl) (λ k count. refl) 3 o.buckets (λ k l. length_pilot s k)
      (packed_bytes s o) (addresses_on s o) header_len 0 o.buckets k (omega arith) l pilots_stand in
      ap (λ (n : ℕ). le_at (packed_bytes s o) (header_len + n) 3) (mul_comm 3 k)
      ∙ le_at-written (packed_bytes s o) (header_len + k * 3) 3 (pack_pilot (pilot_at s k)) (e ∙ ap (pilot_bytes s) (zero-add k)) (pack_pilot-lt (pilot_at s k) b)

  -- the address in slot i
  pub packed_address : (i : ℕ) → i < o.count
      → le_at (packed_bytes s o) (header_len + 3 * o.buckets + i * o.encoding.address) o.encoding.address
      ≡ le_at s (header_len + 4 * o.buckets + i * (o.encoding.address + 2)) o.encoding.address
  unfolding packed_addresses slot_address_of
  packed_address i l =
      let e = piece_stands (slot_address_of s o) (packed_addresses s o) (λ k. refl) (λ k count. refl) o.encoding.address o.count (λ i l. length_address s o i l (slots_fit s o h))
      (packed_bytes s o) (arena_on s o) (header_len + 3 * o.buckets) 0 o.count i (omega arith) l addresses_stand in
      le_at-parts (packed_bytes s o) s _ _ o.encoding.address (e ∙ ap (slot_address_of s o) (zero-add i))

  -- a part of the arena
  pub packed_part : (a n : ℕ) → o.arena + a + n ≤ arena_end_of s o
      → take n (drop ((packed_record o).arena + a) (packed_bytes s o)) ≡ take n (drop (o.arena + a) s)
  unfolding arena_bytes
  packed_part a n b =
      parts_same (packed_bytes s o) s (packed_record o).arena o.arena (arena_end_of s o - o.arena) a n
      (standing_here (packed_bytes s o) (arena_bytes s o) (drop (length s - trailer_len) s) (packed_record o).arena (arena_end_of s o - o.arena) arena_stands (length_arena s o h))
      (omega arith)
