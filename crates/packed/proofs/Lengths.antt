-- The lengths of the packed bytes and of their parts.
-- Assumes nothing.
use mathlib.Core.Path.{◌≡◌, refl, ap}
use mathlib.Core.List.{List, ◌++◌}
use Prim.Native.Nat.{ℕ, ◌+◌, ◌*◌, ◌-◌, ◌<◌, ◌≤◌}
use native.Mathlib.Nat.{mul-add}
use native.Mathlib.Omega.{arith}
use lib.ListN.{length, take, drop, length-append, length-drop}
use lib.Seq.{length-take-le}
use Rattle.num.specs.Number.{le_bytes}
use Rattle.num.proofs.Lists.{part_length}
use Rattle.num.proofs.Number.{length_le_bytes}
use Rattle.num.proofs.Parts.{entry_inside}
use Rattle.num.proofs.Pieces.{pieces_length}
use Rattle.encoding.specs.Encoding.{header_len, trailer_len}
use Rattle.std.specs.Prelude.{Ok}
use Rattle.header.specs.declared.Opened.{Opened}
use Rattle.header.specs.Header.{header_of, arena_end_of, packed_record}
use Rattle.header.specs.Facts.{Header, from_plain}
use Rattle.header.proofs.Headers.{header_facts}
use Rattle.header.proofs.Bounds.{arena_start, arena_end}
use Rattle.packed.specs.Packed.{pilot_at, pack_pilot, packed_pilots, slot_address_of, packed_addresses, arena_bytes, packed_bytes}

-- pilot k as it is written
abbrev pub pilot_bytes : List ℕ → ℕ → List ℕ
pilot_bytes s k = le_bytes 3 (pack_pilot (pilot_at s k))

pub length_pilot : (s : List ℕ) (k : ℕ) → length (pilot_bytes s k) ≡ 3
length_pilot s k = length_le_bytes 3 (pack_pilot (pilot_at s k))

pub length_pilots : (s : List ℕ) (k n : ℕ) → length (packed_pilots s k n) ≡ 3 * n
unfolding packed_pilots
length_pilots s k n =
    let e = pieces_length (pilot_bytes s) (packed_pilots s) (λ i. refl) (λ i count. refl) 3 (k + n) (λ i l. length_pilot s i) k n (omega arith) in
    omega arith

-- an address lies in the section with all slots
pub length_address : (s : List ℕ) (o : Opened) (i : ℕ) → i < o.count
    → header_len + 4 * o.buckets + o.count * (o.encoding.address + 2) ≤ length s → length (slot_address_of s o i) ≡ o.encoding.address
unfolding slot_address_of
length_address s o i l h =
    part_length s (header_len + 4 * o.buckets + i * (o.encoding.address + 2)) o.encoding.address
    (omega (arith, entry_inside i o.count (o.encoding.address + 2) l))

pub length_addresses : (s : List ℕ) (o : Opened) (i n : ℕ) → i + n ≤ o.count
    → header_len + 4 * o.buckets + o.count * (o.encoding.address + 2) ≤ length s → length (packed_addresses s o i n) ≡ n * o.encoding.address
unfolding packed_addresses
length_addresses s o i n l h =
    pieces_length (slot_address_of s o) (packed_addresses s o) (λ k. refl) (λ k count. refl) o.encoding.address o.count
    (λ k b. length_address s o k b h) i n l

module _ (s : List ℕ) (o : Opened) (h : Header s o) where
  -- all slots lie in the section
  pub slots_fit : header_len + 4 * o.buckets + o.count * (o.encoding.address + 2) ≤ length s
  slots_fit = omega (arith, arena_start s o h, h.below)

  pub length_arena : length (arena_bytes s o) ≡ arena_end_of s o - o.arena
  unfolding arena_bytes
  length_arena =
      let a = arena_end s o (from_plain h) in
      part_length s o.arena (arena_end_of s o - o.arena) (omega arith)

  -- the last five bytes
  pub length_last : length (drop (length s - trailer_len) s) ≡ trailer_len
  length_last = omega (arith, length-drop (length s - trailer_len) s, h.begins.long)

  pub length_packed : length (packed_bytes s o) ≡ header_len + 3 * o.buckets + o.count * o.encoding.address + (arena_end_of s o - o.arena) + trailer_len
  unfolding packed_bytes
  length_packed =
      let p = packed_pilots s 0 o.buckets in
      let a = packed_addresses s o 0 o.count in
      let b = arena_bytes s o in
      let z = drop (length s - trailer_len) s in
      omega (
        arith,
        length-append (take header_len s) (p ++ (a ++ (b ++ z))),
        length-append p (a ++ (b ++ z)),
        length-append a (b ++ z),
        length-append b z,
        length-take-le header_len s (omega (arith, h.begins.long)),
        length_pilots s 0 o.buckets,
        length_addresses s o 0 o.count (omega arith) slots_fit,
        length_arena,
        length_last,
      )

  -- the packed bytes are no more than the section's
  pub packed_shorter : length (packed_bytes s o) ≤ length s
  packed_shorter =
      let a = arena_end s o (from_plain h) in
      omega (arith, length_packed, arena_start s o h, mul-add o.count o.encoding.address 2)

  -- the places that the packed record and the arena's end give
  pub packed_arena_lem : (p : Opened) → p ≡ packed_record o → p.arena ≡ header_len + 3 * o.buckets + o.count * o.encoding.address
  unfolding packed_record
  packed_arena_lem p e = ap (λ (r : Opened). r.arena) e

  pub packed_places : (p : Opened) (end : ℕ) → p ≡ packed_record o → end ≡ arena_end_of s o
      → (p.arena + (end - o.arena) + trailer_len ≡ length (packed_bytes s o)) × (length (packed_bytes s o) ≤ length s) × (o.arena ≤ end) × (end + trailer_len ≤ length s)
  packed_places p end e f =
      let a = arena_end s o (from_plain h) in
      (omega (arith, packed_arena_lem p e, f, length_packed), packed_shorter, omega arith, omega (arith, h.begins.long))

-- the same of an accepted header
pub accepted_places : (s : List ℕ) (o p : Opened) (end : ℕ) → header_of s ≡ Ok o → p ≡ packed_record o → end ≡ arena_end_of s o
    → (p.arena + (end - o.arena) + trailer_len ≡ length (packed_bytes s o)) × (length (packed_bytes s o) ≤ length s) × (o.arena ≤ end) × (end + trailer_len ≤ length s)
accepted_places s o p end e f g = packed_places s o (header_facts s o e) p end f g

pub accepted_end : (s : List ℕ) (o : Opened) (end : ℕ) → header_of s ≡ Ok o → end ≡ arena_end_of s o → (o.arena ≤ end) × (end + 5 ≤ length s)
accepted_end s o end e g = let n = packed_places s o (header_facts s o e) _ end refl g in (n.2, n.3)

pub accepted_slots : (s : List ℕ) (o : Opened) → header_of s ≡ Ok o → header_len + 4 * o.buckets + o.count * (o.encoding.address + 2) ≤ length s
accepted_slots s o e = slots_fit s o (header_facts s o e)

-- a slot lies in the section, and its address among the packed ones
pub slot_inside : (s : List ℕ) (o : Opened) → header_of s ≡ Ok o → (i : ℕ) → i < o.count
    → (header_len + 4 * o.buckets + i * (o.encoding.address + 2) + (o.encoding.address + 2) ≤ length s)
    × (i * o.encoding.address + o.encoding.address ≤ o.count * o.encoding.address)
slot_inside s o e i l =
    let h = accepted_slots s o e in
    (omega (arith, entry_inside i o.count (o.encoding.address + 2) l), entry_inside i o.count o.encoding.address l)
