-- Pilots, slots and scan addresses as they are read.
-- Assumes nothing.
use mathlib.Core.Path.{◌≡◌, sym, ap, ◌∙◌, subst}
use mathlib.Core.List.{List}
use Prim.Native.Nat.{ℕ, ◌+◌, ◌*◌, ◌<◌}
use native.Mathlib.Omega.{arith}
use lib.ListN.{length}
use Rattle.num.specs.Number.{le_at, le_bytes}
use Rattle.num.proofs.Number.{length_le_bytes}
use Rattle.point.specs.Hash.{bucket_of, slot_of, fingerprint_of}
use Rattle.point.proofs.Hashing.{fingerprint_lt}
use Rattle.point.proofs.Slots.{bucket_lt, slot_lt}
use Rattle.encoding.specs.declared.Encoding.{Encoding}
use Rattle.encoding.specs.Encoding.{header_len, scan_header_len}
use Rattle.header.specs.declared.Opened.{Opened}
use Rattle.arena.specs.Key.{pilot_place, slot_place}
use Rattle.written.specs.Joined.{fields_bytes}
use Rattle.written.specs.Arena.{KeyGroup, group_address, GroupsFit}
use Rattle.written.specs.Section.{pilots_bytes, group_hash, slot_fields, slots_bytes, scan_addresses_of}
use Rattle.written.specs.Opens.{group_slot, SlotsOwned}
use Rattle.written.specs.Internal.{Stands, FieldsRead, PartsStand}
use Rattle.written.proofs.Stands.{stands_at, stands_number, even_stands, fields_read, fields_length}

pub slot_length : (e : Encoding) (seed : ℕ) (gs : List KeyGroup) (i : ℕ) → length (fields_bytes (slot_fields e seed gs i)) ≡ e.address + 2
unfolding slot_fields
slot_length e seed gs i = fields_length (slot_fields e seed gs i)

module _ (s : List ℕ) (o : Opened) (gs : List KeyGroup) (pilot owner : ℕ → ℕ) (prefix : ℕ) (fits : GroupsFit o.encoding o.min_seq gs)
    (w : PartsStand s o gs pilot owner prefix) (made : SlotsOwned o.seed o.buckets gs pilot owner) where
  pub pilots_read : (b : ℕ) → b < o.buckets → le_at s (header_len + 4 * b) 4 ≡ pilot b
  unfolding pilots_bytes
  pilots_read b h =
      let p : header_len + b * 4 ≡ header_len + 4 * b = omega arith in
      stands_number 4 (pilot b) (made.narrow b h)
      (stands_at p (even_stands (λ b. le_bytes 4 (pilot b)) 4 o.buckets b (λ b _. length_le_bytes 4 (pilot b)) h w.pilots))

  pub scan_read : (o.scan ≡ 0 → ⊥) → (i : ℕ) → i < length gs
      → le_at s (o.scan + scan_header_len + i * o.encoding.address) o.encoding.address ≡ group_address o.encoding gs i
  unfolding scan_addresses_of
  scan_read z i h =
      let f = fits.addresses i h in
      stands_number o.encoding.address (group_address o.encoding gs i) (omega arith)
      (even_stands (λ i. le_bytes o.encoding.address (group_address o.encoding gs i)) o.encoding.address (length gs) i
      (λ i _. length_le_bytes o.encoding.address (group_address o.encoding gs i)) h (w.scan_addresses z))

  -- the bucket of key i is one of the section's
  bucket_below : (i : ℕ) → bucket_of (group_hash o.seed gs i) o.buckets < o.buckets
  bucket_below i = bucket_lt (group_hash o.seed gs i) o.buckets w.some_bucket

  -- and so is its slot
  slot_below : (i : ℕ) → i < length gs → group_slot o.seed o.buckets gs pilot i < length gs
  unfolding group_slot
  slot_below i h =
      slot_lt (group_hash o.seed gs i) (pilot (bucket_of (group_hash o.seed gs i) o.buckets)) (length gs) (omega arith)
      (made.direct (bucket_of (group_hash o.seed gs i) o.buckets) (bucket_below i))

  slot_place_lem : (i : ℕ) → slot_place s o (group_hash o.seed gs i) ≡ header_len + 4 * o.buckets + group_slot o.seed o.buckets gs pilot i * (o.encoding.address + 2)
  unfolding slot_place pilot_place group_slot
  slot_place_lem i =
      ap (λ (n : ℕ). header_len + 4 * o.buckets + slot_of (group_hash o.seed gs i) n o.count * (o.encoding.address + 2))
      (pilots_read (bucket_of (group_hash o.seed gs i) o.buckets) (bucket_below i))
      ∙ ap (λ (n : ℕ). header_len + 4 * o.buckets + slot_of (group_hash o.seed gs i) (pilot (bucket_of (group_hash o.seed gs i) o.buckets)) n * (o.encoding.address + 2)) w.count

  slot_numbers : (i : ℕ) → i < length gs → FieldsRead s (slot_place s o (group_hash o.seed gs i)) (slot_fields o.encoding o.seed gs i)
  unfolding slots_bytes slot_fields
  slot_numbers i h =
      let f = fits.addresses i h in
      let at = even_stands (λ m. fields_bytes (slot_fields o.encoding o.seed gs (owner m))) (o.encoding.address + 2) (length gs)
      (group_slot o.seed o.buckets gs pilot i)
      (λ m _. slot_length o.encoding o.seed gs (owner m)) (slot_below i h) w.slots in
      let own = subst (λ (k : ℕ). Stands s (header_len + 4 * o.buckets + group_slot o.seed o.buckets gs pilot i * (o.encoding.address + 2)) (fields_bytes (slot_fields o.encoding o.seed gs k))) (made.owned i h) at in
      fields_read (slot_fields o.encoding o.seed gs i) (omega arith, (fingerprint_lt (group_hash o.seed gs i), tt)) (stands_at (sym (slot_place_lem i)) own)

  pub slot_address : (i : ℕ) → i < length gs
      → le_at s (slot_place s o (group_hash o.seed gs i)) o.encoding.address ≡ group_address o.encoding gs i
  unfolding slot_fields
  slot_address i h = (slot_numbers i h).0

  pub slot_fingerprint : (i : ℕ) → i < length gs
      → le_at s (slot_place s o (group_hash o.seed gs i) + o.encoding.address) 2 ≡ fingerprint_of (group_hash o.seed gs i)
  unfolding slot_fields
  slot_fingerprint i h = (slot_numbers i h).1.0
