-- A written section: its length, the places of its parts, and its last five bytes (questions 1 and 2).
-- Assumes nothing.
use mathlib.Core.Path.{◌≡◌, refl, sym, ap, ◌∙◌}
use mathlib.Core.List.{List, [], ◌∷◌, ◌++◌}
use Prim.Native.Nat.{ℕ, zero, suc, ◌+◌, ◌*◌, ◌-◌, ◌<◌, ◌≤◌, ◌^◌}
use native.Mathlib.Nat.{zero-add}
use native.Mathlib.Omega.{arith}
use lib.ListN.{length, length-append}
use lib.Seq.{take_at}
use Rattle.num.specs.Number.{le_bytes}
use Rattle.num.proofs.Number.{length_le_bytes}
use Rattle.crc32.specs.V42.{crc_of, update_of}
use Rattle.crc32.proofs.Division.{crc_update, finalize_sub, update_lt}
use Rattle.sstable.specs.Trailer.{SoundTrailer}
use Rattle.encoding.specs.declared.Encoding.{Encoding}
use Rattle.encoding.specs.Encoding.{magic, scan_magic, header_len, scan_header_len, buckets_of, arena_start_of}
use Rattle.written.specs.Joined.{fields_bytes}
use Rattle.written.specs.Arena.{KeyGroup, group_address, arena_written}
use Rattle.written.specs.Section.{pilots_bytes, slot_fields, slots_bytes, scan_fields_of, scan_addresses_of, scan_part_bytes, scan_place_for, prologue_fields, from_scan_lem, from_arena_lem, from_slots_lem, from_pilots_lem, body_bytes, section_bytes, written_record}
use Rattle.written.specs.Internal.{Stands, PartsStand, scan_len_for}
use Rattle.written.proofs.Stands.{stands_whole, stands_at, stands_left, stands_right, stands_one, stands_number, even_length, fields_length}
use Rattle.written.proofs.Groups.{arena_length}
use Rattle.written.proofs.Tables.{slot_length}

pub crc_lt : (s : List ℕ) → crc_of s < 2 ^ 32
crc_lt s =
    let e = crc_update s ∙ finalize_sub (update_of 0xFFFFFFFF s) (update_lt 0xFFFFFFFF s) in
    omega arith

scan_addresses_length : (e : Encoding) (gs : List KeyGroup) → length (scan_addresses_of e gs) ≡ length gs * e.address
unfolding scan_addresses_of
scan_addresses_length e gs =
    even_length (λ i. le_bytes e.address (group_address e gs i)) e.address (length gs) (λ i _. length_le_bytes e.address (group_address e gs i))

scan_fields_length : (prefix : ℕ) (gs : List KeyGroup) → length (fields_bytes (scan_fields_of prefix gs)) ≡ 16
unfolding scan_fields_of
scan_fields_length prefix gs = fields_length (scan_fields_of prefix gs)

scan_magic_length : length scan_magic ≡ 8
unfolding scan_magic
scan_magic_length = refl

scan_length : (e : Encoding) (gs : List KeyGroup) (prefix : ℕ) → length (scan_part_bytes e gs prefix) ≡ scan_len_for e gs prefix
unfolding scan_part_bytes scan_len_for
scan_length e gs zero = refl
scan_length e gs (suc p) =
    omega (
      arith,
      length-append scan_magic (fields_bytes (scan_fields_of (suc p) gs) ++ (scan_addresses_of e gs ++ le_bytes 8 (scan_header_len + length gs * e.address))),
      length-append (fields_bytes (scan_fields_of (suc p) gs)) (scan_addresses_of e gs ++ le_bytes 8 (scan_header_len + length gs * e.address)),
      length-append (scan_addresses_of e gs) (le_bytes 8 (scan_header_len + length gs * e.address)),
      scan_magic_length,
      scan_fields_length (suc p) gs,
      scan_addresses_length e gs,
      length_le_bytes 8 (scan_header_len + length gs * e.address),
    )

module _ (e : Encoding) (seed least : ℕ) (gs : List KeyGroup) (pilot owner : ℕ → ℕ) (prefix : ℕ) where
  abbrev s : List ℕ
  s = section_bytes e seed least gs pilot owner prefix

  -- ---- places

  head_length : length (magic ++ fields_bytes (prologue_fields e seed least (length gs) prefix)) ≡ 64
  unfolding magic prologue_fields
  head_length =
      let n = fields_length (prologue_fields e seed least (length gs) prefix) in
      length-append magic (fields_bytes (prologue_fields e seed least (length gs) prefix)) ∙ ap (λ (k : ℕ). 8 + k) n

  pilots_length : length (pilots_bytes pilot (buckets_of (length gs))) ≡ 4 * buckets_of (length gs)
  unfolding pilots_bytes
  pilots_length = even_length (λ b. le_bytes 4 (pilot b)) 4 (buckets_of (length gs)) (λ b _. length_le_bytes 4 (pilot b)) ∙ omega arith

  slots_length : length (slots_bytes e seed gs owner) ≡ length gs * (e.address + 2)
  unfolding slots_bytes
  slots_length = even_length (λ m. fields_bytes (slot_fields e seed gs (owner m))) (e.address + 2) (length gs) (λ m _. slot_length e seed gs (owner m))

  body_at : Stands s 0 (body_bytes e seed least gs pilot owner prefix)
  unfolding section_bytes
  body_at = stands_left (body_bytes e seed least gs pilot owner prefix) (le_bytes 4 (crc_of (body_bytes e seed least gs pilot owner prefix))) (stands_whole (section_bytes e seed least gs pilot owner prefix))

  pub head_at : Stands s 0 (magic ++ fields_bytes (prologue_fields e seed least (length gs) prefix))
  unfolding body_bytes
  head_at = stands_left (magic ++ fields_bytes (prologue_fields e seed least (length gs) prefix)) (from_pilots_lem e seed least gs pilot owner prefix) body_at

  from_pilots : Stands s header_len (from_pilots_lem e seed least gs pilot owner prefix)
  unfolding body_bytes
  from_pilots = stands_right (magic ++ fields_bytes (prologue_fields e seed least (length gs) prefix)) (from_pilots_lem e seed least gs pilot owner prefix) 64 head_length body_at

  from_slots : Stands s (header_len + 4 * buckets_of (length gs)) (from_slots_lem e seed least gs pilot owner prefix)
  unfolding from_pilots_lem
  from_slots = stands_right (pilots_bytes pilot (buckets_of (length gs))) (from_slots_lem e seed least gs pilot owner prefix) (4 * buckets_of (length gs)) pilots_length from_pilots

  from_arena : Stands s (arena_start_of (length gs) e.address) (from_arena_lem e seed least gs pilot owner prefix)
  unfolding from_slots_lem arena_start_of
  from_arena = stands_right (slots_bytes e seed gs owner) (from_arena_lem e seed least gs pilot owner prefix) (length gs * (e.address + 2)) slots_length from_slots

  pub from_scan : Stands s (arena_start_of (length gs) e.address + group_address e gs (length gs)) (from_scan_lem e seed least gs pilot owner prefix)
  unfolding from_arena_lem
  from_scan = stands_right (arena_written e least gs) (from_scan_lem e seed least gs pilot owner prefix) (group_address e gs (length gs)) (arena_length e least gs) from_arena

  type_at : Stands s (arena_start_of (length gs) e.address + group_address e gs (length gs) + scan_len_for e gs prefix) (0 ∷ [])
  unfolding from_scan_lem
  type_at = stands_right (scan_part_bytes e gs prefix) (0 ∷ []) (scan_len_for e gs prefix) (scan_length e gs prefix) from_scan

  body_length : length (body_bytes e seed least gs pilot owner prefix) ≡ arena_start_of (length gs) e.address + group_address e gs (length gs) + scan_len_for e gs prefix + 1
  unfolding body_bytes from_pilots_lem from_slots_lem from_arena_lem from_scan_lem arena_start_of
  body_length =
      omega (
        arith,
        length-append (magic ++ fields_bytes (prologue_fields e seed least (length gs) prefix)) (from_pilots_lem e seed least gs pilot owner prefix),
        head_length,
        length-append (pilots_bytes pilot (buckets_of (length gs))) (from_slots_lem e seed least gs pilot owner prefix),
        pilots_length,
        length-append (slots_bytes e seed gs owner) (from_arena_lem e seed least gs pilot owner prefix),
        slots_length,
        length-append (arena_written e least gs) (from_scan_lem e seed least gs pilot owner prefix),
        arena_length e least gs,
        length-append (scan_part_bytes e gs prefix) (0 ∷ []),
        scan_length e gs prefix,
      )

  pub section_length : length s ≡ arena_start_of (length gs) e.address + group_address e gs (length gs) + scan_len_for e gs prefix + 5
  unfolding section_bytes
  section_length =
      omega (
        arith,
        length-append (body_bytes e seed least gs pilot owner prefix) (le_bytes 4 (crc_of (body_bytes e seed least gs pilot owner prefix))),
        body_length,
        length_le_bytes 4 (crc_of (body_bytes e seed least gs pilot owner prefix)),
      )

  pub start_le : 64 ≤ arena_start_of (length gs) e.address
  unfolding arena_start_of
  start_le = omega arith

  -- ---- questions 1 and 2

  pub trailer_sound : SoundTrailer s
  unfolding section_bytes
  trailer_sound =
      let n = section_length in
      let b = body_length in
      let l = start_le in
      let five : arena_start_of (length gs) e.address + group_address e gs (length gs) + scan_len_for e gs prefix ≡ length s - 5 = omega arith in
      let four : length (body_bytes e seed least gs pilot owner prefix) ≡ length s - 4 = omega arith in
      let crc = stands_at (zero-add (length s - 4)) (stands_right (body_bytes e seed least gs pilot owner prefix) (le_bytes 4 (crc_of (body_bytes e seed least gs pilot owner prefix))) (length s - 4) four (stands_whole s)) in
      record {
        long = omega arith;
        plain = stands_one 0 0 (stands_at five type_at);
        crc =
            stands_number 4 (crc_of (body_bytes e seed least gs pilot owner prefix)) (crc_lt (body_bytes e seed least gs pilot owner prefix)) crc
            ∙ ap crc_of (sym (take_at (body_bytes e seed least gs pilot owner prefix) (le_bytes 4 (crc_of (body_bytes e seed least gs pilot owner prefix))) (length s - 4) four));
      }

  -- ---- all parts at their places

  -- a scan part with a prefix: its magic, its numbers, its addresses and its length, each at its place
  pub scan_parts : (p : ℕ) (pos : ℕ) → Stands s pos (scan_part_bytes e gs (suc p) ++ (0 ∷ []))
      → Stands s pos scan_magic × Stands s (pos + 8) (fields_bytes (scan_fields_of (suc p) gs)) × Stands s (pos + scan_header_len) (scan_addresses_of e gs)
      × Stands s (pos + (scan_header_len + length gs * e.address)) (le_bytes 8 (scan_header_len + length gs * e.address))
  unfolding scan_part_bytes
  scan_parts p pos at =
      let last = le_bytes 8 (scan_header_len + length gs * e.address) in
      let a = stands_left (scan_magic ++ (fields_bytes (scan_fields_of (suc p) gs) ++ (scan_addresses_of e gs ++ last))) (0 ∷ []) at in
      let b = stands_right scan_magic (fields_bytes (scan_fields_of (suc p) gs) ++ (scan_addresses_of e gs ++ last)) 8 scan_magic_length a in
      let c = stands_right (fields_bytes (scan_fields_of (suc p) gs)) (scan_addresses_of e gs ++ last) 16 (scan_fields_length (suc p) gs) b in
      let d = stands_right (scan_addresses_of e gs) last (length gs * e.address) (scan_addresses_length e gs) c in
      let m : pos + 8 + 16 ≡ pos + scan_header_len = omega arith in
      let n : pos + 8 + 16 + length gs * e.address ≡ pos + (scan_header_len + length gs * e.address) = omega arith in (
        stands_left scan_magic (fields_bytes (scan_fields_of (suc p) gs) ++ (scan_addresses_of e gs ++ last)) a,
        stands_left (fields_bytes (scan_fields_of (suc p) gs)) (scan_addresses_of e gs ++ last) b,
        stands_at m (stands_left (scan_addresses_of e gs) last c),
        stands_at n d,
      )

  scan_fields_at : (p : ℕ) → (scan_place_for e gs p ≡ 0 → ⊥) → Stands s (arena_start_of (length gs) e.address + group_address e gs (length gs)) (scan_part_bytes e gs p ++ (0 ∷ []))
      → Stands s (scan_place_for e gs p + 8) (fields_bytes (scan_fields_of p gs)) × Stands s (scan_place_for e gs p + scan_header_len) (scan_addresses_of e gs)
  unfolding scan_place_for
  scan_fields_at zero z at = absurd (z refl)
  scan_fields_at (suc p) z at =
      let r = scan_parts p (arena_start_of (length gs) e.address + group_address e gs (length gs)) at in
      (r.1, r.2)

  pub section_parts : 1 ≤ length gs → PartsStand s (written_record e seed least gs pilot owner prefix) gs pilot owner prefix
  unfolding written_record from_pilots_lem from_slots_lem from_arena_lem from_scan_lem buckets_of
  section_parts some =
      record {
        count = refl;
        some_bucket = omega arith;
        pilots = stands_left (pilots_bytes pilot (buckets_of (length gs))) (from_slots_lem e seed least gs pilot owner prefix) from_pilots;
        slots = stands_left (slots_bytes e seed gs owner) (from_arena_lem e seed least gs pilot owner prefix) from_slots;
        arena = stands_left (arena_written e least gs) (from_scan_lem e seed least gs pilot owner prefix) from_arena;
        scan_fields = λ z. (scan_fields_at prefix z from_scan).0;
        scan_addresses = λ z. (scan_fields_at prefix z from_scan).1;
      }
