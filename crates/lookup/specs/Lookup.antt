-- Lookup: questions 24 and 25, in the order of the Rust's reads (document 01, "Lookup").
use Rattle.std.specs.Prelude.{ℕ, ◌+◌, ◌*◌, ◌-◌, ◌%◌, ◌^◌, List, None, Ok, Err, eqb, leb, length, take, drop}
use Rattle.num.specs.Choice.{when◌then◌else◌, ask◌otherwise◌then◌, either}
use Rattle.num.specs.Number.{le_at}
use Rattle.num.specs.Order.{equal_bytes}
use Rattle.point.specs.Hash.{hash_value, bucket_of, slot_of, fingerprint_of}
use Rattle.encoding.specs.Encoding.{header_len, key_header_len_of}
use Rattle.header.specs.declared.Opened.{Opened}
use Rattle.opened.specs.Opened.{is_record_of}
use Rattle.arena.specs.declared.KeyHeader.{KeyHeader}
use Rattle.arena.specs.Key.{key_header_at}
use Rattle.locator.specs.Locator.{Located, readable, versions_from}
use Rattle.refusal.specs.declared.Refusal.TheVariants as refusal

-- a packed pilot, of 24 bits, with bit 23 moved back to bit 31
unfoldable pub unpacked : ℕ → ℕ
unpacked p = p % 2 ^ 23 + (when leb (2 ^ 23) p then 2 ^ 31 else 0)

-- the bytes of a pilot
unfoldable pub pilot_len : Opened → ℕ
pilot_len o = when o.packed then 3 else 4

-- the place of the pilot of a hash
unfoldable pub pilot_offset : Opened → ℕ → ℕ
pilot_offset o h = header_len + pilot_len o * bucket_of h o.buckets

-- the pilot of a hash
unfoldable pub pilot_of : List ℕ → Opened → ℕ → ℕ
pilot_of s o h = when o.packed then unpacked (le_at s (pilot_offset o h) 3) else le_at s (pilot_offset o h) 4

-- a slot is an address, and in the plain form the fingerprint behind it
unfoldable pub slot_len : Opened → ℕ
slot_len o = when o.packed then o.encoding.address else o.encoding.address + 2

-- the place of the slot of a hash
unfoldable pub slot_offset : List ℕ → Opened → ℕ → ℕ
slot_offset s o h = header_len + pilot_len o * o.buckets + slot_of h (pilot_of s o h) o.count * slot_len o

-- a key record with its key header: the anchor's part is read if the lengths agree, and the suffix if that part agrees
unfoldable pub key_record_of : List ℕ → Opened → List ℕ → ℕ → ℕ → KeyHeader → Located
key_record_of s o key limit pos h =
    ask eqb (length key) (h.shared + h.suffix_len) otherwise Ok None then
    ask readable s (o.arena + h.anchor) h.shared otherwise Err refusal.Read then
    ask equal_bytes (take h.shared key) (take h.shared (drop (o.arena + h.anchor) s)) otherwise Ok None then
    ask readable s (pos + key_header_len_of o.encoding) h.suffix_len otherwise Err refusal.Read then
    ask equal_bytes (drop h.shared key) (take h.suffix_len (drop (pos + key_header_len_of o.encoding) s)) otherwise Ok None then
    versions_from h.versions s o (pos + key_header_len_of o.encoding + h.suffix_len) limit

-- the key record at a place: its key header is read first
unfoldable pub key_record_at : List ℕ → Opened → List ℕ → ℕ → ℕ → Located
key_record_at s o key limit pos =
    ask readable s pos (key_header_len_of o.encoding) otherwise Err refusal.Read then
    key_record_of s o key limit pos (key_header_at s o.encoding pos)

-- the slot of a hash: in the plain form the fingerprint is asked first
unfoldable pub slot_read_of : List ℕ → Opened → List ℕ → ℕ → ℕ → ℕ → Located
slot_read_of s o key limit h at =
    ask readable s at (slot_len o) otherwise Err refusal.Read then
    ask either o.packed (eqb (le_at s (at + o.encoding.address) 2) (fingerprint_of h)) otherwise Ok None then
    key_record_at s o key limit (o.arena + le_at s at o.encoding.address)

-- the pilot of a hash, then its slot
unfoldable pub hash_read : List ℕ → Opened → List ℕ → ℕ → ℕ → Located
hash_read s o key limit h =
    ask readable s (pilot_offset o h) (pilot_len o) otherwise Err refusal.Read then
    slot_read_of s o key limit h (slot_offset s o h)

-- the lookup of a key under a limit: 24, then the reads
unfoldable pub locate_of : List ℕ → Opened → List ℕ → ℕ → Located
locate_of s o key limit =
    ask is_record_of s o otherwise Err refusal.RecordGiven then
    hash_read s o key limit (hash_value key o.seed)

-- no limit: every sequence, a number of 64 bits, is within it
abbrev pub no_limit : ℕ
no_limit = 2 ^ 64 - 1

-- for proofs alone: `unfolding lookup_defs` opens the definitions of this file
unfoldable pub lookup_defs : ℕ
unfolding unpacked pilot_len pilot_offset pilot_of slot_len slot_offset key_record_of key_record_at slot_read_of hash_read locate_of
lookup_defs = 0

-- and `unfolding width_defs` those of the bytes of pilots and slots
unfoldable pub width_defs : ℕ
unfolding pilot_len slot_len when◌then◌else◌
width_defs = 0
