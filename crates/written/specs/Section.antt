-- A section as it is written from key groups, and the record that its header says (document 01, questions 1 to 6 and 19). `pilot` gives
-- the pilot of each bucket, `owner` the number of the key in each slot; a scan prefix of 0 means no scan part.
use Rattle.std.specs.Prelude.{Bool, true, false, not, List, [], ◌∷◌, ◌++◌, ℕ, zero, suc, ◌+◌, ◌*◌, length, take}
use Rattle.num.specs.Choice.{when◌then◌else◌}
use Rattle.num.specs.Number.{le_bytes}
use Rattle.num.specs.Order.{equal_bytes}
use Rattle.crc32.specs.V42.{crc_of}
use Rattle.point.specs.Hash.{hash_value, fingerprint_of}
use Rattle.encoding.specs.declared.Encoding.{Encoding}
use Rattle.encoding.specs.Encoding.{magic, scan_magic, scan_header_len, checksum_flag, scan_flag, stride, buckets_of, arena_start_of}
use Rattle.header.specs.declared.Opened.{Opened}
use Rattle.written.specs.Joined.{joined, Field, fields_bytes}
use Rattle.written.specs.Joined.Field.{field}
use Rattle.written.specs.Arena.{KeyGroup, group_key, group_address, arena_written}

-- ---- the tables

-- the pilots, 4 bytes each
unfoldable pub pilots_bytes : (ℕ → ℕ) → ℕ → List ℕ
pilots_bytes pilot buckets = joined (λ b. le_bytes 4 (pilot b)) buckets

-- the hash of key i under a seed
unfoldable pub group_hash : ℕ → List KeyGroup → ℕ → ℕ
group_hash seed gs i = hash_value (group_key gs i) seed

-- the slot of key i: its address and fingerprint (question 19)
unfoldable pub slot_fields : Encoding → ℕ → List KeyGroup → ℕ → List Field
slot_fields e seed gs i = field e.address (group_address e gs i) ∷ field 2 (fingerprint_of (group_hash seed gs i)) ∷ []

-- the slots, as many as keys
unfoldable pub slots_bytes : Encoding → ℕ → List KeyGroup → (ℕ → ℕ) → List ℕ
slots_bytes e seed gs owner = joined (λ m. fields_bytes (slot_fields e seed gs (owner m))) (length gs)

-- ---- the scan part

-- is the prefix of n bytes of key i another than that of the key before? The first key's is. (question 23)
unfoldable pub group_prefix_new : ℕ → List KeyGroup → ℕ → Bool
group_prefix_new n gs zero = true
group_prefix_new n gs (suc i) = not (equal_bytes (take n (group_key gs (suc i))) (take n (group_key gs i)))

-- how often it changes among the first keys
unfoldable pub group_prefixes : ℕ → List KeyGroup → ℕ → ℕ
group_prefixes n gs zero = 0
group_prefixes n gs (suc i) = when group_prefix_new n gs i then group_prefixes n gs i + 1 else group_prefixes n gs i

-- the numbers behind its magic: prefix length, stride and prefix count (question 6)
unfoldable pub scan_fields_of : ℕ → List KeyGroup → List Field
scan_fields_of prefix gs = field 4 prefix ∷ field 4 stride ∷ field 8 (group_prefixes prefix gs (length gs)) ∷ []

-- an address per key
unfoldable pub scan_addresses_of : Encoding → List KeyGroup → List ℕ
scan_addresses_of e gs = joined (λ i. le_bytes e.address (group_address e gs i)) (length gs)

-- the scan part and behind it its length in 8 bytes (question 5)
unfoldable pub scan_part_bytes : Encoding → List KeyGroup → ℕ → List ℕ
scan_part_bytes e gs zero = []
scan_part_bytes e gs (suc p) =
    scan_magic ++ (fields_bytes (scan_fields_of (suc p) gs) ++ (scan_addresses_of e gs ++ le_bytes 8 (scan_header_len + length gs * e.address)))

-- where it stands: behind the arena
unfoldable pub scan_place_for : Encoding → List KeyGroup → ℕ → ℕ
scan_place_for e gs zero = 0
scan_place_for e gs (suc p) = arena_start_of (length gs) e.address + group_address e gs (length gs)

-- ---- the header

-- the flags of question 4
unfoldable pub flags_for : Encoding → ℕ → ℕ
flags_for e zero = when e.checksum then checksum_flag else 0
flags_for e (suc p) = (when e.checksum then checksum_flag else 0) + scan_flag

-- the numbers behind its magic (question 4): seed, n, b, arena start, the five widths, flags, least sequence
unfoldable pub prologue_fields : Encoding → ℕ → ℕ → ℕ → ℕ → List Field
prologue_fields e seed least n prefix =
    field 8 seed
    ∷ field 4 n
    ∷ field 4 (buckets_of n)
    ∷ field 8 (arena_start_of n e.address)
    ∷ field 4 e.address
    ∷ field 4 e.key
    ∷ field 4 e.count
    ∷ field 4 e.seq
    ∷ field 4 e.value
    ∷ field 4 (flags_for e prefix)
    ∷ field 8 least
    ∷ []

-- ---- the section

module _ (e : Encoding) (seed least : ℕ) (gs : List KeyGroup) (pilot owner : ℕ → ℕ) (prefix : ℕ) where
  -- what stands from each part on to the type byte, 0
  unfoldable pub from_scan_lem : List ℕ
  from_scan_lem = scan_part_bytes e gs prefix ++ (0 ∷ [])

  unfoldable pub from_arena_lem : List ℕ
  from_arena_lem = arena_written e least gs ++ from_scan_lem

  unfoldable pub from_slots_lem : List ℕ
  from_slots_lem = slots_bytes e seed gs owner ++ from_arena_lem

  unfoldable pub from_pilots_lem : List ℕ
  from_pilots_lem = pilots_bytes pilot (buckets_of (length gs)) ++ from_slots_lem

  -- all but the CRC-32
  unfoldable pub body_bytes : List ℕ
  body_bytes = (magic ++ fields_bytes (prologue_fields e seed least (length gs) prefix)) ++ from_pilots_lem

  -- the section: header, pilots, slots, arena, scan part, type byte, and the CRC-32 of all of them
  unfoldable pub section_bytes : List ℕ
  section_bytes = body_bytes ++ le_bytes 4 (crc_of body_bytes)

  -- the record that its header says
  unfoldable pub written_record : Opened
  written_record =
      record {
        seed = seed;
        min_seq = least;
        count = length gs;
        buckets = buckets_of (length gs);
        arena = arena_start_of (length gs) e.address;
        encoding = e;
        scan = scan_place_for e gs prefix;
        packed = false;
      }

-- for proofs alone: `unfolding section_defs` opens the definitions of this file
unfoldable pub section_defs : ℕ
unfolding pilots_bytes group_hash slot_fields slots_bytes group_prefix_new group_prefixes scan_fields_of scan_addresses_of scan_part_bytes scan_place_for flags_for prologue_fields from_scan_lem from_arena_lem from_slots_lem from_pilots_lem body_bytes section_bytes written_record
section_defs = 0
