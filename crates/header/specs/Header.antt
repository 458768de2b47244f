-- The header of a section and the record of an opened one: questions 3 to 7.
use Rattle.std.specs.Prelude.{List, [], ◌∷◌, Bool, true, false, ℕ, ◌+◌, ◌*◌, ◌-◌, ◌/◌, ◌%◌, ◌^◌, eqb, leb, ltb, length, take, drop, Result, Ok, Err}
use Rattle.num.specs.Choice.{when◌then◌else◌, ask◌otherwise◌then◌, both, one_of}
use Rattle.num.specs.Number.{le_at}
use Rattle.num.specs.Order.{equal_bytes}
use Rattle.encoding.specs.declared.Encoding.{Encoding}
use Rattle.encoding.specs.Encoding.{magic, scan_magic, header_len, trailer_len, scan_header_len, checksum_flag, scan_flag, stride, max_scan_prefix, buckets_of, arena_start_of}
use Rattle.header.specs.declared.Opened.{Opened}
use Rattle.refusal.specs.declared.Refusal.{Refusal}
use Rattle.refusal.specs.declared.Refusal.TheVariants as refusal

-- do these bytes stand at this place?
unfoldable pub stands_at_of : List ℕ → ℕ → List ℕ → Bool
stands_at_of s place bytes = equal_bytes (take (length bytes) (drop place s)) bytes

-- is the number at least the first and at most the second?
unfoldable pub between : ℕ → ℕ → ℕ → Bool
between least most n = both (leb least n) (leb n most)

-- question 3: at least 69 bytes, beginning `KIBANPH3`?
unfoldable pub begins : List ℕ → Bool
begins s = both (leb (header_len + trailer_len) (length s)) (stands_at_of s 0 magic)

-- the header's flags (question 4)
unfoldable pub flags_of : List ℕ → ℕ
flags_of s = le_at s 52 4

-- is this flag, 1 or 2, one of those that the flags are made of?
unfoldable pub has_flag : ℕ → ℕ → Bool
has_flag flag flags = eqb ((flags / flag) % 2) 1

-- the header's widths, and whether it has the checksum flag (question 4)
unfoldable pub encoding_at : List ℕ → Encoding
encoding_at s =
    record {
      address = le_at s 32 4;
      key = le_at s 36 4;
      count = le_at s 40 4;
      seq = le_at s 44 4;
      value = le_at s 48 4;
      checksum = has_flag checksum_flag (flags_of s);
    }

-- What opening keeps of a section is a record of numbers, `Opened`, here as the header gives it, without a scan place (question 4):
-- the seed of the hashes; the least sequence, to which each stored one is added; n, the number of keys; b, the number of buckets; where
-- the arena starts; the widths of addresses, key lengths, numbers of versions, sequences and value lengths, and whether versions have
-- checksums; where the scan part starts, 0 without one; and whether the bytes are packed.
unfoldable pub fields_of : List ℕ → Opened
fields_of s =
    record {
      seed = le_at s 8 8;
      min_seq = le_at s 56 8;
      count = le_at s 16 4;
      buckets = le_at s 20 4;
      arena = le_at s 24 8;
      encoding = encoding_at s;
      scan = 0;
      packed = false;
    }

-- the widths that question 4 allows
unfoldable pub allowed_widths : Encoding → Bool
allowed_widths e =
    both (one_of (4 ∷ 8 ∷ []) e.address)
    (both (one_of (1 ∷ 2 ∷ 4 ∷ []) e.key)
    (both (one_of (1 ∷ 2 ∷ 4 ∷ []) e.count)
    (both (one_of (1 ∷ 2 ∷ 4 ∷ 8 ∷ []) e.seq)
    (one_of (2 ∷ 4 ∷ []) e.value))))

-- question 4 of the header's numbers and flags, but for the comparison with the section's length
unfoldable pub dimensions : Opened → ℕ → Bool
dimensions o flags =
    both (leb 1 o.count)
    (both (ltb o.count (2 ^ 31))
    (both (eqb o.buckets (buckets_of o.count))
    (both (allowed_widths o.encoding)
    (both (leb flags (checksum_flag + scan_flag))
    (eqb o.arena (arena_start_of o.count o.encoding.address))))))

-- the comparison of question 4: is the record's arena start below length - 5?
unfoldable pub arena_below : List ℕ → Opened → Bool
arena_below s o = ltb o.arena (length s - trailer_len)

-- has the header the scan flag?
unfoldable pub scan_flagged : List ℕ → Bool
scan_flagged s = has_flag scan_flag (flags_of s)

-- the length of a scan part: its header, and an address per key (question 5)
unfoldable pub scan_part_len : Opened → ℕ
scan_part_len o = scan_header_len + o.count * o.encoding.address

-- where a part of that length starts before the 8 bytes and the last five, 0 if there is no room for it (question 5)
unfoldable pub scan_place_of : List ℕ → Opened → ℕ
scan_place_of s o = length s - (scan_part_len o + 8 + trailer_len)

-- question 5, with scan: do the 8 bytes before the last five hold the part's length, does it start after the arena start, and with `KIBANSC1`?
unfoldable pub scan_part : List ℕ → Opened → Bool
scan_part s o =
    both (eqb (le_at s (length s - (8 + trailer_len)) 8) (scan_part_len o))
    (both (ltb o.arena (scan_place_of s o))
    (stands_at_of s (scan_place_of s o) scan_magic))

-- question 6, of a scan part at a place and of n keys: is its prefix length 1 to 24, its stride 32, its prefix count 1 to n?
unfoldable pub scan_settings : List ℕ → ℕ → ℕ → Bool
scan_settings s scan n =
    both (between 1 max_scan_prefix (le_at s (scan + 8) 4))
    (both (eqb (le_at s (scan + 12) 4) stride)
    (between 1 n (le_at s (scan + 16) 8)))

-- a record with another scan place
unfoldable pub with_scan : Opened → ℕ → Opened
with_scan o scan =
    record {
      seed = o.seed;
      min_seq = o.min_seq;
      count = o.count;
      buckets = o.buckets;
      arena = o.arena;
      encoding = o.encoding;
      scan = scan;
      packed = o.packed;
    }

-- questions 5 and 6 of a section with the scan flag: the first "no" is the answer
unfoldable pub scanned_of : List ℕ → Opened → Result Opened Refusal
scanned_of s o =
    ask scan_part s o otherwise Err refusal.ScanPart then  -- 5
    ask scan_settings s (scan_place_of s o) o.count otherwise Err refusal.ScanSettings then  -- 6
    Ok (with_scan o (scan_place_of s o))

-- questions 3 to 6: the first "no" is the answer, and without one the header gives the record
unfoldable pub header_of : List ℕ → Result Opened Refusal
header_of s =
    ask begins s otherwise Err refusal.Magic then  -- 3
    ask both (dimensions (fields_of s) (flags_of s)) (arena_below s (fields_of s)) otherwise Err refusal.Header then  -- 4
    when scan_flagged s then scanned_of s (fields_of s) else Ok (fields_of s)

-- question 7: checksums, and n < 2^23?
unfoldable pub fits_packed : Opened → Bool
fits_packed o = both o.encoding.checksum (ltb o.count (2 ^ 23))

-- the record of the packed bytes: the arena start behind pilots of 3 bytes and addresses without fingerprints, and no scan place (question 24)
unfoldable pub packed_record : Opened → Opened
packed_record o =
    record {
      seed = o.seed;
      min_seq = o.min_seq;
      count = o.count;
      buckets = o.buckets;
      arena = header_len + 3 * o.buckets + o.count * o.encoding.address;
      encoding = o.encoding;
      scan = 0;
      packed = true;
    }

-- where the arena ends (questions 16 and 22): at the scan part, or else at the last five bytes
unfoldable pub arena_end_of : List ℕ → Opened → ℕ
arena_end_of s o = when eqb o.scan 0 then length s - trailer_len else o.scan

-- for proofs alone: `unfolding header_defs` opens the definitions of this file
unfoldable pub header_defs : ℕ
unfolding stands_at_of between begins flags_of has_flag encoding_at fields_of allowed_widths dimensions arena_below scan_flagged scan_part_len scan_place_of scan_part scan_settings with_scan scanned_of header_of fits_packed packed_record arena_end_of
header_defs = 0
