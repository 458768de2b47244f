-- A record beside the version at the cursor: questions 20 and 21.
use Rattle.std.specs.Prelude.{ℕ, ◌+◌, ◌-◌, ◌%◌, ◌^◌, List, ◌++◌, Bool, true, false, not, eqb, leb, ltb, take, drop, Result, Ok, Err}
use Rattle.num.specs.Choice.{when◌then◌else◌, ask◌otherwise◌then◌, both, either}
use Rattle.num.specs.Number.{le_at}
use Rattle.num.specs.Order.{equal_bytes}
use Rattle.refusal.specs.declared.Refusal.{Refusal}
use Rattle.refusal.specs.declared.Refusal.TheVariants as refusal
use Rattle.crc32.specs.V42.{crc_of}
use Rattle.sstable.specs.declared.Kind.{Kind}
use Rattle.sstable.specs.declared.Kind.TheVariants.{Put, Tombstone}
use Rattle.block.specs.Walk.{Entry}
use Rattle.encoding.specs.Encoding.{version_len_of, tombstone_of}
use Rattle.header.specs.declared.Opened.{Opened}
use Rattle.arena.specs.declared.Cursor.{Cursor}
use Rattle.arena.specs.Key.{key_of}

-- the key that the cursor stands in: the anchor's shared part and the suffix
unfoldable pub stored_key : List ℕ → Opened → Cursor → List ℕ
stored_key s o c = take c.shared (drop (o.arena + c.anchor) s) ++ take c.suffix_len (drop c.suffix s)

-- the sequence of the version at a place: the least sequence plus the stored number
unfoldable pub stored_seq : List ℕ → Opened → ℕ → ℕ
stored_seq s o pos = o.min_seq + le_at s pos o.encoding.seq

-- the stored value length, its top bit included
unfoldable pub stored_value : List ℕ → Opened → ℕ → ℕ
stored_value s o pos = le_at s (pos + o.encoding.seq) o.encoding.value

-- a tombstone has the top bit
unfoldable pub kind_in : Opened → ℕ → Kind
kind_in o stored = when leb (tombstone_of o.encoding) stored then Tombstone else Put

-- the value length without its top bit
unfoldable pub length_in : Opened → ℕ → ℕ
length_in o stored = stored % tombstone_of o.encoding

-- the value offset and the checksum behind it
unfoldable pub stored_offset : List ℕ → Opened → ℕ → ℕ
stored_offset s o pos = le_at s (pos + o.encoding.seq + o.encoding.value) o.encoding.address

unfoldable pub stored_checksum : List ℕ → Opened → ℕ → ℕ
stored_checksum s o pos = le_at s (pos + o.encoding.seq + o.encoding.value + o.encoding.address) 4

unfoldable pub same_kind : Kind → Kind → Bool
same_kind Put Put = true
same_kind Put Tombstone = false
same_kind Tombstone Put = false
same_kind Tombstone Tombstone = true

-- does the sequence of the version at a place agree? A sum of 2^64 or more never does.
unfoldable pub seq_agrees : List ℕ → Opened → ℕ → ℕ → Bool
seq_agrees s o pos seq = both (ltb (stored_seq s o pos) (2 ^ 64)) (eqb (stored_seq s o pos) seq)

-- question 20: do key bytes, strictly falling sequences, kind, length and value offset agree?
unfoldable pub version_agrees : List ℕ → Opened → Cursor → Entry → Bool
version_agrees s o c e =
    both (equal_bytes e.key (stored_key s o c))
    (both (either c.first (ltb e.seq c.last_seq))
    (both (seq_agrees s o c.pos e.seq)
    (both (same_kind (kind_in o (stored_value s o c.pos)) e.kind)
    (both (eqb (length_in o (stored_value s o c.pos)) e.size)
    (eqb (stored_offset s o c.pos) e.place)))))

-- question 21, with checksums: does the value's CRC-32 agree?
unfoldable pub checksum_agrees : List ℕ → Opened → Cursor → List ℕ → Bool
checksum_agrees s o c value = either (not o.encoding.checksum) (eqb (stored_checksum s o c.pos) (crc_of value))

-- the cursor behind the version
unfoldable pub advanced : Opened → Cursor → ℕ → Cursor
advanced o c seq =
    record {
      pos = c.pos + version_len_of o.encoding;
      groups = c.groups;
      remaining = c.remaining - 1;
      anchor = c.anchor;
      anchor_len = c.anchor_len;
      shared = c.shared;
      suffix = c.suffix;
      suffix_len = c.suffix_len;
      prefixes = c.prefixes;
      last_seq = seq;
      first = false;
    }

-- questions 20 and 21 of a record whose key the cursor stands in
unfoldable pub version_for : List ℕ → Opened → Entry → List ℕ → Result Cursor Refusal → Result Cursor Refusal
version_for s o e value (Err r) = Err r
version_for s o e value (Ok c) =
    ask version_agrees s o c e otherwise Err refusal.Version then  -- 20
    ask checksum_agrees s o c value otherwise Err refusal.ValueCrc then  -- 21
    Ok (advanced o c e.seq)

-- questions 16 to 21 of a record with its value's bytes, the value's place counted in the data: 16 to 19 are asked at a key's
-- first record
unfoldable pub visit_of : List ℕ → Opened → ℕ → Cursor → List ℕ → Entry → List ℕ → Result Cursor Refusal
visit_of s o end c previous e value =
    version_for s o e value (when eqb c.remaining 0 then key_of s o end c previous e.key else Ok c)

-- for proofs alone: `unfolding version_defs` opens the definitions of this file
unfoldable pub version_defs : ℕ
unfolding stored_key stored_seq stored_value kind_in length_in stored_offset stored_checksum same_kind seq_agrees version_agrees checksum_agrees advanced version_for visit_of
version_defs = 0
