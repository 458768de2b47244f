-- The arena as it is written: the key records of the key groups, one behind the other (document 01, question 6), and what their numbers
-- must fit into.
use Rattle.std.specs.Prelude.{◌≡◌, Bool, true, false, List, [], ◌∷◌, ◌++◌, ℕ, zero, suc, ◌+◌, ◌*◌, ◌-◌, ◌/◌, ◌%◌, ◌^◌, ◌<◌, ◌≤◌, eqb, length, get_or, drop}
use Rattle.num.specs.Choice.{when◌then◌else◌}
use Rattle.num.specs.Order.{common_prefix_len}
use Rattle.sstable.specs.declared.Kind.{Kind}
use Rattle.sstable.specs.declared.Kind.TheVariants.{Put, Tombstone}
use Rattle.encoding.specs.declared.Encoding.{Encoding}
use Rattle.encoding.specs.Encoding.{Widths, group, key_header_len_of, version_len_of, tombstone_of}
use Rattle.arena.specs.declared.KeyHeader.{KeyHeader}
use Rattle.written.specs.Joined.{joined, Field, fields_bytes}
use Rattle.written.specs.Joined.Field.{field}

-- a version to be stored: its sequence and kind, the length, the offset in the data and the CRC-32 of its value
pub record StoredVersion : Type 0 where
  pub seq : ℕ
  pub kind : Kind
  pub size : ℕ
  pub offset : ℕ
  pub checksum : ℕ

-- a key with its versions
pub record KeyGroup : Type 0 where
  pub key : List ℕ
  pub versions : List StoredVersion

-- stand behind the last ones
unfoldable pub no_stored : StoredVersion
no_stored = record { seq = 0; kind = Put; size = 0; offset = 0; checksum = 0 }

unfoldable pub no_group : KeyGroup
no_group = record { key = []; versions = [] }

-- key i, its versions and its version j
unfoldable pub group_key : List KeyGroup → ℕ → List ℕ
group_key gs i = (get_or gs i no_group).key

unfoldable pub group_versions : List KeyGroup → ℕ → List StoredVersion
group_versions gs i = (get_or gs i no_group).versions

unfoldable pub group_version : List KeyGroup → ℕ → ℕ → StoredVersion
group_version gs i j = get_or (group_versions gs i) j no_stored

-- the index of key i's anchor: every 1,024th key from key 0 on is one (question 16)
unfoldable pub group_anchor : ℕ → ℕ
group_anchor i = group * (i / group)

-- how many bytes key i shares with its anchor, not with the key before; none if it is one itself
unfoldable pub group_shared : List KeyGroup → ℕ → ℕ
group_shared gs i = when eqb (i % group) 0 then 0 else common_prefix_len (group_key gs (group_anchor i)) (group_key gs i)

-- the other bytes of key i, which are written
unfoldable pub group_suffix : List KeyGroup → ℕ → List ℕ
group_suffix gs i = drop (group_shared gs i) (group_key gs i)

-- the suffix bytes of the keys before key i
unfoldable pub suffixes_before : List KeyGroup → ℕ → ℕ
suffixes_before gs zero = 0
suffixes_before gs (suc i) = suffixes_before gs i + length (group_suffix gs i)

-- the address of key i: each key record is a key header, a suffix and the versions
unfoldable pub group_address : Encoding → List KeyGroup → ℕ → ℕ
group_address e gs zero = 0
group_address e gs (suc i) =
    group_address e gs i + (key_header_len_of e + length (group_suffix gs i) + length (group_versions gs i) * version_len_of e)

-- the key header of key i; the anchor's suffix stands behind the anchor's key header
unfoldable pub group_header : Encoding → List KeyGroup → ℕ → KeyHeader
group_header e gs i =
    record {
      anchor = group_address e gs (group_anchor i) + key_header_len_of e;
      shared = group_shared gs i;
      suffix_len = length (group_suffix gs i);
      versions = length (group_versions gs i);
    }

-- its numbers in the order written
unfoldable pub key_header_fields : Encoding → KeyHeader → List Field
key_header_fields e h =
    field e.address h.anchor
    ∷ field e.key h.shared
    ∷ field e.key h.suffix_len
    ∷ field e.count h.versions
    ∷ []

-- a value's length with the top bit set for a tombstone
unfoldable pub marked_size : Encoding → Kind → ℕ → ℕ
marked_size e Put size = size
marked_size e Tombstone size = tombstone_of e + size

-- the CRC-32 is written with checksums
unfoldable pub checksum_fields : Bool → ℕ → List Field
checksum_fields true checksum = field 4 checksum ∷ []
checksum_fields false checksum = []

-- the numbers of a version: its sequence less the least one, its marked length, its offset, its checksum
unfoldable pub stored_fields : Encoding → ℕ → StoredVersion → List Field
stored_fields e least v =
    field e.seq (v.seq - least)
    ∷ field e.value (marked_size e v.kind v.size)
    ∷ field e.address v.offset
    ∷ checksum_fields e.checksum v.checksum

-- the bytes of a key's versions
unfoldable pub stored_bytes : Encoding → ℕ → List StoredVersion → List ℕ
stored_bytes e least vs = joined (λ j. fields_bytes (stored_fields e least (get_or vs j no_stored))) (length vs)

-- the key record of key i
unfoldable pub group_bytes : Encoding → ℕ → List KeyGroup → ℕ → List ℕ
group_bytes e least gs i =
    fields_bytes (key_header_fields e (group_header e gs i)) ++ (group_suffix gs i ++ stored_bytes e least (group_versions gs i))

-- all key records
unfoldable pub arena_written : Encoding → ℕ → List KeyGroup → List ℕ
arena_written e least gs = joined (group_bytes e least gs) (length gs)

-- the numbers of a version fit: its length leaves the top bit free, and its sequence is a number of 64 bits not below the least
pub record VersionFits (e : Encoding) (least : ℕ) (v : StoredVersion) : Type 0 where
  pub least_first : least ≤ v.seq
  pub whole_seq : v.seq < 2 ^ 64
  pub seq : v.seq - least < 2 ^ (8 * e.seq)
  pub size : v.size < tombstone_of e
  pub offset : v.offset < 2 ^ (8 * e.address)
  pub checksum : e.checksum ≡ true → v.checksum < 2 ^ 32

-- all numbers of the groups fit, and no key is without a version
pub record GroupsFit (e : Encoding) (least : ℕ) (gs : List KeyGroup) : Type 0 where
  pub widths : Widths e
  pub addresses : (i : ℕ) → i < length gs → group_address e gs i + key_header_len_of e < 2 ^ (8 * e.address)
  pub keys : (i : ℕ) → i < length gs → length (group_key gs i) < 2 ^ (8 * e.key)
  pub counts : (i : ℕ) → i < length gs → length (group_versions gs i) < 2 ^ (8 * e.count)
  pub some_version : (i : ℕ) → i < length gs → 0 < length (group_versions gs i)
  pub versions : (i j : ℕ) → i < length gs → j < length (group_versions gs i) → VersionFits e least (group_version gs i j)

-- for proofs alone: `unfolding arena_written_defs` opens the definitions of this file
unfoldable pub arena_written_defs : ℕ
unfolding no_stored no_group group_key group_versions group_version group_anchor group_shared group_suffix group_address group_header key_header_fields marked_size checksum_fields stored_fields stored_bytes group_bytes arena_written
arena_written_defs = 0
