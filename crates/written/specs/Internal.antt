-- Not on the reading path: what stands where in a section that was written, and totals that were counted of its groups.
use Rattle.std.specs.Prelude.{◌≡◌, List, [], ◌∷◌, ◌++◌, ℕ, zero, suc, ◌+◌, ◌*◌, ◌^◌, ◌<◌, ◌≤◌, length, drop}
use Rattle.num.specs.Number.{le_at}
use Rattle.encoding.specs.declared.Totals.{Totals}
use Rattle.encoding.specs.declared.Encoding.{Encoding}
use Rattle.encoding.specs.Encoding.{Bounded, header_len, scan_header_len}
use Rattle.header.specs.declared.Opened.{Opened}
use Rattle.sstable.specs.Limits.{max_value_bytes}
use Rattle.written.specs.Joined.{Field, fields_bytes}
use Rattle.written.specs.Joined.Field.{field}
use Rattle.written.specs.Arena.{KeyGroup, group_key, group_versions, group_version, arena_written, suffixes_before}
use Rattle.written.specs.Section.{pilots_bytes, slots_bytes, scan_fields_of, scan_addresses_of}

-- a part stands at a place of a list, before some rest
pub record Stands {A : Type 0} (s : List A) (pos : ℕ) (part : List A) : Type 0 where
  pub rest : List A
  pub stands : drop pos s ≡ part ++ rest

-- ---- numbers of given widths

-- how many bytes they take
abbrev pub fields_len : List Field → ℕ
fields_len [] = 0
fields_len (field w v ∷ fs) = w + fields_len fs

-- each fits its width
abbrev pub FieldsFit : List Field → Type 0
FieldsFit [] = Unit {0}
FieldsFit (field w v ∷ fs) = (v < 2 ^ (8 * w)) × FieldsFit fs

-- each is read at its place, the first at pos
abbrev pub FieldsRead : List ℕ → ℕ → List Field → Type 0
FieldsRead s pos [] = Unit {0}
FieldsRead s pos (field w v ∷ fs) = (le_at s pos w ≡ v) × FieldsRead s (pos + w) fs

-- ---- a section

-- its tables, its arena and its scan part stand at their places
pub record PartsStand (s : List ℕ) (o : Opened) (gs : List KeyGroup) (pilot owner : ℕ → ℕ) (prefix : ℕ) : Type 0 where
  pub count : o.count ≡ length gs
  pub some_bucket : 0 < o.buckets
  pub pilots : Stands s header_len (pilots_bytes pilot o.buckets)
  pub slots : Stands s (header_len + 4 * o.buckets) (slots_bytes o.encoding o.seed gs owner)
  pub arena : Stands s o.arena (arena_written o.encoding o.min_seq gs)
  pub scan_fields : (o.scan ≡ 0 → ⊥) → Stands s (o.scan + 8) (fields_bytes (scan_fields_of prefix gs))
  pub scan_addresses : (o.scan ≡ 0 → ⊥) → Stands s (o.scan + scan_header_len) (scan_addresses_of o.encoding gs)

-- the bytes of its scan part and of that one's length
unfoldable pub scan_len_for : Encoding → List KeyGroup → ℕ → ℕ
scan_len_for e gs zero = 0
scan_len_for e gs (suc p) = scan_header_len + length gs * e.address + 8

-- ---- totals

-- the versions of the keys before key i
unfoldable pub versions_before : List KeyGroup → ℕ → ℕ
versions_before gs zero = 0
versions_before gs (suc i) = versions_before gs i + length (group_versions gs i)

-- totals that a builder has counted of these groups
pub record Measured (t : Totals) (gs : List KeyGroup) : Type 0 where
  pub bounded : Bounded t
  pub keys : t.keys ≡ length gs
  pub versions : t.versions ≡ versions_before gs (length gs)
  pub suffixes : t.suffix_bytes ≡ suffixes_before gs (length gs)
  pub greatest_fits : t.max_seq < 2 ^ 64
  pub last_fits : t.last_value_offset < 2 ^ 64
  pub key_len : (i : ℕ) → i < length gs → length (group_key gs i) ≤ t.max_key_len
  pub most : (i : ℕ) → i < length gs → length (group_versions gs i) ≤ t.max_versions
  pub some_version : (i : ℕ) → i < length gs → 0 < length (group_versions gs i)
  pub least : (i j : ℕ) → i < length gs → j < length (group_versions gs i) → t.min_seq ≤ (group_version gs i j).seq
  pub greatest : (i j : ℕ) → i < length gs → j < length (group_versions gs i) → (group_version gs i j).seq ≤ t.max_seq
  pub size : (i j : ℕ) → i < length gs → j < length (group_versions gs i) → (group_version gs i j).size ≤ t.max_value_len
  pub size_limit : (i j : ℕ) → i < length gs → j < length (group_versions gs i) → (group_version gs i j).size ≤ max_value_bytes
  pub offset : (i j : ℕ) → i < length gs → j < length (group_versions gs i) → (group_version gs i j).offset ≤ t.last_value_offset
  pub checksum : (i j : ℕ) → i < length gs → j < length (group_versions gs i) → (group_version gs i j).checksum < 2 ^ 32
