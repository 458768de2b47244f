-- The demands, said of the entries that are called (include/kiban.h): of their results, of the sixteen numbers of a record, and of the six
-- of an answer. A call is what its entry was lent, its result and what it left, in the words of its contract (crates/kiban/src/lib.rt).
use Rattle.std.specs.Prelude.{◌≡◌, ◌↔◌, List, [], ◌∷◌, ℕ, ◌+◌, ◌*◌, ◌-◌, ◌/◌, ◌%◌, ◌≤◌, eqb, length, get_or, take, drop, Result}
use Rattle.num.specs.Choice.{when◌then◌else◌}
use Rattle.num.specs.Number.{le_at}
use Rattle.refusal.specs.Refusal.{answer_number}
use Rattle.refusal.specs.declared.Refusal.{Refusal}
use Rattle.crc32.specs.V42.{crc_of}
use Rattle.sstable.specs.declared.Kind.TheVariants.{Put, Tombstone}
use Rattle.header.specs.declared.Opened.{Opened}
use Rattle.header.specs.Header.{packed_record}
use Rattle.header.specs.Facts.{IsRecord}
use Rattle.opening.specs.Open.{open_of}
use Rattle.packing.specs.Packing.{PackedForm, open_packed_of, packed_read, packed_written}
use Rattle.admission.specs.Layout.{PackedLayout}
use Rattle.admission.specs.Admits.{Admits, AdmitsPacked}
use Rattle.lookup.specs.Value.{value_number, value_part}
use Rattle.locating.specs.Store.{LinkerStore, Version}
use Rattle.locating.specs.Looks.{NoneWithin, Greatest}
use Rattle.linking.specs.Linkers.{SameVersions}
use Rattle.numbers.specs.Numbers.{record_numbers, opened_of}
use Rattle.opens.specs.Written.{record_written, packed_record_written, packed_len_written}
use Rattle.looks.specs.Looked.{lookup_of, answer_written}

-- what a place holds
abbrev pub place : List ℕ → ℕ → ℕ
place numbers i = get_or numbers i 0

-- ---- calls

-- what an opening reads: a section, its data and block list, and how long the key scratch is
pub record Lent : Type 0 where
  pub section : List ℕ
  pub backing : List ℕ
  pub blocks : List ℕ
  pub scratch : ℕ

-- what the plain opening answers
abbrev pub opens : Lent → Result Opened Refusal
opens lent = open_of lent.section lent.backing lent.blocks lent.scratch

-- what the packed opening answers, with an output of a length
abbrev pub packs : Lent → ℕ → Result PackedForm Refusal
packs lent room = open_packed_of lent.section lent.backing lent.blocks lent.scratch room

-- a call of `kiban_open`, with any sixteen numbers in its places before
pub record OpenCall : Type 0 where
  pub lent : Lent
  pub before : List ℕ
  pub sixteen : length before ≡ 16
  pub result : ℕ
  pub after : List ℕ
  pub returns : result ≡ answer_number (opens lent)
  pub leaves : after ≡ record_written (opens lent) before

-- a call of `kiban_open_packed`, with any output, any sixteen numbers and any length before
pub record PackCall : Type 0 where
  pub lent : Lent
  pub output : List ℕ
  pub before : List ℕ
  pub sixteen : length before ≡ 16
  pub len : ℕ
  pub result : ℕ
  pub output_after : List ℕ
  pub after : List ℕ
  pub len_after : ℕ
  pub returns : result ≡ answer_number (packed_read (packs lent (length output)))
  pub leaves_output : output_after ≡ packed_written (packs lent (length output)) output
  pub leaves : after ≡ packed_record_written (packs lent (length output)) before
  pub leaves_len : len_after ≡ packed_len_written (packs lent (length output)) len

-- what a linker holds: the bytes in which it looks keys up, the data, the block list, and the sixteen numbers
pub record Holding : Type 0 where
  pub bytes : List ℕ
  pub backing : List ℕ
  pub blocks : List ℕ
  pub numbers : List ℕ

-- a linker called one of the two openings, and the result was 0
pub data Linker : Type 0 where
  opened_plain : (c : OpenCall) → c.result ≡ 0 → Linker
  opened_packed : (c : PackCall) → c.result ≡ 0 → Linker

-- it holds what was lent and left: the bytes are the section, or the first `*len` bytes of the output
unfoldable pub holding : Linker → Holding
holding (opened_plain c zero) =
    record { bytes = c.lent.section; backing = c.lent.backing; blocks = c.lent.blocks; numbers = c.after }
holding (opened_packed c zero) =
    record { bytes = take c.len_after c.output_after; backing = c.lent.backing; blocks = c.lent.blocks; numbers = c.after }

-- the store whose versions a linker looks up: they are read off data and block list alone, so it has no bytes and an empty record
unfoldable pub blocks_held : Holding → LinkerStore
blocks_held h = record { bytes = []; backing = h.backing; blocks = h.blocks; opened = opened_of [] }

-- a call of `kiban_lookup` on the bytes and numbers held, with any six numbers in its places before
pub record LookupCall (h : Holding) (key : List ℕ) (limit : ℕ) : Type 0 where
  pub before : List ℕ
  pub six : length before ≡ 6
  pub result : ℕ
  pub after : List ℕ
  pub returns : result ≡ answer_number (lookup_of h.bytes h.numbers key limit)
  pub leaves : after ≡ answer_written (lookup_of h.bytes h.numbers key limit) before

-- ---- what the openings accept

-- what a call of `kiban_open` was lent is admitted with this record
abbrev pub Admitted : OpenCall → Opened → Type 0
Admitted c o = Admits c.lent.section c.lent.backing c.lent.blocks c.lent.scratch o

-- the result is 0 exactly if it is admitted with some record, whose numbers then stand in the sixteen places
pub record OpensAdmitted (c : OpenCall) : Type 0 where
  pub zero : (c.result ≡ 0) ↔ ((o : Opened) × Admitted c o)
  pub numbers : (o : Opened) → Admitted c o → c.after ≡ record_numbers o

-- what a call of `kiban_open_packed` was lent is admitted packed; the record is the one that the section's header says
abbrev pub AdmittedPacked : PackCall → Opened → Type 0
AdmittedPacked c o = AdmitsPacked c.lent.section c.lent.backing c.lent.blocks c.lent.scratch (length c.output) o

-- the result is 0 exactly if it is admitted packed with some record; then the places have the numbers of the packed record, and the
-- first `*len` bytes of the output are laid out as the packed form
pub record PacksAdmitted (c : PackCall) : Type 0 where
  pub zero : (c.result ≡ 0) ↔ ((o : Opened) × AdmittedPacked c o)
  pub numbers : (o : Opened) → AdmittedPacked c o → c.after ≡ record_numbers (packed_record o)
  pub layout : (o : Opened) → AdmittedPacked c o → PackedLayout c.lent.section o (take c.len_after c.output_after)

-- promise P2 at the entries
pub record OpenCalls : Type 0 where
  pub plain : (c : OpenCall) → OpensAdmitted c
  pub packed : (c : PackCall) → PacksAdmitted c

-- ---- question 24

-- the sixteen numbers are a record's, checksums and packed 0 or 1 and the last three 0, and the bytes give this record
pub record GivesRecord (h : Holding) : Type 0 where
  pub checksums : place h.numbers 10 ≤ 1
  pub packed : place h.numbers 12 ≤ 1
  pub zeros : (place h.numbers 13 ≡ 0) × (place h.numbers 14 ≡ 0) × (place h.numbers 15 ≡ 0)
  pub given : IsRecord h.bytes (opened_of h.numbers)

-- the result of a lookup, whatever bytes and numbers it is lent, is 24 exactly if that is not so
unfoldable pub RecordCalls : Type 0
RecordCalls = (h : Holding) (key : List ℕ) (limit : ℕ) (c : LookupCall h key limit) → (c.result ≡ 24) ↔ (GivesRecord h → ⊥)

-- ---- one linker

-- the answer for none
abbrev pub six_zeros : List ℕ
six_zeros = 0 ∷ 0 ∷ 0 ∷ 0 ∷ 0 ∷ 0 ∷ []

-- six numbers are the answer for this version
pub record IsVersion (h : Holding) (answer : List ℕ) (v : Version) : Type 0 where
  pub found : place answer 0 ≡ 1
  pub put : v.kind ≡ Put → place answer 1 ≡ 1
  pub tombstone : v.kind ≡ Tombstone → place answer 1 ≡ 2
  pub seq : place answer 2 ≡ v.seq
  pub len : place answer 4 ≡ length v.value
  -- `kiban_value` of places 3 and 4 returns 0, and `kiban::value` the value's bytes
  pub inside : value_number h.backing (place answer 3) (place answer 4) ≡ 0
  pub value : value_part h.backing (place answer 3) (place answer 4) ≡ v.value
  -- place 10 of the record says whether checksums are stored
  pub checksum : place h.numbers 10 ≡ 1 → place answer 5 ≡ crc_of v.value
  pub no_checksum : place h.numbers 10 ≡ 0 → place answer 5 ≡ 0

-- what a lookup by a linker gives
pub record LookedUp (h : Holding) (key : List ℕ) (limit : ℕ) (c : LookupCall h key limit) : Type 0 where
  pub result : c.result ≡ 0
  -- six zeros exactly if no version of the key is within the limit
  pub none : (c.after ≡ six_zeros) ↔ NoneWithin (blocks_held h) key limit
  -- otherwise there is one of greatest sequence, and it is answered
  pub found : (c.after ≡ six_zeros → ⊥) → (v : Version) × (Greatest (blocks_held h) key limit v × IsVersion h c.after v)
  -- and every version of greatest sequence is the one answered
  pub finds : (v : Version) → Greatest (blocks_held h) key limit v → IsVersion h c.after v

-- promise P3 at the entries: every lookup by a linker, of every key under every limit, gives this
unfoldable pub LookupCalls : Type 0
LookupCalls = (k : Linker) (key : List ℕ) (limit : ℕ) (c : LookupCall (holding k) key limit) → LookedUp (holding k) key limit c

-- ---- two linkers

-- two answers agree: found, kind, sequence, length, the value's bytes, and the checksum where both records store checksums
pub record SameAnswers (h i : Holding) (x y : List ℕ) : Type 0 where
  pub found : place x 0 ≡ place y 0
  pub kind : place x 1 ≡ place y 1
  pub seq : place x 2 ≡ place y 2
  pub len : place x 4 ≡ place y 4
  pub value : value_part h.backing (place x 3) (place x 4) ≡ value_part i.backing (place y 3) (place y 4)
  pub checksum : place h.numbers 10 ≡ 1 → place i.numbers 10 ≡ 1 → place x 5 ≡ place y 5

-- both answers are six zeros, and there is no version, or both are the one of greatest sequence, with `kiban_value` 0 for both
pub data SameLinked (h i : Holding) (key : List ℕ) (limit : ℕ) (x y : List ℕ) : Type 0 where
  both_none : NoneWithin (blocks_held h) key limit → NoneWithin (blocks_held i) key limit → x ≡ six_zeros → y ≡ six_zeros → SameLinked h i key limit x y
  both_version : (v : Version) → Greatest (blocks_held h) key limit v → Greatest (blocks_held i) key limit v → IsVersion h x v → IsVersion i y v
      → SameAnswers h i x y → SameLinked h i key limit x y

-- what the lookups of one key under one limit give two linkers
pub record LinkedAlike (h i : Holding) (key : List ℕ) (limit : ℕ) (c : LookupCall h key limit) (d : LookupCall i key limit) : Type 0 where
  pub first : c.result ≡ 0
  pub second : d.result ≡ 0
  pub answers : SameLinked h i key limit c.after d.after

-- promise P5 at the entries: any two linkers whose data and lists hold the same versions of a key within a limit link the same thing
unfoldable pub LinkerCalls : Type 0
LinkerCalls =
    (a b : Linker) (key : List ℕ) (limit : ℕ) → SameVersions (blocks_held (holding a)) (blocks_held (holding b)) key limit
    → (c : LookupCall (holding a) key limit) (d : LookupCall (holding b) key limit) → LinkedAlike (holding a) (holding b) key limit c d

-- ---- what is written

-- a call whose result is not 0 writes nothing; `kiban_value` and `kiban_crc32` are lent nothing to write to
pub record RefusalsWriteNothing : Type 0 where
  pub opening : (c : OpenCall) → (c.result ≡ 0 → ⊥) → c.after ≡ c.before
  pub packing : (c : PackCall) → (c.result ≡ 0 → ⊥) → (c.output_after ≡ c.output) × ((c.after ≡ c.before) × (c.len_after ≡ c.len))
  pub lookup : (h : Holding) (key : List ℕ) (limit : ℕ) (c : LookupCall h key limit) → (c.result ≡ 0 → ⊥) → c.after ≡ c.before

-- sixteen numbers by the header of a section: seed, least sequence, keys, buckets, arena start, the widths of address, key, count, sequence
-- and value, checksums (flag 1), scan place, packed, and three zeros
unfoldable pub header_places : List ℕ → ℕ → ℕ → ℕ → List ℕ
header_places s arena scan packed =
    le_at s 8 8 ∷ le_at s 56 8 ∷ le_at s 16 4 ∷ le_at s 20 4 ∷ arena ∷ le_at s 32 4 ∷ le_at s 36 4 ∷ le_at s 40 4 ∷ le_at s 44 4 ∷ le_at s 48 4
    ∷ (le_at s 52 4 % 2) ∷ scan ∷ packed ∷ 0 ∷ 0 ∷ 0 ∷ []

-- with flag 2 the scan place is where 24 bytes and an address per key begin that end 13 bytes before the section's end; without it 0
unfoldable pub scan_number : List ℕ → ℕ
scan_number s = when eqb (le_at s 52 4 / 2 % 2) 1 then length s - (24 + le_at s 16 4 * le_at s 32 4 + 13) else 0

-- the arena start of the packed form, behind 3 bytes per bucket and an address per key
unfoldable pub packed_start_of : List ℕ → ℕ
packed_start_of s = 64 + 3 * le_at s 20 4 + le_at s 16 4 * le_at s 32 4

-- the sixteen numbers behind an opening whose result is 0
pub record RecordPlaces : Type 0 where
  pub plain : (c : OpenCall) → c.result ≡ 0
      → c.after ≡ header_places c.lent.section (le_at c.lent.section 24 8) (scan_number c.lent.section) 0
  pub packed : (c : PackCall) → c.result ≡ 0 → c.after ≡ header_places c.lent.section (packed_start_of c.lent.section) 0 1

-- where a section's arena ends: at the scan place, or else at the last five bytes
unfoldable pub arena_stop : List ℕ → ℕ
arena_stop s = when eqb (scan_number s) 0 then length s - 5 else scan_number s

-- how many bytes a section's packed form has: those up to its arena, the arena, and the last five
unfoldable pub packed_size : List ℕ → ℕ
packed_size s = packed_start_of s + (arena_stop s - le_at s 24 8) + 5

-- what a packed opening leaves in the output: `*len` bytes, as many as the packed form has, and behind them what it held
pub record OutputLeft (c : PackCall) : Type 0 where
  pub len : c.len_after ≡ packed_size c.lent.section
  pub inside : c.len_after ≤ length c.output
  pub behind : drop c.len_after c.output_after ≡ drop c.len_after c.output

-- every packed opening whose result is 0 leaves this
unfoldable pub OutputsLeft : Type 0
OutputsLeft = (c : PackCall) → c.result ≡ 0 → OutputLeft c
