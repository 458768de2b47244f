-- Spans: questions 24, 27, 28, 29 and 25 (document 01, "Spans").
use Rattle.std.specs.Prelude.{ℕ, zero, suc, ◌+◌, ◌*◌, ◌%◌, ◌^◌, List, [], ◌∷◌, ◌++◌, Bool, true, false, not, eqb, leb, ltb, length, Result, Ok, Err}
use Rattle.std.proofs.lemmas.List.Edits.{sets}
use Rattle.refusal.specs.declared.Refusal.{Refusal}
use Rattle.refusal.specs.declared.Refusal.TheVariants as refusal
use Rattle.num.specs.Choice.{ask◌otherwise◌then◌, both}
use Rattle.num.specs.Number.{le_at}
use Rattle.sstable.specs.declared.Kind.{Kind}
use Rattle.sstable.specs.declared.Kind.TheVariants.{Put, Tombstone}
use Rattle.encoding.specs.declared.Encoding.{Encoding}
use Rattle.encoding.specs.Encoding.{scan_header_len, key_header_len_of, version_len_of}
use Rattle.header.specs.declared.Opened.{Opened}
use Rattle.opened.specs.Opened.{is_record_of}
use Rattle.arena.specs.declared.KeyHeader.{KeyHeader}
use Rattle.arena.specs.Key.{key_header_at}
use Rattle.versions.specs.Version.{stored_seq, stored_value, kind_in, length_in, stored_offset}
use Rattle.locator.specs.Locator.{readable}

-- where a value lies in the data
pub record Pair : Type 0 where
  pub offset : ℕ
  pub len : ℕ

-- question 27: plain, scan present, address 4?
unfoldable pub scannable : Opened → Bool
scannable o = both (not o.packed) (both (not (eqb o.scan 0)) (eqb o.encoding.address 4))

-- the scan address of a key, by its place among the keys. 24 and 28 put it inside the section, so that 25 does not ask for it.
unfoldable pub scan_address : List ℕ → Opened → ℕ → ℕ
scan_address s o i = le_at s (o.scan + scan_header_len + i * o.encoding.address) o.encoding.address

-- the bytes that a span reads of the version that it answers: sequence, value length and value offset, no checksum
unfoldable pub value_end : Encoding → ℕ
value_end e = e.seq + e.value + e.address

-- a tombstone is skipped
unfoldable pub unless_tombstone : Kind → Pair → List Pair
unless_tombstone Put p = p ∷ []
unless_tombstone Tombstone p = []

-- the value of the version at a place
unfoldable pub value_at : List ℕ → Opened → ℕ → List Pair
value_at s o pos =
    unless_tombstone (kind_in o (stored_value s o pos)) (record { offset = stored_offset s o pos; len = length_in o (stored_value s o pos) })

-- some versions from a place on: the value of the first whose sequence is not above the limit. Each sequence is read, and its sum must be
-- below 2^64 (25); the rest is read only of that version, of a tombstone too.
unfoldable pub first_within : ℕ → List ℕ → Opened → ℕ → ℕ → Result (List Pair) Refusal
first_within zero s o pos limit = Ok []
first_within (suc count) s o pos limit =
    elim (both (readable s pos o.encoding.seq) (ltb (stored_seq s o pos) (2 ^ 64))) [
      | false ↦ Err refusal.Read
      | true ↦ elim (leb (stored_seq s o pos) limit) [
        | true ↦ ask readable s pos (value_end o.encoding) otherwise Err refusal.Read then Ok (value_at s o pos)
        | false ↦ first_within count s o (pos + version_len_of o.encoding) limit
      ]
    ]

-- the bytes of a key record before its versions; anchor, shared length and suffix are not read
unfoldable pub versions_start : Opened → KeyHeader → ℕ
versions_start o h = key_header_len_of o.encoding + h.suffix_len

-- the value of the key whose record stands at an address. Of its key header the last two numbers are read, suffix length and number of versions, so
-- the header must end inside the section (25).
unfoldable pub key_value : List ℕ → Opened → ℕ → ℕ → KeyHeader → Result (List Pair) Refusal
key_value s o limit address h =
    ask readable s (o.arena + address) (key_header_len_of o.encoding) otherwise Err refusal.Read then
    first_within h.versions s o (o.arena + address + versions_start o h) limit

-- the address behind that key record, modulo 2^32
unfoldable pub next_address_of : Opened → ℕ → KeyHeader → ℕ
next_address_of o address h = (address + versions_start o h + h.versions * version_len_of o.encoding) % 2 ^ 32

-- one key's answer before that of the keys behind it
unfoldable pub pairs_joined : Result (List Pair) Refusal → Result (List Pair) Refusal → Result (List Pair) Refusal
pairs_joined (Ok ps) (Ok qs) = Ok (ps ++ qs)
pairs_joined (Ok ps) (Err e) = Err e
pairs_joined (Err e) rest = Err e

-- the key records one behind the other from an address on, so many of them
unfoldable pub values_from : ℕ → List ℕ → Opened → ℕ → ℕ → Result (List Pair) Refusal
values_from zero s o limit address = Ok []
values_from (suc count) s o limit address =
    pairs_joined (key_value s o limit address (key_header_at s o.encoding (o.arena + address)))
    (values_from count s o limit (next_address_of o address (key_header_at s o.encoding (o.arena + address))))

-- the span of `count` keys from key `first` on under a limit, for an output of so many places
unfoldable pub span_of : List ℕ → Opened → ℕ → ℕ → ℕ → ℕ → Result (List Pair) Refusal
span_of s o first count limit places =
    ask is_record_of s o otherwise Err refusal.RecordGiven then
    ask scannable o otherwise Err refusal.NoSpans then
    ask leb (first + count) o.count otherwise Err refusal.SpanKeys then
    ask leb (2 * count) places otherwise Err refusal.SpanRoom then
    values_from count s o limit (scan_address s o first)

-- the numbers of the pairs: offset, length, offset, length, ..
unfoldable pub pair_numbers : List Pair → List ℕ
pair_numbers [] = []
pair_numbers (p ∷ ps) = p.offset ∷ p.len ∷ pair_numbers ps

-- the places behind a span: the pairs and behind them what stood there, or on a refusal what stood there
unfoldable pub pairs_written : Result (List Pair) Refusal → List ℕ → List ℕ
pairs_written (Ok ps) before = sets before 0 (pair_numbers ps)
pairs_written (Err e) before = before

-- what a span answers: how many pairs there are, or the first question that is answered with no
unfoldable pub spanned_read : Result (List Pair) Refusal → Result ℕ Refusal
spanned_read (Ok ps) = Ok (length ps)
spanned_read (Err e) = Err e

-- for proofs alone: `unfolding span_defs` opens the definitions of this file
unfoldable pub span_defs : ℕ
unfolding scannable scan_address value_end unless_tombstone value_at first_within versions_start key_value next_address_of pairs_joined values_from span_of pair_numbers pairs_written spanned_read
span_defs = 0
