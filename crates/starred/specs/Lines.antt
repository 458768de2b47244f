-- Document 01's starred lines ("One store, worked through") in one array: a question and its answer, one element each.
use Rattle.std.specs.Prelude.{◌≡◌, Bool, true, false, List, [], ◌∷◌, ◌++◌, map, ℕ, ◌+◌, length, take, replicate, Some, None, Result, Ok, Err}
use Rattle.std.proofs.lemmas.List.Edits.{sets}
use Rattle.num.specs.Number.{le_at, le_bytes}
use Rattle.refusal.specs.declared.Refusal.{Refusal}
use Rattle.refusal.specs.Refusal.{refusal_number}
use Rattle.header.specs.declared.Opened.{Opened}
use Rattle.crc32.specs.V42.{crc_of}
use Rattle.sstable.specs.declared.Kind.{Kind}
use Rattle.sstable.specs.declared.Kind.TheVariants.{Put, Tombstone}
use Rattle.block.specs.Walk.{Entry}
use Rattle.encoding.specs.Encoding.{width_of, value_width_of}
use Rattle.validate.specs.Walk.{value_of}
use Rattle.opening.specs.Open.{open_of}
use Rattle.packed.specs.Packed.{packed_pilots}
use Rattle.packing.specs.Packing.{PackedForm, open_packed_of}
use Rattle.locator.specs.Locator.{Located}
use Rattle.lookup.specs.Lookup.{locate_of, no_limit}
use Rattle.builder.specs.Offer.{Offer}
use Rattle.builder.specs.Record.{empty_builder, size_of_section}
use Rattle.builder.specs.Add.{BuilderState, add_of}
use Rattle.writer.specs.Write.{write_of}
use Rattle.worked.specs.Worked.{worked_data, worked_list, worked_entries, ab, ac}
use Rattle.spans.specs.Span.{Pair, pair_numbers, span_of}

-- ---- the section that is built from the three records

-- a record of the worked store as an offer, its value at its place in the data
unfoldable pub offer_for : Entry → Bool → Offer
offer_for e new = record { kind = e.kind; key = e.key; value = value_of worked_data e; seq = e.seq; new_key = new; offset = e.place }

-- the state behind an add; a refused one leaves it
unfoldable pub state_for : BuilderState → Result BuilderState Refusal → BuilderState
state_for before (Ok after) = after
state_for before (Err n) = before

-- records added one after another, with their marks: a new key or not
unfoldable pub added_from : BuilderState → List Entry → List Bool → BuilderState
added_from b [] marks = b
added_from b (e ∷ es) [] = b
added_from b (e ∷ es) (new ∷ marks) = added_from (state_for b (add_of b.area b.builder (offer_for e new))) es marks

-- an empty builder with an area of 200 bytes, and the three adds: `ab` is new, its second version is not, `ac` is new
unfoldable pub three_added : BuilderState
three_added = added_from (record { area = replicate 200 0; builder = empty_builder }) worked_entries (true ∷ false ∷ true ∷ [])

-- the section that is written with a scan prefix, no bytes if writing refuses
unfoldable pub bytes_of : Result (List ℕ) Refusal → List ℕ
bytes_of (Ok s) = s
bytes_of (Err n) = []

unfoldable pub section_with : ℕ → List ℕ
section_with prefix = bytes_of (write_of three_added.area three_added.builder prefix 2 20 200)

-- ---- questions and answers

-- what a line asks
pub data Question : Type 0 where
  -- the size told for a scan prefix, the length of the section written with it, and the number of prefixes stored at 16 of its scan part
  size : ℕ → Question
  written : ℕ → Question
  prefixes : ℕ → Question
  -- the length of the packed form of that section
  packed : ℕ → Question
  -- a key under a limit, in the section with scan prefix 0 and in its packed form
  lookup : List ℕ → ℕ → Question
  lookup_packed : List ℕ → ℕ → Question
  -- the span of both keys under a limit, in the section with scan prefix 1
  span : ℕ → Question
  -- the width of a number, and of a longest value's length
  width : ℕ → Question
  value_width : ℕ → Question
  -- a section with this first pilot: its packed bytes, and the packed opening of the section, sealed again
  pilot : ℕ → Question
  pilot_opened : ℕ → Question

-- what it is answered with
pub data Told : Type 0 where
  number : ℕ → Told
  version : ℕ → Told
  tombstone : ℕ → Told
  none : Told
  pairs : List ℕ → Told
  bytes : List ℕ → Told
  refusal : ℕ → Told

unfoldable pub number_told : Result ℕ Refusal → Told
number_told (Ok n) = number n
number_told (Err n) = refusal (refusal_number n)

-- the sequence of a version, by its kind
unfoldable pub version_told : Kind → ℕ → Told
version_told Put seq = version seq
version_told Tombstone seq = tombstone seq

unfoldable pub located_told : Located → Told
located_told (Ok (Some l)) = version_told l.kind l.seq
located_told (Ok None) = none
located_told (Err n) = refusal (refusal_number n)

-- a lookup in an opened section, and in a packed form
unfoldable pub lookup_told : List ℕ → List ℕ → ℕ → Result Opened Refusal → Told
lookup_told s key limit (Ok o) = located_told (locate_of s o key limit)
lookup_told s key limit (Err n) = refusal (refusal_number n)

unfoldable pub packed_lookup_told : List ℕ → ℕ → Result PackedForm Refusal → Told
packed_lookup_told key limit (Ok p) = located_told (locate_of p.bytes p.opened key limit)
packed_lookup_told key limit (Err n) = refusal (refusal_number n)

unfoldable pub packed_len_told : Result PackedForm Refusal → Told
packed_len_told (Ok p) = number (length p.bytes)
packed_len_told (Err n) = refusal (refusal_number n)

unfoldable pub pairs_told : Result (List Pair) Refusal → Told
pairs_told (Ok ps) = pairs (pair_numbers ps)
pairs_told (Err n) = refusal (refusal_number n)

-- a span in an opened section, with four places for two pairs
unfoldable pub span_told : List ℕ → ℕ → Result Opened Refusal → Told
span_told s limit (Ok o) = pairs_told (span_of s o 0 2 limit 4)
span_told s limit (Err n) = refusal (refusal_number n)

-- the section with scan prefix 0 and another first pilot, without its last four bytes, and with the CRC-32 that belongs there
unfoldable pub with_pilot : ℕ → List ℕ
with_pilot p = take 131 (sets (section_with 0) 64 (le_bytes 4 p))

unfoldable pub sealed_with : List ℕ → List ℕ
sealed_with s = s ++ le_bytes 4 (crc_of s)

-- both openings of the section with a scan prefix beside the worked data, with the key scratch of program `keys`
unfoldable pub opening_with : ℕ → Result Opened Refusal
opening_with prefix = open_of (section_with prefix) worked_data worked_list 32768

unfoldable pub packing_with : ℕ → Result PackedForm Refusal
packing_with prefix = open_packed_of (section_with prefix) worked_data worked_list 32768 200

unfoldable pub answer_to : Question → Told
answer_to (size prefix) = number_told (size_of_section three_added.builder prefix)
answer_to (written prefix) = number (length (section_with prefix))
answer_to (prefixes prefix) = number (le_at (section_with prefix) (130 + 16) 8)
answer_to (packed prefix) = packed_len_told (packing_with prefix)
answer_to (lookup key limit) = lookup_told (section_with 0) key limit (opening_with 0)
answer_to (lookup_packed key limit) = packed_lookup_told key limit (packing_with 0)
answer_to (span limit) = span_told (section_with 1) limit (opening_with 1)
answer_to (width n) = number (width_of n)
answer_to (value_width n) = number (value_width_of n)
answer_to (pilot p) = bytes (packed_pilots (with_pilot p) 0 1)
answer_to (pilot_opened p) = packed_len_told (open_packed_of (sealed_with (with_pilot p)) worked_data worked_list 32768 200)

-- ---- the array

pub record Line : Type 0 where
  pub question : Question
  pub answer : Told

infix 20 ◌is◌
abbrev pub ◌is◌ : Question → Told → Line
◌is◌ q a = record { question = q; answer = a }

-- the starred lines, in document 01's order; beside them the length written, where it tells the size, and the lookups in the packed form
unfoldable pub starred_lines : List Line
starred_lines =
    (size 0 is number 135)
    ∷ (written 0 is number 135)
    ∷ (size 1 is number 175)
    ∷ (written 1 is number 175)
    ∷ (prefixes 1 is number 1)
    ∷ (prefixes 2 is number 2)
    ∷ (packed 0 is number 130)
    ∷ (packed 1 is number 130)
    ∷ (lookup ab 7 is version 7)
    ∷ (lookup ab 6 is tombstone 3)
    ∷ (lookup ab 2 is none)
    ∷ (lookup ac 4 is none)
    ∷ (lookup (97 ∷ []) no_limit is none)
    ∷ (lookup [] no_limit is none)
    ∷ (lookup_packed ab 7 is version 7)
    ∷ (lookup_packed ab 6 is tombstone 3)
    ∷ (lookup_packed ab 2 is none)
    ∷ (lookup_packed ac 4 is none)
    ∷ (lookup_packed (97 ∷ []) no_limit is none)
    ∷ (lookup_packed [] no_limit is none)
    ∷ (span no_limit is pairs (23 ∷ 3 ∷ 69 ∷ 0 ∷ []))
    ∷ (span 6 is pairs (69 ∷ 0 ∷ []))
    ∷ (span 4 is pairs [])
    ∷ (width 255 is number 1)
    ∷ (width 256 is number 2)
    ∷ (width 65536 is number 4)
    ∷ (width 4294967296 is number 8)
    ∷ (value_width 32767 is number 2)
    ∷ (value_width 32768 is number 4)
    ∷ (pilot 0x80000005 is bytes (0x05 ∷ 0x00 ∷ 0x80 ∷ []))
    ∷ (pilot_opened 0x00800000 is refusal 8)
    ∷ []

-- promise P7: every line of the array is answered as it says
unfoldable pub LinesHold : Type 0
LinesHold = map (λ l. answer_to l.question) starred_lines ≡ map (λ l. l.answer) starred_lines
