-- What spans promise, said of the entry that is called, `kiban_span` (include/kiban.h): of its result, of the places that it is lent and of
-- the number behind them. A call is what its entry was lent, its result and what it left, in the words of its contract (crates/kiban/src/lib.rt).
use Rattle.std.specs.Prelude.{◌≡◌, ◌↔◌, List, [], ◌∷◌, ◌++◌, ℕ, ◌+◌, ◌*◌, ◌<◌, ◌≤◌, eqb, length, get_or, drop, Result}
use Rattle.num.specs.Choice.{when◌then◌else◌}
use Rattle.num.specs.Number.{Bytes}
use Rattle.refusal.specs.Refusal.{answer_number}
use Rattle.refusal.specs.declared.Refusal.{Refusal}
use Rattle.numbers.specs.Numbers.{opened_of}
use Rattle.numbered.specs.Numbers.{OwnNumber}
use Rattle.spans.specs.Span.{Pair, pairs_written, spanned_read}
use Rattle.scans.specs.Spans.{span_of_numbers, found_written}
use Rattle.calls.specs.Calls.{place, Holding, Linker, holding, blocks_held, LookupCall, GivesRecord}
use Rattle.spanning.specs.Spans.{store_keys, KeysInOrder, keys_spanned, SpanGives}
use Rattle.spanning.specs.Reads.{SomeUnread, RecordsGive}

-- what a span over the bytes and numbers held answers, for so many places
abbrev pub spanned : Holding → ℕ → ℕ → ℕ → ℕ → Result (List Pair) Refusal
spanned h first count limit places = span_of_numbers h.bytes h.numbers first count limit places

-- a call of `kiban_span` on the bytes and numbers held, with any numbers in its places and behind `found` before
pub record SpanCall (h : Holding) (first count limit : ℕ) : Type 0 where
  pub before : List ℕ
  pub found : ℕ
  pub result : ℕ
  pub after : List ℕ
  pub found_after : ℕ
  pub returns : result ≡ answer_number (spanned_read (spanned h first count limit (length before)))
  pub leaves : after ≡ pairs_written (spanned h first count limit (length before)) before
  pub leaves_found : found_after ≡ found_written (spanned h first count limit (length before)) found

-- ---- every call

-- the numbers of `kiban_span`
abbrev pub span_numbers : List ℕ
span_numbers = 24 ∷ 25 ∷ 27 ∷ 28 ∷ 29 ∷ []

-- the result is 0 or one of them, and where it is not 0 nothing is written
pub record SpanNumbered (h : Holding) (first count limit : ℕ) (c : SpanCall h first count limit) : Type 0 where
  pub number : OwnNumber span_numbers c.result
  pub kept : (c.result ≡ 0 → ⊥) → (c.after ≡ c.before) × (c.found_after ≡ c.found)

unfoldable pub SpansNumbered : Type 0
SpansNumbered = (h : Holding) (first count limit : ℕ) (c : SpanCall h first count limit) → SpanNumbered h first count limit c

-- pair i of some pairs
unfoldable pub pair_at : List Pair → ℕ → Pair
pair_at ps i = get_or ps i (record { offset = 0; len = 0 })

-- these pairs were left, each with its offset before its length, and behind them what stood there
pub record PairsLeft (h : Holding) (first count limit : ℕ) (c : SpanCall h first count limit) (ps : List Pair) : Type 0 where
  pub found : c.found_after ≡ length ps
  pub places : length c.after ≡ length c.before
  pub offsets : (i : ℕ) → i < length ps → place c.after (2 * i) ≡ (pair_at ps i).offset
  pub lengths : (i : ℕ) → i < length ps → place c.after (2 * i + 1) ≡ (pair_at ps i).len
  pub behind : drop (2 * length ps) c.after ≡ drop (2 * length ps) c.before

-- question 27 of sixteen numbers: plain, scan present, address 4
pub record NumbersScan (numbers : List ℕ) : Type 0 where
  pub plain : place numbers 12 ≡ 0
  pub scan : place numbers 11 ≡ 0 → ⊥
  pub four : place numbers 5 ≡ 4

-- question 28: the keys are the number at place 2
abbrev pub KeysInside : Holding → ℕ → ℕ → Type 0
KeysInside h first count = first + count ≤ place h.numbers 2

-- question 29: two places for each key
abbrev pub PlacesEnough : ℕ → ℕ → Type 0
PlacesEnough count places = 2 * count ≤ places

-- 24, 27, 28 and 29 are answered by yes
pub record Passes (h : Holding) (first count places : ℕ) : Type 0 where
  pub gives : GivesRecord h
  pub scans : NumbersScan h.numbers
  pub keys : KeysInside h first count
  pub room : PlacesEnough count places

-- question 25: a read or a sum of a key record fails
abbrev pub ReadFails : Holding → ℕ → ℕ → ℕ → Type 0
ReadFails h first count limit = SomeUnread h.bytes (opened_of h.numbers) first count limit

-- the result by the questions in their order, and the pairs
pub record SpanAnswer (h : Holding) (first count limit : ℕ) (c : SpanCall h first count limit) : Type 0 where
  pub refused_24 : (c.result ≡ 24) ↔ (GivesRecord h → ⊥)
  pub refused_27 : (c.result ≡ 27) ↔ (GivesRecord h × (NumbersScan h.numbers → ⊥))
  pub refused_28 : (c.result ≡ 28) ↔ (GivesRecord h × NumbersScan h.numbers × (KeysInside h first count → ⊥))
  pub refused_29 : (c.result ≡ 29)
      ↔ (GivesRecord h × NumbersScan h.numbers × KeysInside h first count × (PlacesEnough count (length c.before) → ⊥))
  pub refused_25 : (c.result ≡ 25) ↔ (Passes h first count (length c.before) × ReadFails h first count limit)
  pub zero : (c.result ≡ 0) ↔ (Passes h first count (length c.before) × (ReadFails h first count limit → ⊥))
  -- then the pairs of the key records read are left, in their order
  pub gives : c.result ≡ 0
      → (ps : List Pair) × RecordsGive h.bytes (opened_of h.numbers) first limit 0 count ps × PairsLeft h first count limit c ps

-- every span, whatever bytes and numbers it is lent, is answered so
unfoldable pub SpanAsked : Type 0
SpanAsked = (h : Holding) (first count limit : ℕ) (c : SpanCall h first count limit) → SpanAnswer h first count limit c

-- ---- the calls of a linker

-- calls of `kiban_lookup` of some keys under a limit, one for each
pub data LookupsOf (h : Holding) (limit : ℕ) : List (List ℕ) → Type 0 where
  no_lookup : LookupsOf h limit []
  next_lookup : {key : List ℕ} {keys : List (List ℕ)} → LookupCall h key limit → LookupsOf h limit keys → LookupsOf h limit (key ∷ keys)

-- the pair of an answer: places 3 and 4 where place 1 says Put, none for a tombstone and for six zeros
unfoldable pub answer_pairs : List ℕ → List Pair
answer_pairs answer = when eqb (place answer 1) 1 then record { offset = place answer 3; len = place answer 4 } ∷ [] else []

-- the pairs of what such calls left, one behind the other
unfoldable pub answers_pairs : {h : Holding} {limit : ℕ} {keys : List (List ℕ)} → LookupsOf h limit keys → List Pair
answers_pairs no_lookup = []
answers_pairs (next_lookup c calls) = answer_pairs c.after ++ answers_pairs calls

-- what a span by a linker gives
pub record SpanGiven (h : Holding) (first count limit : ℕ) (c : SpanCall h first count limit) : Type 0 where
  -- the result is 0 exactly if 27 to 29 are answered by yes
  pub zero : (c.result ≡ 0) ↔ (NumbersScan h.numbers × (first + count ≤ length (store_keys (blocks_held h))) × (2 * count ≤ length c.before))
  -- then the pairs of these keys are left, in their order
  pub gives : c.result ≡ 0 → (ps : List Pair) × SpanGives (blocks_held h) limit (keys_spanned (blocks_held h) first count) ps × PairsLeft h first count limit c ps
  -- and they are those of the answers of any calls of `kiban_lookup` of these keys under this limit
  pub lookups : c.result ≡ 0 → (calls : LookupsOf h limit (keys_spanned (blocks_held h) first count)) → PairsLeft h first count limit c (answers_pairs calls)
  -- otherwise the first no is the result
  pub refused_27 : (c.result ≡ 27) ↔ (NumbersScan h.numbers → ⊥)
  pub refused_28 : (c.result ≡ 28) ↔ (NumbersScan h.numbers × (length (store_keys (blocks_held h)) < first + count))
  pub refused_29 : (c.result ≡ 29)
      ↔ (NumbersScan h.numbers × (first + count ≤ length (store_keys (blocks_held h))) × (length c.before < 2 * count))
  -- 24 and 25 do not occur
  pub never_24 : c.result ≡ 24 → ⊥
  pub never_25 : c.result ≡ 25 → ⊥

-- the keys of a linker's data and list are as many as the number at place 2, and in order
pub record KeysHeld (h : Holding) : Type 0 where
  pub count : length (store_keys (blocks_held h)) ≡ place h.numbers 2
  pub ordered : KeysInOrder (blocks_held h)

unfoldable pub LinkerKeys : Type 0
LinkerKeys = (k : Linker) → KeysHeld (holding k)

-- every span by a linker, whose section is a list of bytes, gives this
unfoldable pub SpanCalls : Type 0
SpanCalls =
    (k : Linker) → Bytes (holding k).bytes → (first count limit : ℕ) (c : SpanCall (holding k) first count limit) → SpanGiven (holding k) first count limit c
