-- What a span gives of an accepted store, in plain terms (document 01, "Spans").
use Rattle.std.specs.Prelude.{◌≡◌, ◌⊎◌, true, false, ℕ, suc, ◌+◌, ◌*◌, ◌<◌, ◌≤◌, length, get_or, take, drop, Some, None, Result, Ok, Err}
use mathlib.Core.List.{List, [], ◌∷◌, ◌++◌, Memᴰ}
use Rattle.num.specs.Number.{Bytes}
use Rattle.num.specs.Order.{equal_bytes, less_than}
use Rattle.refusal.specs.declared.Refusal.{Refusal}
use Rattle.refusal.specs.declared.Refusal.TheVariants as refusal
use Rattle.sstable.specs.declared.Kind.TheVariants.{Put, Tombstone}
use Rattle.block.specs.Walk.{Entry}
use Rattle.admission.specs.Blocks.{store_entries}
use Rattle.locator.specs.Locator.{Located}
use Rattle.lookup.specs.Value.{value_number, value_part}
use Rattle.locating.specs.Store.{LinkerStore, Store, Version, version_in, Holds}
use Rattle.locating.specs.Looks.{lookup, NoneWithin, Greatest}
use Rattle.spans.specs.Span.{Pair, unless_tombstone, span_of}

-- ---- the keys of a store

-- the keys of some records behind one of a key; of records of one key, one behind the other, it is listed once
unfoldable pub keys_behind : List ℕ → List Entry → List (List ℕ)
keys_behind last [] = []
keys_behind last (e ∷ es) = elim (equal_bytes last e.key) [ true ↦ keys_behind last es | false ↦ e.key ∷ keys_behind e.key es ]

-- the keys of some records
unfoldable pub keys_listed : List Entry → List (List ℕ)
keys_listed [] = []
keys_listed (e ∷ es) = e.key ∷ keys_behind e.key es

-- the keys of a store, read off its blocks alone
unfoldable pub store_keys : LinkerStore → List (List ℕ)
store_keys t = keys_listed (store_entries t.backing t.blocks)

-- they rise, every version has one of them, and a key and a sequence name one record
pub record KeysInOrder (t : LinkerStore) : Type 0 where
  pub rising : (i : ℕ) → suc i < length (store_keys t) → less_than (get_or (store_keys t) i []) (get_or (store_keys t) (suc i) []) ≡ true
  pub held : (v : Version) → Holds t v → Memᴰ v.key (store_keys t)
  pub one : (a b : Entry) → Memᴰ a (store_entries t.backing t.blocks) → Memᴰ b (store_entries t.backing t.blocks)
      → a.key ≡ b.key → a.seq ≡ b.seq → a ≡ b

-- in an accepted store they are n as well
pub record KeysRise (t : LinkerStore) : Type 0 where
  pub count : length (store_keys t) ≡ t.opened.count
  pub ordered : KeysInOrder t

unfoldable pub StoreKeysRise : Type 0
StoreKeysRise = (t : LinkerStore) → Store t → KeysRise t

-- so many keys from one on
unfoldable pub keys_spanned : LinkerStore → ℕ → ℕ → List (List ℕ)
keys_spanned t first count = take count (drop first (store_keys t))

-- ---- what a span gives

-- the span of a store, for an output of so many places
unfoldable pub span : LinkerStore → ℕ → ℕ → ℕ → ℕ → Result (List Pair) Refusal
span t first count limit places = span_of t.bytes t.opened first count limit places

-- a pair is where a version's value lies in the data: the place and length that the blocks' record of this version has; 26 does not occur
pub record ValueLies (t : LinkerStore) (v : Version) (p : Pair) : Type 0 where
  pub entry : Entry
  pub listed : Memᴰ entry (store_entries t.backing t.blocks)
  pub version : version_in t.backing entry ≡ v
  pub offset : p.offset ≡ entry.place
  pub size : p.len ≡ entry.size
  -- so the value entry gives the value's bytes
  pub len : p.len ≡ length v.value
  pub inside : value_number t.backing p.offset p.len ≡ 0
  pub value : value_part t.backing p.offset p.len ≡ v.value

-- the pairs of a key under a limit: the value of its version of greatest sequence, none for a tombstone or where no version is within
pub data KeyGives (t : LinkerStore) (limit : ℕ) (key : List ℕ) : List Pair → Type 0 where
  value : (v : Version) (p : Pair) → Greatest t key limit v → v.kind ≡ Put → ValueLies t v p → KeyGives t limit key (p ∷ [])
  tombstone : (v : Version) → Greatest t key limit v → v.kind ≡ Tombstone → KeyGives t limit key []
  none : NoneWithin t key limit → KeyGives t limit key []

-- the pairs of some keys, those of one key behind those of the key before
pub data SpanGives (t : LinkerStore) (limit : ℕ) : List (List ℕ) → List Pair → Type 0 where
  no_key : SpanGives t limit [] []
  next_key : {key : List ℕ} {keys : List (List ℕ)} {ps qs : List Pair} → KeyGives t limit key ps → SpanGives t limit keys qs
      → SpanGives t limit (key ∷ keys) (ps ++ qs)

-- of keys in order they are one list: fewer pairs than keys with a value, or pairs of other keys, are not what a span gives
unfoldable pub SpanGivesOne : Type 0
SpanGivesOne =
    (t : LinkerStore) → KeysInOrder t → (limit : ℕ) (keys : List (List ℕ)) (ps qs : List Pair) → SpanGives t limit keys ps → SpanGives t limit keys qs
    → ps ≡ qs

-- question 27 of a store: plain, scan present, address 4
pub record Scans (t : LinkerStore) : Type 0 where
  pub plain : t.opened.packed ≡ false
  pub scan : t.opened.scan ≡ 0 → ⊥
  pub four : t.opened.encoding.address ≡ 4

-- what the span of `count` keys from key `first` on promises
pub record Spans (t : LinkerStore) (first count limit places : ℕ) : Type 0 where
  -- where 27 to 29 are answered by yes it gives the pairs of these keys, in their order
  pub gives : Scans t → first + count ≤ length (store_keys t) → 2 * count ≤ places
      → (ps : List Pair) × (span t first count limit places ≡ Ok ps) × SpanGives t limit (keys_spanned t first count) ps
  -- otherwise the first no is the answer
  pub no_scan : (Scans t → ⊥) → span t first count limit places ≡ Err refusal.NoSpans
  pub no_keys : Scans t → length (store_keys t) < first + count → span t first count limit places ≡ Err refusal.SpanKeys
  pub no_places : Scans t → first + count ≤ length (store_keys t) → places < 2 * count → span t first count limit places ≡ Err refusal.SpanRoom
  -- 24 and 25 do not occur
  pub never : (e : Refusal) → span t first count limit places ≡ Err e → (e ≡ refusal.NoSpans) ⊎ (e ≡ refusal.SpanKeys) ⊎ (e ≡ refusal.SpanRoom)

-- every span of an accepted store, whose section is a list of bytes, promises this
unfoldable pub SpansExactly : Type 0
SpansExactly = (t : LinkerStore) → Store t → Bytes t.bytes → (first count limit places : ℕ) → Spans t first count limit places

-- ---- spans and lookups

-- the pairs of what a lookup answers
unfoldable pub located_pairs : Located → List Pair
located_pairs (Ok (Some l)) = unless_tombstone l.kind (record { offset = l.offset; len = l.len })
located_pairs (Ok None) = []
located_pairs (Err n) = []

-- what the lookups of some keys find, one behind the other
unfoldable pub lookup_pairs : LinkerStore → ℕ → List (List ℕ) → List Pair
lookup_pairs t limit [] = []
lookup_pairs t limit (key ∷ keys) = located_pairs (lookup t key limit) ++ lookup_pairs t limit keys

-- a span lists what the lookups of its keys find, at the same offsets
unfoldable pub SpanIsLookups : Type 0
SpanIsLookups =
    (t : LinkerStore) → Store t → Bytes t.bytes → Scans t → (first count limit places : ℕ) → first + count ≤ length (store_keys t)
    → 2 * count ≤ places → span t first count limit places ≡ Ok (lookup_pairs t limit (keys_spanned t first count))

-- so the span of all keys lists what n lookups find
unfoldable pub SpanOfAll : Type 0
SpanOfAll =
    (t : LinkerStore) → Store t → Bytes t.bytes → Scans t → (limit places : ℕ) → 2 * t.opened.count ≤ places
    → span t 0 t.opened.count limit places ≡ Ok (lookup_pairs t limit (store_keys t))
