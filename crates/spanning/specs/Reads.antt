-- What a span reads of a section, key record by key record, and what it gives by that, on every section and record, forged ones too
-- (document 01, "Spans": question 25, and the pairs). The words of the arena are those of agreement/specs/Keys.antt.
use Rattle.std.specs.Prelude.{◌≡◌, List, [], ◌∷◌, ◌++◌, ℕ, zero, suc, ◌+◌, ◌*◌, ◌%◌, ◌^◌, ◌<◌, ◌≤◌, length}
use Rattle.num.specs.Number.{le_at}
use Rattle.header.specs.declared.Opened.{Opened}
use Rattle.arena.specs.declared.KeyHeader.{KeyHeader}
use Rattle.agreement.specs.Keys.{key_header_size, version_size, key_header_in, key_record_len, top_bit}
use Rattle.spans.specs.Span.{Pair}

-- ---- one key record, by its address

-- its key header
unfoldable pub header_at : List ℕ → Opened → ℕ → KeyHeader
header_at s o address = key_header_in s o.encoding (o.arena + address)

-- the place of its version j in the section
unfoldable pub place_at : List ℕ → Opened → ℕ → ℕ → ℕ
place_at s o address j =
    o.arena + address + key_header_size o.encoding + (header_at s o address).suffix_len + j * version_size o.encoding

-- the sequence of version j
unfoldable pub seq_at : List ℕ → Opened → ℕ → ℕ → ℕ
seq_at s o address j = o.min_seq + le_at s (place_at s o address j) o.encoding.seq

-- its value length, of a tombstone with the top bit, and its value offset
unfoldable pub marked_at : List ℕ → Opened → ℕ → ℕ → ℕ
marked_at s o address j = le_at s (place_at s o address j + o.encoding.seq) o.encoding.value

unfoldable pub value_offset_at : List ℕ → Opened → ℕ → ℕ → ℕ
value_offset_at s o address j = le_at s (place_at s o address j + o.encoding.seq + o.encoding.value) o.encoding.address

-- where the value offset ends; the checksum behind it is not read
unfoldable pub read_end : List ℕ → Opened → ℕ → ℕ → ℕ
read_end s o address j = place_at s o address j + o.encoding.seq + o.encoding.value + o.encoding.address

-- version j is come to: those before it are above the limit
pub record Reached (s : List ℕ) (o : Opened) (limit address j : ℕ) : Type 0 where
  pub version : j < (header_at s o address).versions
  pub above : (i : ℕ) → i < j → limit < seq_at s o address i

-- a read of the key record that does not lie in the section, or a sum of 2^64 or more
pub data Unread (s : List ℕ) (o : Opened) (limit address : ℕ) : Type 0 where
  -- the key header, of which suffix length and number of versions, its last numbers, are read
  header : length s < o.arena + address + key_header_size o.encoding → Unread s o limit address
  -- the sequence of a version that is come to, and its sum
  sequence : (j : ℕ) → Reached s o limit address j → length s < place_at s o address j + o.encoding.seq → Unread s o limit address
  sum : (j : ℕ) → Reached s o limit address j → 2 ^ 64 ≤ seq_at s o address j → Unread s o limit address
  -- value length and value offset of the first version within the limit
  value_fields : (j : ℕ) → Reached s o limit address j → seq_at s o address j ≤ limit → length s < read_end s o address j → Unread s o limit address

-- the pairs of the key record: the value of its first version within the limit, none for a tombstone or where every version is above
pub data RecordGives (s : List ℕ) (o : Opened) (limit address : ℕ) : List Pair → Type 0 where
  put_read : (j : ℕ) → Reached s o limit address j → seq_at s o address j ≤ limit → marked_at s o address j < top_bit o
      → RecordGives s o limit address (record { offset = value_offset_at s o address j; len = marked_at s o address j } ∷ [])
  tombstone_read : (j : ℕ) → Reached s o limit address j → seq_at s o address j ≤ limit → top_bit o ≤ marked_at s o address j → RecordGives s o limit address []
  none_read : ((j : ℕ) → j < (header_at s o address).versions → limit < seq_at s o address j) → RecordGives s o limit address []

-- ---- the key records of a span

-- the address of key record i, counted from the span's first: that is the first key's scan address, and each other stands behind the record
-- before, modulo 2^32
unfoldable pub address_read : List ℕ → Opened → ℕ → ℕ → ℕ
address_read s o first zero = le_at s (o.scan + 24 + first * o.encoding.address) o.encoding.address
address_read s o first (suc i) =
    (address_read s o first i + key_record_len o.encoding (header_at s o (address_read s o first i))) % 2 ^ 32

-- one of them is not read
pub record SomeUnread (s : List ℕ) (o : Opened) (first count limit : ℕ) : Type 0 where
  pub index : ℕ
  pub below : index < count
  pub unread : Unread s o limit (address_read s o first index)

-- the pairs of so many of them from one on, those of one behind those of the one before
pub data RecordsGive (s : List ℕ) (o : Opened) (first limit : ℕ) : ℕ → ℕ → List Pair → Type 0 where
  no_record : {i : ℕ} → RecordsGive s o first limit i 0 []
  next_record : {i count : ℕ} {ps qs : List Pair} → RecordGives s o limit (address_read s o first i) ps → RecordsGive s o first limit (suc i) count qs
      → RecordsGive s o first limit i (suc count) (ps ++ qs)

-- they are one list: bytes, record, first key, count and limit leave no choice
unfoldable pub RecordsGiveOne : Type 0
RecordsGiveOne =
    (s : List ℕ) (o : Opened) (first limit i count : ℕ) (ps qs : List Pair) → RecordsGive s o first limit i count ps
    → RecordsGive s o first limit i count qs → ps ≡ qs
