-- What a lookup touches of a section, read by read as the Rust's `locate` does, and what it gives by that (document 01, "Lookup":
-- questions 24 and 25).
use Rattle.std.specs.Prelude.{◌≡◌, ◌↔◌, Bool, true, false, ℕ, zero, suc, ◌+◌, ◌*◌, ◌%◌, ◌^◌, ◌<◌, ◌≤◌, eqb, leb, length, take, drop, Some, None, Ok, Err}
use mathlib.Core.List.{List, [], ◌∷◌, Memᴰ}
use Rattle.std.proofs.Math.Option.{Option, none, some}
use Rattle.num.specs.Choice.{when◌then◌else◌}
use Rattle.num.specs.Number.{le_at}
use Rattle.num.specs.Order.{equal_bytes}
use Rattle.refusal.specs.declared.Refusal.TheVariants as refusal
use Rattle.sstable.specs.declared.Kind.TheVariants.{Put, Tombstone}
use Rattle.point.specs.Hash.{hash_value, bucket_of, slot_of, position_of, fingerprint_of}
use Rattle.encoding.specs.Encoding.{header_len, key_header_len_of, version_len_of, tombstone_of}
use Rattle.encoding.specs.declared.Encoding.{Encoding}
use Rattle.header.specs.declared.Opened.{Opened}
use Rattle.opened.specs.Opened.{is_record_of}
use Rattle.locator.specs.declared.ValueLocator.{ValueLocator}
use Rattle.lookup.specs.Lookup.{locate_of}

-- a touch: a read of some bytes at a place, or a sequence sum
pub data Touch : Type 0 where
  reading : ℕ → ℕ → Touch
  summing : ℕ → Touch

-- question 25 of a touch: the read stays inside the section (one of no bytes at its end does), the sum is below 2^64
unfoldable pub Good : List ℕ → Touch → Type 0
Good s (reading place bytes) = place + bytes ≤ length s
Good s (summing seq) = seq < 2 ^ 64

-- what a lookup touches, in the Rust's order, and the version that it then answers, or none
pub record Touched : Type 0 where
  pub touches : List Touch
  pub answer : Option ValueLocator

-- nothing more is touched
unfoldable pub answering : Option ValueLocator → Touched
answering a = record { touches = []; answer = a }

-- a touch and what it gives
pub record Giving (A : Type 0) : Type 0 where
  pub touch : Touch
  pub gives : A

-- a number read, bytes read, a sum
unfoldable pub number_at : List ℕ → ℕ → ℕ → Giving ℕ
number_at s place bytes = record { touch = reading place bytes; gives = le_at s place bytes }

unfoldable pub bytes_at : List ℕ → ℕ → ℕ → Giving (List ℕ)
bytes_at s place bytes = record { touch = reading place bytes; gives = take bytes (drop place s) }

unfoldable pub sum_of : ℕ → Giving ℕ
sum_of seq = record { touch = summing seq; gives = seq }

-- Below, a line `x ← touch` is a touch, and x what it gives. What a read outside gives has no say, nor has what is listed behind it:
-- the answer is 25 then.
unfoldable pub ◌>>=◌ : {A : Type 0} → Giving A → (A → Touched) → Touched
◌>>=◌ t next = record { touches = t.touch ∷ (next t.gives).touches; answer = (next t.gives).answer }

-- A line that is a test goes on if it holds. Otherwise nothing more is touched, and the answer is none.
unfoldable pub ◌>>◌ : Bool → Touched → Touched
◌>>◌ test next = when test then next else answering none

-- a version with its sequence, stored value length (the top bit is the tombstone's), offset and checksum
unfoldable pub locator_of : Encoding → ℕ → ℕ → ℕ → ℕ → ValueLocator
locator_of e seq value offset checksum =
    record {
      kind = when leb (tombstone_of e) value then Tombstone else Put;
      seq = seq;
      offset = offset;
      len = value % tombstone_of e;
      checksum = checksum;
    }

module _ (s : List ℕ) (o : Opened) (key : List ℕ) (limit : ℕ) where
  open o use {encoding as e, arena, buckets}

  -- the rest of the version at a place, which is answered; without checksums the last read is of no bytes, and gives 0
  unfoldable pub version_touched : ℕ → ℕ → Touched
  version_touched at seq = do
    value ← number_at s (at + e.seq) e.value
    offset ← number_at s (at + e.seq + e.value) e.address
    checksum ← number_at s (at + e.seq + e.value + e.address) (when e.checksum then 4 else 0)
    answering (some (locator_of e seq value offset checksum))

  -- some versions from a place on: the first that is not above the limit is answered, and none where all are above
  unfoldable pub versions_touched : ℕ → ℕ → Touched
  versions_touched zero at = answering none
  versions_touched (suc count) at = do
    stored ← number_at s at e.seq
    seq ← sum_of (o.min_seq + stored)
    elim (leb seq limit) [ true ↦ version_touched at seq | false ↦ versions_touched count (at + version_len_of e) ]

  -- the key record at a place
  unfoldable pub key_touched : ℕ → Touched
  key_touched at = do
    anchor ← number_at s at e.address
    shared ← number_at s (at + e.address) e.key
    suffix ← number_at s (at + e.address + e.key) e.key
    versions ← number_at s (at + e.address + 2 * e.key) e.count
    eqb (length key) (shared + suffix)
    front ← bytes_at s (arena + anchor) shared
    equal_bytes (take shared key) front
    rest ← bytes_at s (at + key_header_len_of e) suffix
    equal_bytes (drop shared key) rest
    versions_touched versions (at + key_header_len_of e + suffix)

  -- the address in the slot at a place
  unfoldable pub address_touched : ℕ → Touched
  address_touched at = do
    address ← number_at s at e.address
    key_touched (arena + address)

  -- the plain slot at a place for a hash: the fingerprint behind the address is read first
  unfoldable pub slot_touched : ℕ → ℕ → Touched
  slot_touched h at = do
    fingerprint ← number_at s (at + e.address) 2
    eqb fingerprint (fingerprint_of h)
    address_touched at

  -- the plain form: pilots of 4 bytes, slots of an address and a fingerprint
  unfoldable pub plain_touched : ℕ → Touched
  plain_touched h = do
    pilot ← number_at s (header_len + 4 * bucket_of h buckets) 4
    slot_touched h (header_len + 4 * buckets + slot_of h pilot o.count * (e.address + 2))

  -- the packed form: pilots of 3 bytes, in which bit 23 stands for bit 31, slots of an address alone
  unfoldable pub packed_touched : ℕ → Touched
  packed_touched h = do
    pilot ← number_at s (header_len + 3 * bucket_of h buckets) 3
    address_touched (header_len + 3 * buckets + (when leb (2 ^ 23) pilot then pilot % 2 ^ 23 else position_of h pilot o.count) * e.address)

  -- the lookup of the key under the limit
  unfoldable pub lookup_touched : Touched
  lookup_touched = when o.packed then packed_touched (hash_value key o.seed) else plain_touched (hash_value key o.seed)

-- every touch is good
unfoldable pub AllGood : List ℕ → Touched → Type 0
AllGood s t = (x : Touch) → Memᴰ x t.touches → Good s x

-- some touch is not
unfoldable pub SomeBad : List ℕ → Touched → Type 0
SomeBad s t = (x : Touch) × Memᴰ x t.touches × (Good s x → ⊥)

-- a lookup gives 24 exactly if the bytes do not give the record
unfoldable pub Gives24 : Type 0
Gives24 = (s : List ℕ) (o : Opened) (key : List ℕ) (limit : ℕ) → (locate_of s o key limit ≡ Err refusal.RecordGiven) ↔ (is_record_of s o ≡ false)

-- it gives 25 exactly if they do and some touch is not good
unfoldable pub Gives25 : Type 0
Gives25 = (s : List ℕ) (o : Opened) (key : List ℕ) (limit : ℕ) → is_record_of s o ≡ true
    → (locate_of s o key limit ≡ Err refusal.Read) ↔ SomeBad s (lookup_touched s o key limit)

-- it gives none exactly if every touch is good and they end with none: because fingerprint, lengths, anchor's part or suffix differ, or
-- all versions are above the limit
unfoldable pub GivesNone : Type 0
GivesNone = (s : List ℕ) (o : Opened) (key : List ℕ) (limit : ℕ) → is_record_of s o ≡ true
    → (locate_of s o key limit ≡ Ok None) ↔ (AllGood s (lookup_touched s o key limit) × ((lookup_touched s o key limit).answer ≡ none))

-- it gives a version exactly if every touch is good and they end with that version
unfoldable pub GivesVersion : Type 0
GivesVersion = (s : List ℕ) (o : Opened) (key : List ℕ) (limit : ℕ) → is_record_of s o ≡ true → (l : ValueLocator)
    → (locate_of s o key limit ≡ Ok (Some l)) ↔ (AllGood s (lookup_touched s o key limit) × ((lookup_touched s o key limit).answer ≡ some l))
