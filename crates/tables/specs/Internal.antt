-- Not on the reading path: the parts of a section over the lists that its writers are lent, and what the writers ask of
-- them.
use Rattle.std.specs.Prelude.{◌≡◌, List, [], ◌∷◌, ◌++◌, ℕ, ◌+◌, ◌*◌, ◌^◌, ◌<◌, ◌≤◌, length, get_or}
use Rattle.num.specs.Choice.{choice_defs}
use Rattle.num.specs.Number.{le_bytes}
use Rattle.point.specs.Hash.{fingerprint_of}
use Rattle.encoding.specs.declared.Encoding.{Encoding}
use Rattle.encoding.specs.Encoding.{header_len, scan_magic, scan_header_len, stride, buckets_of, arena_start_of}
use Rattle.written.specs.Joined.{joined, Field, fields_bytes}
use Rattle.written.specs.Joined.Field.{field}
use Rattle.written.specs.Arena.{KeyGroup, group_address}
use Rattle.written.specs.Section.{group_hash, flags_for}

-- ---- the bytes

-- the two halves of the header's numbers
unfoldable pub count_fields : Encoding → ℕ → ℕ → List Field
count_fields e seed n = field 8 seed ∷ field 4 n ∷ field 4 (buckets_of n) ∷ field 8 (arena_start_of n e.address) ∷ []

unfoldable pub width_fields : Encoding → ℕ → ℕ → List Field
width_fields e least prefix =
    field 4 e.address
    ∷ field 4 e.key
    ∷ field 4 e.count
    ∷ field 4 e.seq
    ∷ field 4 e.value
    ∷ field 4 (flags_for e prefix)
    ∷ field 8 least
    ∷ []

-- numbers of one width
unfoldable pub numbers_bytes : ℕ → List ℕ → List ℕ
numbers_bytes width numbers = joined (λ i. le_bytes width (get_or numbers i 0)) (length numbers)

-- the slot of key i
unfoldable pub listed_slot : ℕ → List ℕ → List ℕ → ℕ → List Field
listed_slot address addresses hashes i = field address (get_or addresses i 0) ∷ field 2 (fingerprint_of (get_or hashes i 0)) ∷ []

-- the slots of the keys listed
unfoldable pub listed_slots : ℕ → List ℕ → List ℕ → List ℕ → List ℕ
listed_slots address slots addresses hashes = joined (λ m. fields_bytes (listed_slot address addresses hashes (get_or slots m 0))) (length slots)

-- the numbers behind the scan part's magic
unfoldable pub listed_scan_fields : ℕ → ℕ → List Field
listed_scan_fields prefix prefixes = field 4 prefix ∷ field 4 stride ∷ field 8 prefixes ∷ []

-- the scan part with its length
unfoldable pub listed_scan : ℕ → List ℕ → ℕ → ℕ → List ℕ
listed_scan address addresses prefix prefixes =
    scan_magic
    ++ (fields_bytes (listed_scan_fields prefix prefixes)
    ++ (numbers_bytes address addresses ++ le_bytes 8 (scan_header_len + length addresses * address)))

-- ---- lists that are those of key groups

pub record Addressed (e : Encoding) (gs : List KeyGroup) (addresses : List ℕ) : Type 0 where
  pub address : (i : ℕ) → i < length gs → get_or addresses i 0 ≡ group_address e gs i

pub record HashedUnder (seed : ℕ) (gs : List KeyGroup) (hashes : List ℕ) : Type 0 where
  pub hash : (i : ℕ) → i < length gs → get_or hashes i 0 ≡ group_hash seed gs i

-- a slot per key, each slot with a key
pub record SlotsFilled (gs : List KeyGroup) (slots : List ℕ) : Type 0 where
  pub count : length slots ≡ length gs
  pub key : (m : ℕ) → m < length slots → get_or slots m 0 < length gs

-- ---- what the writers ask

pub record HeaderRoom (count : ℕ) (output : List ℕ) : Type 0 where
  pub few : count ≤ 2 ^ 20
  pub room : header_len ≤ length output

-- every slot's key has an address and a hash
pub record SlotsRoom (address : ℕ) (slots addresses hashes output : List ℕ) : Type 0 where
  pub addressed : (m : ℕ) → m < length slots → get_or slots m 0 < length addresses
  pub hashed : (m : ℕ) → m < length slots → get_or slots m 0 < length hashes
  pub room : length slots * (address + 2) ≤ length output

-- for proofs alone: `unfolding tables_defs` opens the definitions of this file
unfoldable pub tables_defs : ℕ
unfolding count_fields width_fields numbers_bytes listed_slot listed_slots listed_scan_fields listed_scan
tables_defs = 0

-- for proofs alone: what the flags are made of
unfoldable pub flag_defs : ℕ
unfolding flags_for choice_defs
flag_defs = 0
