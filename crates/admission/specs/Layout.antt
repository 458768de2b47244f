-- Pilots and the packed bytes in plain terms (document 01, "From key to slot"). What the ordered definitions say is proved to be the same.
use Rattle.std.specs.Prelude.{◌≡◌, List, ℕ, ◌+◌, ◌*◌, ◌-◌, ◌%◌, ◌^◌, ◌<◌, ◌≤◌, length, take, drop}
use Rattle.num.specs.Number.{le_at}
use Rattle.header.specs.declared.Opened.{Opened}
use Rattle.agreement.specs.Keys.{key_records_end}

-- pilot k of a section: pilots of 4 bytes stand behind the 64 of the header
unfoldable pub pilot_number : List ℕ → ℕ → ℕ
pilot_number s k = le_at s (64 + 4 * k) 4

-- where the packed bytes have the arena: behind the header, pilots of 3 bytes and the addresses
unfoldable pub packed_arena : Opened → ℕ
packed_arena o = 64 + 3 * o.buckets + o.count * o.encoding.address

-- how many bytes the packed form has: those before the arena, the arena and the last five
unfoldable pub packed_length : List ℕ → Opened → ℕ
packed_length s o = packed_arena o + (key_records_end s o - o.arena) + 5

-- these are the packed bytes of a section with this record
pub record PackedLayout (s : List ℕ) (o : Opened) (bytes : List ℕ) : Type 0 where
  pub size : length bytes ≡ packed_length s o
  pub header : take 64 bytes ≡ take 64 s
  -- a pilot below 2^31 is kept, bit 31 of a direct one is moved to bit 23
  pub pilot : (k : ℕ) → k < o.buckets → pilot_number s k < 2 ^ 31 → le_at bytes (64 + 3 * k) 3 ≡ pilot_number s k
  pub direct : (k : ℕ) → k < o.buckets → 2 ^ 31 ≤ pilot_number s k → le_at bytes (64 + 3 * k) 3 ≡ pilot_number s k % 2 ^ 31 + 2 ^ 23
  -- the address of slot i, without its fingerprint
  pub address : (i : ℕ) → i < o.count
      → le_at bytes (64 + 3 * o.buckets + i * o.encoding.address) o.encoding.address
      ≡ le_at s (64 + 4 * o.buckets + i * (o.encoding.address + 2)) o.encoding.address
  pub arena : take (key_records_end s o - o.arena) (drop (packed_arena o) bytes) ≡ take (key_records_end s o - o.arena) (drop o.arena s)
  -- the last five bytes as they were, not sealed again
  pub last : drop (length bytes - 5) bytes ≡ drop (length s - 5) s
