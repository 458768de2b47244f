-- Not on the reading path: what `keys_whole` promises, and what the walk over whole key records asks for.
use Rattle.std.specs.Prelude.{◌≡◌, List, ℕ, suc, ◌+◌, ◌*◌, ◌^◌, ◌<◌, ◌≤◌, length}
use Rattle.encoding.specs.Encoding.{version_len_of}
use Rattle.header.specs.declared.Opened.{Opened}
use Rattle.arena.specs.declared.KeyHeader.{KeyHeader}
use Rattle.arena.specs.Key.{key_header_at}
use Rattle.versions.specs.Version.{stored_seq}
use Rattle.spans.specs.Span.{scan_address, versions_start}

-- the address behind a key record
unfoldable pub record_end : Opened → ℕ → KeyHeader → ℕ
record_end o address h = address + versions_start o h + h.versions * version_len_of o.encoding

-- the address behind the record of a key, by its place among the keys, at its scan address
unfoldable pub key_end : List ℕ → Opened → ℕ → ℕ
key_end s o i = record_end o (scan_address s o i) (key_header_at s o.encoding (o.arena + scan_address s o i))

-- some keys from one on have their records whole in the section, with a word behind each, and the scan address of each but the first names what
-- stands behind the one before; no sequence sum is beyond 64 bits
pub record WholeKeys (s : List ℕ) (o : Opened) (first count : ℕ) : Type 0 where
  pub sums : (pos : ℕ) → stored_seq s o pos < 2 ^ 64
  pub inside : (i : ℕ) → i < count → o.arena + key_end s o (first + i) + 8 ≤ length s
  pub behind : (i : ℕ) → suc i < count → key_end s o (first + i) ≡ scan_address s o (first + suc i)
