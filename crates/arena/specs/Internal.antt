-- Not on the reading path: what the contracts of private functions count on. Every place that the walk of the arena reads lies in the section.
use Rattle.std.specs.Prelude.{◌≡◌, ℕ, ◌+◌, ◌*◌, ◌<◌, ◌≤◌, ◌^◌, List, true, length}
use Rattle.num.specs.Choice.{when◌then◌else◌, both, either}
use Rattle.num.specs.Number.{le_at}
use Rattle.point.specs.Hash.{is_direct, direct_slot}
use Rattle.encoding.specs.Encoding.{Widths, header_len, scan_header_len, buckets_of, arena_start_of, version_len_of}
use Rattle.header.specs.declared.Opened.{Opened}
use Rattle.arena.specs.declared.Cursor.{Cursor}
use Rattle.arena.specs.declared.KeyHeader.{KeyHeader}
use Rattle.arena.specs.Key.{key_inside_of}

-- a record whose header passed questions 3 to 6, and whose pilots passed question 10
pub record Readable (s : List ℕ) (o : Opened) : Type 0 where
  pub widths : Widths o.encoding
  pub some_key : 1 ≤ o.count
  pub most_keys : o.count < 2 ^ 31
  pub buckets : o.buckets ≡ buckets_of o.count
  pub arena : o.arena ≡ arena_start_of o.count o.encoding.address
  pub arena_inside : o.arena < length s
  pub scan_inside : (o.scan ≡ 0 → ⊥) → o.scan + scan_header_len + o.count * o.encoding.address ≤ length s
  pub pilots : (k : ℕ) → k < o.buckets → is_direct (le_at s (header_len + 4 * k) 4) ≡ true → direct_slot (le_at s (header_len + 4 * k) 4) < o.count

-- a cursor whose key and remaining versions lie in the arena, which ends at `end`
pub record Inside (s : List ℕ) (o : Opened) (end : ℕ) (c : Cursor) : Type 0 where
  pub end_inside : end ≤ length s
  pub started : o.arena ≤ c.pos
  pub versions : c.pos + c.remaining * version_len_of o.encoding ≤ end
  pub keys : c.groups ≤ o.count
  pub anchor : o.arena + c.anchor + c.anchor_len ≤ end
  pub shared : c.shared ≤ c.anchor_len
  pub suffix : c.suffix + c.suffix_len ≤ end
  pub prefixes : c.prefixes ≤ c.groups

-- a cursor with a version to come, whose key and next version lie in the section
pub record Standing (s : List ℕ) (o : Opened) (c : Cursor) : Type 0 where
  pub some_version : 1 ≤ c.remaining
  pub version : c.pos + version_len_of o.encoding ≤ length s
  pub shared : o.arena + c.anchor + c.shared ≤ length s
  pub suffix : c.suffix + c.suffix_len ≤ length s

-- a key header whose lengths and number of versions have four bytes at most
pub record Narrow (h : KeyHeader) : Type 0 where
  pub shared : h.shared < 2 ^ 32
  pub suffix : h.suffix_len < 2 ^ 32
  pub versions : h.versions < 2 ^ 32

-- for proofs alone: what they open together
unfoldable pub inside_defs : ℕ
unfolding key_inside_of when◌then◌else◌ both either
inside_defs = 0
