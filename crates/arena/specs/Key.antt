-- A key's first record: questions 16 to 19, and the prefix count of question 23.
use Rattle.std.specs.Prelude.{ℕ, ◌+◌, ◌*◌, ◌-◌, ◌%◌, List, Bool, true, not, eqb, leb, ltb, take, Result, Ok, Err}
use Rattle.num.specs.Choice.{when◌then◌else◌, ask◌otherwise◌then◌, both, either}
use Rattle.num.specs.Number.{le_at}
use Rattle.num.specs.Order.{less_than, equal_bytes}
use Rattle.refusal.specs.declared.Refusal.{Refusal}
use Rattle.refusal.specs.declared.Refusal.TheVariants as refusal
use Rattle.sstable.specs.Limits.{max_key_bytes}
use Rattle.point.specs.Hash.{hash_value, bucket_of, slot_of, fingerprint_of}
use Rattle.encoding.specs.declared.Encoding.{Encoding}
use Rattle.encoding.specs.Encoding.{header_len, scan_header_len, group, key_header_len_of, version_len_of}
use Rattle.header.specs.declared.Opened.{Opened}
use Rattle.arena.specs.declared.Cursor.{Cursor}
use Rattle.arena.specs.declared.KeyHeader.{KeyHeader}

-- the numbers of the key header at a place
unfoldable pub key_header_at : List ℕ → Encoding → ℕ → KeyHeader
key_header_at s e pos =
    record {
      anchor = le_at s pos e.address;
      shared = le_at s (pos + e.address) e.key;
      suffix_len = le_at s (pos + e.address + e.key) e.key;
      versions = le_at s (pos + e.address + 2 * e.key) e.count;
    }

-- is the next key an anchor? Every 1,024th from key 0 on is.
unfoldable pub at_anchor : Cursor → Bool
at_anchor c = eqb (c.groups % group) 0

-- the address of the suffix of the next key record
unfoldable pub suffix_address : Opened → Cursor → ℕ
suffix_address o c = c.pos + key_header_len_of o.encoding - o.arena

-- the address of the latest anchor's suffix, the next key included
unfoldable pub anchor_of : Opened → Cursor → ℕ
anchor_of o c = when at_anchor c then suffix_address o c else c.anchor

-- and its length
unfoldable pub anchor_len_of : Cursor → KeyHeader → ℕ
anchor_len_of c h = when at_anchor c then h.suffix_len else c.anchor_len

-- question 16, before the key header is read: fewer than n keys so far, and the key header inside the arena, which ends at `end`?
unfoldable pub key_inside_of : Opened → ℕ → Cursor → Bool
key_inside_of o end c = both (ltb c.groups o.count) (leb (c.pos + key_header_len_of o.encoding) end)

-- question 16 of the key header: shared 0 at an anchor, stored anchor the address of the latest anchor's suffix, shared at most
-- the anchor's length, suffix inside, versions nonzero and inside, key at most 1,048,576 bytes?
unfoldable pub key_fits_of : Opened → ℕ → Cursor → KeyHeader → Bool
key_fits_of o end c h =
    both (either (not (at_anchor c)) (eqb h.shared 0))
    (both (eqb h.anchor (anchor_of o c))
    (both (leb h.shared (anchor_len_of c h))
    (both (leb (c.pos + key_header_len_of o.encoding + h.suffix_len) end)
    (both (ltb 0 h.versions)
    (both (leb (c.pos + key_header_len_of o.encoding + h.suffix_len + h.versions * version_len_of o.encoding) end)
    (leb (h.shared + h.suffix_len) max_key_bytes))))))

-- question 17: is the key greater than the last?
unfoldable pub key_rises : Cursor → List ℕ → List ℕ → Bool
key_rises c previous key = either (eqb c.groups 0) (less_than previous key)

-- question 18, with scan: does the key's scan address name it?
unfoldable pub scan_names : List ℕ → Opened → Cursor → Bool
scan_names s o c =
    either (eqb o.scan 0)
    (eqb (le_at s (o.scan + scan_header_len + c.groups * o.encoding.address) o.encoding.address) (c.pos - o.arena))

-- the place of the pilot of a hash
unfoldable pub pilot_place : Opened → ℕ → ℕ
pilot_place o h = header_len + 4 * bucket_of h o.buckets

-- the place of the slot of a hash
unfoldable pub slot_place : List ℕ → Opened → ℕ → ℕ
slot_place s o h = header_len + 4 * o.buckets + slot_of h (le_at s (pilot_place o h) 4) o.count * (o.encoding.address + 2)

-- question 19: do the address and the fingerprint in the key's slot name it?
unfoldable pub slot_names : List ℕ → Opened → Cursor → ℕ → Bool
slot_names s o c h =
    both (eqb (le_at s (slot_place s o h) o.encoding.address) (c.pos - o.arena))
    (eqb (le_at s (slot_place s o h + o.encoding.address) 2) (fingerprint_of h))

-- with scan, does the prefix of the stored length change at this key? The first key counts. (question 23)
unfoldable pub prefix_changes : List ℕ → Opened → Cursor → List ℕ → List ℕ → Bool
prefix_changes s o c previous key =
    both (not (eqb o.scan 0))
    (either (eqb c.groups 0) (not (equal_bytes (take (le_at s (o.scan + 8) 4) key) (take (le_at s (o.scan + 8) 4) previous))))

-- Where the walk of the arena stands is a record of numbers, `Cursor`: the place of the next version, or of the next key record; the
-- keys met so far; the versions of the current key still to come; the address of the latest anchor's suffix and its length; how many
-- bytes the current key shares with it, and the place and length of its own suffix; how often the scan prefix has changed; the
-- sequence of the current key's last version, unless the next one is its first.
-- Here it is behind a key header and its suffix.
unfoldable pub entered : Opened → Cursor → KeyHeader → Bool → Cursor
entered o c h changes =
    record {
      pos = c.pos + key_header_len_of o.encoding + h.suffix_len;
      groups = c.groups + 1;
      remaining = h.versions;
      anchor = anchor_of o c;
      anchor_len = anchor_len_of c h;
      shared = h.shared;
      suffix = c.pos + key_header_len_of o.encoding;
      suffix_len = h.suffix_len;
      prefixes = when changes then c.prefixes + 1 else c.prefixes;
      last_seq = 0;
      first = true;
    }

-- questions 16 to 19 of a key header at the cursor, for a record's key: the first "no" gives its number
unfoldable pub key_for : List ℕ → Opened → ℕ → Cursor → List ℕ → List ℕ → KeyHeader → Result Cursor Refusal
key_for s o end c previous key h =
    ask key_fits_of o end c h otherwise Err refusal.KeyRecord then  -- 16
    ask key_rises c previous key otherwise Err refusal.KeyOrder then  -- 17
    ask scan_names s o c otherwise Err refusal.ScanAddress then  -- 18
    ask slot_names s o c (hash_value key o.seed) otherwise Err refusal.Slot then  -- 19
    Ok (entered o c h (prefix_changes s o c previous key))

-- questions 16 to 19 of a record's key at the cursor
unfoldable pub key_of : List ℕ → Opened → ℕ → Cursor → List ℕ → List ℕ → Result Cursor Refusal
key_of s o end c previous key =
    ask key_inside_of o end c otherwise Err refusal.KeyRecord then  -- 16
    key_for s o end c previous key (key_header_at s o.encoding c.pos)

-- for proofs alone: `unfolding key_defs` opens the definitions of this file
unfoldable pub key_defs : ℕ
unfolding key_header_at at_anchor suffix_address anchor_of anchor_len_of key_inside_of key_fits_of key_rises scan_names pilot_place slot_place slot_names prefix_changes entered key_for key_of
key_defs = 0
