-- Not on the reading path: what is left to print at each step, and what the steps count on.
use Rattle.std.specs.Prelude.{◌≡◌, ℕ, ◌+◌, ◌*◌, ◌-◌, ◌<◌, ◌≤◌, List, [], ◌∷◌, ◌++◌, map, length, take, drop, Option, Some, None}
use Rattle.refusal.specs.Refusal.{refusal_number}
use Rattle.block.specs.declared.Record.{Record}
use Rattle.block.specs.Verify.{entries_end_in}
use Rattle.block.specs.Walk.{Entry, walk_at}
use Rattle.opening.specs.Open.{block_bytes}
use Rattle.admission.specs.Blocks.{in_data, store_entries}
use Rattle.lines.specs.Lines.{names_line, live_of, mean_of, totals_line, refused_line, unreadable_line}
use Rattle.listing.specs.declared.walk.Place.{Place}
use Rattle.listing.specs.declared.text.Left.{Left}
use Rattle.listing.specs.declared.text.Left.TheVariants.{Unreadable, Refused, Names, Records}
use Rattle.listing.specs.Listing.{record_lines, listed_of}

-- the records of the pairs, those of the first from a place of its block on, behind a key
unfoldable pub entries_from : List ℕ → ℕ → List ℕ → List ℕ → List Entry
entries_from «data» pos key [] = []
entries_from «data» pos key (offset ∷ []) = []
entries_from «data» pos key (offset ∷ len ∷ pairs) =
    map (in_data offset) (walk_at (block_bytes «data» offset len) (entries_end_in (block_bytes «data» offset len)) pos key).entries ++ store_entries «data» pairs

-- the records from a place on, the key before at the front of the key buffer
unfoldable pub entries_left : List ℕ → List ℕ → Place → List ℕ → List Entry
entries_left «data» blocks p keys = entries_from «data» p.pos (take p.key_len keys) (drop p.pair blocks)

-- what is left to print of a store
unfoldable pub text_left : ℕ → List ℕ → List ℕ → Option Left → List ℕ → List ℕ
text_left sectionLen «data» blocks (Some Unreadable) keys = unreadable_line
text_left sectionLen «data» blocks (Some (Refused e)) keys = refused_line (refusal_number e)
text_left sectionLen «data» blocks (Some (Names n)) keys = names_line ++ listed_of sectionLen n (store_entries «data» blocks)
text_left sectionLen «data» blocks (Some (Records n p)) keys =
    record_lines (entries_left «data» blocks p keys) ++ totals_line n (p.live + live_of (entries_left «data» blocks p keys)) (mean_of sectionLen n)
text_left sectionLen «data» blocks None keys = []

-- a bound on the steps to the end
unfoldable pub place_steps : List ℕ → List ℕ → Place → List ℕ → ℕ
place_steps «data» blocks p keys = length (entries_left «data» blocks p keys) + (length blocks - p.pair)

unfoldable pub steps_left : List ℕ → List ℕ → Option Left → List ℕ → ℕ
steps_left «data» blocks (Some Unreadable) keys = 1
steps_left «data» blocks (Some (Refused e)) keys = 1
steps_left «data» blocks (Some (Names n)) keys = length (store_entries «data» blocks) + length blocks + 2
steps_left «data» blocks (Some (Records n p)) keys = place_steps «data» blocks p keys + 1
steps_left «data» blocks None keys = 0

-- no file has more than 16,384 bytes
abbrev pub IsSmall : List ℕ → List ℕ → Type 0
IsSmall «data» blocks = (length «data» ≤ 16384) × (length blocks ≤ 2048)

-- a place that the listing came to
pub record Reached («data» blocks : List ℕ) (p : Place) : Type 0 where
  pub pair : p.pair ≤ length blocks
  pub key : p.key_len ≤ p.pos
  pub pos : p.pos ≤ length «data»
  pub live : p.live ≤ 16384 * p.pair + p.pos

-- what the line of a record counts on: its block lies in the data, and the record in its block
pub record Listed (raw : List ℕ) (offset : ℕ) (p : Place) (r : Record) : Type 0 where
  pub inside : offset + length raw ≤ 16384
  pub shared : r.shared ≤ p.key_len
  pub longer : r.shared ≤ r.key_len
  pub place : p.pos + 21 + (r.key_len - r.shared) ≡ r.place
  pub next : r.place + r.size ≡ r.next
  pub ends : r.next ≤ length raw
  pub before : p.key_len ≤ p.pos
  pub live : p.live ≤ 16384 * 2048

-- a section has a key, and a place was reached
abbrev pub Sound : List ℕ → List ℕ → Option Left → Type 0
Sound «data» blocks (Some Unreadable) = Unit {0}
Sound «data» blocks (Some (Refused e)) = Unit {0}
Sound «data» blocks (Some (Names n)) = 0 < n
Sound «data» blocks (Some (Records n p)) = (0 < n) × Reached «data» blocks p
Sound «data» blocks None = Unit {0}

-- a step of the listing from one place to the next, with the line that it wrote, or none
pub record Stepping («data» blocks : List ℕ) (p : Place) (keys : List ℕ) (q : Place) (keysAfter line : List ℕ) : Type 0 where
  pub lines : record_lines (entries_left «data» blocks p keys) ≡ line ++ record_lines (entries_left «data» blocks q keysAfter)
  pub live : p.live + live_of (entries_left «data» blocks p keys) ≡ q.live + live_of (entries_left «data» blocks q keysAfter)
  pub fewer : place_steps «data» blocks q keysAfter < place_steps «data» blocks p keys
  pub reached : Reached «data» blocks q

-- a line of the output, and what is left behind it
pub record Continues (sectionLen : ℕ) («data» blocks : List ℕ) (left : Left) (keys : List ℕ) (next : Option Left) (keysAfter line : List ℕ) : Type 0 where
  pub text : text_left sectionLen «data» blocks (Some left) keys ≡ line ++ text_left sectionLen «data» blocks next keysAfter
  pub fewer : steps_left «data» blocks next keysAfter + 1 ≤ steps_left «data» blocks (Some left) keys
  pub sound : Sound «data» blocks next
