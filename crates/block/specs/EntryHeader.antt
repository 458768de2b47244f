-- Question 13, first half: does an entry pass `header_at`?
-- An entry: kind at 0, shared length at 1, length of the rest of the key at 5, value length at 9, sequence at 13, the rest of the key at 21, the value.
use Rattle.std.specs.Prelude.{◌≡◌, ℕ, ◌+◌, ◌≤◌, List, Bool, true, leb, eqb, get_or, Result, Ok, Err}
use Rattle.num.specs.Choice.{when◌then◌else◌, ask◌otherwise◌then◌}
use Rattle.num.specs.Number.{le_at}
use Rattle.sstable.specs.Kind.{kind_of}
use Rattle.sstable.specs.declared.Kind.{Kind}
use Rattle.sstable.specs.declared.Kind.TheVariants.{Put, Tombstone}
use Rattle.refusal.specs.declared.Refusal.{Refusal}
use Rattle.refusal.specs.declared.Refusal.TheVariants as refusal
use Rattle.block.specs.declared.EntryHeader.{EntryHeader}

-- the numbers of the entry at a place
unfoldable pub entry_numbers : List ℕ → ℕ → Kind → EntryHeader
entry_numbers s pos k =
    record {
      kind = k;
      seq = le_at s (pos + 13) 8;
      shared = le_at s (pos + 1) 4;
      non_shared = le_at s (pos + 5) 4;
      value_len = le_at s (pos + 9) 4;
    }

-- a tombstone has no value
unfoldable pub value_allowed : Kind → ℕ → Bool
value_allowed Put n = true
value_allowed Tombstone n = eqb n 0

-- is the value allowed, and do key and value lie before the end of the entries?
unfoldable pub entry_header_for : ℕ → ℕ → EntryHeader → Result EntryHeader Refusal
entry_header_for end pos h =
    ask value_allowed h.kind h.value_len otherwise Err refusal.Entry then
    ask leb (pos + 21 + h.non_shared + h.value_len) end otherwise Err refusal.Entry then
    Ok h

-- is the kind known?
unfoldable pub entry_header_kind : List ℕ → ℕ → ℕ → Result Kind Refusal → Result EntryHeader Refusal
entry_header_kind s end pos (Ok k) = entry_header_for end pos (entry_numbers s pos k)
entry_header_kind s end pos (Err e) = Err e

-- does the header lie before the end of the entries?
unfoldable pub entry_header_of : List ℕ → ℕ → ℕ → Result EntryHeader Refusal
entry_header_of s end pos =
    ask leb (pos + 21) end otherwise Err refusal.Entry then
    entry_header_kind s end pos (kind_of (get_or s pos 0))

-- the same in plain terms: an entry before the end, and its numbers
pub record SoundEntry (s : List ℕ) (end pos : ℕ) (h : EntryHeader) : Type 0 where
  pub header_inside : pos + 21 ≤ end
  pub kind : kind_of (get_or s pos 0) ≡ Ok h.kind
  pub seq : le_at s (pos + 13) 8 ≡ h.seq
  pub shared : le_at s (pos + 1) 4 ≡ h.shared
  pub non_shared : le_at s (pos + 5) 4 ≡ h.non_shared
  pub value_len : le_at s (pos + 9) 4 ≡ h.value_len
  pub tombstone_empty : h.kind ≡ Tombstone → h.value_len ≡ 0
  pub inside : pos + 21 + h.non_shared + h.value_len ≤ end

-- for proofs alone: `unfolding entry_header_defs` opens the definitions of this file
unfoldable pub entry_header_defs : ℕ
unfolding entry_numbers value_allowed entry_header_for entry_header_kind entry_header_of when◌then◌else◌
entry_header_defs = 0
