-- Opening: questions 1 to 6, 10 to 23 in their order (document 01, "Opening, question by question").
use Rattle.std.specs.Prelude.{ℕ, ◌+◌, ◌*◌, ◌/◌, ◌%◌, List, [], ◌∷◌, Bool, true, false, not, eqb, leb, ltb, length, take, drop, Result, Ok, Err}
use Rattle.refusal.specs.declared.Refusal.{Refusal}
use Rattle.refusal.specs.declared.Refusal.TheVariants as refusal
use Rattle.num.specs.Choice.{when◌then◌else◌, ask◌otherwise◌then◌, both, either, each_below}
use Rattle.num.specs.Number.{le_at}
use Rattle.sstable.specs.Trailer.{trailer_of}
use Rattle.block.specs.declared.BlockMeta.{BlockMeta}
use Rattle.block.specs.Verify.{verify_of}
use Rattle.block.specs.Walk.{records_of}
use Rattle.point.specs.Hash.{is_direct, direct_slot}
use Rattle.encoding.specs.Encoding.{header_len}
use Rattle.header.specs.declared.Opened.{Opened}
use Rattle.header.specs.Header.{header_of, arena_end_of}
use Rattle.arena.specs.declared.Cursor.{Cursor}
use Rattle.validate.specs.Walk.{Inputs, Progress, records_asked}

-- question 10 of one pilot: is a direct pilot's slot below n?
unfoldable pub pilot_inside_of : List ℕ → Opened → ℕ → Bool
pilot_inside_of s o k = either (not (is_direct (le_at s (header_len + 4 * k) 4))) (ltb (direct_slot (le_at s (header_len + 4 * k) 4)) o.count)

-- question 10
unfoldable pub pilots_inside : List ℕ → Opened → Bool
pilots_inside s o = each_below o.buckets (pilot_inside_of s o)

-- the cursor at the arena's start
unfoldable pub start_at : Opened → Cursor
start_at o =
    record {
      pos = o.arena;
      groups = 0;
      remaining = 0;
      anchor = 0;
      anchor_len = 0;
      shared = 0;
      suffix = 0;
      suffix_len = 0;
      prefixes = 0;
      last_seq = 0;
      first = true;
    }

-- no key yet, and the cursor at the arena's start
unfoldable pub start_of : Opened → Progress
start_of o = record { previous = []; cursor = start_at o }

-- the bytes of the block at an offset of the data
abbrev pub block_bytes : List ℕ → ℕ → ℕ → List ℕ
block_bytes «data» offset len = take len (drop offset «data»)

-- questions 12 to 21 of a block of these bytes
unfoldable pub block_for : Inputs → ℕ → Progress → List ℕ → Result BlockMeta Refusal → Result Progress Refusal
block_for t offset p raw (Err n) = Err n
block_for t offset p raw (Ok m) = records_asked t offset p (records_of raw)

unfoldable pub block_asked : Inputs → ℕ → ℕ → Progress → Result Progress Refusal
block_asked t offset len p = block_for t offset p (block_bytes t.backing offset len) (verify_of (block_bytes t.backing offset len))

-- question 11 of one pair: does it begin at the last one's end and finish within data of a length?
unfoldable pub pair_fits : ℕ → ℕ → ℕ → ℕ → Bool
pair_fits size at offset len = both (eqb offset at) (leb (offset + len) size)

-- where the pairs end in the data, and what is carried on behind their records
pub record PairsEnd : Type 0 where
  pub at : ℕ
  pub progress : Progress

-- questions 11 to 21 of the pairs, one after another, behind those that end at a place; the list is even (asked before)
unfoldable pub pairs_from : Inputs → List ℕ → ℕ → Progress → Result PairsEnd Refusal
pairs_from t [] at p = Ok (record { at = at; progress = p })
pairs_from t (offset ∷ []) at p = Err refusal.BlockList  -- 11
pairs_from t (offset ∷ len ∷ pairs) at p =
    elim (pair_fits (length t.backing) at offset len) [
      | false ↦ Err refusal.BlockList  -- 11
      | true ↦ elim (block_asked t offset len p) [ Ok q ↦ pairs_from t pairs (offset + len) q | Err n ↦ Err n ]
    ]

-- question 22: do data, arena, versions and keys all end together?
unfoldable pub ends_together : Inputs → ℕ → Cursor → Bool
ends_together t at c =
    both (eqb at (length t.backing))
    (both (eqb c.pos t.end)
    (both (eqb c.remaining 0)
    (eqb c.groups t.opened.count)))

-- question 23, with scan: is the number of times the prefix changes the stored one?
unfoldable pub prefixes_counted : Inputs → Cursor → Bool
prefixes_counted t c = either (eqb t.opened.scan 0) (eqb (le_at t.section (t.opened.scan + 16) 8) c.prefixes)

-- questions 22 and 23
unfoldable pub end_for : Inputs → Result PairsEnd Refusal → Result Opened Refusal
end_for t (Err n) = Err n
end_for t (Ok e) =
    ask ends_together t e.at e.progress.cursor otherwise Err refusal.Ends then  -- 22
    ask prefixes_counted t e.progress.cursor otherwise Err refusal.PrefixCount then  -- 23
    Ok t.opened

-- what the questions are about, for a key scratch of a length: a key may take half of it, rounded down (question 15)
unfoldable pub inputs_of : List ℕ → List ℕ → ℕ → Opened → Inputs
inputs_of s «data» scratch o =
    record { section = s; backing = «data»; opened = o; end = arena_end_of s o; half = scratch / 2 }

-- questions 10 to 23, for a key scratch of a length: the record, or the first "no"
unfoldable pub contents_of : List ℕ → List ℕ → List ℕ → ℕ → Opened → Result Opened Refusal
contents_of s «data» blocks scratch o =
    ask pilots_inside s o otherwise Err refusal.PilotSlot then  -- 10
    ask eqb (length blocks % 2) 0 otherwise Err refusal.BlockList then  -- 11
    end_for (inputs_of s «data» scratch o) (pairs_from (inputs_of s «data» scratch o) blocks 0 (start_of o))

unfoldable pub contents_for : List ℕ → List ℕ → List ℕ → ℕ → Result Opened Refusal → Result Opened Refusal
contents_for s «data» blocks scratch (Err n) = Err n
contents_for s «data» blocks scratch (Ok o) = contents_of s «data» blocks scratch o

-- the trailer asks questions 1 and 2
unfoldable pub trailed_header : List ℕ → Result (Unit {0}) Refusal → Result Opened Refusal
trailed_header s (Err n) = Err n
trailed_header s (Ok u) = header_of s

-- questions 1 to 6: the trailer, then the header
unfoldable pub checked_header_of : List ℕ → Result Opened Refusal
checked_header_of s = trailed_header s (trailer_of s)

-- the plain opening of a section beside backing data and a block list, with a key scratch of a length
unfoldable pub open_of : List ℕ → List ℕ → List ℕ → ℕ → Result Opened Refusal
open_of s «data» blocks scratch = contents_for s «data» blocks scratch (checked_header_of s)

-- for proofs alone: `unfolding open_defs` opens the definitions of this file
unfoldable pub open_defs : ℕ
unfolding pilot_inside_of pilots_inside start_at start_of block_for block_asked pair_fits pairs_from ends_together prefixes_counted end_for inputs_of contents_of contents_for trailed_header checked_header_of open_of
open_defs = 0
