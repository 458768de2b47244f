-- The packed opening: questions 7 to 9, asked between 6 and 10 (document 01, "Opening").
use Rattle.std.specs.Prelude.{ℕ, ◌^◌, List, Bool, leb, ltb, length, Result, Ok, Err}
use Rattle.std.proofs.lemmas.List.Edits.{sets}
use Rattle.refusal.specs.declared.Refusal.{Refusal}
use Rattle.refusal.specs.declared.Refusal.TheVariants as refusal
use Rattle.num.specs.Choice.{when◌then◌else◌, ask◌otherwise◌then◌, both, either, each_below}
use Rattle.point.specs.Hash.{direct_slot}
use Rattle.header.specs.declared.Opened.{Opened}
use Rattle.header.specs.Header.{fits_packed, packed_record}
use Rattle.opening.specs.Open.{contents_of, checked_header_of}
use Rattle.packed.specs.Packed.{pilot_at, packed_bytes}

-- question 8 of one pilot: without bit 31, is it below 2^23?
unfoldable pub pilot_packs : List ℕ → ℕ → Bool
pilot_packs s k = ltb (direct_slot (pilot_at s k)) (2 ^ 23)

-- question 8
unfoldable pub pilots_pack : List ℕ → Opened → Bool
pilots_pack s o = each_below o.buckets (pilot_packs s)

-- what a packed opening gives: the packed record and the packed bytes
pub record PackedForm : Type 0 where
  pub opened : Opened
  pub bytes : List ℕ

abbrev pub packed_as : Opened → List ℕ → Result PackedForm Refusal
packed_as o bytes = Ok (record { opened = o; bytes = bytes })

unfoldable pub packed_for : List ℕ → Opened → Result Opened Refusal → Result PackedForm Refusal
packed_for s o (Err n) = Err n
packed_for s o (Ok same) = packed_as (packed_record o) (packed_bytes s o)

-- questions 7 to 9, then 10 to 23, of a section whose header gives this record, with a key scratch and an output of these lengths
unfoldable pub pack_of : List ℕ → List ℕ → List ℕ → ℕ → ℕ → Opened → Result PackedForm Refusal
pack_of s «data» blocks scratch room o =
    ask fits_packed o otherwise Err refusal.NotPackable then  -- 7
    ask pilots_pack s o otherwise Err refusal.PilotWide then  -- 8
    ask leb (length (packed_bytes s o)) room otherwise Err refusal.PackedRoom then  -- 9
    packed_for s o (contents_of s «data» blocks scratch o)

unfoldable pub pack_for : List ℕ → List ℕ → List ℕ → ℕ → ℕ → Result Opened Refusal → Result PackedForm Refusal
pack_for s «data» blocks scratch room (Err n) = Err n
pack_for s «data» blocks scratch room (Ok o) = pack_of s «data» blocks scratch room o

-- the packed opening of a section beside backing data and a block list, with a key scratch and an output of these lengths
unfoldable pub open_packed_of : List ℕ → List ℕ → List ℕ → ℕ → ℕ → Result PackedForm Refusal
open_packed_of s «data» blocks scratch room = pack_for s «data» blocks scratch room (checked_header_of s)

-- the answer: the record and how many bytes were written, or the refusal
unfoldable pub packed_read : Result PackedForm Refusal → Result (Opened × ℕ) Refusal
packed_read (Ok p) = Ok (p.opened, length p.bytes)
packed_read (Err n) = Err n

-- the output behind a packed opening: nothing is written on a refusal, and places past the packed bytes keep what they held
unfoldable pub packed_written : Result PackedForm Refusal → List ℕ → List ℕ
packed_written (Ok p) before = sets before 0 p.bytes
packed_written (Err n) before = before

-- for proofs alone: `unfolding packing_defs` opens the definitions of this file
unfoldable pub packing_defs : ℕ
unfolding pilot_packs pilots_pack packed_for pack_of pack_for open_packed_of packed_read packed_written
packing_defs = 0

-- `unfolding pack_defs` those behind the header, with choices
unfoldable pub pack_defs : ℕ
unfolding pack_of pilots_pack packed_for packed_read packed_written when◌then◌else◌ both either
pack_defs = 0

-- and `unfolding open_defs` the opening by its header
unfoldable pub open_defs : ℕ
unfolding open_packed_of pack_for packed_read packed_written
open_defs = 0
