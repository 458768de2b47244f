-- The worked store is accepted, plain and packed, so no promise about accepted stores is empty.
-- Assumes nothing.
use mathlib.Core.Path.{◌≡◌, refl}
use mathlib.Core.Bool.{true, false}
use mathlib.Core.List.{List, [], ◌∷◌, ◌++◌}
use Prim.Native.Nat.{ℕ}
use lib.ListN.{take}
use Rattle.std.specs.Prelude.{Ok, Err}
use Rattle.refusal.specs.declared.Refusal.TheVariants as refusal
use Rattle.num.specs.Choice.{choice_defs}
use Rattle.num.specs.Number.{le_at, le_bytes}
use Rattle.num.specs.Order.{less_than, equal_bytes}
use Rattle.crc32.specs.V42.{crc_defs}
use Rattle.sstable.specs.Kind.{kind_of}
use Rattle.sstable.specs.Limits.{limit_defs}
use Rattle.sstable.specs.Trailer.{trailer_defs}
use Rattle.block.specs.Verify.{verify_defs}
use Rattle.block.specs.EntryHeader.{entry_header_defs}
use Rattle.block.specs.Record.{record_at_defs}
use Rattle.block.specs.Walk.{block_walk_defs}
use Rattle.point.specs.Hash.{hash_defs}
use Rattle.encoding.specs.Encoding.{encoding_defs}
use Rattle.header.specs.Header.{header_defs, packed_record}
use Rattle.arena.specs.Key.{key_defs}
use Rattle.versions.specs.Version.{version_defs}
use Rattle.validate.specs.Walk.{walk_defs}
use Rattle.opening.specs.Open.{open_defs, open_of}
use Rattle.packing.specs.Packing.{packing_defs, open_packed_of, packed_as, pilot_packs}
use Rattle.packed.specs.Packed.{packed_defs, pack_pilot}
use Rattle.worked.specs.Worked.{worked_defs, worked_data, worked_list, worked_section, worked_scan_section, worked_packed, worked_scan_packed, low_section, opened_with, worked_opened, worked_scan_opened}

-- with a key scratch of 4 bytes
pub opened : (open_of worked_section worked_data worked_list 4 ≡ Ok worked_opened) × (open_of worked_scan_section worked_data worked_list 4 ≡ Ok worked_scan_opened)
unfolding worked_defs open_defs walk_defs version_defs key_defs header_defs encoding_defs hash_defs limit_defs crc_defs less_than equal_bytes le_at choice_defs trailer_defs verify_defs record_at_defs entry_header_defs block_walk_defs kind_of
opened = (refl, refl)

-- the least sequence is a base, and no version need have it
pub opened_low : open_of low_section worked_data worked_list 4 ≡ Ok (opened_with 2 0)
unfolding worked_defs open_defs walk_defs version_defs key_defs header_defs encoding_defs hash_defs limit_defs crc_defs less_than equal_bytes le_at choice_defs trailer_defs verify_defs record_at_defs entry_header_defs block_walk_defs kind_of
opened_low = refl

-- a key scratch of 3 bytes is 15; an empty block list is 22, and an odd one 11
pub refusals : (open_of worked_section worked_data worked_list 3 ≡ Err refusal.KeyRoom)
    × (open_of worked_section worked_data [] 4 ≡ Err refusal.Ends)
    × (open_of worked_section worked_data (0 ∷ []) 4 ≡ Err refusal.BlockList)
unfolding worked_defs open_defs walk_defs version_defs key_defs header_defs encoding_defs hash_defs limit_defs crc_defs less_than equal_bytes le_at choice_defs trailer_defs verify_defs record_at_defs entry_header_defs block_walk_defs kind_of
refusals = (refl, refl, refl)

-- packed from either section: 130 bytes
pub packed : (open_packed_of worked_section worked_data worked_list 4 130 ≡ packed_as (packed_record worked_opened) worked_packed)
    × (open_packed_of worked_scan_section worked_data worked_list 4 130 ≡ packed_as (packed_record worked_scan_opened) worked_scan_packed)
    × (open_packed_of worked_section worked_data worked_list 4 129 ≡ Err refusal.PackedRoom)
unfolding worked_defs open_defs walk_defs version_defs key_defs header_defs encoding_defs hash_defs limit_defs crc_defs less_than equal_bytes le_at choice_defs trailer_defs verify_defs record_at_defs entry_header_defs block_walk_defs kind_of packed_defs packing_defs le_bytes
packed = (refl, refl, refl)

-- a section's header and a first pilot
unfoldable pub pilot_bytes : ℕ → List ℕ
pilot_bytes p = take 64 worked_section ++ le_bytes 4 p

-- pilot 80000005 (hexadecimal) packs to 05 00 80; a pilot of 00800000 gives 8, and one of 80800000 too
pub pilots : (le_bytes 3 (pack_pilot 0x80000005) ≡ 0x05 ∷ 0x00 ∷ 0x80 ∷ [])
    × (pilot_packs (pilot_bytes 0x00800000) 0 ≡ false)
    × (pilot_packs (pilot_bytes 0x80800000) 0 ≡ false)
    × (pilot_packs (pilot_bytes 0x807fffff) 0 ≡ true)
unfolding worked_defs packed_defs packing_defs hash_defs choice_defs le_at le_bytes pilot_bytes
pilots = (refl, refl, refl, refl)
