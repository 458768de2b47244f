-- The worked store of document 01, from its three adds to its sections, computed.
-- Assumes nothing.
use mathlib.Core.Path.{◌≡◌, refl}
use mathlib.Core.List.{List}
use Prim.Native.Nat.{ℕ}
use Rattle.std.specs.Prelude.{Result, Ok, Err}
use Rattle.refusal.specs.declared.Refusal.{Refusal}
use Rattle.refusal.specs.declared.Refusal.TheVariants as refusal
use Rattle.num.specs.Choice.{choice_defs}
use Rattle.num.specs.Number.{le_at, le_bytes}
use Rattle.num.specs.Order.{common_prefix_len, equal_bytes}
use Rattle.crc32.specs.V42.{crc_defs}
use Rattle.sstable.specs.Kind.{kind_number}
use Rattle.sstable.specs.Limits.{limit_defs}
use Rattle.point.specs.Hash.{hash_defs}
use Rattle.encoding.specs.Encoding.{encoding_defs}
use Rattle.classes.specs.Classes.{class_defs}
use Rattle.construction.specs.Construct.{construct_defs}
use Rattle.area.specs.Area.{area_defs}
use Rattle.builder.specs.Offer.{offer_defs}
use Rattle.builder.specs.Record.{builder_defs}
use Rattle.builder.specs.Add.{BuilderState, add_defs}
use Rattle.builder.proofs.Examples.{worked_offers, add_all, empty_in}
use Rattle.readback.specs.ReadBack.{read_back_defs}
use Rattle.written.specs.Joined.{joined, fields_bytes}
use Rattle.written.specs.Arena.{arena_written_defs}
use Rattle.written.specs.Section.{section_defs}
use Rattle.worked.specs.Worked.{worked_section, worked_scan_section, worked_defs}
use Rattle.writer.specs.Write.{write_of, write_defs}

-- the section of the worked adds with a scan prefix, for scratches and an output of these lengths
written_for : Result BuilderState Refusal → ℕ → ℕ → ℕ → ℕ → Result (List ℕ) Refusal
written_for (Err e) prefix room64 room32 room = Err e
written_for (Ok b) prefix room64 room32 room = write_of b.area b.builder prefix room64 room32 room

worked : (written_for (add_all (empty_in 95) worked_offers) 0 2 20 135 ≡ Ok worked_section)
    × (written_for (add_all (empty_in 95) worked_offers) 1 2 20 175 ≡ Ok worked_scan_section)
unfolding written_for add_all empty_in worked_offers worked_defs write_defs section_defs arena_written_defs joined fields_bytes read_back_defs add_defs builder_defs offer_defs area_defs construct_defs class_defs encoding_defs hash_defs limit_defs crc_defs common_prefix_len equal_bytes le_at le_bytes choice_defs
worked = (refl, refl)

-- prefix 25 is 35; a scratch or an output one short is 38 or 39
refusals : (written_for (add_all (empty_in 95) worked_offers) 25 2 20 175 ≡ Err refusal.PrefixLong)
    × (written_for (add_all (empty_in 95) worked_offers) 0 1 20 135 ≡ Err refusal.BuildScratch)
    × (written_for (add_all (empty_in 95) worked_offers) 0 2 19 135 ≡ Err refusal.BuildScratch)
    × (written_for (add_all (empty_in 95) worked_offers) 0 2 20 134 ≡ Err refusal.SectionRoom)
unfolding written_for add_all empty_in worked_offers worked_defs write_defs section_defs arena_written_defs joined fields_bytes read_back_defs add_defs builder_defs offer_defs area_defs construct_defs class_defs encoding_defs hash_defs limit_defs crc_defs common_prefix_len equal_bytes le_at le_bytes choice_defs
refusals = (refl, refl, refl, refl)
