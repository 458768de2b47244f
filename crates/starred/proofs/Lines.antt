-- Every starred line of document 01 holds, by computation from the three adds.
-- Assumes nothing.
use mathlib.Core.Path.{refl}
use Rattle.num.specs.Choice.{choice_defs}
use Rattle.num.specs.Number.{le_at, le_bytes}
use Rattle.num.specs.Order.{common_prefix_len, less_than, equal_bytes}
use Rattle.crc32.specs.V42.{crc_defs}
use Rattle.sstable.specs.Kind.{kind_of}
use Rattle.sstable.specs.Limits.{limit_defs}
use Rattle.sstable.specs.Trailer.{trailer_defs}
use Rattle.block.specs.Verify.{verify_defs}
use Rattle.block.specs.EntryHeader.{entry_header_defs}
use Rattle.block.specs.Record.{record_at_defs}
use Rattle.block.specs.Walk.{block_walk_defs}
use Rattle.point.specs.Hash.{hash_defs}
use Rattle.encoding.specs.Encoding.{encoding_defs}
use Rattle.classes.specs.Classes.{class_defs}
use Rattle.construction.specs.Construct.{construct_defs}
use Rattle.area.specs.Area.{area_defs}
use Rattle.builder.specs.Offer.{offer_defs}
use Rattle.builder.specs.Record.{builder_defs}
use Rattle.builder.specs.Add.{add_defs}
use Rattle.readback.specs.ReadBack.{read_back_defs}
use Rattle.written.specs.Joined.{joined, fields_bytes}
use Rattle.written.specs.Arena.{arena_written_defs}
use Rattle.written.specs.Section.{section_defs}
use Rattle.header.specs.Header.{header_defs}
use Rattle.opened.specs.Opened.{opened_defs}
use Rattle.arena.specs.Key.{key_defs}
use Rattle.versions.specs.Version.{version_defs}
use Rattle.validate.specs.Walk.{walk_defs, value_of}
use Rattle.opening.specs.Open.{open_defs}
use Rattle.packed.specs.Packed.{packed_defs}
use Rattle.packing.specs.Packing.{packing_defs}
use Rattle.locator.specs.Locator.{locator_defs}
use Rattle.lookup.specs.Lookup.{lookup_defs}
use Rattle.spans.specs.Span.{span_defs}
use Rattle.writer.specs.Write.{write_defs}
use Rattle.worked.specs.Worked.{worked_defs}
use Rattle.starred.specs.Lines.{section_with, bytes_of, three_added, added_from, state_for, offer_for, LinesHold, starred_lines, answer_to, number_told, version_told, located_told, lookup_told, packed_lookup_told, packed_len_told, pairs_told, span_told, with_pilot, sealed_with, opening_with, packing_with}

pub lines_hold : LinesHold
unfolding LinesHold starred_lines answer_to number_told version_told located_told lookup_told packed_lookup_told packed_len_told pairs_told span_told with_pilot sealed_with opening_with packing_with section_with bytes_of three_added added_from state_for offer_for value_of worked_defs write_defs section_defs arena_written_defs joined fields_bytes read_back_defs add_defs builder_defs offer_defs area_defs construct_defs class_defs encoding_defs hash_defs limit_defs crc_defs common_prefix_len equal_bytes le_at le_bytes choice_defs open_defs walk_defs version_defs key_defs header_defs opened_defs less_than trailer_defs verify_defs record_at_defs entry_header_defs block_walk_defs kind_of packed_defs packing_defs locator_defs lookup_defs span_defs
lines_hold = refl
