-- The worked store of document 01, printed: the definitions give its five lines.
-- Assumes nothing.
use mathlib.Core.Path.{◌≡◌, refl}
use mathlib.Core.Bool.{true, false}
use mathlib.Core.List.{List, [], ◌∷◌, ◌++◌}
use Prim.Native.Nat.{ℕ}
use Rattle.num.specs.Choice.{choice_defs}
use Rattle.num.specs.Number.{le_at, le_bytes}
use Rattle.num.specs.Order.{less_than, equal_bytes}
use Rattle.crc32.specs.V42.{crc_defs}
use Rattle.sstable.specs.Kind.{kind_of}
use Rattle.sstable.specs.Limits.{limit_defs}
use Rattle.sstable.specs.Trailer.{trailer_defs}
use Rattle.block.specs.Verify.{verify_defs}
use Rattle.block.specs.EntryHeader.{entry_header_defs}
use Rattle.block.specs.Record.{record_at_defs}
use Rattle.block.specs.Walk.{block_walk_defs}
use Rattle.point.specs.Hash.{hash_defs}
use Rattle.encoding.specs.Encoding.{encoding_defs}
use Rattle.header.specs.Header.{header_defs}
use Rattle.arena.specs.Key.{key_defs}
use Rattle.versions.specs.Version.{version_defs}
use Rattle.validate.specs.Walk.{walk_defs}
use Rattle.opening.specs.Open.{open_defs}
use Rattle.admission.specs.Blocks.{block_defs}
use Rattle.worked.specs.Worked.{worked_defs, worked_data, worked_section}
use Rattle.lines.specs.Lines.{line_defs, unreadable_line, refused_line}
use Rattle.listing.specs.Listing.{listing_defs, output_of}

five_lines : List ℕ
five_lines =
    -- key seq kind offset length
    107 ∷ 101 ∷ 121 ∷ 32 ∷ 115 ∷ 101 ∷ 113 ∷ 32 ∷ 107 ∷ 105 ∷ 110 ∷ 100 ∷ 32 ∷ 111 ∷ 102 ∷ 102 ∷ 115 ∷ 101 ∷ 116 ∷ 32 ∷ 108 ∷ 101 ∷ 110 ∷ 103 ∷ 116 ∷ 104 ∷ 10 ∷
    -- 6162 7 P 23 3
    54 ∷ 49 ∷ 54 ∷ 50 ∷ 32 ∷ 55 ∷ 32 ∷ 80 ∷ 32 ∷ 50 ∷ 51 ∷ 32 ∷ 51 ∷ 10 ∷
    -- 6162 3 T 47 0
    54 ∷ 49 ∷ 54 ∷ 50 ∷ 32 ∷ 51 ∷ 32 ∷ 84 ∷ 32 ∷ 52 ∷ 55 ∷ 32 ∷ 48 ∷ 10 ∷
    -- 6163 5 P 69 0
    54 ∷ 49 ∷ 54 ∷ 51 ∷ 32 ∷ 53 ∷ 32 ∷ 80 ∷ 32 ∷ 54 ∷ 57 ∷ 32 ∷ 48 ∷ 10 ∷
    -- keys 2 live 2 mean 67
    107 ∷ 101 ∷ 121 ∷ 115 ∷ 32 ∷ 50 ∷ 32 ∷ 108 ∷ 105 ∷ 118 ∷ 101 ∷ 32 ∷ 50 ∷ 32 ∷ 109 ∷ 101 ∷ 97 ∷ 110 ∷ 32 ∷ 54 ∷ 55 ∷ 10 ∷ []

-- the pairs of the block list as a file has them
pair_of : ℕ → ℕ → List ℕ
pair_of offset len = le_bytes 8 offset ++ le_bytes 8 len

printed : output_of true worked_section worked_data (pair_of 0 82) ≡ five_lines
unfolding five_lines pair_of listing_defs line_defs worked_defs block_defs open_defs walk_defs version_defs key_defs header_defs encoding_defs hash_defs limit_defs crc_defs less_than equal_bytes le_at le_bytes choice_defs trailer_defs verify_defs record_at_defs entry_header_defs block_walk_defs kind_of
printed = refl

-- an empty block list is 22, an odd one 11; a list of no whole numbers, or a file that was not read whole, is unreadable
refusals : (output_of true worked_section worked_data [] ≡ refused_line 22)
    × (output_of true worked_section worked_data (le_bytes 8 0) ≡ refused_line 11)
    × (output_of true worked_section worked_data (le_bytes 7 0) ≡ unreadable_line)
    × (output_of false worked_section worked_data (pair_of 0 82) ≡ unreadable_line)
unfolding pair_of listing_defs line_defs worked_defs block_defs open_defs walk_defs version_defs key_defs header_defs encoding_defs hash_defs limit_defs crc_defs less_than equal_bytes le_at le_bytes choice_defs trailer_defs verify_defs record_at_defs entry_header_defs block_walk_defs kind_of
refusals = (refl, refl, refl, refl)
