-- The worked store's data: one sound block, and its records.
-- Assumes nothing.
use mathlib.Core.Path.{◌≡◌, refl}
use mathlib.Core.List.{[]}
use lib.ListN.{length}
use Rattle.std.specs.Prelude.{Ok}
use Rattle.num.specs.Choice.{choice_defs}
use Rattle.num.specs.Number.{le_at}
use Rattle.crc32.specs.V42.{crc_defs}
use Rattle.sstable.specs.Kind.{kind_of}
use Rattle.block.specs.Verify.{verify_of, verify_defs}
use Rattle.block.specs.EntryHeader.{entry_header_defs}
use Rattle.block.specs.Record.{record_at_defs}
use Rattle.block.specs.Walk.{at_end, stopped, no_entries, walk_at, records_of, block_walk_defs}
use Rattle.admission.specs.Blocks.{store_entries, block_defs}
use Rattle.worked.specs.Worked.{worked_data, worked_list, worked_entries, worked_defs}

long : length worked_data ≡ 82
unfolding worked_defs
long = refl

-- question 12 is passed
sound : verify_of worked_data ≡ Ok (record { entries_end = 69; restart_start = 69; num_restarts = 1 })
unfolding worked_defs verify_defs crc_defs choice_defs le_at
sound = refl

records : records_of worked_data ≡ record { entries = worked_entries; ended = at_end }
unfolding worked_defs block_walk_defs record_at_defs entry_header_defs verify_defs choice_defs le_at kind_of
records = refl

-- from the second entry, which shares 2 bytes, behind no key: the stop of question 13
stop : walk_at worked_data 69 26 [] ≡ no_entries stopped
unfolding worked_defs block_walk_defs record_at_defs entry_header_defs choice_defs le_at kind_of
stop = refl

entries : store_entries worked_data worked_list ≡ worked_entries
unfolding worked_defs block_defs block_walk_defs record_at_defs entry_header_defs verify_defs choice_defs le_at kind_of
entries = refl
