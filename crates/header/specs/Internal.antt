-- Not on the reading path: what the contract of `usual_widths` speaks of.
use Rattle.std.specs.Prelude.{Bool, ℕ, eqb}
use Rattle.num.specs.Choice.{when◌then◌else◌, both, either, one_of}
use Rattle.encoding.specs.declared.Encoding.{Encoding}
use Rattle.encoding.specs.Encoding.{magic, scan_magic, buckets_of, arena_start_of}
use Rattle.header.specs.Header.{between, begins, allowed_widths, dimensions, scan_part, scan_place_of}

-- the widths of most sections, but for that of sequences: addresses of four bytes, fewer than 256 bytes and versions to a key, values below 2^15 bytes
unfoldable pub usual_widths : Encoding → Bool
usual_widths e = both (eqb e.address 4) (both (eqb e.key 1) (both (eqb e.count 1) (eqb e.value 2)))

-- for proofs alone: `unfolding begins_defs` opens question 3
unfoldable pub begins_defs : ℕ
unfolding begins magic when◌then◌else◌ both either
begins_defs = 0

-- `unfolding width_defs` the widths of question 4
unfoldable pub width_defs : ℕ
unfolding allowed_widths usual_widths both
width_defs = 0

-- `unfolding dimension_defs` all of it but the arena's place in the section
unfoldable pub dimension_defs : ℕ
unfolding between allowed_widths dimensions buckets_of arena_start_of when◌then◌else◌ both either one_of
dimension_defs = 0

-- and `unfolding scan_defs` question 5
unfoldable pub scan_defs : ℕ
unfolding scan_part scan_place_of scan_magic both
scan_defs = 0
