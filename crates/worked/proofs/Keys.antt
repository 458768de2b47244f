-- The worked store's key records by index.
-- Assumes nothing.
use mathlib.Core.Path.{◌≡◌, refl}
use Rattle.num.specs.Choice.{choice_defs}
use Rattle.num.specs.Number.{le_at}
use Rattle.num.specs.Order.{equal_bytes}
use Rattle.sstable.specs.declared.Kind.TheVariants.{Put, Tombstone}
use Rattle.encoding.specs.Encoding.{encoding_defs}
use Rattle.arena.specs.Key.{key_defs}
use Rattle.agreement.specs.Keys.{address_of, key_at, first_version, version_seq, version_kind, version_length, version_offset, version_checksum, prefix_count, index_defs}
use Rattle.worked.specs.Worked.{worked_defs, ab, ac, worked_section, worked_scan_section, worked_opened, worked_scan_opened}

addresses : (address_of worked_section worked_opened 1 ≡ 31) × (address_of worked_section worked_opened 2 ≡ 50)
unfolding worked_defs index_defs key_defs encoding_defs le_at choice_defs
addresses = (refl, refl)

keys : (key_at worked_section worked_opened 0 ≡ ab) × (key_at worked_section worked_opened 1 ≡ ac)
unfolding worked_defs index_defs key_defs encoding_defs le_at choice_defs
keys = (refl, refl)

versions : (first_version worked_section worked_opened 2 ≡ 3)
    × (version_seq worked_section worked_opened 0 0 ≡ 7)
    × (version_seq worked_section worked_opened 0 1 ≡ 3)
    × (version_kind worked_section worked_opened 0 1 ≡ Tombstone)
    × (version_kind worked_section worked_opened 1 0 ≡ Put)
    × (version_length worked_section worked_opened 0 0 ≡ 3)
    × (version_offset worked_section worked_opened 1 0 ≡ 69)
    × (version_checksum worked_section worked_opened 1 0 ≡ 0)
unfolding worked_defs index_defs key_defs encoding_defs le_at choice_defs
versions = (refl, refl, refl, refl, refl, refl, refl, refl)

one_prefix : prefix_count worked_scan_section worked_scan_opened 2 ≡ 1
unfolding worked_defs index_defs key_defs encoding_defs le_at choice_defs equal_bytes
one_prefix = refl
