-- The worked store's headers, and question 24.
-- Assumes nothing.
use mathlib.Core.Path.{◌≡◌, refl}
use mathlib.Core.Bool.{true, false}
use lib.ListN.{length, set, drop}
use Rattle.std.specs.Prelude.{Ok, Err}
use Rattle.refusal.specs.declared.Refusal.TheVariants as refusal
use Rattle.num.specs.Choice.{choice_defs}
use Rattle.num.specs.Number.{le_at}
use Rattle.num.specs.Order.{equal_bytes}
use Rattle.encoding.specs.Encoding.{encoding_defs}
use Rattle.header.specs.Header.{header_defs, header_of, packed_record}
use Rattle.opened.specs.Opened.{opened_defs, is_record_of}
use Rattle.worked.specs.Worked.{worked_defs, worked_section, worked_scan_section, worked_packed, worked_scan_packed, worked_opened, worked_scan_opened}

lengths : (length worked_section ≡ 135) × (length worked_scan_section ≡ 175) × (length worked_packed ≡ 130) × (length worked_scan_packed ≡ 130)
unfolding worked_defs
lengths = (refl, refl, refl, refl)

headers : (header_of worked_section ≡ Ok worked_opened) × (header_of worked_scan_section ≡ Ok worked_scan_opened)
unfolding worked_defs header_defs opened_defs encoding_defs choice_defs le_at equal_bytes
headers = (refl, refl)

-- without its first byte; without a key; with another scan part's beginning; with a prefix count of 3
refusals : (header_of (drop 1 worked_section) ≡ Err refusal.Magic)
    × (header_of (set worked_section 16 0) ≡ Err refusal.Header)
    × (header_of (set worked_scan_section 137 50) ≡ Err refusal.ScanPart)
    × (header_of (set worked_scan_section 146 3) ≡ Err refusal.ScanSettings)
unfolding worked_defs header_defs opened_defs encoding_defs choice_defs le_at equal_bytes
refusals = (refl, refl, refl, refl)

records : (is_record_of worked_section worked_opened ≡ true)
    × (is_record_of worked_scan_section worked_opened ≡ false)
    × (is_record_of worked_packed (packed_record worked_opened) ≡ true)
    × (is_record_of worked_scan_packed (packed_record worked_opened) ≡ true)
unfolding worked_defs header_defs opened_defs encoding_defs choice_defs le_at equal_bytes
records = (refl, refl, refl, refl)
