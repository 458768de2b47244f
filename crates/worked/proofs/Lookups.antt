-- The worked store's lookups, plain and packed.
-- Assumes nothing.
use mathlib.Core.Path.{◌≡◌, refl}
use mathlib.Core.List.{[], ◌∷◌}
use Rattle.std.specs.Prelude.{Ok, Err, Some, None}
use Rattle.refusal.specs.declared.Refusal.TheVariants as refusal
use Rattle.num.specs.Choice.{choice_defs}
use Rattle.num.specs.Number.{le_at}
use Rattle.num.specs.Order.{equal_bytes}
use Rattle.point.specs.Hash.{hash_defs}
use Rattle.sstable.specs.declared.Kind.TheVariants.{Put, Tombstone}
use Rattle.encoding.specs.Encoding.{encoding_defs}
use Rattle.header.specs.Header.{header_defs, packed_record}
use Rattle.opened.specs.Opened.{opened_defs}
use Rattle.arena.specs.Key.{key_defs}
use Rattle.versions.specs.Version.{version_defs}
use Rattle.locator.specs.Locator.{Located, locator_defs}
use Rattle.lookup.specs.Lookup.{lookup_defs, locate_of, no_limit}
use Rattle.worked.specs.Worked.{worked_defs, ab, ac, worked_section, worked_scan_section, worked_packed, worked_scan_packed, opened_with, worked_opened, worked_scan_opened}

-- the versions of `ab`: 7, with the value `xyz` at 23, and the tombstone 3
seven : Located
seven = Ok (Some (record { kind = Put; seq = 7; offset = 23; len = 3; checksum = 3951999591 }))

three : Located
three = Ok (Some (record { kind = Tombstone; seq = 3; offset = 47; len = 0; checksum = 0 }))

-- `ab` under 7, 6 and 2; `ac` under 4; `a` and the empty key
plain : (locate_of worked_section worked_opened ab 7 ≡ seven)
    × (locate_of worked_section worked_opened ab 6 ≡ three)
    × (locate_of worked_section worked_opened ab 2 ≡ Ok None)
    × (locate_of worked_section worked_opened ac 4 ≡ Ok None)
    × (locate_of worked_section worked_opened (97 ∷ []) no_limit ≡ Ok None)
    × (locate_of worked_section worked_opened [] no_limit ≡ Ok None)
unfolding worked_defs header_defs opened_defs encoding_defs choice_defs hash_defs key_defs version_defs locator_defs lookup_defs le_at equal_bytes seven three
plain = (refl, refl, refl, refl, refl, refl)

-- the same in the section with scan prefix 1
scanned : (locate_of worked_scan_section worked_scan_opened ab 7 ≡ seven) × (locate_of worked_scan_section worked_scan_opened ab 6 ≡ three)
unfolding worked_defs header_defs opened_defs encoding_defs choice_defs hash_defs key_defs version_defs locator_defs lookup_defs le_at equal_bytes seven three
scanned = (refl, refl)

-- and in the packed bytes of both
packed : (locate_of worked_packed (packed_record worked_opened) ab 7 ≡ seven)
    × (locate_of worked_packed (packed_record worked_opened) ab 6 ≡ three)
    × (locate_of worked_scan_packed (packed_record worked_scan_opened) ab 7 ≡ seven)
    × (locate_of worked_scan_packed (packed_record worked_scan_opened) ab 6 ≡ three)
unfolding worked_defs header_defs opened_defs encoding_defs choice_defs hash_defs key_defs version_defs locator_defs lookup_defs le_at equal_bytes seven three
packed = (refl, refl, refl, refl)

-- 24: a record with another least sequence
forged : (locate_of worked_section (opened_with 2 0) ab 7 ≡ Err refusal.RecordGiven) × (locate_of worked_packed (packed_record (opened_with 2 0)) ab 7 ≡ Err refusal.RecordGiven)
unfolding worked_defs header_defs opened_defs encoding_defs choice_defs hash_defs key_defs version_defs locator_defs lookup_defs le_at equal_bytes
forged = (refl, refl)
