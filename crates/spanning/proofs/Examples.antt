-- The worked spans of document 01, in the section of 175 bytes, the first refusal of each question, and forged sections.
-- Assumes nothing.
use mathlib.Core.Path.{◌≡◌, refl}
use mathlib.Core.List.{List, [], ◌∷◌}
use Prim.Native.Nat.{ℕ}
use lib.Seq.{sets}
use Rattle.std.specs.Prelude.{Ok, Err}
use Rattle.num.specs.Choice.{choice_defs}
use Rattle.num.specs.Number.{le_at}
use Rattle.num.specs.Order.{equal_bytes}
use Rattle.refusal.specs.declared.Refusal.TheVariants as refusal
use Rattle.encoding.specs.Encoding.{encoding_defs}
use Rattle.header.specs.Header.{header_defs, packed_record}
use Rattle.opened.specs.Opened.{opened_defs}
use Rattle.arena.specs.Key.{key_defs}
use Rattle.versions.specs.Version.{version_defs}
use Rattle.locator.specs.Locator.{locator_defs}
use Rattle.lookup.specs.Lookup.{no_limit}
use Rattle.spans.specs.Span.{Pair, span_defs, span_of}
use Rattle.worked.specs.Worked.{worked_defs, worked_section, worked_scan_section, worked_packed, opened_with, worked_opened, worked_scan_opened}

-- `ab` 7 has its value `xyz` at 23, `ac` 5 an empty one at 69
xyz : Pair
xyz = record { offset = 23; len = 3 }

empty : Pair
empty = record { offset = 69; len = 0 }

-- both keys without a limit; under 7, which `ab` has; under 6, where `ab` is a tombstone; under 4, where `ac` is not within; the second key
-- alone; no key
spans : (span_of worked_scan_section worked_scan_opened 0 2 no_limit 4 ≡ Ok (xyz ∷ empty ∷ []))
    × (span_of worked_scan_section worked_scan_opened 0 2 7 4 ≡ Ok (xyz ∷ empty ∷ []))
    × (span_of worked_scan_section worked_scan_opened 0 2 6 4 ≡ Ok (empty ∷ []))
    × (span_of worked_scan_section worked_scan_opened 0 2 4 4 ≡ Ok [])
    × (span_of worked_scan_section worked_scan_opened 1 1 no_limit 2 ≡ Ok (empty ∷ []))
    × (span_of worked_scan_section worked_scan_opened 2 0 no_limit 0 ≡ Ok [])
unfolding worked_defs header_defs opened_defs encoding_defs choice_defs key_defs version_defs locator_defs span_defs le_at equal_bytes xyz empty
spans = (refl, refl, refl, refl, refl, refl)

-- 24, another least sequence, asked before 27; 27, no scan part, or packed; 28, a key too many, or a sum beyond 64 bits; 29, a place too few
refusals : (span_of worked_scan_section (opened_with 2 130) 0 2 no_limit 4 ≡ Err refusal.RecordGiven)
    × (span_of worked_section (opened_with 2 0) 0 2 no_limit 4 ≡ Err refusal.RecordGiven)
    × (span_of worked_section worked_opened 0 2 no_limit 4 ≡ Err refusal.NoSpans)
    × (span_of worked_packed (packed_record worked_opened) 0 2 no_limit 4 ≡ Err refusal.NoSpans)
    × (span_of worked_scan_section worked_scan_opened 1 2 no_limit 4 ≡ Err refusal.SpanKeys)
    × (span_of worked_scan_section worked_scan_opened 1 no_limit no_limit 4 ≡ Err refusal.SpanKeys)
    × (span_of worked_scan_section worked_scan_opened 0 2 no_limit 3 ≡ Err refusal.SpanRoom)
unfolding worked_defs header_defs opened_defs encoding_defs choice_defs key_defs version_defs locator_defs span_defs le_at equal_bytes
refusals = (refl, refl, refl, refl, refl, refl, refl)

-- the scan addresses stand from 154 on; here that of the first key, or of the second, is 65536, outside the section
unfoldable forged : ℕ → List ℕ
forged place = sets worked_scan_section place (0 ∷ 0 ∷ 1 ∷ 0 ∷ [])

-- and here the least sequence, at 56, is 2^64 - 1
unfoldable greatest : List ℕ
greatest = sets worked_scan_section 56 (255 ∷ 255 ∷ 255 ∷ 255 ∷ 255 ∷ 255 ∷ 255 ∷ 255 ∷ [])

-- 25 of the first key's scan address; without a key nothing is read, and no other key's scan address is: the second stands behind the
-- first; 25 of a sum beyond 64 bits
forgeries : (span_of (forged 154) worked_scan_opened 0 2 no_limit 4 ≡ Err refusal.Read)
    × (span_of (forged 154) worked_scan_opened 0 0 no_limit 0 ≡ Ok [])
    × (span_of (forged 158) worked_scan_opened 0 2 no_limit 4 ≡ Ok (xyz ∷ empty ∷ []))
    × (span_of (forged 158) worked_scan_opened 1 1 no_limit 2 ≡ Err refusal.Read)
    × (span_of greatest (opened_with no_limit 130) 0 1 no_limit 2 ≡ Err refusal.Read)
unfolding worked_defs header_defs opened_defs encoding_defs choice_defs key_defs version_defs locator_defs span_defs le_at equal_bytes xyz empty forged greatest
forgeries = (refl, refl, refl, refl, refl)
