-- Not on the reading path: the tests of `is_scan_record`, as code asks them.
use Rattle.std.specs.Prelude.{ℕ, ◌+◌, ◌*◌, ◌-◌, ◌^◌, ◌<◌, ◌≡◌, List, Bool, true, not, eqb, leb, ltb, length, get_or}
use Rattle.num.specs.Choice.{both}
use Rattle.num.specs.Number.{le_at}
use Rattle.encoding.specs.Encoding.{scan_magic}
use Rattle.header.specs.Header.{stands_at_of, scan_settings}
use Rattle.header.specs.Internal.{usual_widths}
use Rattle.opened.specs.Opened.{is_record_of}
use Rattle.numbers.specs.Numbers.{opened_of, is_record_numbers}
use Rattle.held.specs.Held.{says}
use Rattle.spans.specs.Span.{scannable}

-- the numbers alone: how many keys, the widths, the checksum flag, and not packed
unfoldable pub usual_numbers : List ℕ → Bool
usual_numbers r =
    both (both (ltb 0 (get_or r 2 0)) (ltb (get_or r 2 0) (2 ^ 31)))
    (both (usual_widths (opened_of r).encoding)
    (both (both (ltb 0 (get_or r 8 0)) (both (leb (get_or r 8 0) 4) (not (eqb (get_or r 8 0) 3))))
    (both (leb (get_or r 10 0) 1) (eqb (get_or r 12 0) 0))))

-- the header's widths, seed, least sequence and counts
unfoldable pub fields_match : List ℕ → List ℕ → ℕ → Bool
fields_match s r buckets =
    both (both (eqb (le_at s 32 8) (2 ^ 32 + 4)) (both (says s 40 1) (both (says s 48 2) (says s 44 (get_or r 8 0)))))
    (both (eqb (le_at s 8 8) (get_or r 0 0))
    (both (eqb (le_at s 56 8) (get_or r 1 0))
    (both (says s 16 (get_or r 2 0))
    (both (says s 20 buckets) (eqb (get_or r 3 0) buckets)))))

-- the arena start, the flags, the scan place, and nothing in the last three places
unfoldable pub start_matches : List ℕ → List ℕ → ℕ → ℕ → Bool
start_matches s r arena scan =
    both (both (eqb (get_or r 13 0) 0) (both (eqb (get_or r 14 0) 0) (eqb (get_or r 15 0) 0)))
    (both (eqb (get_or r 4 0) arena)
    (both (eqb (le_at s 24 8) arena)
    (both (says s 52 (get_or r 10 0 + 2))
    (both (eqb (get_or r 11 0) scan) (ltb arena scan)))))

-- the scan part of n keys at a place
unfoldable pub scan_matches : List ℕ → ℕ → ℕ → Bool
scan_matches s n scan =
    both (eqb (le_at s (length s - 13) 8) (24 + 4 * n)) (both (stands_at_of s scan scan_magic) (scan_settings s scan n))

-- the section reaches as far as a span reads of a key header, by the scan address at the key's place in a scan part. It only chooses the way: 25 is asked
-- where the header is read.
unfoldable pub header_inside_of : List ℕ → List ℕ → ℕ → ℕ → Bool
header_inside_of s r first scan = leb (get_or r 4 0 + le_at s (scan + 24 + 4 * first) 4 + 14) (length s)

-- 24 and 27 are answered with yes, and the numbers count the key
pub record ScanRecord (s r : List ℕ) (first : ℕ) : Type 0 where
  pub numbers : is_record_numbers r ≡ true
  pub held : is_record_of s (opened_of r) ≡ true
  pub scans : scannable (opened_of r) ≡ true
  pub below : first < get_or r 2 0
