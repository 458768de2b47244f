-- Question 24 of sixteen numbers, test by test as code asks it: one of a record that is packed, one of another.
use Rattle.std.specs.Prelude.{ℕ, ◌+◌, ◌*◌, ◌-◌, ◌/◌, ◌^◌, ◌≡◌, List, Bool, false, Result, Ok, Err, eqb, ltb, length, get_or}
use Rattle.num.specs.Choice.{when◌then◌else◌, both, either}
use Rattle.num.specs.Number.{le_at}
use Rattle.encoding.specs.Encoding.{header_len, trailer_len}
use Rattle.refusal.specs.declared.Refusal.{Refusal}
use Rattle.header.specs.declared.Opened.{Opened}
use Rattle.header.specs.Header.{begins, allowed_widths, scanned_of}
use Rattle.opened.specs.Opened.{is_record_of}
use Rattle.numbers.specs.Numbers.{opened_of, is_record_numbers}

-- has the header this number in the four bytes at a place?
unfoldable pub says : List ℕ → ℕ → ℕ → Bool
says s place n = eqb (le_at s place 4) n

-- the widths
unfoldable pub widths_say : List ℕ → List ℕ → Bool
widths_say s r =
    both (says s 32 (get_or r 5 0))
    (both (says s 36 (get_or r 6 0))
    (both (says s 40 (get_or r 7 0))
    (both (says s 44 (get_or r 8 0))
    (says s 48 (get_or r 9 0)))))

-- are the widths allowed, and the header's?
unfoldable pub widths_hold : List ℕ → List ℕ → Bool
widths_hold s r = both (allowed_widths (opened_of r).encoding) (widths_say s r)

-- seed, least sequence and counts
unfoldable pub header_says : List ℕ → List ℕ → Bool
header_says s r =
    both (eqb (le_at s 8 8) (get_or r 0 0))
    (both (eqb (le_at s 56 8) (get_or r 1 0))
    (both (says s 16 (get_or r 2 0))
    (says s 20 (get_or r 3 0))))

-- question 4 of the counts
unfoldable pub counts_fit : List ℕ → Bool
counts_fit r = both (both (ltb 0 (get_or r 2 0)) (ltb (get_or r 2 0) (2 ^ 31))) (eqb (get_or r 3 0) ((get_or r 2 0 + 1) / 2))

-- the arena start that question 4 asks for
unfoldable pub plain_arena : List ℕ → ℕ
plain_arena r = header_len + 4 * get_or r 3 0 + get_or r 2 0 * (get_or r 5 0 + 2)

-- and that of the packed bytes
unfoldable pub packed_arena : List ℕ → ℕ
packed_arena r = header_len + 3 * get_or r 3 0 + get_or r 2 0 * get_or r 5 0

-- has the record one arena start, the header the other, and does the record's lie in the section?
unfoldable pub starts_at : List ℕ → List ℕ → ℕ → ℕ → Bool
starts_at s r own stored = both (eqb (get_or r 4 0) own) (both (eqb (le_at s 24 8) stored) (ltb own (length s - trailer_len)))

-- questions 5 and 6, and the scan place that the section gives
unfoldable pub scan_holds : Result Opened Refusal → ℕ → Bool
scan_holds (Ok o) scan = eqb o.scan scan
scan_holds (Err e) scan = false

-- 24 of a record that is not packed, behind 3 and the tests above: arena start, flags, and with a scan place the scan part
unfoldable pub plain_holds : List ℕ → List ℕ → Bool
plain_holds s r =
    both (starts_at s r (plain_arena r) (plain_arena r))
    (when eqb (get_or r 11 0) 0 then says s 52 (get_or r 10 0)
    else both (says s 52 (get_or r 10 0 + 2)) (scan_holds (scanned_of s (opened_of r)) (get_or r 11 0)))

-- 24 of a packed record, behind the same: arena starts, flags, no scan place, and question 7
unfoldable pub packed_holds : List ℕ → List ℕ → Bool
packed_holds s r =
    both (starts_at s r (packed_arena r) (plain_arena r))
    (both (both (ltb (get_or r 2 0) (2 ^ 23)) (both (eqb (get_or r 10 0) 1) (eqb (get_or r 11 0) 0)))
    (either (says s 52 1) (says s 52 3)))

-- all of 24
unfoldable pub holds_of : List ℕ → List ℕ → Bool
holds_of s r =
    both (begins s)
    (both (widths_hold s r)
    (both (counts_fit r)
    (both (header_says s r)
    (both (is_record_numbers r)
    (when eqb (get_or r 12 0) 0 then plain_holds s r else packed_holds s r)))))

-- it is what the definitions ask of the record that the numbers are
unfoldable pub HeldExactly : Type 0
HeldExactly = (s r : List ℕ) → holds_of s r ≡ both (is_record_numbers r) (is_record_of s (opened_of r))

-- for proofs alone: `unfolding held_defs` opens the tests
unfoldable pub held_defs : ℕ
unfolding widths_say widths_hold header_says counts_fit scan_holds plain_holds packed_holds when◌then◌else◌ both either
held_defs = 0
