-- Question 24: do these bytes give this record?
use Rattle.std.specs.Prelude.{◌≡◌, ◌↔◌, List, Bool, true, false, ℕ, eqb, Result, Ok, Err}
use Rattle.std.specs.Bool.{beq}
use Rattle.num.specs.Choice.{when◌then◌else◌, both}
use Rattle.encoding.specs.declared.Encoding.{Encoding}
use Rattle.header.specs.declared.Opened.{Opened}
use Rattle.refusal.specs.declared.Refusal.{Refusal}
use Rattle.header.specs.Header.{begins, flags_of, fields_of, dimensions, arena_below, header_of, fits_packed, packed_record}
use Rattle.header.specs.Facts.{IsRecord}

unfoldable pub same_encoding : Encoding → Encoding → Bool
same_encoding a b =
    both (eqb a.address b.address)
    (both (eqb a.key b.key)
    (both (eqb a.count b.count)
    (both (eqb a.seq b.seq)
    (both (eqb a.value b.value)
    (beq a.checksum b.checksum)))))

unfoldable pub same_counts : Opened → Opened → Bool
same_counts a b =
    both (eqb a.seed b.seed)
    (both (eqb a.min_seq b.min_seq)
    (both (eqb a.count b.count)
    (eqb a.buckets b.buckets)))

-- are two records the same in all their numbers? (question 24)
unfoldable pub same_record_of : Opened → Opened → Bool
same_record_of a b =
    both (same_counts a b)
    (both (same_encoding a.encoding b.encoding)
    (both (eqb a.arena b.arena)
    (both (eqb a.scan b.scan)
    (beq a.packed b.packed))))

-- question 24 of a plain record: do 3 to 6 hold and give this record?
unfoldable pub plain_for : Result Opened Refusal → Opened → Bool
plain_for (Ok found) o = same_record_of found o
plain_for (Err e) o = false

-- question 24 of a packed record: do 3, 4 and 7 hold, with the record's arena start in the comparison of 4, and give this record?
unfoldable pub packed_of : List ℕ → Opened → Bool
packed_of s o =
    both (begins s)
    (both (dimensions (fields_of s) (flags_of s))
    (both (fits_packed (fields_of s))
    (both (arena_below s (packed_record (fields_of s)))
    (same_record_of (packed_record (fields_of s)) o))))

-- question 24: do these bytes give this record?
unfoldable pub is_record_of : List ℕ → Opened → Bool
is_record_of s o = when o.packed then packed_of s o else plain_for (header_of s) o

-- it is answered yes exactly if the section's header gives the record, in the plain terms of `IsRecord`
unfoldable pub RecordExactly : Type 0
RecordExactly = (s : List ℕ) (o : Opened) → (is_record_of s o ≡ true) ↔ IsRecord s o

-- for proofs alone: `unfolding opened_defs` opens the definitions of this file
unfoldable pub opened_defs : ℕ
unfolding same_encoding same_counts same_record_of plain_for packed_of is_record_of
opened_defs = 0

-- and `unfolding flag_defs` the question of a packed record
unfoldable pub flag_defs : ℕ
unfolding packed_of flags_of arena_below both
flag_defs = 0
