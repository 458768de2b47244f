-- Which rows agree: what the entries answer to a row's question are the numbers that stand behind it. A row is what is left of it, from a
-- place of the list on; what may be written holds a 7 at every place before.
use Rattle.std.specs.Prelude.{ℕ, List, [], ◌∷◌, Bool, eqb, length, min, take, replicate}
use Rattle.num.specs.Choice.{both}
use Rattle.crc32.specs.V42.{crc_of}
use Rattle.refusal.specs.Refusal.{answer_number}
use Rattle.sstable.specs.Trailer.{trailer_of}
use Rattle.block.specs.Verify.{verify_of}
use Rattle.point.specs.Hash.{hash_value, fingerprint_of}
use Rattle.lookup.specs.Value.{value_number}
use Rattle.looks.specs.Looked.{lookup_of, answer_written}
use Rattle.spans.specs.Span.{pairs_written, spanned_read}
use Rattle.scans.specs.Spans.{span_of_numbers, found_written}
use Rattle.probe.specs.Probe.{bucket_probe, position_probe, slot_probe, meta_written}
use Rattle.list.specs.Rows.{numbers_at, field, bytes_field, stand_from, stand_where}

unfoldable pub crc_agrees : List ℕ → ℕ → Bool
crc_agrees list row = eqb (crc_of (bytes_field list row 0)) (field list row 2)

unfoldable pub hash_agrees : List ℕ → ℕ → Bool
hash_agrees list row =
    let h = hash_value (bytes_field list row 0) (field list row 2) in
    let pilot = field list row 4 in
    let n = field list row 5 in
    stand_from list row 6 (h ∷ fingerprint_of h ∷ bucket_probe h (field list row 3) ∷ position_probe h pilot n ∷ slot_probe h pilot n ∷ [])

unfoldable pub trailer_agrees : List ℕ → ℕ → Bool
trailer_agrees list row = eqb (answer_number (trailer_of (bytes_field list row 0))) (field list row 2)

unfoldable pub verify_agrees : List ℕ → ℕ → Bool
verify_agrees list row =
    let read = verify_of (bytes_field list row 0) in
    both (stand_from list row 2 (answer_number read ∷ [])) (stand_from list row 3 (meta_written read (7 ∷ 7 ∷ 7 ∷ [])))

unfoldable pub lookup_agrees : List ℕ → ℕ → Bool
lookup_agrees list row =
    let read = lookup_of (bytes_field list row 0) (numbers_at list (field list row 5) 16) (bytes_field list row 2) (field list row 4) in
    both (stand_from list row 6 (answer_number read ∷ [])) (stand_where list row 7 (answer_written read (7 ∷ 7 ∷ 7 ∷ 7 ∷ 7 ∷ 7 ∷ [])))

-- at most 64 places are lent for the pairs
unfoldable pub span_agrees : List ℕ → ℕ → Bool
span_agrees list row =
    let pairs = take (min (field list row 6) 64) (replicate 64 7) in
    let read = span_of_numbers (bytes_field list row 0) (numbers_at list (field list row 2) 16) (field list row 3) (field list row 4) (field list row 5) (length pairs) in
    both (both (stand_from list row 7 (answer_number (spanned_read read) ∷ [])) (stand_where list row 8 (pairs_written read pairs)))
    (stand_from list row 9 (found_written read 7 ∷ []))

unfoldable pub value_agrees : List ℕ → ℕ → Bool
value_agrees list row = stand_from list row 4 (value_number (bytes_field list row 0) (field list row 2) (field list row 3) ∷ [])

-- for proofs alone: `unfolding agree_defs` opens the definitions of this file
unfoldable pub agree_defs : ℕ
unfolding crc_agrees hash_agrees trailer_agrees verify_agrees lookup_agrees span_agrees value_agrees both
agree_defs = 0
