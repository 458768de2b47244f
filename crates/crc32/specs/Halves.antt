-- The rule of a table of half bytes, as one test over the whole table.
use Rattle.std.specs.Prelude.{ℕ, suc, ◌*◌, ◌-◌, List, [], ◌∷◌, map, get_or, Bool, true, eqb, ltb, length}
use Rattle.std.specs.List.{range_with_len}
use Rattle.num.specs.Choice.{both, when◌then◌else◌}
use Rattle.crc32.specs.Table.{entry_of, is_row}
use Rattle.crc32.specs.declared.TheConstants.{SLICES}

-- the byte of a place in a row: a low half at 0 to 15, a high half at 16 to 31
unfoldable pub half_at : ℕ → ℕ
half_at i = when ltb i 16 then i else 16 * (i - 16)

-- the rows from row k on, each of the entries of 32 places
unfoldable pub are_rows : ℕ → List (List ℕ) → Bool
are_rows k [] = true
are_rows k (r ∷ rs) = both (eqb (length r) 32) (both (is_row (λ i. entry_of k (half_at i)) 0 r) (are_rows (suc k) rs))

unfoldable pub is_halves : List (List ℕ) → Bool
is_halves t = both (eqb (length t) 8) (are_rows 0 t)

-- for proofs alone: `unfolding halves_defs` opens the definitions above
unfoldable pub halves_defs : ℕ
unfolding half_at are_rows is_halves
halves_defs = 0

-- such a table, 32 entries out of each row of `SLICES`
unfoldable pub HALVES : List (List ℕ)
HALVES = map (λ row. map (λ i. get_or row (half_at i) 0) (range_with_len 0 32)) SLICES
