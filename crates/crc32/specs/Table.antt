-- What an entry of a table is, and the rule of the eight slicing tables, as one test over a whole table.
use Rattle.std.specs.Prelude.{ℕ, suc, ◌/◌, ◌%◌, List, [], ◌∷◌, Bool, true, false, eqb, length, get_or, replicate}
use Rattle.std.specs.Int.Bits.{bit_xor}
use Rattle.num.specs.Choice.{both}
use Rattle.crc32.specs.V42.{update_of}

-- the entry of a byte in row s: the register after the byte and s zero bytes, from a register of zeros
abbrev pub entry_of : ℕ → ℕ → ℕ
entry_of s b = update_of 0 (b ∷ replicate s 0)

-- from the place i of a row on stand f i, f (i + 1) and so on
unfoldable pub is_row : (ℕ → ℕ) → ℕ → List ℕ → Bool
is_row f i [] = true
is_row f i (x ∷ xs) = both (eqb x (f i)) (is_row f (suc i) xs)

-- a later row: each entry is the register after one zero byte more than that of the row before, p: the first row's entry
-- for the low byte of p, exclusive or the other bits of p
unfoldable pub is_next : List ℕ → List ℕ → List ℕ → Bool
is_next first [] [] = true
is_next first [] (x ∷ xs) = false
is_next first (p ∷ ps) [] = false
is_next first (p ∷ ps) (x ∷ xs) = both (eqb x (bit_xor (get_or first (p % 256) 0) (p / 256))) (is_next first ps xs)

unfoldable pub are_next : List ℕ → List ℕ → List (List ℕ) → Bool
are_next first previous [] = true
are_next first previous (r ∷ rs) = both (is_next first previous r) (are_next first r rs)

-- eight rows of 256 entries: the first holds the entries of all bytes, the others follow by that rule
unfoldable pub is_table : List (List ℕ) → Bool
is_table [] = false
is_table (r ∷ rs) = both (eqb (length rs) 7) (both (eqb (length r) 256) (both (is_row (entry_of 0) 0 r) (are_next r r rs)))

-- for proofs alone: `unfolding table_defs` opens the definitions of this file
unfoldable pub table_defs : ℕ
unfolding is_row is_next are_next is_table
table_defs = 0
