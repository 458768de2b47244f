-- Rows of a list: numbers of eight bytes, the lowest first, and bytes that two of them name. Outside the list all is 0 or empty.
use Rattle.std.specs.Prelude.{ℕ, zero, suc, ◌+◌, ◌%◌, ◌^◌, List, [], ◌∷◌, Bool, true, leb, eqb, length, take, drop}
use Rattle.num.specs.Choice.{when◌then◌else◌, both}
use Rattle.num.specs.Number.{le_at}

-- the number at a place
unfoldable pub number_at : List ℕ → ℕ → ℕ
number_at list place = when leb (place + 8) (length list) then le_at list place 8 else 0

-- the place behind a number; places have 64 bits, and go on at 0
unfoldable pub behind : ℕ → ℕ
behind place = (place + 8) % (2 ^ 64)

-- the place behind so many numbers
unfoldable pub behind_all : ℕ → ℕ → ℕ
behind_all zero place = place
behind_all (suc n) place = behind_all n (behind place)

-- so many numbers from a place on
unfoldable pub numbers_at : List ℕ → ℕ → ℕ → List ℕ
numbers_at list place zero = []
numbers_at list place (suc n) = number_at list place ∷ numbers_at list (behind place) n

-- do these numbers stand from a place on?
unfoldable pub stand_at : List ℕ → ℕ → List ℕ → Bool
stand_at list place [] = true
stand_at list place (n ∷ ns) = both (eqb (number_at list place) n) (stand_at list (behind place) ns)

-- the bytes whose place and length are the two numbers at a place, cut off at the list's end
unfoldable pub bytes_at : List ℕ → ℕ → List ℕ
bytes_at list place = take (number_at list (behind place)) (drop (number_at list place) list)

-- number k of a row that begins at a place
unfoldable pub field : List ℕ → ℕ → ℕ → ℕ
field list row k = number_at list (behind_all k row)

-- the bytes that number k and the one behind it name
unfoldable pub bytes_field : List ℕ → ℕ → ℕ → List ℕ
bytes_field list row k = bytes_at list (behind_all k row)

-- do these numbers stand from number k on?
unfoldable pub stand_from : List ℕ → ℕ → ℕ → List ℕ → Bool
stand_from list row k numbers = stand_at list (behind_all k row) numbers

-- do they stand where number k says?
unfoldable pub stand_where : List ℕ → ℕ → ℕ → List ℕ → Bool
stand_where list row k numbers = stand_at list (field list row k) numbers

-- for proofs alone: `unfolding row_defs` opens the definitions of this file
unfoldable pub row_defs : ℕ
unfolding number_at behind behind_all numbers_at stand_at bytes_at when◌then◌else◌
row_defs = 0

-- for proofs alone: `unfolding field_defs` opens what a row's fields are
unfoldable pub field_defs : ℕ
unfolding field bytes_field stand_from stand_where behind_all numbers_at
field_defs = 0

-- for proofs alone: as field_defs, with arrays of numbers left whole
unfoldable pub row_field_defs : ℕ
unfolding field bytes_field stand_from stand_where behind_all
row_field_defs = 0
