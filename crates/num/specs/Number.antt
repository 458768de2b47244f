-- Little-endian numbers of a width: one definition of reading and one of writing.
use Rattle.std.specs.Prelude.{ℕ, zero, suc, ◌+◌, ◌*◌, ◌/◌, ◌%◌, ◌<◌, Bool, List, [], ◌∷◌, slice_index}
use Rattle.num.specs.Choice.{one_of}

-- a list of bytes: no element is above 255
abbrev pub Bytes : List ℕ → Type 0
Bytes s = (k : ℕ) → slice_index s k < 256

-- the number in the w bytes at a place, the lowest byte first
unfoldable pub le_at : List ℕ → ℕ → ℕ → ℕ
le_at s at zero = 0
le_at s at (suc w) = slice_index s at + 256 * le_at s (suc at) w

-- the w low bytes of a number, the lowest first
unfoldable pub le_bytes : ℕ → ℕ → List ℕ
le_bytes zero v = []
le_bytes (suc w) v = (v % 256) ∷ le_bytes w (v / 256)

-- the widths of stored numbers
unfoldable pub is_width : ℕ → Bool
is_width w = one_of (1 ∷ 2 ∷ 4 ∷ 8 ∷ []) w
