-- Pieces one behind the other, and numbers of given widths: what the bytes of a section are made of.
use Rattle.std.specs.Prelude.{List, [], ◌∷◌, ◌++◌, ℕ, zero, suc}
use Rattle.num.specs.Number.{le_bytes}

-- the first n pieces, one behind the other
unfoldable pub joined : {A : Type 0} → (ℕ → List A) → ℕ → List A
joined piece zero = []
joined piece (suc n) = joined piece n ++ piece n

-- a width in bytes and a number
pub data Field : Type 0 where
  field : ℕ → ℕ → Field

-- the bytes of numbers, each in its width, least byte first
unfoldable pub fields_bytes : List Field → List ℕ
fields_bytes [] = []
fields_bytes (field w v ∷ fs) = le_bytes w v ++ fields_bytes fs

-- for proofs alone: `unfolding joined_defs` opens the definitions of this file
unfoldable pub joined_defs : ℕ
unfolding joined fields_bytes
joined_defs = 0
