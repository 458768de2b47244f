-- Two values that `hash` of point.rs gives.
-- Assumes nothing.
use mathlib.Core.Path.{◌≡◌, refl}
use mathlib.Core.List.{[], ◌∷◌}
use Rattle.num.specs.Number.{le_at}
use Rattle.point.specs.Hash.{hash_value, hash_defs}

-- the key `ab`: no whole chunk
pub hash_2 : hash_value (97 ∷ 98 ∷ []) 0 ≡ 0x9767a8926130aeee
unfolding hash_defs le_at
hash_2 = refl

-- a key of two chunks and four bytes
pub hash_20 : hash_value (0 ∷ 1 ∷ 2 ∷ 3 ∷ 4 ∷ 5 ∷ 6 ∷ 7 ∷ 8 ∷ 9 ∷ 10 ∷ 11 ∷ 12 ∷ 13 ∷ 14 ∷ 15 ∷ 16 ∷ 17 ∷ 18 ∷ 19 ∷ []) 1 ≡ 0xef82385b056df97a
unfolding hash_defs le_at
hash_20 = refl
