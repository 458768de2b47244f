-- Worked values, by computation.
use mathlib.Core.Path.{◌≡◌, refl}
use mathlib.Core.List.{[], ◌∷◌}
use Rattle.num.specs.Choice.{choice_defs}
use Rattle.crc32.specs.V42.{crc_of, crc_defs}

-- the ASCII digits 1 to 9
pub digits : crc_of (49 ∷ 50 ∷ 51 ∷ 52 ∷ 53 ∷ 54 ∷ 55 ∷ 56 ∷ 57 ∷ []) ≡ 0xCBF43926
unfolding crc_defs choice_defs
digits = refl

pub nothing : crc_of [] ≡ 0
unfolding crc_defs choice_defs
nothing = refl
