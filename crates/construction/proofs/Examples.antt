-- Construction over the two keys of document 01's worked store, computed.
-- Assumes nothing.
use mathlib.Core.Path.{◌≡◌, refl}
use mathlib.Core.List.{[], ◌∷◌}
use Rattle.std.specs.Prelude.{Ok}
use Rattle.num.specs.Choice.{choice_defs}
use Rattle.num.specs.Number.{le_at}
use Rattle.encoding.specs.Encoding.{encoding_defs}
use Rattle.point.specs.Hash.{hash_defs}
use Rattle.classes.specs.Classes.{class_defs}
use Rattle.construction.specs.Construct.{construct_of, construct_defs}

pub worked : construct_of ((97 ∷ 98 ∷ []) ∷ (97 ∷ 99 ∷ []) ∷ [])
    ≡ Ok (record { seed = 16294208416658607535; placement = record { pilots = 0 ∷ []; slots = 1 ∷ 0 ∷ [] } })
unfolding construct_defs choice_defs encoding_defs hash_defs class_defs le_at
worked = refl
