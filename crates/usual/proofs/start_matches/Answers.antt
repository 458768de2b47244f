use mathlib.Core.Path.{ap₂}
use mathlib.Core.Bool.{Bool}
use Prim.Native.Nat.{ℕ}
use native.Mathlib.Omega.{arith}
use lib.Dec.{eqb, ltb}
use lib.ListN.{get_or}
use Rattle.num.specs.Choice.{both}
use Rattle.usual.specs.Internal.{start_matches}
use Rattle.usual.proofs.Facts.{usual_yes}
use Rattle.usual.proofs.start_matches.Goals as goal

pub overflow_add-numbers : goal.overflow_add-numbers
overflow_add-numbers c = let q = (usual_yes _ c.requires.numbers_value).checksum in omega arith

pub says-requires : goal.says-requires
says-requires c = let p = c.requires in let q = (usual_yes _ p.numbers_value).checksum in record { place_in_bounds = omega arith; number_bound = omega arith }

pub returns : goal.returns
unfolding start_matches both
returns c =
    let a = c.args in
    let r = a.numbers.now in
    ap₂ (λ (n : ℕ) (b : Bool). both (both (eqb (get_or r 13 0) 0) (both (eqb (get_or r 14 0) 0) (eqb (get_or r 15 0) 0)))
    (both (eqb (get_or r 4 0) a.arena) (both (eqb n a.arena) (both b (both (eqb (get_or r 11 0) a.scan) (ltb a.arena a.scan))))))
    c.read.ensures
    c.says.ensures
