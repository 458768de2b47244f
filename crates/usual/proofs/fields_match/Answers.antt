use mathlib.Core.Path.{ap, ap₂}
use mathlib.Core.Bool.{Bool}
use Prim.Native.Nat.{ℕ, ◌+◌, ◌^◌}
use native.Mathlib.Omega.{arith}
use lib.Dec.{eqb}
use lib.ListN.{get_or}
use Rattle.num.specs.Choice.{both}
use Rattle.usual.specs.Internal.{fields_match}
use Rattle.usual.proofs.Facts.{usual_yes}
use Rattle.usual.proofs.fields_match.Goals as goal

pub says-requires-3 : goal.says-requires-3
says-requires-3 c = let p = c.requires in let q = (usual_yes _ p.numbers_value).seq in record { place_in_bounds = omega arith; number_bound = omega arith }

pub says-requires-4 : goal.says-requires-4
says-requires-4 c = let p = c.requires in let q = (usual_yes _ p.numbers_value).few in record { place_in_bounds = omega arith; number_bound = omega arith }

pub returns : goal.returns
unfolding fields_match both
returns c =
    let r = c.args.numbers.now in
    ap₂ both
    (ap₂ both (ap (λ (n : ℕ). eqb n (2 ^ 32 + 4)) c.read.ensures)
    (ap₂ both c.says.ensures (ap₂ both c.says-2.ensures c.says-3.ensures)))
    (ap₂ both (ap (λ (n : ℕ). eqb n (get_or r 0 0)) c.read-2.ensures)
    (ap₂ both (ap (λ (n : ℕ). eqb n (get_or r 1 0)) c.read-3.ensures)
    (ap₂ both c.says-4.ensures (ap (λ (b : Bool). both b (eqb (get_or r 3 0) c.args.buckets)) c.says-5.ensures))))
