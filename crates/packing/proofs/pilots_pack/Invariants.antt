use mathlib.Core.Path.{◌≡◌}
use mathlib.Core.Bool.{true}
use Rattle.num.specs.Choice.{each_below}
use Rattle.packing.specs.Packing.{pilot_packs}
use Rattle.packing.proofs.pilots_pack.Given as goal

abbrev pub invariant-loop-k : goal.invariant-loop-k
invariant-loop-k l = each_below l.k (pilot_packs l.section) ≡ true
