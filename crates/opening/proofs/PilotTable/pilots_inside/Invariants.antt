use mathlib.Core.Path.{◌≡◌}
use mathlib.Core.Bool.{true}
use Rattle.num.specs.Choice.{each_below}
use Rattle.opening.specs.Open.{pilot_inside_of}
use Rattle.opening.proofs.PilotTable.pilots_inside.Given as goal

abbrev pub invariant-loop-k : goal.invariant-loop-k
invariant-loop-k l = each_below l.k (pilot_inside_of l.self.section.now l.self.opened) ≡ true
