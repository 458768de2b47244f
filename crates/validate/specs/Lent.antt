-- Not on the reading path: what the code is lent, as the definitions say it.
use Rattle.std.specs.Prelude.{ℕ, List}
use Rattle.validate.specs.Walk as walk
use Rattle.validate.specs.Internal.{inputs_with, Ready}
use Rattle.validate.specs.declared.Carried.{Carried}
use Rattle.validate.specs.declared.inputs.Inputs.{Inputs}

-- what the questions are about
abbrev pub inputs_lent : Inputs → walk.Inputs
inputs_lent t = inputs_with t.section.now t.«data».now t.opened t.end t.half

-- what the walk counts on
abbrev pub ReadyFor : Inputs → List ℕ → Carried → Type 0
ReadyFor t scratch w = Ready t.section.now t.opened t.end t.half scratch w
