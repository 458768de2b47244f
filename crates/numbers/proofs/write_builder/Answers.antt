use mathlib.Core.Path.{sym}
use Rattle.numbers.specs.BuilderNumbers.{builder_numbers}
use Rattle.numbers.proofs.BuilderNumbers.{builder_stands}
use Rattle.numbers.proofs.write_builder.Goals as goal

pub returns : goal.returns
unfolding builder_numbers
returns c = sym (builder_stands c.args.out.now c.args.b c.told-out)
