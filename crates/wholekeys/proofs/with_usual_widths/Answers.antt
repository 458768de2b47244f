use Rattle.wholekeys.proofs.Whole.{usual_same}
use Rattle.wholekeys.proofs.with_usual_widths.Goals as goal

pub returns : goal.returns
returns c = usual_same c.args.o c.requires
