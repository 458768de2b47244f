use Rattle.tables.proofs.Parts.{halves}
use Rattle.tables.proofs.Prologue.write.Goals as goal

pub returns : goal.returns
returns c = halves _ _ _ _ _ _ _ _ c.put_counts.ensures c.put_widths.ensures
