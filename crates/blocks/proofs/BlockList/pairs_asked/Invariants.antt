use Rattle.std.proofs.Common.{◌*◌}
use Rattle.blocks.proofs.Pairs.{Asking}
use Rattle.blocks.proofs.BlockList.pairs_asked.Given as goal

abbrev pub invariant-loop-pair : goal.invariant-loop-pair
invariant-loop-pair l = Asking l.self.«data».now l.self.blocks.now (2 * l.pair-index) l.at
