use Rattle.std.proofs.Common.{length}
use Rattle.blocks.specs.Blocks.{fill_of}
use Rattle.blocks.specs.Internal.{written_of}
use Rattle.blocks.proofs.Writing.{Writing}
use Rattle.blocks.proofs.fill.Given as goal

abbrev pub invariant-loop-i : goal.invariant-loop-i
invariant-loop-i l = Writing (written_of (fill_of l.«data» l.blocks (length l.initial.records))) l.initial.records l.records l.i
