use mathlib.Core.Path.{◌≡◌}
use Prim.Native.Nat.{◌-◌}
use lib.ListN.{length}
use Rattle.validate.specs.Internal.{state_in}
use Rattle.validate.specs.Lent.{inputs_lent, ReadyFor}
use Rattle.validate.proofs.BlockWalk.{block_of, Walking}
use Rattle.validate.proofs.Block.open.Given as goal

abbrev pub invariant-loop-pos : goal.invariant-loop-pos
invariant-loop-pos l = ReadyFor l.self.inputs l.scratch l.carried
    × (length l.scratch ≡ length l.initial.scratch)
    × Walking (inputs_lent l.self.inputs) l.self.offset l.self.raw.now l.self.entries_end (block_of (inputs_lent l.self.inputs) l.self.offset l.self.raw.now l.self.entries_end (state_in l.self.inputs.half l.initial.scratch l.initial.carried)) l.pos (state_in l.self.inputs.half l.scratch l.carried)

abbrev pub decreases-loop-pos : goal.decreases-loop-pos
decreases-loop-pos l = l.self.entries_end - l.pos
