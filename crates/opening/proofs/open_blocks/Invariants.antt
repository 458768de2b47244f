use mathlib.Core.Path.{◌≡◌}
use Prim.Native.Nat.{◌*◌}
use lib.ListN.{length}
use Rattle.opening.specs.Open.{pairs_from}
use Rattle.validate.specs.Internal.{progress_in}
use Rattle.validate.specs.Lent.{inputs_lent, ReadyFor}
use Rattle.opening.proofs.Pairs.{Pairing}
use Rattle.opening.proofs.open_blocks.Given as goal

abbrev pub invariant-loop-pair : goal.invariant-loop-pair
invariant-loop-pair l = ReadyFor l.inputs l.scratch l.carried
    × (length l.scratch ≡ length l.initial.scratch)
    × Pairing (inputs_lent l.inputs) l.fn.blocks (pairs_from (inputs_lent l.inputs) l.fn.blocks 0 (progress_in l.inputs.half l.initial.scratch l.initial.carried)) (2 * l.pair-index) l.at (progress_in l.inputs.half l.scratch l.carried)
