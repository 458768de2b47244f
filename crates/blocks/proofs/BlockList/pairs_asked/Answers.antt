use mathlib.Core.Path.{◌∙◌}
use native.Mathlib.Omega.{arith}
use Rattle.validate.proofs.Record.{handed_on}
use Rattle.opening.proofs.Pairs.{pair_drop}
use Rattle.blocks.proofs.Pairs.{asking_start, asking_done, asking_failed, asking_inside, asking_more}
use Rattle.blocks.proofs.BlockList.pairs_asked.Goals as goal

pub loop-pair-init : goal.loop-pair-init
loop-pair-init c = asking_start _ _

pub pair_asked-requires : goal.pair_asked-requires
pair_asked-requires c = c.loop-pair.invariant.within

pub returns-in_err-pair_asked : goal.returns-in_err-pair_asked
returns-in_err-pair_asked c =
    let l = c.loop-pair in
    let d = pair_drop c.args.self.now.blocks.now _ l.pair-index c.as_chunks.ensures.front (omega (arith, c.as_chunks.ensures.front_len, c.loop-pair-test.true)) in
    handed_on _ _ c.from_residual.ensures.1 ∙ asking_failed _ _ _ _ l.invariant _ _ d _ c.in_err-pair_asked.ensures

pub overflow_add-at : goal.overflow_add-at
overflow_add-at c =
    let l = c.loop-pair in
    let d = pair_drop c.args.self.now.blocks.now _ l.pair-index c.as_chunks.ensures.front (omega (arith, c.as_chunks.ensures.front_len, c.loop-pair-test.true)) in
    omega (arith, asking_inside _ _ _ _ l.invariant _ _ d _ c.in_ok-pair_asked.ensures)

pub loop-pair-preserved : goal.loop-pair-preserved
loop-pair-preserved c =
    let l = c.loop-pair in
    let d = pair_drop c.args.self.now.blocks.now _ l.pair-index c.as_chunks.ensures.front (omega (arith, c.as_chunks.ensures.front_len, c.loop-pair-test.true)) in
    asking_more _ _ _ _ l.invariant _ _ d _ _ (omega arith) c.in_ok-pair_asked.ensures

pub returns : goal.returns
returns c = asking_done _ _ _ _ c.loop-pair.invariant (omega (arith, c.as_chunks.ensures.front_len, c.loop-pair-test.false, c.requires))
