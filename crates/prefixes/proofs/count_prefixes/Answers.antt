use Rattle.std.proofs.Common.{ap, arith, length}
use Rattle.area.proofs.Heads.{keys_long}
use Rattle.prefixes.proofs.Counting.{change_small, counting_turn, counting_done}
use Rattle.prefixes.proofs.count_prefixes.Goals as goal

pub overflow_add-prefixes : goal.overflow_add-prefixes
overflow_add-prefixes c =
    let keys = c.args.keys.now in
    omega (
      arith,
      c.loop-key.invariant.few,
      change_small _ _ c.prefix_change-prefixes.ensures,
      ap length c.in-Some.ensures.steps,
      keys_long keys.count keys.area.now keys.head,
      keys.stand,
    )

pub loop-key-preserved : goal.loop-key-preserved
loop-key-preserved c =
    let l = c.loop-key.invariant in
    record {
      counts = counting_turn _ _ _ l.counts c.in-Some.ensures.steps _ c.prefix_change-prefixes.ensures;
      few = omega (arith, l.few, change_small _ _ c.prefix_change-prefixes.ensures, ap length c.in-Some.ensures.steps);
    }

pub returns : goal.returns
returns c = counting_done _ _ _ c.loop-key.invariant.counts c.in-None.ensures.steps.0
