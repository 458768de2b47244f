use native.Mathlib.Omega.{arith}
use Rattle.blocks.specs.Internal.{offset_at, len_at}
use Rattle.blocks.proofs.Pairs.{passed_long, passed_fitting, passed_record}
use Rattle.blocks.proofs.BlockList.record_of.Goals as goal

pub overflow_sub-behind : goal.overflow_sub-behind
unfolding len_at
overflow_sub-behind c = omega (arith, passed_long _ _ _ c.requires)

pub overflow_add-offset : goal.overflow_add-offset
unfolding len_at offset_at
overflow_add-offset c = let p = c.requires in omega (arith, passed_long _ _ _ p, p.inside)

pub read-num_restarts-requires : goal.read-num_restarts-requires
unfolding len_at offset_at
read-num_restarts-requires c = let p = c.requires in omega (arith, passed_long _ _ _ p, p.inside)

pub overflow_sub-entries_end : goal.overflow_sub-entries_end
unfolding len_at offset_at
overflow_sub-entries_end c = let p = c.requires in omega (arith, passed_fitting _ _ _ p _ c.read-num_restarts.ensures)

pub returns : goal.returns
unfolding len_at offset_at
returns c = passed_record _ _ _ c.requires _ c.read-num_restarts.ensures
