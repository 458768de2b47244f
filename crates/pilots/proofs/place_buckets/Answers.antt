use Rattle.std.proofs.Common.{◌∙◌, arith}
use Rattle.construction.specs.Internal.{served_as}
use Rattle.construction.proofs.Order.{order_size, order_read}
use Rattle.pilots.proofs.Placing.{found_below, members_few, members_fit, placing_done, placing_small, placing_failed, placing_turn}
use Rattle.pilots.proofs.place_buckets.Goals as goal

pub loop-x-preserved-then-members-lt2 : goal.loop-x-preserved-then-members-lt2
loop-x-preserved-then-members-lt2 c =
    let a = c.args.arranged.now in
    let l = c.loop-x.invariant in
    record {
      candidates_length = l.candidates_length;
      indices_length = l.indices_length;
      placing = placing_small l.placing (omega (arith, order_size _ a.ordered)) (order_read _ a.ordered _) c.members_of-members.ensures c.if-members-lt2.true;
    }

pub find_pilot-requires : goal.find_pilot-requires
find_pilot-requires c =
    let a = c.args.arranged.now in
    let l = c.loop-x.invariant in
    members_fit _ _ c.members_of-members.ensures a.keys.0 a.keys.1 l.placing.slots_length (omega (arith, l.candidates_length, c.requires.room)) (omega (arith, l.indices_length, c.requires.room))

pub returns-in_default-clause-placed : goal.returns-in_default-clause-placed
unfolding served_as
returns-in_default-clause-placed c =
    let a = c.args.arranged.now in
    placing_failed c.loop-x.invariant.placing (omega (arith, order_size _ a.ordered)) (order_read _ a.ordered _) c.members_of-members.ensures (omega arith) c.in_default.ensures.searched

pub slice_bounds-fill_slots-end : goal.slice_bounds-fill_slots-end
slice_bounds-fill_slots-end c =
    omega (arith, members_few _ _ c.members_of-members.ensures, c.find_pilot.ensures.lengths, c.loop-x.invariant.candidates_length, c.requires.room)

pub fill_slots-requires-clause-slots : goal.fill_slots-requires-clause-slots
fill_slots-requires-clause-slots c = found_below c.in-Some.ensures.searched c.args.arranged.now.keys.0 c.loop-x.invariant.placing.slots_length

pub loop-x-preserved : goal.loop-x-preserved
loop-x-preserved c =
    let a = c.args.arranged.now in
    let l = c.loop-x.invariant in
    record {
      candidates_length = c.in-Some.ensures.lengths.0 ∙ l.candidates_length;
      indices_length = c.in-Some.ensures.lengths.1 ∙ l.indices_length;
      placing = placing_turn l.placing (omega (arith, order_size _ a.ordered)) (order_read _ a.ordered _) c.members_of-members.ensures (omega arith) c.in-Some.ensures.searched c.fill_slots.ensures;
    }

pub returns-clause-placed : goal.returns-clause-placed
unfolding served_as
returns-clause-placed c = placing_done c.loop-x.invariant.placing (omega (arith, order_size _ c.args.arranged.now.ordered))
