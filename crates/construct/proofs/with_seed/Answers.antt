use Rattle.std.proofs.Common.{◌∙◌, ap, arith, length}
use Rattle.construction.specs.Internal.{place_defs, served_as}
use Rattle.construction.proofs.Scratch.{placement_all}
use Rattle.construct.proofs.Seeds.{cleared}
use Rattle.construct.proofs.with_seed.Goals as goal

pub place-requires-clause-empty : goal.place-requires-clause-empty
unfolding place_defs
place-requires-clause-empty c = cleared _ (c.fill.ensures.after (λ y e. e)) (omega arith) (c.fill-2.ensures.after (λ y e. e)) (omega arith)

pub returns-clause-scratch_after : goal.returns-clause-scratch_after
unfolding place_defs
returns-clause-scratch_after c =
    let all =
    placement_all (length c.args.hashes.now) c.sort_members.new.starts c.sort_members.new.members c.place.new.candidates c.sort_buckets.new.order c.place.new.pilots c.place.new.slots c.place.new.indices
    (omega arith) (omega arith) (omega arith) (omega arith) (omega arith) (omega arith) in
    ap (served_as c.place.result) all ∙ c.place.ensures.placed
