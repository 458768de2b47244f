use Rattle.construction.proofs.Buckets.{members_rise}
use Rattle.construction.proofs.Arranged.members_of.Goals as goal

pub slice_bounds-result-count : goal.slice_bounds-result-count
slice_bounds-result-count c = members_rise _ c.args.self.now.sorted c.requires

pub slice_bounds-result-start : goal.slice_bounds-result-start
slice_bounds-result-start c = members_rise _ c.args.self.now.sorted c.requires
