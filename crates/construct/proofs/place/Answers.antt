use Rattle.construct.proofs.Seeds.{seed_fails, seed_free, seed_serves}
use Rattle.construct.proofs.place.Goals as goal

pub returns-then-not-place_buckets-clause-placed : goal.returns-then-not-place_buckets-clause-placed
returns-then-not-place_buckets-clause-placed c = seed_fails _ _ _ _ c.place_buckets.ensures.placed c.requires.empty _ c.if-not-place_buckets.true

pub place_singles-requires-clause-free : goal.place_singles-requires-clause-free
place_singles-requires-clause-free c = seed_free _ _ _ _ c.place_buckets.ensures.placed c.requires.empty c.if-not-place_buckets.false

pub returns-clause-placed : goal.returns-clause-placed
returns-clause-placed c = seed_serves _ _ _ _ c.place_buckets.ensures.placed c.requires.empty _ c.if-not-place_buckets.false c.place_singles.ensures.placed
