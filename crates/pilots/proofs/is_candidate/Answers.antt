use Rattle.std.proofs.Common.{◌∙◌}
use Rattle.pilots.proofs.Candidates.{any_one}
use Rattle.pilots.proofs.is_candidate.Goals as goal

-- Of few candidates alone: an answer of many would name the goal of their comparison, which its must-fail edit renames.
pub returns-then-candidates-le-FEW : goal.returns-then-candidates-le-FEW
returns-then-candidates-le-FEW c = c.contains.ensures.value ∙ any_one c.args.candidates.now c.args.at
