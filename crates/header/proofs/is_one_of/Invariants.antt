use Rattle.std.proofs.Common.{◌≡◌, drop}
use Rattle.num.specs.Choice.{one_of}
use Rattle.header.proofs.is_one_of.Given as goal

-- those that are left decide
abbrev pub invariant-loop-width : goal.invariant-loop-width
invariant-loop-width l = one_of (drop l.width-index l.widths) l.w ≡ one_of l.widths l.w
