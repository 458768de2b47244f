use Rattle.num.proofs.Choice.{both_true}
use Rattle.builder.specs.Record.{sizeable}
use Rattle.builder.proofs.Standing.{small}
use Rattle.readback.proofs.reads_back.Goals as goal

pub area_read-requires : goal.area_read-requires
unfolding sizeable
area_read-requires c = record { inside = c.if-area-b.false; small = (small _ (both_true _ _ c.requires).0).used }
