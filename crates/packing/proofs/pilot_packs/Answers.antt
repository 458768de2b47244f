use Rattle.point.specs.Hash.{direct_slot}
use Rattle.packing.specs.Packing.{pilot_packs}
use Rattle.packed.specs.Packed.{pilot_at}
use Rattle.packing.proofs.pilot_packs.Goals as goal

pub returns : goal.returns
unfolding pilot_packs pilot_at direct_slot
returns c = rw (← c.read-pilot.ensures)
