use Rattle.std.proofs.Common.{arith}
use Rattle.num.proofs.Stores.{behind_number}
use Rattle.builder.specs.Offer.{head_bytes}
use Rattle.adding.proofs.write_head.Goals as goal

pub returns : goal.returns
unfolding head_bytes
returns c =
    behind_number _ _ _ _ _ _ _ _ (omega arith) c.write.ensures
    (behind_number _ _ _ _ _ _ _ _ (omega arith) c.write-2.ensures c.put_part.ensures)
