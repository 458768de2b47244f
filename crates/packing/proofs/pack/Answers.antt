use Rattle.header.proofs.Headers.{header_facts}
use Rattle.packing.proofs.pack.Goals as goal

pub packed_record-requires : goal.packed_record-requires
packed_record-requires c = (header_facts _ _ c.requires).dimensions
