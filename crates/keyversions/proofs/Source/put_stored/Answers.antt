use Rattle.writer.specs.Write.{stored_at}
use Rattle.keyversions.proofs.Fields.{version_parts}
use Rattle.keyversions.proofs.Source.put_stored.Goals as goal

pub returns : goal.returns
unfolding stored_at
returns c =
    let a = c.args in
    version_parts _ _ (stored_at a.version.now.area.now a.version.now.place) a.output.now _ _ _ _ a.at _ _ _ _
    c.seq.ensures c.marked_size.ensures c.offset.ensures c.checksum.ensures
    c.put_uint.ensures c.put_uint-2.ensures c.put_uint-3.ensures c.put_checksum.ensures
