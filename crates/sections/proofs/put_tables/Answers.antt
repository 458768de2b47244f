use Prim.Native.Nat.{◌+◌, ◌*◌, ◌/◌}
use Rattle.sections.proofs.Tables.{slots_room, tables_kept, tables_put}
use Rattle.sections.proofs.put_tables.Goals as goal

pub write_slots-requires : goal.write_slots-requires
write_slots-requires c =
    let h = c.write in
    let p = c.write_pilots in
    slots_room c.requires _ c.indices_at-indices.ensures h.new.output p.new.output h.auto.output p.auto.output

pub shape_of-output : goal.shape_of-output
shape_of-output c =
    let h = c.write in
    let p = c.write_pilots in
    let l = c.write_slots in
    let z = c in
    tables_kept z.requires _ c.indices_at-indices.ensures (64 + 4 * ((z.args.prologue.keys + 1) / 2)) h.new.output p.new.output l.new.output h.auto.output p.auto.output l.auto.output

pub returns : goal.returns
returns c =
    tables_put c.requires _ c.indices_at-indices.ensures _ _ _ _ _ _ c.write.ensures c.write_pilots.ensures c.write_slots.ensures
