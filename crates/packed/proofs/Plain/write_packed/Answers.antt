use native.Mathlib.Omega.{arith}
use Rattle.header.proofs.Headers.{header_facts, accepted_long}
use Rattle.packed.proofs.Lengths.{packed_arena_lem, accepted_places}
use Rattle.packed.proofs.Written.{packed_written_lem}
use Rattle.packed.proofs.Plain.write_packed.Goals as goal

pub packed_record-arena-requires : goal.packed_record-arena-requires
packed_record-arena-requires c = (header_facts _ _ c.args.self.now.accepted).dimensions

pub arena_end-end-requires : goal.arena_end-end-requires
arena_end-end-requires c = accepted_long _ _ c.args.self.now.accepted

pub write_tables-requires : goal.write_tables-requires
write_tables-requires c =
    let h = header_facts _ _ c.args.self.now.accepted in
    let n = accepted_places _ _ _ _ c.args.self.now.accepted c.packed_record-arena.ensures c.arena_end-end.ensures in
    omega (arith, packed_arena_lem _ _ h _ c.packed_record-arena.ensures)

pub returns : goal.returns
returns c =
    packed_written_lem _ _ (header_facts _ _ c.args.self.now.accepted) _ _ c.packed_record-arena.ensures c.arena_end-end.ensures _ _ _ _
    c.write_tables.ensures c.put_part.ensures c.put_part-2.ensures
