use native.Mathlib.Omega.{arith}
use lib.ListN.{length-drop}
use Rattle.num.proofs.Stores.{sets_tail}
use Rattle.written.specs.Arena.{group_address, arena_written}
use Rattle.writer.specs.Write.{groups_in}
use Rattle.sections.proofs.Tails.{arena_lent, noted_tail}
use Rattle.sections.proofs.put_arena.Goals as goal

pub write_arena-requires : goal.write_arena-requires
write_arena-requires c = arena_lent c.requires

pub returns : goal.returns
returns c =
    let a = c.args in
    let p = c.requires in
    let w = c.write_arena in record { output_after = sets_tail a.output.now _ (arena_written a.source.now.layout.encoding a.source.now.least (groups_in a.source.now.area.now a.source.now.keys)) a.arena (omega (arith, p.asked.room, p.arena_inside, length-drop a.arena a.output.now)) w.ensures.output_after; noted = noted_tail a.scratch.now w.new.addresses a.indices a.source.now.keys (group_address a.source.now.layout.encoding (groups_in a.source.now.area.now a.source.now.keys)) p.indices_inside p.asked.places w.ensures.region_holds w.ensures.frame }
