use native.Mathlib.Omega.{arith}
use Rattle.header.proofs.Headers.{header_facts}
use Rattle.header.proofs.Headers.{accepted_long}
use Rattle.packed.proofs.Lengths.{accepted_places}
use Rattle.packed.proofs.Plain.packed_len.Goals as goal

pub packed_record-packed-requires : goal.packed_record-packed-requires
packed_record-packed-requires c = (header_facts _ _ c.args.self.now.accepted).dimensions

pub arena_end-requires : goal.arena_end-requires
arena_end-requires c = accepted_long _ _ c.args.self.now.accepted

pub overflow_sub-arena_len : goal.overflow_sub-arena_len
overflow_sub-arena_len c = let n = accepted_places _ _ _ _ c.args.self.now.accepted c.packed_record-packed.ensures c.arena_end.ensures in omega arith

pub overflow_add-result : goal.overflow_add-result
overflow_add-result c = let n = accepted_places _ _ _ _ c.args.self.now.accepted c.packed_record-packed.ensures c.arena_end.ensures in omega arith

pub overflow_add-result-2 : goal.overflow_add-result-2
overflow_add-result-2 c = let n = accepted_places _ _ _ _ c.args.self.now.accepted c.packed_record-packed.ensures c.arena_end.ensures in omega arith

pub returns : goal.returns
returns c = (accepted_places _ _ _ _ c.args.self.now.accepted c.packed_record-packed.ensures c.arena_end.ensures).0
