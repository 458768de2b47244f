use mathlib.Core.Path.{◌∙◌}
use native.Mathlib.Omega.{arith}
use lib.ListN.{length-set}
use Rattle.tables.proofs.Stores.{sealed}
use Rattle.tables.proofs.seal.Goals as goal

pub slice_bounds-crc32-end : goal.slice_bounds-crc32-end
slice_bounds-crc32-end c = simp length-set (omega arith)

pub write-requires : goal.write-requires
write-requires c = simp length-set (omega arith)

pub shape_of-output : goal.shape_of-output
shape_of-output c = let a = c.args in c.write.auto.out ∙ length-set a.output.now a.body 0

pub returns : goal.returns
returns c = let a = c.args in sealed a.output.now _ a.body _ (omega arith) c.crc32-crc.ensures c.write.ensures
