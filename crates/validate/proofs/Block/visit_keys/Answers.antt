use mathlib.Core.Path.{◌∙◌}
use Prim.Native.Nat.{◌+◌}
use native.Mathlib.Omega.{arith}
use Rattle.validate.proofs.Record.{visit_parts}
use Rattle.validate.proofs.Block.visit_keys.Goals as goal

pub returns : goal.returns
returns c =
    let a = c.args in
    let t = a.self.now.inputs in
    c.visit.ensures
    ∙ visit_parts t.section.now t.«data».now t.opened t.end a.w.cursor a.scratch.now t.half a.w.previous_len a.r.key_len a.r.seq a.r.kind (a.self.now.offset + a.r.place) a.r.size
    (omega (arith, c.requires.value, a.self.now.inside))
