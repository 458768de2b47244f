use mathlib.Core.Path.{sym, ap, ◌∙◌}
use mathlib.Core.Bool.{Bool}
use Prim.Native.Nat.{ℕ}
use native.Mathlib.Omega.{arith}
use lib.Seq.{sets}
use Rattle.num.proofs.Choice.{if_true}
use Rattle.written.specs.Joined.{fields_bytes}
use Rattle.written.specs.Arena.{checksum_fields}
use Rattle.keyversions.proofs.Fields.{fields_none, fields_one}
use Rattle.keyversions.proofs.put_checksum.Goals as goal

pub write-requires : goal.write-requires
write-requires c =
    let a = c.args in
    omega (arith, if_true {A = ℕ} a.present 4 0 c.if-present.true)

pub returns-then-present : goal.returns-then-present
unfolding checksum_fields
returns-then-present c =
    let a = c.args in
    fields_one _ _ _ _ _ c.write.ensures ∙ ap (λ (t : Bool). sets a.output.now a.at (fields_bytes (checksum_fields t a.checksum))) (sym c.if-present.true)

pub returns-else-present : goal.returns-else-present
unfolding checksum_fields
returns-else-present c =
    let a = c.args in
    fields_none a.output.now a.at ∙ ap (λ (t : Bool). sets a.output.now a.at (fields_bytes (checksum_fields t a.checksum))) (sym c.if-present.false)
