use mathlib.Core.Path.{ap, ◌∙◌}
use Prim.Native.Nat.{ℕ}
use native.Mathlib.Omega.{arith}
use lib.Seq.{sets}
use Rattle.num.specs.Number.{le_bytes}
use Rattle.tables.specs.Internal.{width_fields}
use Rattle.tables.proofs.Stores.{field_last, field_more}
use Rattle.tables.proofs.Prologue.put_widths.Goals as goal

pub returns : goal.returns
unfolding width_fields
returns c =
    field_more _ _ _ _ _ _ _ _ (omega arith) c.write.ensures
    (field_more _ _ _ _ _ _ _ _ (omega arith) c.write-2.ensures
    (field_more _ _ _ _ _ _ _ _ (omega arith) c.write-3.ensures
    (field_more _ _ _ _ _ _ _ _ (omega arith) c.write-4.ensures
    (field_more _ _ _ _ _ _ _ _ (omega arith) c.write-5.ensures
    (field_more _ _ _ _ _ _ _ _ (omega arith) (c.write-6.ensures ∙ ap (λ (n : ℕ). sets c.write-5.new.out 52 (le_bytes 4 n)) c.flags.ensures)
    (field_last _ _ _ _ _ c.write-7.ensures))))))
