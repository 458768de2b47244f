use native.Mathlib.Nat.{zero-add}
use mathlib.Core.Path.{◌≡◌, refl, ap, ◌∙◌}
use Prim.Native.Nat.{ℕ}
use native.Mathlib.Omega.{arith}
use lib.ListN.{length, get_or}
use lib.Seq.{sets}
use Rattle.num.specs.Number.{le_bytes}
use Rattle.num.proofs.Number.{length_le_bytes}
use Rattle.written.specs.Joined.{joined}
use Rattle.tables.specs.Internal.{numbers_bytes}
use Rattle.tables.proofs.Stores.{pieces_none, pieces_more}
use Rattle.tables.proofs.put_numbers.Goals as goal

pub loop-i-init : goal.loop-i-init
loop-i-init c = (refl, pieces_none _ _ (λ k. length_le_bytes _ _) _ _)

pub loop-i-preserved : goal.loop-i-preserved
loop-i-preserved c =
    let l = c.loop-i in
    let a = c.args in
    let p = c.put_uint in
    (p.auto.out ∙ l.invariant.0, pieces_more (λ k. le_bytes a.width (get_or a.numbers.now k 0)) a.width (λ k. length_le_bytes a.width (get_or a.numbers.now k 0)) _ _ _ _ l.i _ (zero-add _) l.invariant.1 p.ensures)

pub returns : goal.returns
unfolding numbers_bytes
returns c =
    let l = c.loop-i in
    let a = c.args in
    let n : l.i ≡ length a.numbers.now = omega arith in
    l.invariant.1 ∙ ap (λ (k : ℕ). sets a.output.now 0 (joined (λ j. le_bytes a.width (get_or a.numbers.now j 0)) k)) n
