use Rattle.std.proofs.Common.{sym, refl, ◌∙◌, add-zero, length-set, rules}
use native.Mathlib.Nat.{sub-zero}
use Rattle.num.proofs.Number.{put_step, put_done}
use Rattle.num.proofs.put_bytes.Goals as goal

pub loop-i-init : goal.loop-i-init
loop-i-init c = (search rules, refl, rw (add-zero, sub-zero))

pub loop-i-preserved : goal.loop-i-preserved
loop-i-preserved c =
    let i = c.loop-i.invariant in
    (search rules, simp length-set i.1, put_step _ _ _ _ _ c.loop-i-test.true ∙ i.2)

pub returns : goal.returns
returns c =
    let i = c.loop-i.invariant in
    sym (put_done _ _ _ _ _ c.loop-i-test.false) ∙ i.2
