use mathlib.Core.Path.{sym, ◌∙◌}
use native.Mathlib.Omega.{arith}
use Rattle.num.proofs.Order.{common_prefix_len-left, common_prefix_len-right, less_than-right_end, less_than-left_end, less_than-at}
use Rattle.sstable.proofs.key_less.Goals as goal

pub returns-then-n-b : goal.returns-then-n-b
returns-then-n-b c = sym (less_than-right_end _ _ (sym c.common_prefix_len-n.ensures ∙ c.if-n-b.true))

pub returns-then-n-a : goal.returns-then-n-a
returns-then-n-a c =
    let l = c.args in
    let r = common_prefix_len-right l.a.now l.b.now in
    sym (less_than-left_end l.a.now l.b.now (sym c.common_prefix_len-n.ensures ∙ c.if-n-a.true) (omega (arith, c.common_prefix_len-n.ensures)))

pub bounds-a-n : goal.bounds-a-n
bounds-a-n c =
    let l = c.args in
    omega (arith, c.common_prefix_len-n.ensures, common_prefix_len-left l.a.now l.b.now, common_prefix_len-right l.a.now l.b.now)

pub bounds-b-n : goal.bounds-b-n
bounds-b-n c =
    let l = c.args in
    omega (arith, c.common_prefix_len-n.ensures, common_prefix_len-left l.a.now l.b.now, common_prefix_len-right l.a.now l.b.now)

pub returns : goal.returns
returns c =
    let l = c.args in
    let x = common_prefix_len-left l.a.now l.b.now in
    let y = common_prefix_len-right l.a.now l.b.now in
    let e = c.common_prefix_len-n.ensures in
    rw e (sym (less_than-at l.a.now l.b.now (omega arith) (omega arith)))
