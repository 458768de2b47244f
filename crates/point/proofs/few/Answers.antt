use Rattle.std.proofs.Common.{◌≡◌, ◌-◌, length, sym, ap, ap₂, ◌∙◌, arith, ℕ, ◌+◌, ◌*◌}
use Rattle.num.specs.Number.{le_at}
use Rattle.num.proofs.Number.{le_at-none}
use Rattle.point.proofs.Hashing.{few_more, few_lt}
use Rattle.point.proofs.few.Goals as goal

pub loop-left-init : goal.loop-left-init
loop-left-init c =
    let key = c.args.key.now in
    let none : length key - length key ≡ 0 = omega arith in
    sym (le_at-none key (length key)) ∙ ap (le_at key (length key)) (sym none)

pub overflow_mul-sum : goal.overflow_mul-sum
overflow_mul-sum c =
    let l = c.loop-left in
    omega (arith, few_lt c.args.key.now (λ k. (c.type_inv.key k).fits) l.left (length c.args.key.now - l.left) (omega arith))

pub overflow_add-sum : goal.overflow_add-sum
overflow_add-sum c =
    let l = c.loop-left in
    omega (arith, few_lt c.args.key.now (λ k. (c.type_inv.key k).fits) l.left (length c.args.key.now - l.left) (omega arith))

pub loop-left-preserved : goal.loop-left-preserved
loop-left-preserved c =
    ap₂ (λ (x y : ℕ). x * 256 + y) c.loop-left.invariant c.from.ensures ∙ few_more c.args.key.now (length c.args.key.now) c.loop-left.left (omega arith) (omega arith)
