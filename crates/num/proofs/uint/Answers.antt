use Rattle.std.proofs.Common.{sym, ap, ◌∙◌, arith}
use Rattle.num.specs.Number.{le_at}
use Rattle.num.proofs.Number.{width_8}
use Rattle.num.proofs.uint.Goals as goal

pub read-requires-in_default : goal.read-requires-in_default
read-requires-in_default c =
    let eight = width_8 c.args.width c.requires.1 (λ e. absurd (omega arith)) (λ e. absurd (omega arith)) (λ e. absurd (omega arith)) in
    omega arith

pub returns-in_default : goal.returns-in_default
returns-in_default c =
    c.read-in_default.ensures
    ∙ ap (le_at _ _) (sym (width_8 c.args.width c.requires.1 (λ e. absurd (omega arith)) (λ e. absurd (omega arith)) (λ e. absurd (omega arith))))
