use Rattle.std.proofs.Common.{sym, ap₂, nat_eq, ◌∙◌, rules}
use Rattle.num.proofs.Overlap.{other_front, both_ends}
use Rattle.num.proofs.same_ends.Goals as goal

pub returns-then-uint : goal.returns-then-uint
returns-then-uint c =
    let args = c.args in
    ap₂ nat_eq c.uint-then-uint.ensures c.uint-then-uint-2.ensures
    ∙ both_ends args.a.now args.i args.b.now args.j (λ n. (c.type_inv.a n).fits) (λ n. (c.type_inv.b n).fits) args.n args.width
    (search rules) (search rules) (search rules) (search rules) (sym c.uint.ensures ∙ c.if-uint.true ∙ c.uint-2.ensures)

pub returns-else-uint : goal.returns-else-uint
returns-else-uint c =
    let args = c.args in
    let d = other_front args.a.now args.i args.b.now args.j args.n args.width (search rules) (λ e. c.if-uint.false (c.uint.ensures ∙ e ∙ sym c.uint-2.ensures)) in
    search (rules, d)
