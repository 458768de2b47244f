use Rattle.std.proofs.Common.{◌≡◌, ◌+◌, ◌-◌, ◌*◌, nat_eq, sym, ◌∙◌, ap₂, rules, arith}
use Rattle.num.proofs.Overlap.{agree_none, agree_more, last_number, other_number}
use Rattle.num.proofs.same_part.Goals as goal

pub loop-k-init : goal.loop-k-init
loop-k-init c = let args = c.args in agree_none args.a.now args.i args.b.now args.j

pub returns-then-read : goal.returns-then-read
returns-then-read c =
    let args = c.args in
    sym (other_number args.a.now args.i args.b.now args.j args.n (8 * c.loop-k.k) 8 (omega arith)
    (λ e. c.if-read.true (c.read.ensures ∙ e ∙ sym c.read-in-loop-k.ensures)))

pub loop-k-preserved : goal.loop-k-preserved
loop-k-preserved c =
    let args = c.args in
    let next : 8 * c.loop-k.k + 8 ≡ 8 * (c.loop-k.k + 1) = omega arith in
    rw (← next)
    (agree_more args.a.now args.i args.b.now args.j (λ n. (c.type_inv.a n).fits) (λ n. (c.type_inv.b n).fits) (8 * c.loop-k.k) (8 * c.loop-k.k) 8 (omega arith)
    c.loop-k.invariant (sym c.read.ensures ∙ c.if-read.false ∙ c.read-in-loop-k.ensures))

pub returns : goal.returns
returns c =
    let args = c.args in
    ap₂ nat_eq c.read-2.ensures c.read-3.ensures
    ∙ last_number args.a.now args.i args.b.now args.j (λ n. (c.type_inv.a n).fits) (λ n. (c.type_inv.b n).fits)
    args.n (8 * c.loop-k.k) (args.n - 8) 8 (search rules) (search rules) (omega arith) (omega arith) c.loop-k.invariant
