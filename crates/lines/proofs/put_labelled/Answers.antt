use Rattle.std.proofs.Common.{◌++◌, sym, ap, ◌∙◌, rules}
use Rattle.lines.proofs.Decimal.{decimal_same}
use Rattle.lines.proofs.Parts.{wrote_both}
use Rattle.lines.proofs.put_labelled.Goals as goal

pub returns-clause-written : goal.returns-clause-written
returns-clause-written c =
    let text = c.as_bytes.ensures.value ∙ c.format.ensures.text ∙ decimal_same c.args.n (search rules) in
    wrote_both c.put-number_at.ensures c.put.ensures (ap (λ l. c.args.label.now ++ l) (sym text))
