use Rattle.std.proofs.Common.{◌≡◌, ℕ, ◌-◌, ap, ap₂, ◌∙◌, length, min, take, rules, arith}
use lib.Seq.{sets}
use Rattle.list.proofs.Rows.{take_least}
use Rattle.list.proofs.put.Goals as goal

pub returns : goal.returns
returns c =
    let a = c.args in
    let start : c.min-start.result ≡ min (length a.to.now) a.at = search rules in
    let len : c.min-len.result ≡ min (length a.from.now) (length a.to.now - a.at) = omega arith in
    c.put_part.ensures ∙ ap₂ (sets a.to.now) start (ap (λ (k : ℕ). take k a.from.now) len ∙ take_least (length a.to.now - a.at) a.from.now)
