use mathlib.Core.Path.{refl, ap}
use mathlib.Core.Bool.{not}
use borrow.Author.Tests.{eq-eqb, ne_eqb}
use Rattle.num.proofs.Choice.{both_no, both_yes}
use Rattle.spans.specs.Span.{scannable}
use borrow.Author.Rules.{rules}
use Rattle.scans.proofs.scannable.Goals as goal

pub returns-then-o : goal.returns-then-o
unfolding scannable
returns-then-o c = both_no _ _ (ap not c.if-o.true)

pub returns-then-o-eq0 : goal.returns-then-o-eq0
unfolding scannable
returns-then-o-eq0 c =
    let args = c.args in
    both_yes _ _ _ (ap not c.if-o.false) (both_no _ _ (ap not (eq-eqb args.o.scan 0 (search rules))))

pub returns : goal.returns
unfolding scannable
returns c =
    let args = c.args in
    both_yes _ _ _ (ap not c.if-o.false) (both_yes _ _ _ (ap not (ne_eqb args.o.scan 0 (search rules))) refl)
