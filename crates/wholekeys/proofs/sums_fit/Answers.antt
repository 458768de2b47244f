use Prim.Native.Nat.{◌^◌}
use lib.Dec.{leb, ltb}
use borrow.Author.Tests.{leb-true, ltb-true}
use Rattle.num.specs.Choice.{both}
use Rattle.num.proofs.Choice.{both_true}
use Rattle.wholekeys.proofs.sums_fit.Goals as goal

pub returns : goal.returns
unfolding both
returns c =
    let args = c.args in
    λ e. let b = both_true (leb args.o.encoding.seq 4) (ltb args.o.min_seq (2 ^ 63)) e in
    (leb-true _ _ b.0, ltb-true _ _ b.1)
