use mathlib.Core.Path.{ap, ◌∙◌}
use mathlib.Core.Bool.{Bool, not}
use Prim.Native.Nat.{◌^◌}
use lib.Dec.{eqb, leb, ltb}
use lib.ListN.{get_or}
use Rattle.num.specs.Choice.{both}
use Rattle.header.specs.declared.Opened.{Opened}
use Rattle.header.specs.Internal.{usual_widths}
use Rattle.usual.specs.Internal.{usual_numbers}
use Rattle.usual.proofs.usual_numbers.Goals as goal

pub returns : goal.returns
unfolding usual_numbers both
returns c =
    let r = c.args.numbers.now in
    ap (λ (b : Bool). both (both (ltb 0 (get_or r 2 0)) (ltb (get_or r 2 0) (2 ^ 31)))
    (both b (both (both (ltb 0 (get_or r 8 0)) (both (leb (get_or r 8 0) 4) (not (eqb (get_or r 8 0) 3))))
    (both (leb (get_or r 10 0) 1) (eqb (get_or r 12 0) 0)))))
    (c.usual_widths.ensures ∙ ap (λ (o : Opened). usual_widths o.encoding) c.read_record-o.ensures)
