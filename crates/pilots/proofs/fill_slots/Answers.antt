use Rattle.std.proofs.Common.{sym, ◌∙◌, arith, length-set}
use Rattle.pilots.proofs.Filling.{filling_turn, filling_done}
use Rattle.pilots.proofs.fill_slots.Goals as goal

pub loop-j-preserved : goal.loop-j-preserved
loop-j-preserved c =
    let l = c.loop-j in
    record {
      size = length-set _ _ _ ∙ l.invariant.size;
      rest = sym (filling_turn _ _ _ l.j (omega arith) (omega (arith, c.requires.length))) ∙ l.invariant.rest;
    }

pub returns : goal.returns
returns c = filling_done _ _ _ c.loop-j.j (omega arith) (omega (arith, c.requires.length)) ∙ c.loop-j.invariant.rest
