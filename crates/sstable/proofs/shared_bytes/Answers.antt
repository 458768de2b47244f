use Rattle.std.proofs.Common.{◌≡◌, sym, ◌∙◌, rules}
use Rattle.num.proofs.Order.{common_prefix_len-agree, common_prefix_len-differ, common_prefix_len-end}
use Rattle.sstable.proofs.shared_bytes.Goals as goal

pub returns-then-a-i : goal.returns-then-a-i
returns-then-a-i c = sym (common_prefix_len-differ _ _ _ (search rules) (search rules) c.if-a-i.true) ∙ c.loop-i.invariant

pub loop-i-preserved : goal.loop-i-preserved
loop-i-preserved c = sym (common_prefix_len-agree _ _ _ (search rules) (search rules) c.if-a-i.false) ∙ c.loop-i.invariant

pub returns : goal.returns
returns c =
    let done : c.loop-i.i ≡ c.args.end = search rules in
    sym done ∙ sym (common_prefix_len-end _ _ _ (search rules)) ∙ c.loop-i.invariant
