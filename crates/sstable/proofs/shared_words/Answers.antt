use Rattle.std.proofs.Common.{◌≡◌, ◌+◌, ◌*◌, sym, ◌∙◌, arith, rules}
use Rattle.num.specs.Number.{le_at}
use Rattle.num.proofs.Order.{common_prefix_len-from}
use Rattle.num.proofs.Number.{le_at-bytes}
use Rattle.sstable.proofs.shared_words.Goals as goal

pub loop-word-preserved : goal.loop-word-preserved
loop-word-preserved c =
    let at = 8 * c.loop-word.word in
    let same : le_at c.args.a.now at 8 ≡ le_at c.args.b.now at 8 = sym c.read.ensures ∙ c.if-read.false ∙ c.read-in-loop-word.ensures in
    let next : 8 * (c.loop-word.word + 1) ≡ at + 8 = omega arith in
    rw next
    (sym (common_prefix_len-from c.args.a.now c.args.b.now at 8 (search rules) (search rules)
    (le_at-bytes c.args.a.now c.args.b.now (λ n. (c.type_inv.a n).fits) (λ n. (c.type_inv.b n).fits) 8 at at same))
    ∙ c.loop-word.invariant)
