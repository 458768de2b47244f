use Rattle.std.proofs.Common.{sym, ◌∙◌, ◌+◌, arith}
use Rattle.refusal.proofs.Asked.{asked}
use Rattle.builder.proofs.Asked.{key_limit}
use Rattle.builder.proofs.Standing.{stood, new_le}
use Rattle.builder.proofs.Builder.questions.Goals as goal

pub entry_len-requires : goal.entry_len-requires
entry_len-requires c = key_limit _ _ (sym c.mutation.ensures ∙ (asked _ _ _ _ (sym c.ask.ensures ∙ c.in_ok-ask.was)).0)

pub overflow_add-end : goal.overflow_add-end
overflow_add-end c =
    let s = stood _ _ (sym c.stands.ensures ∙ (asked _ _ _ _ (sym c.ask-5.ensures ∙ c.in_ok-ask-5.was)).0) in
    let l = key_limit _ _ (sym c.mutation.ensures ∙ (asked _ _ _ _ (sym c.ask.ensures ∙ c.in_ok-ask.was)).0) in
    omega (arith, new_le c.args.new_key (8 + c.args.key_len), c.entry_len.ensures, s.totals.used)
