use mathlib.Core.Path.{sym, ◌∙◌}
use borrow.Author.Rules.{rules}
use Rattle.spans.proofs.Keys.{asked_told, refused_told, given_told}
use Rattle.spans.proofs.Store.values_from.Goals as goal

pub returns-in_err-keys_read : goal.returns-in_err-keys_read
returns-in_err-keys_read c =
    let h = refused_told _ c.args.pairs.now (asked_told _ (sym c.in_err-keys_read.was ∙ c.keys_read.ensures)) in
    (search rules, h.1)

pub put_values-requires-clause-address_value : goal.put_values-requires-clause-address_value
put_values-requires-clause-address_value c = asked_told _ (sym c.in_ok-keys_read.was ∙ c.keys_read.ensures)

pub returns : goal.returns
returns c =
    let put = c.put_values.ensures in
    given_told _ c.args.pairs.now (asked_told _ (sym c.in_ok-keys_read.was ∙ c.keys_read.ensures)) put.0 put.1
