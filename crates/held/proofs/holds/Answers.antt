use mathlib.Core.Path.{sym, ap, ◌∙◌}
use borrow.Author.Tests.{eq-eqb, ne_eqb}
use Rattle.num.specs.Choice.{both}
use Rattle.num.proofs.Choice.{both_no, both_yes, if_true, if_false}
use Rattle.header.proofs.Questions.{begins_yes}
use Rattle.held.specs.Held.{holds_of, HeldExactly}
use Rattle.held.proofs.Exactly.{fit_dimensions, hold_widths, held_exactly}
use Rattle.held.proofs.holds.Goals as goal

pub returns-then-not-begins : goal.returns-then-not-begins
unfolding holds_of HeldExactly
returns-then-not-begins c =
    both_no _ _ (sym c.begins.ensures ∙ c.if-not-begins.true)
    ∙ held_exactly c.args.section.now c.args.numbers.now

pub invariant_of-asked : goal.invariant_of-asked
invariant_of-asked c = record { long = (begins_yes _ (sym c.begins.ensures ∙ c.if-not-begins.false)).long }

pub invariant_of-fitting : goal.invariant_of-fitting
invariant_of-fitting c =
    let w = hold_widths _ _ (sym c.widths_hold.ensures ∙ c.if-not-widths_hold.false) in
    record { dimensions = fit_dimensions _ (sym c.counts_fit.ensures ∙ c.if-not-counts_fit.false) w }

pub invariant_of-fitting-2 : goal.invariant_of-fitting-2
invariant_of-fitting-2 c =
    let w = hold_widths _ _ (sym c.widths_hold.ensures ∙ c.if-not-widths_hold.false) in
    record { dimensions = fit_dimensions _ (sym c.counts_fit.ensures ∙ c.if-not-counts_fit.false) w }

pub returns-then-not-widths_hold : goal.returns-then-not-widths_hold
unfolding holds_of HeldExactly
returns-then-not-widths_hold c =
    both_yes _ _ _ (sym c.begins.ensures ∙ c.if-not-begins.false)
    (both_no _ _ (sym c.widths_hold.ensures ∙ c.if-not-widths_hold.true))
    ∙ held_exactly c.args.section.now c.args.numbers.now

pub returns-then-not-counts_fit : goal.returns-then-not-counts_fit
unfolding holds_of HeldExactly
returns-then-not-counts_fit c =
    both_yes _ _ _ (sym c.begins.ensures ∙ c.if-not-begins.false)
    (both_yes _ _ _ (sym c.widths_hold.ensures ∙ c.if-not-widths_hold.false)
    (both_no _ _ (sym c.counts_fit.ensures ∙ c.if-not-counts_fit.true)))
    ∙ held_exactly c.args.section.now c.args.numbers.now

pub header_says-requires : goal.header_says-requires
header_says-requires c = sym c.counts_fit.ensures ∙ c.if-not-counts_fit.false

pub returns-then-not-header_says : goal.returns-then-not-header_says
unfolding holds_of HeldExactly
returns-then-not-header_says c =
    both_yes _ _ _ (sym c.begins.ensures ∙ c.if-not-begins.false)
    (both_yes _ _ _ (sym c.widths_hold.ensures ∙ c.if-not-widths_hold.false)
    (both_yes _ _ _ (sym c.counts_fit.ensures ∙ c.if-not-counts_fit.false)
    (both_no _ _ (sym c.header_says.ensures ∙ c.if-not-header_says.true))))
    ∙ held_exactly c.args.section.now c.args.numbers.now

pub returns-then-numbers-eq0 : goal.returns-then-numbers-eq0
unfolding holds_of HeldExactly
returns-then-numbers-eq0 c =
    both_yes _ _ _ (sym c.begins.ensures ∙ c.if-not-begins.false)
    (both_yes _ _ _ (sym c.widths_hold.ensures ∙ c.if-not-widths_hold.false)
    (both_yes _ _ _ (sym c.counts_fit.ensures ∙ c.if-not-counts_fit.false)
    (both_yes _ _ _ (sym c.header_says.ensures ∙ c.if-not-header_says.false)
    (c.plain_holds.ensures ∙ ap (both _) (sym (if_true _ _ _ (eq-eqb _ 0 c.if-numbers-eq0.true)))))))
    ∙ held_exactly c.args.section.now c.args.numbers.now

pub returns : goal.returns
unfolding holds_of HeldExactly
returns c =
    both_yes _ _ _ (sym c.begins.ensures ∙ c.if-not-begins.false)
    (both_yes _ _ _ (sym c.widths_hold.ensures ∙ c.if-not-widths_hold.false)
    (both_yes _ _ _ (sym c.counts_fit.ensures ∙ c.if-not-counts_fit.false)
    (both_yes _ _ _ (sym c.header_says.ensures ∙ c.if-not-header_says.false)
    (c.packed_holds.ensures ∙ ap (both _) (sym (if_false _ _ _ (ne_eqb _ 0 c.if-numbers-eq0.false)))))))
    ∙ held_exactly c.args.section.now c.args.numbers.now
