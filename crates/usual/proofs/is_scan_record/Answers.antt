use mathlib.Core.Path.{refl, sym, ◌∙◌}
use native.Mathlib.Omega.{arith}
use Rattle.num.specs.Choice.{both}
use Rattle.num.proofs.Choice.{both_true}
use Rattle.header.proofs.Questions.{begins_yes}
use Rattle.lookup.proofs.Tests.{said_yes}
use Rattle.usual.proofs.Facts.{scan_record}
use Rattle.usual.proofs.is_scan_record.Goals as goal

pub fields_match-requires : goal.fields_match-requires
fields_match-requires c =
    let l = (begins_yes _ (said_yes c.begins.ensures c.if-not-begins.false)).long in
    record { in_bounds = omega arith; numbers_value = said_yes c.usual_numbers.ensures c.if-not-usual_numbers.false; buckets_bound = omega arith }

pub start_matches-requires : goal.start_matches-requires
start_matches-requires c =
    let l = (begins_yes _ (said_yes c.begins.ensures c.if-not-begins.false)).long in
    record { in_bounds = omega arith; numbers_value = said_yes c.usual_numbers.ensures c.if-not-usual_numbers.false }

pub returns : goal.returns
unfolding both
returns c e =
    let a = c.args in
    let h = both_true c.fields_match.result _ e in
    let t = both_true c.start_matches.result _ h.1 in
    scan_record a.section.now a.numbers.now (λ n. (c.type_inv.section n).fits) a.first _ _ _ (omega arith)
    (said_yes c.begins.ensures c.if-not-begins.false)
    (said_yes c.usual_numbers.ensures c.if-not-usual_numbers.false)
    (sym c.fields_match.ensures ∙ h.0)
    (sym c.start_matches.ensures ∙ t.0)
    (sym c.scan_matches.ensures ∙ t.1)
    refl
    refl
    (omega arith)
