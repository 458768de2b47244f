use mathlib.Core.Path.{◌≡◌, refl, sym, ap, ◌∙◌, subst⁻¹}
use Rattle.std.proofs.lemmas.Result.{err_from_is_err_and}
use native.Mathlib.Omega.{arith}
use Rattle.std.specs.Prelude.{ℕ, Option, Result, Ok, Err}
use Rattle.refusal.specs.declared.Refusal.{Refusal}
use Rattle.encoding.proofs.Widths.{widths_le}
use Rattle.spans.specs.Span.{value_end, first_within}
use Rattle.spans.specs.Internal.{value_read, Inside}
use Rattle.spans.proofs.Values.{met_inside, met_outside, placed_some, placed_none, placed_err, told_placed}
use Rattle.spans.proofs.Store.newest.Goals as goal

pub overflow_add-end : goal.overflow_add-end
overflow_add-end c = omega (arith, widths_le _ c.args.self.now.spannable.widths)

pub overflow_add-end-2 : goal.overflow_add-end-2
overflow_add-end-2 c = omega (arith, widths_le _ c.args.self.now.spannable.widths)

pub place_within-requires : goal.place_within-requires
place_within-requires c =
    record { from_bound = c.requires; room_bound = (omega arith, omega (arith, widths_le _ c.args.self.now.spannable.widths)) }

pub overflow_add-pos : goal.overflow_add-pos
overflow_add-pos c =
    let p = placed_some _ _ _ _ (told_placed _ _ _ _ _ _ c.place_within.ensures (omega arith)) (c.in_ok-pos.was ∙ ap Ok c.in-Some.is) in
    omega (arith, p.1, widths_le _ c.args.self.now.spannable.widths, c.well_formed)

pub returns-then-section-pos : goal.returns-then-section-pos
unfolding value_read Inside value_end
returns-then-section-pos c =
    let p = placed_some _ _ _ _ (told_placed _ _ _ _ _ _ c.place_within.ensures (omega arith)) (c.in_ok-pos.was ∙ ap Ok c.in-Some.is) in
    (sym (p.0 ∙ met_outside c.args.self.now.section.now c.args.self.now.opened _ c.args.limit (omega arith)), tt)

pub returns-else-section-pos : goal.returns-else-section-pos
unfolding value_read Inside value_end
returns-else-section-pos c =
    let p = placed_some _ _ _ _ (told_placed _ _ _ _ _ _ c.place_within.ensures (omega arith)) (c.in_ok-pos.was ∙ ap Ok c.in-Some.is) in
    (sym (p.0 ∙ met_inside c.args.self.now.section.now c.args.self.now.opened _ c.args.limit (omega arith)), omega arith)

pub returns-in-None : goal.returns-in-None
unfolding value_read Inside
returns-in-None c = (sym (placed_none _ _ _ _ (told_placed _ _ _ _ _ _ c.place_within.ensures (omega arith)) (c.in_ok-pos.was ∙ ap Ok c.in-None.is)), tt)

pub returns-in_err-pos : goal.returns-in_err-pos
unfolding value_read Inside
returns-in_err-pos c =
    let p = err_from_is_err_and c.from_residual.result c.from_residual.ensures.1 in
    let s = c.args.self.now.section.now in
    let o = c.args.self.now.opened in
    let e = p.1 ∙ ap (λ (x : Refusal). Err x) p.2 in
    subst⁻¹ (λ (r : Result (Option ℕ) Refusal). (value_read s o r ≡ first_within c.args.count s o c.args.from c.args.limit) × Inside s o r) e
    (sym (placed_err _ _ _ _ (told_placed _ _ _ _ _ _ c.place_within.ensures (omega arith)) c.in_err-pos.was refl), tt)
