use mathlib.Core.Path.{◌≡◌, sym, ap, ◌∙◌}
use Prim.Native.Nat.{ℕ}
use native.Mathlib.Omega.{arith}
use Rattle.num.specs.Choice.{each_below}
use Rattle.num.proofs.Steps.{each_none, each_more, each_no}
use Rattle.opening.specs.Open.{pilot_inside_of, pilots_inside}
use Rattle.opening.proofs.PilotTable.pilots_inside.Goals as goal

pub loop-k-init : goal.loop-k-init
loop-k-init c = each_none _

pub returns-then-not-pilot_inside : goal.returns-then-not-pilot_inside
unfolding pilots_inside
returns-then-not-pilot_inside c = sym (each_no (pilot_inside_of _ _) _ _ c.loop-k-test.true (sym c.pilot_inside.ensures ∙ c.if-not-pilot_inside.true))

pub loop-k-preserved : goal.loop-k-preserved
loop-k-preserved c = (each_more (pilot_inside_of _ _) _ c.loop-k.invariant (sym c.pilot_inside.ensures ∙ c.if-not-pilot_inside.false))

pub returns : goal.returns
unfolding pilots_inside
returns c =
    let l = c.loop-k in
    let a = c.args in
    let n : a.self.now.opened.buckets ≡ l.k = omega arith in
    sym (ap (λ (i : ℕ). each_below i (pilot_inside_of a.self.now.section.now a.self.now.opened)) n ∙ l.invariant)
