use mathlib.Core.Path.{◌≡◌, sym, ap, ◌∙◌}
use Prim.Native.Nat.{ℕ}
use native.Mathlib.Omega.{arith}
use Rattle.num.specs.Choice.{each_below}
use Rattle.num.proofs.Steps.{each_none, each_more, each_no}
use Rattle.packing.specs.Packing.{pilot_packs}
use Rattle.packing.proofs.pilots_pack.Goals as goal

pub loop-k-init : goal.loop-k-init
loop-k-init c = each_none _

pub returns-then-not-pilot_packs : goal.returns-then-not-pilot_packs
returns-then-not-pilot_packs c = sym (each_no (pilot_packs _) _ _ c.loop-k-test.true (sym c.pilot_packs.ensures ∙ c.if-not-pilot_packs.true))

pub loop-k-preserved : goal.loop-k-preserved
loop-k-preserved c = (each_more (pilot_packs _) _ c.loop-k.invariant (sym c.pilot_packs.ensures ∙ c.if-not-pilot_packs.false))

pub returns : goal.returns
returns c =
    let l = c.loop-k in
    let a = c.args in
    let n : a.buckets ≡ l.k = omega arith in
    sym (ap (λ (i : ℕ). each_below i (pilot_packs a.section.now)) n ∙ l.invariant)
