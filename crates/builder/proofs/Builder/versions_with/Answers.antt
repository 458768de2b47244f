use mathlib.Core.Path.{sym, ap, ◌∙◌}
use Prim.Native.Nat.{ℕ, ◌+◌}
use native.Mathlib.Omega.{arith}
use Rattle.num.proofs.Choice.{if_true, if_false}
use Rattle.area.specs.Area.{area_versions}
use Rattle.builder.proofs.Standing.{stood, follows_key}
use Rattle.builder.proofs.Builder.versions_with.Goals as goal

pub returns-then-new_key : goal.returns-then-new_key
returns-then-new_key c = sym (if_true _ _ _ c.if-new_key.true)

pub overflow_add-self : goal.overflow_add-self
overflow_add-self c =
    let s = stood _ _ c.requires.0 in
    let k = s.keyed (follows_key _ _ c.requires.1 c.if-new_key.false) in
    omega (arith, k.last.head_inside, s.totals.used)

pub read-requires : goal.read-requires
read-requires c =
    let s = stood _ _ c.requires.0 in
    let k = s.keyed (follows_key _ _ c.requires.1 c.if-new_key.false) in
    omega (arith, k.last.head_inside, s.inside)

pub returns : goal.returns
unfolding area_versions
returns c = ap (λ (n : ℕ). n + 1) c.read.ensures ∙ sym (if_false _ _ _ c.if-new_key.false)
