use Rattle.area.specs.Area.{first_version_at, next_head}
use Rattle.std.proofs.Common.{refl, sym, ◌∙◌, arith, suc, ◌-◌}
use Rattle.builder.specs.Record.{empty_builder}
use Rattle.readback.specs.ReadBack.{area_read}
use Rattle.readback.proofs.Reading.{empty_running, key_stands}
use Rattle.readback.proofs.Steps.{keys_more, keys_refused, keys_done}
use Rattle.readback.proofs.area_read.Goals as goal

pub loop-read-init : goal.loop-read-init
unfolding empty_builder area_read
loop-read-init c = (empty_running _ _, suc c.args.end, omega arith, refl)

pub loop-read-smaller : goal.loop-read-smaller
unfolding next_head first_version_at
loop-read-smaller c =
    let s = key_stands _ _ _ _ c.requires.inside c.loop-read.invariant.0 (sym c.key.ensures ∙ c.in_ok-read.was) in
    omega (arith, s.used, c.loop-read-test.true)

pub loop-read-preserved : goal.loop-read-preserved
unfolding next_head first_version_at
loop-read-preserved c =
    let i = c.loop-read.invariant in
    let e = sym c.key.ensures ∙ c.in_ok-read.was in
    let s = key_stands _ _ _ _ c.requires.inside i.0 e in
    (s.running, i.1 - 1, omega (arith, s.used), sym (keys_more _ _ _ _ _ (omega arith) c.loop-read-test.true e) ∙ i.3)

pub returns-in_err-read : goal.returns-in_err-read
returns-in_err-read c =
    let i = c.loop-read.invariant in
    c.from_residual.ensures ∙ sym (keys_refused _ _ _ _ (omega arith) c.loop-read-test.true (sym c.key.ensures ∙ c.in_err-read.was)) ∙ i.3

pub returns : goal.returns
returns c = let i = c.loop-read.invariant in sym (keys_done _ _ _ _ (omega arith) c.loop-read-test.false) ∙ i.3
