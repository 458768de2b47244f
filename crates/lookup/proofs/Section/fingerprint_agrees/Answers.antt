use mathlib.Core.Path.{sym, ap, ap₂, ◌∙◌}
use mathlib.Core.Bool.{Bool}
use Prim.Native.Nat.{◌+◌}
use native.Mathlib.Omega.{arith}
use lib.Dec.{eqb}
use Rattle.num.specs.Choice.{either}
use Rattle.num.specs.Number.{le_at}
use Rattle.point.specs.Hash.{fingerprint_of}
use Rattle.lookup.proofs.Places.{plain_slot}
use Rattle.lookup.proofs.Section.fingerprint_agrees.Goals as goal

pub returns-then-o : goal.returns-then-o
unfolding either
returns-then-o c =
    let args = c.args in
    sym (ap (λ (b : Bool). either b (eqb (le_at args.self.now.bytes.now (args.at + args.self.now.opened.encoding.address) 2) (fingerprint_of args.h))) c.if-o.true)

pub overflow_add-at : goal.overflow_add-at
overflow_add-at c =
    let pre = c.requires in
    let args = c.args in
    let e = plain_slot args.self.now.opened c.if-o.false in
    omega arith

pub read-requires : goal.read-requires
read-requires c =
    let pre = c.requires in
    let args = c.args in
    let e = plain_slot args.self.now.opened c.if-o.false in
    omega arith

pub returns : goal.returns
unfolding either
returns c =
    let args = c.args in
    ap₂ eqb c.read.ensures c.fingerprint.ensures
    ∙ sym (ap (λ (b : Bool). either b (eqb (le_at args.self.now.bytes.now (args.at + args.self.now.opened.encoding.address) 2) (fingerprint_of args.h))) c.if-o.false)
