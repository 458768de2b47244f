use mathlib.Core.Path.{ap, sym, ◌∙◌}
use Prim.Native.Nat.{ℕ, ◌+◌, ◌*◌, ◌-◌, ◌/◌}
use native.Mathlib.Nat.{sub-zero}
use lib.ListN.{length, set}
use lib.Seq.{sets}
use Rattle.listing.specs.Listing.{numbers_from, numbers_in}
use Rattle.listing.proofs.Numbers.{numbers_step, numbers_done}
use Rattle.listing.proofs.text.read_numbers.Goals as goal

pub loop-i-init : goal.loop-i-init
unfolding numbers_in
loop-i-init c = ap (λ (n : ℕ). sets c.args.to.now 0 (numbers_from c.args.file.now 0 n)) (sub-zero (length c.args.file.now / 8))

pub loop-i-preserved : goal.loop-i-preserved
loop-i-preserved c =
    let a = c.args in
    let l = c.loop-i in
    ap (λ (v : ℕ). sets (set l.to l.i v) (l.i + 1) (numbers_from a.file.now (8 * (l.i + 1)) (length a.file.now / 8 - (l.i + 1)))) c.read.ensures
    ∙ numbers_step l.to a.file.now (length a.file.now / 8) l.i c.loop-i-test.true
    ∙ l.invariant

pub returns : goal.returns
returns c =
    let a = c.args in
    let l = c.loop-i in
    sym (numbers_done l.to a.file.now (length a.file.now / 8) l.i c.loop-i-test.false) ∙ l.invariant
