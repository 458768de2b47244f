use mathlib.Core.List.{List}
use mathlib.Core.Path.{◌≡◌, refl, sym, ap, ◌∙◌}
use Prim.Native.Nat.{ℕ, ◌+◌, ◌*◌, ◌-◌}
use native.Mathlib.Nat.{sub-zero}
use lib.Seq.{sets}
use Rattle.num.specs.Number.{le_bytes}
use Rattle.packed.specs.Packed.{pilot_at, pack_pilot, packed_pilots}
use native.Mathlib.Omega.{arith}
use Rattle.packed.proofs.Lengths.{accepted_slots}
use Rattle.packed.proofs.Written.{pilots_turn, pilots_done}
use Rattle.packed.proofs.Plain.put_pilots.Goals as goal

pub loop-k-init : goal.loop-k-init
loop-k-init c = (refl, rw sub-zero)

pub read-pilot-requires : goal.read-pilot-requires
read-pilot-requires c =
    let h = accepted_slots _ _ c.args.self.now.accepted in
    let k = c.loop-k-test.true in
    omega arith

pub loop-k-preserved : goal.loop-k-preserved
unfolding pilot_at
loop-k-preserved c =
    let l = c.loop-k in
    let a = c.args in
    let e : c.pack_pilot.result ≡ pack_pilot (pilot_at a.self.now.section.now l.k) = c.pack_pilot.ensures ∙ ap pack_pilot c.read-pilot.ensures in
    let w = c.put_uint.ensures ∙ ap (λ (v : ℕ). sets l.out (3 * l.k) (le_bytes 3 v)) (c.from.ensures ∙ e) in (
      c.put_uint.auto.out ∙ l.invariant.0,
      ap (λ (x : List ℕ). sets x (3 * (l.k + 1)) (packed_pilots a.self.now.section.now (l.k + 1) (a.self.now.opened.buckets - (l.k + 1)))) w ∙ pilots_turn a.self.now.section.now l.out l.k a.self.now.opened.buckets c.loop-k-test.true ∙ l.invariant.1,
    )

pub returns : goal.returns
returns c =
    let l = c.loop-k in
    let a = c.args in
    sym (pilots_done a.self.now.section.now l.out (3 * l.k) l.k a.self.now.opened.buckets c.loop-k-test.false) ∙ l.invariant.1
