use mathlib.Core.Path.{◌≡◌, refl, sym, ap, ◌∙◌}
use Prim.Native.Nat.{ℕ, ◌+◌, ◌*◌}
use native.Mathlib.Nat.{zero-mul, add-zero, add-mul}
use native.Mathlib.Omega.{arith}
use lib.Seq.{sets}
use Rattle.num.proofs.Parts.{entry_inside}
use Rattle.encoding.specs.Encoding.{version_len_of}
use Rattle.keyversions.proofs.Versions.{version_piece, versions_written, versions_start_lem, versions_turn, versions_done}
use Rattle.keyversions.proofs.Source.put_versions.Goals as goal

pub loop-j-init : goal.loop-j-init
loop-j-init c =
    let a = c.args in
    (refl, simp (zero-mul, add-zero), versions_start_lem a.self.now.layout.encoding a.self.now.least a.self.now.area.now a.first a.output.now a.at)

pub put_stored-requires : goal.put_stored-requires
put_stored-requires c =
    let a = c.args in
    let p = c.requires in
    let l = c.loop-j in
    let w = entry_inside l.j a.count (version_len_of a.self.now.layout.encoding) c.loop-j-test.true in
    record { least_first = p.stand.least_first l.j c.loop-j-test.true; room = omega arith }

pub overflow_add-end : goal.overflow_add-end
overflow_add-end c =
    let l = c.loop-j in
    let a = c.args in
    let w = entry_inside l.j a.count (version_len_of a.self.now.layout.encoding) c.loop-j-test.true in
    omega (arith, c.version-size.ensures, c.requires.room)

pub loop-j-preserved : goal.loop-j-preserved
unfolding version_piece
loop-j-preserved c =
    let l = c.loop-j in
    let a = c.args in (
      c.put_stored.auto.output ∙ l.invariant.0,
      omega (arith, c.version-size.ensures, add-mul l.j 1 (version_len_of a.self.now.layout.encoding)),
      versions_turn a.self.now.layout.encoding a.self.now.least a.self.now.area.now a.first a.output.now l.output c.put_stored.new.output a.at l.end l.j (sym l.invariant.1) l.invariant.2 c.put_stored.ensures,
    )

pub returns : goal.returns
returns c =
    let l = c.loop-j in
    let a = c.args in
    let e : l.j ≡ a.count = omega arith in record { output_after = l.invariant.2 ∙ ap (λ (n : ℕ). sets a.output.now a.at (versions_written a.self.now.layout.encoding a.self.now.least a.self.now.area.now a.first n)) e ∙ ap (sets a.output.now a.at) (versions_done a.self.now.layout.encoding a.self.now.least a.self.now.area.now a.first a.count); value = l.invariant.1 ∙ ap (λ (n : ℕ). a.at + n * version_len_of a.self.now.layout.encoding) e }
