use mathlib.Core.Path.{sym, ap, ◌∙◌}
use Prim.Native.Nat.{ℕ, ◌+◌, ◌-◌}
use native.Mathlib.Omega.{arith}
use Rattle.encoding.proofs.Widths.{widths_le}
use Rattle.encoding.proofs.Lengths.{version_le}
use Rattle.arena.proofs.Reading.{widths_read}
use Rattle.locator.specs.Locator.{versions_from}
use Rattle.locator.proofs.Versions.{stored_sum, version_outside, version_beyond, version_within, version_above, versions_none}
use borrow.Author.Rules.{rules}
use Rattle.locator.proofs.VersionReader.versions_from.Goals as goal

pub overflow_add-pos : goal.overflow_add-pos
overflow_add-pos c =
    let at = c.loop in
    let args = c.args in
    let pre = c.requires in
    omega (arith, (widths_le _ c.args.self.now.allowed).3)

pub returns-then-self-pos : goal.returns-then-self-pos
returns-then-self-pos c =
    let at = c.loop in
    let args = c.args in
    let pre = c.requires in
    sym (version_outside args.self.now.section.now args.self.now.opened at.pos args.limit (args.count - at.counter) (search rules) (search rules)) ∙ at.invariant.1

pub uint-stored-requires : goal.uint-stored-requires
uint-stored-requires c =
    let at = c.loop in
    let args = c.args in
    let pre = c.requires in
    (search rules, (widths_read _ c.args.self.now.allowed).3)

pub returns-then-most-stored : goal.returns-then-most-stored
returns-then-most-stored c =
    let at = c.loop in
    let args = c.args in
    let pre = c.requires in
    sym (version_beyond args.self.now.section.now args.self.now.opened at.pos args.limit (args.count - at.counter) c.uint-stored.result (search rules) (search rules) c.uint-stored.ensures (search rules)) ∙ at.invariant.1

pub version_at-requires : goal.version_at-requires
version_at-requires c =
    let at = c.loop in
    let args = c.args in
    let pre = c.requires in
    record { pos_in_bounds = omega arith; seq_value = stored_sum _ _ _ c.uint-stored.ensures }

pub returns-then-seq-limit : goal.returns-then-seq-limit
returns-then-seq-limit c =
    let at = c.loop in
    let args = c.args in
    let pre = c.requires in
    let e = stored_sum args.self.now.section.now args.self.now.opened at.pos c.uint-stored.ensures in
    c.version_at.ensures
    ∙ sym (version_within args.self.now.section.now args.self.now.opened at.pos args.limit (args.count - at.counter) (search rules) (search rules) (omega arith) (omega arith))
    ∙ at.invariant.1

pub overflow_add-pos-in-loop : goal.overflow_add-pos-in-loop
overflow_add-pos-in-loop c =
    let at = c.loop in
    let args = c.args in
    let pre = c.requires in
    omega (arith, version_le _ c.args.self.now.allowed, c.version_len-size.ensures)

pub loop-preserved : goal.loop-preserved
loop-preserved c =
    let at = c.loop in
    let args = c.args in
    let pre = c.requires in
    let e = stored_sum args.self.now.section.now args.self.now.opened at.pos c.uint-stored.ensures in
    let v = c.version_len-size.ensures in (
      omega (arith, version_le _ c.args.self.now.allowed),
      ap (λ (n : ℕ). versions_from (args.count - (at.counter + 1)) args.self.now.section.now args.self.now.opened (at.pos + n) args.limit) v
          ∙ sym (version_above args.self.now.section.now args.self.now.opened at.pos args.limit (args.count - at.counter) (args.count - (at.counter + 1)) (omega arith) (search rules) (omega arith) (omega arith))
          ∙ at.invariant.1,
    )

pub returns : goal.returns
returns c =
    let at = c.loop in
    let args = c.args in
    let pre = c.requires in
    sym (versions_none args.self.now.section.now args.self.now.opened at.pos args.limit (args.count - at.counter) (search rules)) ∙ at.invariant.1
