use Rattle.std.proofs.Common.{◌≡◌, ℕ, ◌+◌, ◌-◌, ◌<◌, List, sym, refl, ap, ap₂, ◌∙◌, length, set, rules, arith}
use lib.Seq.{sets}
use Rattle.list.specs.Rows.{number_at, behind_all, numbers_at}
use Rattle.list.proofs.Rows.{behind_step, behind_done, numbers_step, numbers_done, numbers_whole}
use Rattle.list.proofs.row.Row.read.Goals as goal

pub loop-number-init : goal.loop-number-init
loop-number-init c =
    let a = c.args in
    let n : length a.to.now - 0 ≡ length a.to.now = omega arith in (
      refl,
      refl,
      ap (λ (k : ℕ). behind_all k a.self.now.place) n,
      ap (λ (k : ℕ). sets a.to.now 0 (numbers_at a.self.now.list.now a.self.now.place k)) n ∙ numbers_whole a.to.now a.self.now.list.now a.self.now.place,
    )

pub loop-number-preserved : goal.loop-number-preserved
loop-number-preserved c =
    let a = c.args in
    let l = c.loop-number in
    let n = length a.to.now in
    let list = l.invariant.0 in
    let number : c.number.result ≡ number_at a.self.now.list.now l.self.place = c.number.ensures.value ∙ ap (λ (s : List ℕ). number_at s l.self.place) list in
    let below : l.number-index < n = search rules in (
      c.number.ensures.list_kept ∙ list,
      (search rules),
      ap (behind_all (n - (l.number-index + 1))) c.number.ensures.moved ∙ behind_step n l.number-index l.self.place below ∙ l.invariant.2,
      ap₂ (λ (v p : ℕ). sets (set l.number-items l.number-index v) (l.number-index + 1) (numbers_at a.self.now.list.now p (n - (l.number-index + 1)))) number c.number.ensures.moved
          ∙ numbers_step l.number-items a.self.now.list.now n l.number-index l.self.place below
          ∙ l.invariant.3,
    )

pub returns-clause-values : goal.returns-clause-values
returns-clause-values c =
    let a = c.args in
    let l = c.loop-number in
    sym (numbers_done l.number-items a.self.now.list.now (length a.to.now) l.number-index l.self.place (search rules)) ∙ l.invariant.3

pub returns-clause-moved : goal.returns-clause-moved
returns-clause-moved c =
    let a = c.args in
    let l = c.loop-number in
    sym (behind_done (length a.to.now) l.number-index l.self.place (search rules)) ∙ l.invariant.2
