use Rattle.std.proofs.Common.{◌≡◌, ℕ, ◌+◌, ◌-◌, ◌<◌, List, eqb, sym, refl, ap, ap₂, ◌∙◌, length, get_or, drop, rules, arith}
use Rattle.std.specs.Prelude.{◌&&◌}
use Rattle.num.specs.Choice.{both}
use Rattle.list.specs.Rows.{number_at, behind_all, stand_at}
use Rattle.list.proofs.Rows.{behind_step, behind_done, stand_step, stand_done}
use Rattle.list.proofs.row.Row.has.Goals as goal

pub loop-number-init : goal.loop-number-init
unfolding both
loop-number-init c =
    let a = c.args in
    let n : length a.numbers.now - 0 ≡ length a.numbers.now = omega arith in
    (refl, ap (λ (k : ℕ). behind_all k a.self.now.place) n, refl)

pub loop-number-preserved : goal.loop-number-preserved
loop-number-preserved c =
    let a = c.args in
    let l = c.loop-number in
    let n = length a.numbers.now in
    let i = l.number-index in
    let list = l.invariant.0 in
    let number : c.number.result ≡ number_at a.self.now.list.now l.self.place = c.number.ensures.value ∙ ap (λ (s : List ℕ). number_at s l.self.place) list in
    let below : i < n = search rules in (
      c.number.ensures.list_kept ∙ list,
      ap (behind_all (n - (i + 1))) c.number.ensures.moved ∙ behind_step n i l.self.place below ∙ l.invariant.1,
      ap₂ (λ (v p : ℕ). both (l.same && eqb v (get_or a.numbers.now i 0)) (stand_at a.self.now.list.now p (drop (i + 1) a.numbers.now))) number c.number.ensures.moved
          ∙ stand_step l.same a.self.now.list.now a.numbers.now i l.self.place below
          ∙ l.invariant.2,
    )

pub returns-clause-value : goal.returns-clause-value
returns-clause-value c =
    let a = c.args in
    let l = c.loop-number in
    sym (stand_done l.same a.self.now.list.now a.numbers.now l.number-index l.self.place (search rules)) ∙ l.invariant.2

pub returns-clause-moved : goal.returns-clause-moved
returns-clause-moved c =
    let a = c.args in
    let l = c.loop-number in
    sym (behind_done (length a.numbers.now) l.number-index l.self.place (search rules)) ∙ l.invariant.1
