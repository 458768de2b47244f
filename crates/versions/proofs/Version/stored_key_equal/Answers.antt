use mathlib.Core.Path.{refl, sym, ◌∙◌}
use native.Mathlib.Omega.{arith}
use Rattle.versions.proofs.Stored.{other_length, other_front, same_back}
use Rattle.versions.proofs.Version.stored_key_equal.Goals as goal

pub returns-then-key-shared : goal.returns-then-key-shared
returns-then-key-shared c =
    let pre = c.args.self.now.standing in
    sym (other_length _ _ _ pre _ (λ e. omega (arith, c.if-key-shared.true)))

pub returns-then-key-shared-2 : goal.returns-then-key-shared-2
returns-then-key-shared-2 c =
    let if1 = c.if-key-shared in
    let pre = c.args.self.now.standing in
    sym (other_length _ _ _ pre _ (λ e. c.if-key-shared-2.true (omega (arith, if1.false))))

pub returns-then-not-same_part : goal.returns-then-not-same_part
returns-then-not-same_part c =
    sym (other_front _ _ _ c.args.self.now.standing _ _ _ refl refl (sym c.same_part.ensures ∙ c.if-not-same_part.true))

pub returns : goal.returns
returns c =
    c.same_part-2.ensures
    ∙ same_back _ _ _ c.args.self.now.standing _ _ _ _ _ refl refl (omega (arith, c.if-key-shared.false, c.if-key-shared-2.false)) refl
    (sym c.same_part.ensures ∙ c.if-not-same_part.false)
