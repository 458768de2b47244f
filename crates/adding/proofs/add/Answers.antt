use Rattle.std.proofs.Common.{rules, sym, ◌∙◌}
use Rattle.builder.specs.Add.{versions_with}
use Rattle.builder.proofs.Standing.{countable}
use Rattle.builder.proofs.Asked.{key_limit, taken, refused_builder, refused_area, taken_answer}
use Rattle.builder.specs.Lent.{offered}
use Rattle.adding.proofs.Entry.{counted_record, asked_here}
use Rattle.adding.proofs.add.Goals as goal

pub versions_with-count-requires : goal.versions_with-count-requires
versions_with-count-requires c =
    let p = (taken _ _ _ (sym c.in_ok-refusal.was ∙ asked_here _ _ (offered c.args.offer) _ c.refusal.ensures)).0 in
    (p.stands, p.follows)

pub invariant_of-counter : goal.invariant_of-counter
invariant_of-counter c = record { countable = countable _ _ (taken _ _ _ (sym c.in_ok-refusal.was ∙ asked_here _ _ (offered c.args.offer) _ c.refusal.ensures)).0.stands }

pub invariant_of-builder_after : goal.invariant_of-builder_after
invariant_of-builder_after c = record { limit = key_limit _ _ (taken _ _ _ (sym c.in_ok-refusal.was ∙ asked_here _ _ (offered c.args.offer) _ c.refusal.ensures)).0.limits }

pub write_entry-requires : goal.write_entry-requires
write_entry-requires c = record { passed = (taken _ _ _ (sym c.in_ok-refusal.was ∙ asked_here _ _ (offered c.args.offer) _ c.refusal.ensures)).0; count_value = c.versions_with-count.ensures }

pub returns : goal.returns
unfolding versions_with
returns c =
    let r = taken_answer _ _ _ (taken _ _ _ (sym c.in_ok-refusal.was ∙ asked_here _ _ (offered c.args.offer) _ c.refusal.ensures)).1
    (counted_record _ _ _ _ _ c.versions_with-count.ensures c.builder_after-after.ensures) c.write_entry.ensures in
    record { value = r.0; area_after = r.1 }

pub returns-in_err-refusal-clause-value : goal.returns-in_err-refusal-clause-value
returns-in_err-refusal-clause-value c =
    search (rules, refused_builder _ _ (sym c.in_err-refusal.was ∙ asked_here _ _ (offered c.args.offer) _ c.refusal.ensures))

pub returns-in_err-refusal-clause-area_after : goal.returns-in_err-refusal-clause-area_after
returns-in_err-refusal-clause-area_after c =
    search (rules, refused_area _ _ c.args.area.now (sym c.in_err-refusal.was ∙ asked_here _ _ (offered c.args.offer) _ c.refusal.ensures))
