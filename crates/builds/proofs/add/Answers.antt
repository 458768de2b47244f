use Rattle.std.proofs.Common.{sym, ap, ◌∙◌, Result}
use Rattle.refusal.specs.declared.Refusal.{Refusal}
use Rattle.builder.specs.Add.{BuilderState, added_builder, added_area}
use Rattle.builds.proofs.Outcomes.{same_add, added_taken, added_refused}
use Rattle.builds.proofs.add.Goals as goal

pub returns-in-Ok : goal.returns-in-Ok
returns-in-Ok c =
    let s = c.args in
    let e = same_add s.area.now s.builder.now _ _ s.tombstone s.key.now s.value.now s.sequence s.new_key s.offset c.read_builder-b.ensures c.kind_from.ensures in
    let said = added_taken _ _ s.builder.now (sym c.in-Ok.is ∙ c.add.ensures.value ∙ ap added_builder e) in
    (said.0, c.add.ensures.area_after ∙ ap (λ (y : Result BuilderState Refusal). added_area y s.area.now) e, c.write_builder.ensures ∙ said.1)

pub returns-in-Err : goal.returns-in-Err
returns-in-Err c =
    let s = c.args in
    let e = same_add s.area.now s.builder.now _ _ s.tombstone s.key.now s.value.now s.sequence s.new_key s.offset c.read_builder-b.ensures c.kind_from.ensures in
    let said = added_refused _ _ s.builder.now (sym c.in-Err.is ∙ c.add.ensures.value ∙ ap added_builder e) in
    (c.number.ensures ∙ said.0, c.add.ensures.area_after ∙ ap (λ (y : Result BuilderState Refusal). added_area y s.area.now) e, said.1)
