use Rattle.std.proofs.Common.{sym, ◌∙◌}
use Rattle.builder.proofs.Standing.{sizeable_bounded}
use Rattle.refusal.proofs.Asked.{asked}
use Rattle.builder.proofs.Builder.size.Goals as goal

pub for_builder-layout-requires : goal.for_builder-layout-requires
for_builder-layout-requires c = sizeable_bounded _ (sym c.sizeable.ensures ∙ (asked _ _ _ _ (sym c.ask.ensures ∙ c.in_ok-ask.was)).0)

pub section_len-requires : goal.section_len-requires
section_len-requires c = sizeable_bounded _ (sym c.sizeable.ensures ∙ (asked _ _ _ _ (sym c.ask.ensures ∙ c.in_ok-ask.was)).0)
