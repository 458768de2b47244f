use Rattle.std.proofs.Common.{sym, ◌∙◌}
use Rattle.refusal.proofs.Asked.{asked}
use Rattle.builder.specs.Record.{size_of_section}
use Rattle.builder.proofs.Standing.{sizeable_bounded}
use Rattle.writing.proofs.section_len_asked.Goals as goal

pub reads_back-requires : goal.reads_back-requires
unfolding size_of_section
reads_back-requires c = (asked _ _ _ _ (sym c.size.ensures ∙ c.in_ok-size.was)).0

pub scratch_enough-requires : goal.scratch_enough-requires
unfolding size_of_section
scratch_enough-requires c = (sizeable_bounded _ (asked _ _ _ _ (sym c.size.ensures ∙ c.in_ok-size.was)).0).keys
