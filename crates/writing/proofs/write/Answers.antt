use Rattle.std.proofs.Common.{rules, refl, sym, ◌∙◌}
use Rattle.writing.proofs.Questions.{passed_asked, failed_asked}
use Rattle.writing.proofs.Building.{refused_given}
use Rattle.writing.proofs.write.Goals as goal

pub build-requires : goal.build-requires
build-requires c = passed_asked (sym c.section_len_asked.ensures ∙ c.in_ok-size.was)

pub returns-in_err-size : goal.returns-in_err-size
returns-in_err-size c =
    let r = refused_given _ _ _ _ _ _ _ c.args.output.now (failed_asked _ _ _ _ _ _ _ (sym c.section_len_asked.ensures ∙ c.in_err-size.was)) in
    record { value = search (rules, r.0); output_after = r.1; hashes_len_unchanged = (refl, refl) }
