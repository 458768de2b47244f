use Rattle.std.proofs.Common.{ℕ, List, length, Result, ap, ◌∙◌}
use Rattle.refusal.specs.Refusal.{answer_number, answer_left}
use Rattle.refusal.specs.declared.Refusal.{Refusal}
use Rattle.builder.specs.declared.Builder.{Builder}
use Rattle.writer.specs.Write.{write_of, section_written}
use Rattle.writing.specs.Wrote.{wrote_read}
use Rattle.builds.proofs.Outcomes.{length_left, number_left}
use Rattle.builds.proofs.write.Goals as goal

pub returns : goal.returns
returns c =
    let s = c.args in
    let call = c.write-written in
    let e = ap (λ (k : Builder). write_of s.area.now k s.prefix (length s.scratch64.now) (length s.scratch32.now) (length s.output.now)) c.read_builder-b.ensures in
    let said = call.ensures.value ∙ ap wrote_read e in (
      c.answered.ensures.0 ∙ ap (λ (a : Result ℕ Refusal). answer_number a) said ∙ number_left _,
      call.ensures.output_after ∙ ap (λ (y : Result (List ℕ) Refusal). section_written y s.output.now) e,
      c.answered.ensures.1 ∙ ap (λ (a : Result ℕ Refusal). answer_left a s.len.now) said ∙ length_left _ s.len.now,
      call.ensures.hashes_len_unchanged.0,
      call.ensures.hashes_len_unchanged.1,
    )
