use Rattle.std.proofs.Common.{sym, ◌∙◌}
use Rattle.header.specs.Header.{flags_of}
use Rattle.opened.proofs.PackedAnswers.{packed_same}
use Rattle.opened.proofs.Same.{eq_same}
use Rattle.opened.proofs.is_packed.Goals as goal

pub returns-then-arena-section : goal.returns-then-arena-section
unfolding flags_of
returns-then-arena-section c =
    c.eq.ensures ∙ eq_same _ _
    ∙ packed_same _ _ _ _ c.fields-found.ensures c.read.ensures _ c.packed_record-packed.ensures
    (sym c.begins.ensures ∙ c.if-not-begins.false) (sym c.dimensions.ensures ∙ c.if-not-dimensions.false)
    (sym c.fits_packed.ensures ∙ c.if-not-fits_packed.false) c.if-arena-section.true
