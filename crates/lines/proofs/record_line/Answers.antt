use Rattle.lines.specs.Lines.{line_defs}
use Rattle.lines.proofs.Parts.{wrote_then}
use Rattle.lines.proofs.record_line.Goals as goal

pub returns : goal.returns
unfolding line_defs
returns c =
    wrote_then c.put_key-seq_at.ensures.written
    (wrote_then c.put_labelled-kind_at.ensures.written
    (wrote_then c.put_kind-offset_at.ensures.written
    (wrote_then c.put_labelled-size_at.ensures.written
    (wrote_then c.put_labelled-end.ensures.written c.put.ensures))))
