use Rattle.std.proofs.Common.{sym, ◌∙◌, arith}
use Rattle.area.specs.Area.{area_key_len}
use Rattle.readback.proofs.Reading.{first}
use Rattle.readback.proofs.Progress.key.Goals as goal

pub invariant_of-versions : goal.invariant_of-versions
unfolding area_key_len
invariant_of-versions c =
    let s = first _ _ _ _ _ _ c.read.ensures c.args.self.lent.inside c.args.self.running (sym c.version.ensures ∙ c.in_ok-read.was) in
    record { lent = c.args.self.lent; running = s.running }

pub versions-requires : goal.versions-requires
unfolding area_key_len
versions-requires c =
    let s = first _ _ _ _ _ _ c.read.ensures c.args.self.lent.inside c.args.self.running (sym c.version.ensures ∙ c.in_ok-read.was) in
    (omega (arith, s.keys), omega (arith, c.if-versions-eq0.false))
