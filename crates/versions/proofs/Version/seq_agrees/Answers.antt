use native.Mathlib.Omega.{arith}
use Rattle.arena.proofs.Reading.{seq_width}
use Rattle.versions.proofs.VersionReading.{version_inside}
use Rattle.versions.proofs.Version.seq_agrees.Goals as goal

pub uint-requires : goal.uint-requires
uint-requires c =
    let v = c.args.self.now in
    (omega (arith, version_inside _ _ _ v.standing), seq_width _ v.widths)
