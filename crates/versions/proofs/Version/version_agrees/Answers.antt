use Rattle.arena.proofs.Reading.{address_width}
use Rattle.versions.proofs.VersionReading.{version_inside}
use Rattle.versions.proofs.Version.version_agrees.Goals as goal

pub uint-requires : goal.uint-requires
uint-requires c =
    let v = c.args.self.now in
    (version_inside _ _ _ v.standing, address_width _ v.widths)
