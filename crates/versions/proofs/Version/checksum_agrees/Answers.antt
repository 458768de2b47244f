use Rattle.versions.proofs.VersionReading.{checksum_inside}
use Rattle.versions.proofs.Version.checksum_agrees.Goals as goal

pub read-requires : goal.read-requires
read-requires c = checksum_inside _ _ _ c.args.self.now.standing c.if-not-e.false
