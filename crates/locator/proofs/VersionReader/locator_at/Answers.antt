use native.Mathlib.Omega.{arith}
use Rattle.encoding.specs.Encoding.{version_len_of}
use Rattle.arena.proofs.Reading.{widths_read}
use Rattle.locator.proofs.VersionReader.locator_at.Goals as goal

pub uint-stored-requires : goal.uint-stored-requires
unfolding version_len_of
uint-stored-requires c = (omega arith, (widths_read _ c.args.self.now.allowed).4)
