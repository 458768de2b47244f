use mathlib.Core.Path.{◌≡◌}
use Prim.Native.Nat.{◌+◌, ◌*◌}
use lib.ListN.{length}
use lib.Seq.{sets}
use Rattle.encoding.specs.Encoding.{version_len_of}
use Rattle.keyversions.proofs.Versions.{versions_written}
use Rattle.keyversions.proofs.Source.put_versions.Given as goal

-- The loop's invariant: the versions before version j are written, and `end` is behind them.
-- Assumes nothing.
abbrev pub invariant-loop-j : goal.invariant-loop-j
invariant-loop-j l = (length l.output ≡ length l.initial.output) × (l.end ≡ l.at + l.j * version_len_of l.self.layout.encoding) × (l.output ≡ sets l.initial.output l.at (versions_written l.self.layout.encoding l.self.least l.self.area.now l.first l.j))
