use mathlib.Core.Path.{ap, ap₂}
use Prim.Native.Nat.{ℕ, ◌+◌, ◌*◌}
use lib.Dec.{eqb}
use Rattle.num.specs.Choice.{both}
use Rattle.encoding.specs.Encoding.{scan_magic}
use Rattle.usual.specs.Internal.{scan_matches}
use Rattle.usual.proofs.scan_matches.Goals as goal

pub returns : goal.returns
unfolding scan_matches scan_magic both
returns c =
    let a = c.args in
    ap₂ both (ap (λ (n : ℕ). eqb n (24 + 4 * a.n)) c.read.ensures)
    (ap₂ both c.stands_at.ensures c.scan_settings.ensures)
