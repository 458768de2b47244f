use Prim.Native.Nat.{ℕ, ◌*◌}
use mathlib.Core.Path.{ap}
use native.Mathlib.Omega.{arith}
use Rattle.writer.specs.Write.{groups_in}
use Rattle.sections.proofs.Tables.{scan_none, scan_put}
use Rattle.sections.proofs.put_scan.Goals as goal

pub invariant_of-keys : goal.invariant_of-keys
invariant_of-keys c = record { stand = c.requires.keys_stand.inside }

pub write_scan-requires : goal.write_scan-requires
write_scan-requires c =
    omega (arith, c.requires.room c.if-prefix-gt0.true, ap (λ (n : ℕ). n * c.args.source.now.layout.encoding.address) c.requires.each)

pub returns-then-prefix-gt0 : goal.returns-then-prefix-gt0
unfolding groups_in
returns-then-prefix-gt0 c =
    scan_put c.requires _ _ c.if-prefix-gt0.true c.count_prefixes-prefixes.ensures c.write_scan.ensures

pub returns-else-prefix-gt0 : goal.returns-else-prefix-gt0
returns-else-prefix-gt0 c = scan_none _ _ _ _ c.if-prefix-gt0.false
