use Rattle.std.proofs.Common.{arith}
use Rattle.tables.proofs.Parts.{scan_written}
use Rattle.tables.proofs.write_scan.Goals as goal

pub returns : goal.returns
returns c = scan_written _ _ _ _ _ _ _ _ (omega (arith, c.put_scan_head.auto.output)) c.put_scan_head.ensures c.put_numbers.ensures c.write.ensures
