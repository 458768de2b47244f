use Rattle.std.proofs.Common.{arith}
use Rattle.lines.proofs.Hexadecimal.{hex_of_more}
use Rattle.lines.proofs.Parts.{wrote_both}
use Rattle.lines.proofs.put_key.Goals as goal

pub loop-byte-preserved : goal.loop-byte-preserved
loop-byte-preserved c = record {
  written = wrote_both c.loop-byte.invariant.written c.put-end.ensures (cc (hex_of_more c.args.key.now c.loop-byte.byte-index c.loop-byte-test.true));
  place = omega (arith, c.put-end.ensures.behind);
}
