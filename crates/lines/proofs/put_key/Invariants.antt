use Rattle.std.proofs.Common.{◌≡◌, ◌+◌, ◌*◌, take}
use Rattle.lines.specs.Lines.{hex_of}
use Rattle.lines.specs.Wrote.{Wrote}
use Rattle.lines.proofs.put_key.Given as goal

abbrev pub invariant-loop-byte : goal.invariant-loop-byte
invariant-loop-byte l = record {
  written : Wrote l.initial.out l.out l.at (hex_of (take l.byte-index l.key)) l.end;
  place : l.end ≡ l.at + 2 * l.byte-index;
}
