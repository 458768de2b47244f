use Rattle.std.proofs.Common.{◌≡◌, true}
use Rattle.block.specs.Verify.{restarts_sound}
use Rattle.block.proofs.Entries.restarts_sound.Given as goal

abbrev pub invariant-loop-i : goal.invariant-loop-i
invariant-loop-i l = restarts_sound l.self.bytes.now l.self.end l.i ≡ true
