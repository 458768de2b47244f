use mathlib.Core.Path.{◌≡◌}
use mathlib.Core.Bool.{true}
use Rattle.wholekeys.proofs.Whole.{SoFar}
use Rattle.wholekeys.proofs.Keys.records_whole.Given as goal

abbrev pub invariant-loop-i : goal.invariant-loop-i
invariant-loop-i l = l.sound ≡ true → SoFar l.section l.o l.self.first l.most l.i l.next
