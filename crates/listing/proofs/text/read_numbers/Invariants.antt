use mathlib.Core.Path.{◌≡◌}
use Prim.Native.Nat.{◌*◌, ◌-◌, ◌/◌}
use lib.ListN.{length}
use lib.Seq.{sets}
use Rattle.listing.specs.Listing.{numbers_from, numbers_in}
use Rattle.listing.proofs.text.read_numbers.Given as goal

abbrev pub invariant-loop-i : goal.invariant-loop-i
invariant-loop-i l = sets l.to l.i (numbers_from l.file (8 * l.i) (length l.file / 8 - l.i)) ≡ sets l.initial.to 0 (numbers_in l.file)
