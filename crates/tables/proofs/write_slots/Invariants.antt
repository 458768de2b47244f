use mathlib.Core.Path.{◌≡◌}
use lib.ListN.{length, get_or}
use lib.Seq.{sets}
use Rattle.written.specs.Joined.{joined, fields_bytes}
use Rattle.tables.specs.Internal.{listed_slot}
use Rattle.tables.proofs.write_slots.Given as goal

abbrev pub invariant-loop-m : goal.invariant-loop-m
invariant-loop-m l = (length l.output ≡ length l.initial.output) × (l.output ≡ sets l.initial.output 0 (joined (λ k. fields_bytes (listed_slot l.address l.addresses l.hashes (get_or l.slots k 0))) l.m))
