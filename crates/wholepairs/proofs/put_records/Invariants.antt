use mathlib.Core.Path.{◌≡◌}
use mathlib.Core.Bool.{true}
use Prim.Native.Nat.{◌+◌, ◌*◌, ◌-◌, ◌≤◌}
use lib.ListN.{length}
use lib.Seq.{sets}
use Rattle.spans.specs.Span.{scan_address, values_from, pair_numbers}
use Rattle.spans.specs.Internal.{is_given, pairs_of}
use Rattle.wholepairs.proofs.put_records.Given as goal

abbrev pub invariant-loop-i : goal.invariant-loop-i
invariant-loop-i l = (l.to + 2 * (l.keys.count - l.i) ≤ length l.pairs)
    × (length l.pairs ≡ length l.initial.pairs)
    × (is_given (values_from (l.keys.count - l.i) l.section l.o (l.o.min_seq + l.within) (scan_address l.section l.o (l.keys.first + l.i))) ≡ true)
    × (l.to + 2 * length (pairs_of (values_from (l.keys.count - l.i) l.section l.o (l.o.min_seq + l.within) (scan_address l.section l.o (l.keys.first + l.i)))) ≡ 2 * length (pairs_of (values_from l.keys.count l.section l.o (l.o.min_seq + l.within) (scan_address l.section l.o l.keys.first))))
    × (sets l.pairs l.to (pair_numbers (pairs_of (values_from (l.keys.count - l.i) l.section l.o (l.o.min_seq + l.within) (scan_address l.section l.o (l.keys.first + l.i))))) ≡ sets l.initial.pairs 0
    (pair_numbers (pairs_of (values_from l.keys.count l.section l.o (l.o.min_seq + l.within) (scan_address l.section l.o l.keys.first)))))
