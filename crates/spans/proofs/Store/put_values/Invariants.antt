use mathlib.Core.Path.{◌≡◌}
use mathlib.Core.Bool.{true}
use Prim.Native.Nat.{◌-◌, ◌+◌, ◌*◌, ◌<◌, ◌≤◌, ◌^◌}
use lib.ListN.{length}
use lib.Seq.{sets}
use Rattle.spans.specs.Span.{values_from, pair_numbers}
use Rattle.spans.specs.Internal.{is_given, pairs_of}
use Rattle.spans.proofs.Store.put_values.Given as goal

abbrev pub invariant-loop : goal.invariant-loop
invariant-loop l = (l.at < 2 ^ 32)
    × (l.to + 2 * (l.count - l.counter) ≤ length l.pairs)
    × (length l.pairs ≡ length l.initial.pairs)
    × (is_given (values_from (l.count - l.counter) l.self.section.now l.self.opened l.limit l.at) ≡ true)
    × (l.to + 2 * length (pairs_of (values_from (l.count - l.counter) l.self.section.now l.self.opened l.limit l.at)) ≡ 2 * length (pairs_of (values_from l.count l.self.section.now l.self.opened l.limit l.address)))
    × (sets l.pairs l.to (pair_numbers (pairs_of (values_from (l.count - l.counter) l.self.section.now l.self.opened l.limit l.at))) ≡ sets l.initial.pairs 0 (pair_numbers (pairs_of (values_from l.count l.self.section.now l.self.opened l.limit l.address))))
