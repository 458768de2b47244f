use mathlib.Core.Path.{◌≡◌}
use Prim.Native.Nat.{◌-◌, ◌+◌, ◌*◌, ◌≤◌}
use lib.ListN.{length}
use Rattle.encoding.specs.Encoding.{version_len_of}
use Rattle.spans.specs.Span.{first_within}
use Rattle.wholepairs.proofs.put_newest.Given as goal

abbrev pub invariant-loop : goal.invariant-loop
invariant-loop l = (l.pairs ≡ l.initial.pairs)
    × (l.pos + (l.versions - l.counter) * version_len_of l.store.opened.encoding + 8 ≤ length l.section)
    × (first_within (l.versions - l.counter) l.section l.store.opened l.pos (l.store.opened.min_seq + l.within) ≡ first_within l.versions l.section l.store.opened l.from (l.store.opened.min_seq + l.within))
