use mathlib.Core.Path.{◌≡◌}
use Prim.Native.Nat.{◌-◌, ◌<◌, ◌^◌}
use Rattle.spans.specs.Span.{values_from}
use Rattle.spans.specs.Internal.{refused_of}
use Rattle.spans.proofs.Store.keys_read.Given as goal

abbrev pub invariant-loop : goal.invariant-loop
invariant-loop l = (l.at < 2 ^ 32) × (refused_of (values_from (l.count - l.counter) l.self.section.now l.self.opened l.limit l.at) ≡ refused_of (values_from l.count l.self.section.now l.self.opened l.limit l.address))
