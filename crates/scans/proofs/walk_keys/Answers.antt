use mathlib.Core.Path.{◌≡◌, ap, ◌∙◌}
use Prim.Native.Nat.{◌+◌}
use native.Mathlib.Omega.{arith}
use Rattle.spans.specs.Span.{scan_address, values_from}
use Rattle.scans.proofs.Asked.{told_of}
use Rattle.scans.proofs.walk_keys.Goals as goal

pub returns : goal.returns
returns c =
    let k = c.args.keys.now in
    let e : k.first + 0 ≡ k.first = omega arith in
    told_of (ap (values_from k.count k.store.section.now k.store.opened c.args.limit) (c.address.ensures ∙ ap (scan_address k.store.section.now k.store.opened) e)) c.args.pairs.now
    c.values_from.ensures
