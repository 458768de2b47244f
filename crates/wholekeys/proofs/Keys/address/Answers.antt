use mathlib.Core.Path.{refl, ◌∙◌}
use Prim.Native.Nat.{◌+◌}
use Rattle.wholekeys.proofs.Whole.{table_address}
use Rattle.wholekeys.proofs.Keys.address.Goals as goal

pub returns : goal.returns
returns c =
    let k = c.args.self.now in
    c.read.ensures ∙ table_address k.store.section.now k.store.opened k.store.spannable.four (k.first + c.args.i) refl
