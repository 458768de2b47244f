use mathlib.Core.Path.{sym, ap}
use Prim.Native.Nat.{ℕ, ◌+◌, ◌*◌}
use native.Mathlib.Omega.{arith}
use lib.Dec.{leb}
use lib.ListN.{length, get_or}
use borrow.Author.Tests.{lt-leb}
use Rattle.num.specs.Number.{le_at}
use Rattle.usual.specs.Internal.{header_inside_of}
use Rattle.usual.proofs.header_inside.Goals as goal

pub returns-then-all-arena : goal.returns-then-all-arena
unfolding header_inside_of
returns-then-all-arena c =
    let a = c.args in
    sym (lt-leb (get_or a.numbers.now 4 0 + le_at a.section.now (a.scan + 24 + 4 * a.first) 4 + 14) (length a.section.now) (omega arith))

pub returns : goal.returns
unfolding header_inside_of
returns c =
    let a = c.args in
    ap (λ (n : ℕ). leb (get_or a.numbers.now 4 0 + n + 14) (length a.section.now)) c.read-address.ensures
