use mathlib.Core.Path.{refl, sym, ap, ◌∙◌}
use Prim.Native.Nat.{ℕ, ◌+◌}
use native.Mathlib.Nat.{add_comm}
use lib.Dec.{leb}
use borrow.Author.Tests.{lt-leb}
use Rattle.arena.proofs.Reading.{room_le}
use borrow.Author.Rules.{rules}
use Rattle.lookup.proofs.inside.Goals as goal

pub returns-then-all-bytes : goal.returns-then-all-bytes
returns-then-all-bytes c = let args = c.args in sym (lt-leb (args.place + args.bytes) args.len (search rules))

pub returns : goal.returns
returns c =
    let args = c.args in
    room_le args.place args.place args.bytes args.len (search rules) refl
    ∙ ap (λ (n : ℕ). leb n args.len) (add_comm args.bytes args.place)
