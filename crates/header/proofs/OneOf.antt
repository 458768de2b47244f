-- A walk through a list of widths: whether one of those that are left is the one asked for.
-- Assumes nothing.
use mathlib.Core.Path.{◌≡◌, refl}
use mathlib.Core.Bool.{true, false}
use mathlib.Core.List.{List, [], ◌∷◌}
use Prim.Native.Nat.{ℕ, zero, suc, ◌+◌, ◌<◌}
use native.Mathlib.Omega.{arith}
use native.Mathlib.Numerals.{add-one}
use lib.Dec.{eqb}
use lib.ListN.{length, get_or, drop}
use borrow.Author.Tests.{eq-eqb}
use Rattle.num.specs.Choice.{either, one_of}

-- one more of a list of widths is another
pub more : (ws : List ℕ) (w i : ℕ) → i < length ws → eqb w (get_or ws i 0) ≡ false → one_of (drop (i + 1) ws) w ≡ one_of (drop i ws) w
unfolding one_of either
more [] w i h e = absurd (omega arith)
more (x ∷ ws) w zero h e = rw e refl
more (x ∷ ws) w (suc i) h e =
    let rest = more ws w i (omega arith) e in
    rw (add-one (suc i)) (rw (add-one i) at rest)

pub found : (ws : List ℕ) (w i : ℕ) → i < length ws → w ≡ get_or ws i 0 → one_of (drop i ws) w ≡ true
unfolding one_of either
found [] w i h e = absurd (omega arith)
found (x ∷ ws) w zero h e = rw (eq-eqb _ _ e) refl
found (x ∷ ws) w (suc i) h e = found ws w i (omega arith) e
