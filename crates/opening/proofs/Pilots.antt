-- Question 10, pilot by pilot.
-- Assumes nothing.
use mathlib.Core.Path.{◌≡◌}
use mathlib.Core.List.{List}
use mathlib.Core.Bool.{true}
use Prim.Native.Nat.{ℕ, ◌+◌, ◌*◌, ◌<◌}
use borrow.Author.Tests.{ltb-true}
use Rattle.num.specs.Choice.{either}
use Rattle.num.specs.Number.{le_at}
use Rattle.num.proofs.Steps.{each_yes}
use Rattle.point.specs.Hash.{is_direct, direct_slot}
use Rattle.encoding.specs.Encoding.{header_len}
use Rattle.header.specs.declared.Opened.{Opened}
use Rattle.opening.specs.Open.{pilot_inside_of, pilots_inside}

module _ (s : List ℕ) (o : Opened) where
  -- each of the pilots is inside
  pub pilots_each : pilots_inside s o ≡ true → (k : ℕ) → k < o.buckets → pilot_inside_of s o k ≡ true
  unfolding pilots_inside
  pilots_each = each_yes (pilot_inside_of s o) o.buckets

  -- a direct pilot that is inside names a slot below n
  pub pilot_slot : (k : ℕ) → pilot_inside_of s o k ≡ true → is_direct (le_at s (header_len + 4 * k) 4) ≡ true
      → direct_slot (le_at s (header_len + 4 * k) 4) < o.count
  unfolding pilot_inside_of either
  pilot_slot k e d = ltb-true _ _ (rw d at e)
