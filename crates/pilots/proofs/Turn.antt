-- A member's turn, as the code takes it: `at` is its slot under a pilot, `r` whether that is a candidate already.
-- Assumes nothing.
use Rattle.std.proofs.Common.{◌≡◌, ℕ, ◌+◌, ◌<◌, ◌≤◌, Bool, true, false, List, length, get_or, set, take, sym, ap, ◌∙◌, arith, eq-eqb, take_all}
use borrow.Author.Tests.{ne_eqb}
use Rattle.num.specs.Choice.{one_of}
use Rattle.point.specs.Hash.{position_of}
use Rattle.construction.specs.Construct.{is_free, placeable, positions_of}
use Rattle.pilots.specs.Internal.{Fits, few}
use Rattle.pilots.proofs.Candidates.{positions_length, positions_at, positions_below, Tried, tried_taken, tried_twice, tried_many, tried_few, tried_all}

module _ (pilot : ℕ) {hs members slots candidates₀ indices₀ candidates indices : List ℕ} {j : ℕ} (fits : Fits hs members slots candidates₀ indices₀)
    (t : Tried slots (positions_of hs members pilot) j candidates indices) (same : length candidates ≡ length candidates₀) where
  room : length (positions_of hs members pilot) ≤ length candidates
  room = omega (arith, positions_length hs members pilot, fits.size, fits.candidates_room)

  module _ (h : j < length members) where
    low : j < length (positions_of hs members pilot)
    low = omega (arith, positions_length hs members pilot)

    module _ {at : ℕ} (e : at ≡ position_of (get_or hs (get_or members j 0) 0) pilot (length slots)) where
      place_is : at ≡ get_or (positions_of hs members pilot) j 0
      place_is = e ∙ ap (position_of (get_or hs (get_or members j 0) 0) pilot) fits.slots_length ∙ sym (positions_at hs members pilot j h)

      pub at_inside : at < length hs
      at_inside = rw place_is (positions_below hs members pilot j fits.some_key h)

      pub turn_taken : (get_or slots at 0 ≡ length slots → ⊥) → false ≡ placeable slots (positions_of hs members pilot)
      unfolding is_free
      turn_taken n = tried_taken t low room (rw (sym place_is) (ne_eqb _ _ n))

      module _ {r : Bool} (asked : r ≡ one_of (take j candidates) at) where
        pub turn_twice : r ≡ true → false ≡ placeable slots (positions_of hs members pilot)
        turn_twice y = tried_twice t low room (rw (sym place_is) (sym asked ∙ y))

        module _ (free : get_or slots at 0 ≡ length slots) (no : r ≡ false) where
          is_free_at : is_free slots (get_or (positions_of hs members pilot) j 0) ≡ true
          unfolding is_free
          is_free_at = rw (sym place_is) (eq-eqb _ _ free)

          is_new : one_of (take j candidates) (get_or (positions_of hs members pilot) j 0) ≡ false
          is_new = rw (sym place_is) (sym asked ∙ no)

          pub turn_many : at < length indices → Tried slots (positions_of hs members pilot) (j + 1) (set candidates j at) (set indices at j)
          turn_many inside = rw place_is (tried_many t low room is_free_at is_new (rw (sym place_is) inside))

          pub turn_few : length members ≤ few → Tried slots (positions_of hs members pilot) (j + 1) (set candidates j at) indices
          turn_few l = rw place_is (tried_few t low room is_free_at is_new (omega (arith, positions_length hs members pilot)))

  module _ (done : j ≡ length members) where
    all : Tried slots (positions_of hs members pilot) (length (positions_of hs members pilot)) candidates indices
    all = rw (positions_length hs members pilot, ← done) t

    pub turns_serve : true ≡ placeable slots (positions_of hs members pilot)
    turns_serve = sym (tried_all all)

    pub turns_chosen : take (length members) candidates ≡ (positions_of hs members pilot)
    turns_chosen = rw (sym (positions_length hs members pilot)) (all.chosen ∙ take_all (length (positions_of hs members pilot)) (positions_of hs members pilot) (omega arith))
