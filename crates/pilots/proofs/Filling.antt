-- Storing the members of a bucket in their candidates.
-- Assumes nothing.
use Rattle.std.proofs.Common.{◌≡◌, ℕ, ◌+◌, ◌<◌, ◌≤◌, List, length, get_or, set, drop, sym, ap, ap₂, ◌∙◌}
use native.Mathlib.Numerals.{add-one}
use lib.ListN.{drop_of_length-le}
use lib.Seq.{drop-cons}
use Rattle.construction.specs.Construct.{filled}

module _ (slots ats members : List ℕ) (j : ℕ) where
  pub filling_turn : j < length ats → j < length members
      → filled slots (drop j ats) (drop j members) ≡ filled (set slots (get_or ats j 0) (get_or members j 0)) (drop (j + 1) ats) (drop (j + 1) members)
  unfolding filled
  filling_turn h l =
      ap₂ (filled slots) (drop-cons ats j 0 h) (drop-cons members j 0 l)
      ∙ ap (λ (k : ℕ). filled (set slots (get_or ats j 0) (get_or members j 0)) (drop k ats) (drop k members)) (sym (add-one j))

  pub filling_done : length ats ≤ j → length members ≤ j → slots ≡ filled slots (drop j ats) (drop j members)
  unfolding filled
  filling_done h l = sym (ap₂ (filled slots) (drop_of_length-le ats {i = j} h) (drop_of_length-le members {i = j} l))
