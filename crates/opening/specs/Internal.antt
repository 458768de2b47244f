-- Not on the reading path: what the contracts of private functions speak of.
use Rattle.std.specs.Prelude.{List, ℕ, Result, Ok, Err}
use Rattle.refusal.specs.declared.Refusal.{Refusal}
use Rattle.validate.specs.declared.Carried.{Carried}
use Rattle.num.specs.Choice.{when◌then◌else◌, both, either}
use Rattle.point.specs.Hash.{is_direct, direct_slot}
use Rattle.opening.specs.Open.{PairsEnd, pilot_inside_of, prefixes_counted, contents_for, open_of}
use Rattle.validate.specs.Internal.{progress_in}

-- what the pairs answered, read back from the scratch
unfoldable pub ended_for : ℕ → List ℕ → Result (ℕ × Carried) Refusal → Result PairsEnd Refusal
ended_for half scratch (Ok (at, w)) = Ok (record { at = at; progress = progress_in half scratch w })
ended_for half scratch (Err n) = Err n

-- for proofs alone: what they open together
unfoldable pub pilot_defs : ℕ
unfolding pilot_inside_of is_direct direct_slot when◌then◌else◌ both either
pilot_defs = 0

unfoldable pub prefix_defs : ℕ
unfolding prefixes_counted when◌then◌else◌ both either
prefix_defs = 0

unfoldable pub open_defs : ℕ
unfolding open_of contents_for
open_defs = 0
