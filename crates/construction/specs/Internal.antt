-- Not on the reading path: what the contracts of private functions speak of.
use Rattle.std.specs.Prelude.{Bool, true, false, List, [], ◌∷◌, ℕ, zero, suc, ◌+◌, ◌≤◌, ◌^◌, eqb, length}
use Rattle.std.proofs.Math.Option.{Option, some, none}
use Rattle.num.specs.Choice.{when◌then◌else◌}
use Rattle.encoding.specs.Encoding.{buckets_of}
use Rattle.construction.specs.Construct.{Placement, bucket_count, size_of, is_free}
use Rattle.construction.specs.Scratch.{scratch_len, scratch_defs}

-- hashes and a scratch that construction takes
pub record Room (hs s : List ℕ) : Type 0 where
  pub some_key : 1 ≤ length hs
  pub few : length hs ≤ 2 ^ 20
  pub room : scratch_len (length hs) ≤ length s

-- how many of the first k slots are free
unfoldable pub free_to : List ℕ → ℕ → ℕ
free_to slots zero = 0
free_to slots (suc k) = free_to slots k + (when is_free slots k then 1 else 0)

unfoldable pub free_count : List ℕ → ℕ
free_count slots = free_to slots (length slots)

-- how many of these buckets have one member
unfoldable pub singles_in : List ℕ → List ℕ → ℕ
singles_in hs [] = 0
singles_in hs (x ∷ xs) = (when eqb (size_of hs x) 1 then 1 else 0) + singles_in hs xs

-- an answer with what it stands for
unfoldable pub served_as : Bool → Placement → Option Placement
served_as true t = some t
served_as false t = none

-- for proofs alone: `unfolding place_defs` opens the places of the scratch in numbers
unfoldable pub place_defs : ℕ
unfolding bucket_count buckets_of scratch_defs
place_defs = 0
