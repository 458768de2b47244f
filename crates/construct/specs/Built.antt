-- What construction leaves in the memory that it is lent.
use Rattle.std.specs.Prelude.{ℕ, ◌≡◌, List, Option, Some, None, length, take}
use Rattle.std.specs.Prelude.{Result, Ok, Err}
use Rattle.refusal.specs.declared.Refusal.{Refusal}
use Rattle.refusal.specs.declared.Refusal.TheVariants as refusal
use Rattle.construction.specs.Construct.{Constructed, hashes_of}
use Rattle.construction.specs.Scratch.{placement_in}

-- an answer with the placement of n keys that stands in the scratch
unfoldable pub built_as : Option ℕ → ℕ → List ℕ → Result Constructed Refusal
built_as (Some s) n scratch = Ok (record { seed = s; placement = placement_in n scratch })
built_as None n scratch = Err refusal.NoSeed

-- behind a seed stand the hashes of the keys under it
unfoldable pub Hashed : Option ℕ → List (List ℕ) → List ℕ → Type 0
Hashed (Some s) keys hashes = take (length keys) hashes ≡ hashes_of keys s
Hashed None keys hashes = Unit {0}

-- for proofs alone: `unfolding built_defs` opens the definitions of this file
unfoldable pub built_defs : ℕ
unfolding built_as Hashed
built_defs = 0
