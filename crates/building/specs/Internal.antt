-- Not on the reading path: what the proofs hand to each other.
use Rattle.std.specs.Prelude.{ℕ, ◌^◌, ◌<◌, ◌≤◌, ◌≡◌, Bool, true, List, [], ◌∷◌, length, get_or}
use Rattle.sstable.specs.Limits.{max_key_bytes, max_value_bytes}
use Rattle.builder.specs.Offer.{Offer}
use Rattle.builder.specs.Record.{Counted}
use Rattle.written.specs.Arena.{StoredVersion, KeyGroup, no_stored, no_group}
use Rattle.building.specs.Run.{Run}
use Rattle.building.specs.Taken.{groups_of, area_of, versions_of, builder_of}

-- what the record counts of a version
unfoldable pub counted_as : List ℕ → ℕ → StoredVersion → Bool → Counted
counted_as key count v new =
    record { key = key; count = count; size = v.size; seq = v.seq; offset = v.offset; new_key = new }

-- ---- what the questions leave of the groups

-- the numbers of a version fit its places in the area
pub record VersionSmall (v : StoredVersion) : Type 0 where
  pub seq : v.seq < 2 ^ 64
  pub size : v.size ≤ max_value_bytes
  pub offset : v.offset < 2 ^ 64
  pub checksum : v.checksum < 2 ^ 32

-- a key within the limits, with some versions
pub record GroupSmall (g : KeyGroup) : Type 0 where
  pub key : length g.key ≤ max_key_bytes
  pub some : 0 < length g.versions
  pub few : length g.versions ≤ 2 ^ 30
  pub versions : (j : ℕ) → j < length g.versions → VersionSmall (get_or g.versions j no_stored)

-- offsets do not fall, from a first bound on (question 32)
unfoldable pub Rising : ℕ → List StoredVersion → Type 0
Rising m [] = Unit {0}
Rising m (v ∷ vs) = (m ≤ v.offset) × Rising v.offset vs

-- groups whose entries pass 30 to 34
pub record Sound (gs : List KeyGroup) : Type 0 where
  pub small : (i : ℕ) → i < length gs → GroupSmall (get_or gs i no_group)
  pub rising : Rising 0 (versions_of gs)
  pub few : length gs ≤ 1048576
  pub used : length (area_of gs) ≤ 2 ^ 30

-- ---- a run

-- the first offer is marked a new key (question 31)
unfoldable pub StartsNew : List Offer → Type 0
StartsNew [] = Unit {0}
StartsNew (e ∷ es) = e.new_key ≡ true

-- what every run keeps
pub record Kept (r : Run) : Type 0 where
  pub builder : r.builder ≡ builder_of (groups_of r.taken)
  pub used : r.used ≡ area_of (groups_of r.taken)
  pub sound : Sound (groups_of r.taken)
  pub starts : StartsNew r.taken
