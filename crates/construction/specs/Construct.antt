-- Construction: a seed, a pilot for each bucket, and for each slot its key (document 01, "Building": "Buckets go by falling size, equal
-- sizes by lower number .. Pilots are the least below 100,000", and question 40; `construct_with_bucket_size` of point.rs with two keys per
-- bucket). Keys are known by their numbers, from 0 on, in the order of the list. `hs` below is the list of their hashes under a seed.
use Rattle.std.specs.Prelude.{ℕ, zero, suc, ◌+◌, ◌^◌, List, [], ◌∷◌, ◌++◌, map, Bool, true, false, not, eqb, leb, length, get_or, set, take, replicate}
use Rattle.std.proofs.Math.Option.{Option, some, none}
use Rattle.num.specs.Choice.{when◌then◌else◌, ask◌otherwise◌then◌, both, one_of, each_below}
use Rattle.std.specs.Prelude.{Result, Ok, Err}
use Rattle.refusal.specs.declared.Refusal.{Refusal}
use Rattle.refusal.specs.declared.Refusal.TheVariants as refusal
use Rattle.num.specs.Wrapping.{mul_mod}
use Rattle.encoding.specs.Encoding.{buckets_of}
use Rattle.point.specs.Hash.{hash_step, mix_of, hash_value, bucket_of, position_of}
use Rattle.classes.specs.Classes.{items_of}

-- seed k of the eight: mix(STEP × k), k from 1 on
unfoldable pub seed_of : ℕ → ℕ
seed_of k = mix_of (mul_mod hash_step k)

-- the hashes of the keys under a seed
unfoldable pub hashes_of : List (List ℕ) → ℕ → List ℕ
hashes_of keys seed = map (λ key. hash_value key seed) keys

-- ---- buckets and their order

-- the number of buckets
unfoldable pub bucket_count : List ℕ → ℕ
bucket_count hs = buckets_of (length hs)

-- the bucket of each key
unfoldable pub key_buckets : List ℕ → List ℕ
key_buckets hs = map (λ h. bucket_of h (bucket_count hs)) hs

-- the members of bucket x: its keys, rising
unfoldable pub members_of : List ℕ → ℕ → List ℕ
members_of hs x = items_of (key_buckets hs) x

-- the size of bucket x
unfoldable pub size_of : List ℕ → ℕ → ℕ
size_of hs x = length (members_of hs x)

-- the sizes of the buckets below x
unfoldable pub sizes_to : List ℕ → ℕ → List ℕ
sizes_to hs zero = []
sizes_to hs (suc x) = sizes_to hs x ++ (size_of hs x ∷ [])

-- the buckets of a size, rising
unfoldable pub buckets_sized : List ℕ → ℕ → List ℕ
buckets_sized hs size = items_of (sizes_to hs (bucket_count hs)) size

-- the buckets of at most a size: by falling size, equal sizes by lower number
unfoldable pub falling_from : List ℕ → ℕ → List ℕ
falling_from hs zero = buckets_sized hs zero
falling_from hs (suc size) = buckets_sized hs (suc size) ++ falling_from hs size

-- all buckets in their order: no bucket has more members than there are keys
unfoldable pub order_of : List ℕ → List ℕ
order_of hs = falling_from hs (length hs)

-- ---- what is built up: a pilot for each bucket, and for each slot the number of its key

pub record Placement : Type 0 where
  pub pilots : List ℕ
  pub slots : List ℕ

-- a slot is free while it holds the number of keys, which is no key's number
unfoldable pub empty_placement : List ℕ → Placement
empty_placement hs = record { pilots = replicate (bucket_count hs) 0; slots = replicate (length hs) (length hs) }

unfoldable pub is_free : List ℕ → ℕ → Bool
is_free slots at = eqb (get_or slots at 0) (length slots)

-- ---- buckets of two and more: the least pilot that serves

-- does no number of the list stand in it twice?
unfoldable pub different : List ℕ → Bool
different l = each_below (length l) (λ j. not (one_of (take j l) (get_or l j 0)))

-- the positions of keys under a pilot
unfoldable pub positions_of : List ℕ → List ℕ → ℕ → List ℕ
positions_of hs members pilot = map (λ i. position_of (get_or hs i 0) pilot (length hs)) members

-- are these slots free and different?
unfoldable pub placeable : List ℕ → List ℕ → Bool
placeable slots ats = both (each_below (length ats) (λ j. is_free slots (get_or ats j 0))) (different ats)

-- does a pilot serve bucket x?
unfoldable pub serves : List ℕ → List ℕ → ℕ → ℕ → Bool
serves hs slots x pilot = placeable slots (positions_of hs (members_of hs x) pilot)

-- pilots are below 100,000
abbrev pub pilot_limit : ℕ
pilot_limit = 100000

-- the least of `count` pilots from one on that serves
unfoldable pub pilot_from : ℕ → List ℕ → List ℕ → ℕ → ℕ → Option ℕ
pilot_from zero hs slots x pilot = none
pilot_from (suc count) hs slots x pilot =
    elim (serves hs slots x pilot) [ true ↦ some pilot | false ↦ pilot_from count hs slots x (pilot + 1) ]

-- the least of all
unfoldable pub least_pilot : List ℕ → List ℕ → ℕ → Option ℕ
least_pilot hs slots x = pilot_from pilot_limit hs slots x 0

-- the slots with each key in its place
unfoldable pub filled : List ℕ → List ℕ → List ℕ → List ℕ
filled slots (at ∷ ats) (i ∷ members) = filled (set slots at i) ats members
filled slots [] members = slots
filled slots (at ∷ ats) [] = slots

-- bucket x with its pilot
unfoldable pub bucket_placed : List ℕ → Placement → ℕ → ℕ → Placement
bucket_placed hs t x pilot =
    record {
      pilots = set t.pilots x pilot;
      slots = filled t.slots (positions_of hs (members_of hs x) pilot) (members_of hs x);
    }

unfoldable pub bucket_placed_for : List ℕ → Placement → ℕ → Option ℕ → Option Placement
bucket_placed_for hs t x none = none
bucket_placed_for hs t x (some pilot) = some (bucket_placed hs t x pilot)

-- bucket x, if it has two members or more; without a pilot the seed fails
unfoldable pub place_bucket : List ℕ → Placement → ℕ → Option Placement
place_bucket hs t x = when leb 2 (size_of hs x) then bucket_placed_for hs t x (least_pilot hs t.slots x) else some t

-- buckets, one after another
unfoldable pub place_buckets : List ℕ → Placement → List ℕ → Option Placement
place_buckets hs t [] = some t
place_buckets hs t (x ∷ xs) = elim (place_bucket hs t x) [ some u ↦ place_buckets hs u xs | none ↦ none ]

-- ---- buckets of one: the least free slot, named directly

-- the first free one of `count` slots from one on, or the slot behind them
unfoldable pub free_from : ℕ → List ℕ → ℕ → ℕ
free_from zero slots at = at
free_from (suc count) slots at = elim (is_free slots at) [ true ↦ at | false ↦ free_from count slots (at + 1) ]

unfoldable pub least_free : List ℕ → ℕ
least_free slots = free_from (length slots) slots 0

-- a pilot with bit 31 names a slot
unfoldable pub direct_pilot : ℕ → ℕ
direct_pilot at = 2 ^ 31 + at

-- bucket x, if it has one member
unfoldable pub place_single : List ℕ → Placement → ℕ → Placement
place_single hs t x =
    when eqb (size_of hs x) 1 then
    record { pilots = set t.pilots x (direct_pilot (least_free t.slots)); slots = set t.slots (least_free t.slots) (get_or (members_of hs x) 0 0) }
    else t

unfoldable pub place_singles : List ℕ → Placement → List ℕ → Placement
place_singles hs t [] = t
place_singles hs t (x ∷ xs) = place_singles hs (place_single hs t x) xs

unfoldable pub singles_for : List ℕ → Option Placement → Option Placement
singles_for hs none = none
singles_for hs (some t) = some (place_singles hs t (order_of hs))

-- ---- one seed, and the eight

-- are the hashes of each bucket's members different?
unfoldable pub hashes_differ : List ℕ → Bool
hashes_differ hs = each_below (bucket_count hs) (λ x. different (map (λ i. get_or hs i 0) (members_of hs x)))

-- the placement of a seed's hashes, or none if the seed fails
unfoldable pub placement_of : List ℕ → Option Placement
placement_of hs =
    ask hashes_differ hs otherwise none then
    singles_for hs (place_buckets hs (empty_placement hs) (order_of hs))

-- what construction gives
pub record Constructed : Type 0 where
  pub seed : ℕ
  pub placement : Placement

-- `count` seeds from seed k on: the first that serves, or 40
unfoldable pub construct_from : ℕ → List (List ℕ) → ℕ → Result Constructed Refusal
construct_from zero keys k = Err refusal.NoSeed
construct_from (suc count) keys k =
    elim (placement_of (hashes_of keys (seed_of k))) [
      | some t ↦ Ok (record { seed = seed_of k; placement = t })
      | none ↦ construct_from count keys (k + 1)
    ]

-- the eight seeds
unfoldable pub construct_of : List (List ℕ) → Result Constructed Refusal
construct_of keys = construct_from 8 keys 1

-- for proofs alone: `unfolding construct_defs` opens the definitions of this file
unfoldable pub construct_defs : ℕ
unfolding seed_of hashes_of bucket_count key_buckets members_of size_of sizes_to buckets_sized falling_from order_of empty_placement is_free different positions_of placeable serves pilot_from least_pilot filled bucket_placed bucket_placed_for place_bucket place_buckets free_from least_free direct_pilot place_single place_singles singles_for hashes_differ placement_of construct_from construct_of
construct_defs = 0
