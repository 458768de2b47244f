-- What construction promises (document 01, "Building", and question 40). `hs` is the list of the keys' hashes under a seed, of as many
-- hashes as there are keys; numbers of keys and buckets count from 0.
use Rattle.refusal.specs.declared.Refusal.{Refusal}
use Rattle.std.specs.Prelude.{◌≡◌, ◌↔◌, true, false, List, ◌∷◌, ◌++◌, ℕ, ◌+◌, ◌<◌, ◌≤◌, ◌^◌, length, get_or}
use Rattle.std.proofs.Math.Option.{some}
use Rattle.std.specs.Prelude.{Ok, Err}
use Rattle.refusal.specs.declared.Refusal.TheVariants as refusal
use Rattle.point.specs.Hash.{bucket_of, position_of, slot_of}
use Rattle.construction.specs.Construct.{Placement, Constructed, seed_of, hashes_of, bucket_count, members_of, size_of, order_of, empty_placement, is_free, serves, place_buckets, place_singles, singles_for, placement_of, construct_of}

-- the bucket of key i
abbrev pub bucket_at : List ℕ → ℕ → ℕ
bucket_at hs i = bucket_of (get_or hs i 0) (bucket_count hs)

-- the slot that a placement's pilots give key i, as a lookup computes it
abbrev pub slot_at : List ℕ → Placement → ℕ → ℕ
slot_at hs t i = slot_of (get_or hs i 0) (get_or t.pilots (bucket_at hs i) 0) (length hs)

-- ---- the buckets and their order

-- a list of the keys of bucket x, rising
pub record KeysOf (hs : List ℕ) (x : ℕ) (l : List ℕ) : Type 0 where
  pub keys : (j : ℕ) → j < length l → (get_or l j 0 < length hs) × (bucket_at hs (get_or l j 0) ≡ x)
  pub each : (i : ℕ) → i < length hs → bucket_at hs i ≡ x → (j : ℕ) × (j < length l) × (get_or l j 0 ≡ i)
  pub rising : (j k : ℕ) → j < k → k < length l → get_or l j 0 < get_or l k 0

-- a list of all buckets by falling size, equal sizes by lower number
pub record BySize (hs l : List ℕ) : Type 0 where
  pub buckets : (j : ℕ) → j < length l → get_or l j 0 < bucket_count hs
  pub each : (x : ℕ) → x < bucket_count hs → (j : ℕ) × (j < length l) × (get_or l j 0 ≡ x)
  pub once : (j k : ℕ) → j < k → k < length l → get_or l j 0 ≡ get_or l k 0 → ⊥
  pub falling : (j k : ℕ) → j < k → k < length l → size_of hs (get_or l k 0) ≤ size_of hs (get_or l j 0)
  pub ties : (j k : ℕ) → j < k → k < length l → size_of hs (get_or l j 0) ≡ size_of hs (get_or l k 0) → get_or l j 0 < get_or l k 0

-- the members of a bucket are its keys; the order is such a list, and there is no other
pub record OneOrder (hs : List ℕ) : Type 0 where
  pub members : (x : ℕ) → KeysOf hs x (members_of hs x)
  pub order : BySize hs (order_of hs)
  pub only : (l : List ℕ) → BySize hs l → l ≡ order_of hs

-- ---- pilots

-- under pilot p the keys of bucket x have positions in free slots, no two in one
pub record Serves (hs slots : List ℕ) (x p : ℕ) : Type 0 where
  pub free : (i : ℕ) → i < length hs → bucket_at hs i ≡ x → is_free slots (position_of (get_or hs i 0) p (length hs)) ≡ true
  pub apart : (i j : ℕ) → i < j → j < length hs → bucket_at hs i ≡ x → bucket_at hs j ≡ x
      → position_of (get_or hs i 0) p (length hs) ≡ position_of (get_or hs j 0) p (length hs) → ⊥

-- p is the least pilot below 100,000 that serves bucket x
pub record LeastPilot (hs slots : List ℕ) (x p : ℕ) : Type 0 where
  pub below : p < 100000
  pub serving : serves hs slots x p ≡ true
  pub least : (q : ℕ) → q < p → serves hs slots x q ≡ false

-- each bucket of two members or more has the least pilot that serves in the slots which the buckets before it left
unfoldable pub LeastPilots : List ℕ → Placement → Type 0
LeastPilots hs t =
    (before : List ℕ) (x : ℕ) (after : List ℕ) → order_of hs ≡ before ++ (x ∷ after) → 2 ≤ size_of hs x
    → (u : Placement) × (place_buckets hs (empty_placement hs) before ≡ some u) × LeastPilot hs u.slots x (get_or t.pilots x 0)

-- `at` is the first free slot
pub record FirstFree (slots : List ℕ) (at : ℕ) : Type 0 where
  pub inside : at < length slots
  pub free : is_free slots at ≡ true
  pub first : (k : ℕ) → k < at → is_free slots k ≡ false

-- each bucket of one member names the first slot that the larger buckets and the buckets before it left free
unfoldable pub FirstSlots : List ℕ → Placement → Type 0
FirstSlots hs t =
    (before : List ℕ) (x : ℕ) (after : List ℕ) → order_of hs ≡ before ++ (x ∷ after) → size_of hs x ≡ 1
    → (u : Placement) × (at : ℕ) × (place_buckets hs (empty_placement hs) (order_of hs) ≡ some u)
    × FirstFree (place_singles hs u before).slots at
    × (get_or t.pilots x 0 ≡ 2 ^ 31 + at)

-- a pilot is below 100,000 or names one of n slots, with bit 31
pub data PilotSound (n p : ℕ) : Type 0 where
  searched : p < 100000 → PilotSound n p
  direct : (at : ℕ) → at < n → p ≡ 2 ^ 31 + at → PilotSound n p

-- the pilots of a placement
pub record Pilots (hs : List ℕ) (t : Placement) : Type 0 where
  pub least : LeastPilots hs t
  pub named : FirstSlots hs t
  -- a bucket without a member has pilot 0
  pub empty : (x : ℕ) → size_of hs x ≡ 0 → get_or t.pilots x 0 ≡ 0
  pub sound : (x : ℕ) → PilotSound (length hs) (get_or t.pilots x 0)

-- ---- slots

-- every key has a slot of its own and every slot a key, so that the Rust's unfilled-slot errors never occur
pub record Filled (hs : List ℕ) (t : Placement) : Type 0 where
  pub pilots_length : length t.pilots ≡ bucket_count hs
  pub slots_length : length t.slots ≡ length hs
  pub inside : (i : ℕ) → i < length hs → slot_at hs t i < length hs
  pub owned : (i : ℕ) → i < length hs → get_or t.slots (slot_at hs t i) 0 ≡ i
  pub every : (at : ℕ) → at < length hs → (get_or t.slots at 0 < length hs) × (slot_at hs t (get_or t.slots at 0) ≡ at)

-- what is promised of a placement
pub record Placed (hs : List ℕ) (t : Placement) : Type 0 where
  pub pilots : Pilots hs t
  pub filled : Filled hs t

-- ---- seeds

-- two keys of one bucket have equal hashes
pub record EqualHashes (hs : List ℕ) : Type 0 where
  pub bucket : ℕ
  pub one : ℕ
  pub other : ℕ
  pub different_keys : one < other
  pub keys : other < length hs
  pub one_in : bucket_at hs one ≡ bucket
  pub other_in : bucket_at hs other ≡ bucket
  pub equal : get_or hs one 0 ≡ get_or hs other 0

-- of the buckets l, placed one after another from t on, one of two members or more has no pilot
pub record WithoutPilot (hs : List ℕ) (t : Placement) (l : List ℕ) : Type 0 where
  pub before : List ℕ
  pub bucket : ℕ
  pub after : List ℕ
  pub cut : l ≡ before ++ (bucket ∷ after)
  pub then_left : Placement
  pub placed : place_buckets hs t before ≡ some then_left
  pub size : 2 ≤ size_of hs bucket
  pub no_pilot : (p : ℕ) → p < 100000 → serves hs then_left.slots bucket p ≡ false

-- a seed's hashes do not serve
pub data SeedFails (hs : List ℕ) : Type 0 where
  equal_hashes : EqualHashes hs → SeedFails hs
  without_pilot : WithoutPilot hs (empty_placement hs) (order_of hs) → SeedFails hs

-- seed k of the eight does not serve these keys
abbrev pub Fails : List (List ℕ) → ℕ → Type 0
Fails keys k = SeedFails (hashes_of keys (seed_of k))

-- k is the first seed that serves, and c its seed and placement
pub record FirstSeed (keys : List (List ℕ)) (k : ℕ) (c : Constructed) : Type 0 where
  pub from : 1 ≤ k
  pub to : k ≤ 8
  pub seed : c.seed ≡ seed_of k
  pub placement : placement_of (hashes_of keys (seed_of k)) ≡ some c.placement
  pub serving : Fails keys k → ⊥
  pub first : (j : ℕ) → 1 ≤ j → j < k → Fails keys j

-- construction answers with the first of the eight seeds that serves, or with 40
pub record Seeds (keys : List (List ℕ)) : Type 0 where
  -- 40 exactly if none of the eight serves
  pub refuses : (construct_of keys ≡ Err refusal.NoSeed) ↔ ((k : ℕ) → 1 ≤ k → k ≤ 8 → Fails keys k)
  -- and no other refusal
  pub never : (n : Refusal) → construct_of keys ≡ Err n → n ≡ refusal.NoSeed
  pub answers : (c : Constructed) → construct_of keys ≡ Ok c → (k : ℕ) × FirstSeed keys k c
  pub serves : (k : ℕ) (c : Constructed) → FirstSeed keys k c → construct_of keys ≡ Ok c

-- ---- the promises

-- the order of the buckets is the one by falling size and lower number
unfoldable pub OrderDecided : Type 0
OrderDecided = (hs : List ℕ) → OneOrder hs

-- the test of a pilot says exactly whether it serves
unfoldable pub ServesExactly : Type 0
ServesExactly = (hs slots : List ℕ) (x p : ℕ) → (serves hs slots x p ≡ true) ↔ Serves hs slots x p

-- the placement of up to 1,048,576 keys has the pilots that are asked for, and fills the slots
unfoldable pub PlacementSound : Type 0
PlacementSound = (hs : List ℕ) (t : Placement) → length hs ≤ 2 ^ 20 → placement_of hs ≡ some t → Placed hs t

-- equal hashes leave their bucket without pilot, so the test for them changes no answer
unfoldable pub HashesUnasked : Type 0
HashesUnasked = (hs : List ℕ) → placement_of hs ≡ singles_for hs (place_buckets hs (empty_placement hs) (order_of hs))

-- the answer is the first of the eight seeds that serves, or 40
unfoldable pub SeedDecided : Type 0
SeedDecided = (keys : List (List ℕ)) → Seeds keys
