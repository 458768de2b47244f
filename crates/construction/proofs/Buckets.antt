-- A bucket among all: its size and its members.
-- Assumes nothing.
use mathlib.Core.Path.{◌≡◌, ap₂, ◌∙◌}
use mathlib.Core.List.{List}
use Prim.Native.Nat.{ℕ, suc, ◌+◌, ◌-◌, ◌<◌, ◌≤◌}
use native.Mathlib.Omega.{arith}
use lib.ListN.{length, get_or, take, drop, length-map}
use Rattle.num.proofs.Regions.{region_at, region_part}
use Rattle.point.specs.Hash.{bucket_of}
use Rattle.classes.specs.Internal.{class_start, SortedParts}
use Rattle.classes.proofs.Items.{start_next, start_inside, item_is}
use Rattle.classes.specs.Classes.{items_of}
use Rattle.construction.specs.Construct.{bucket_count, key_buckets, members_of, size_of}

pub keys_length : (hs : List ℕ) → length (key_buckets hs) ≡ length hs
unfolding key_buckets
keys_length hs = length-map hs (λ h. bucket_of h (bucket_count hs))

module _ (hs : List ℕ) {starts members : List ℕ} (m : SortedParts (key_buckets hs) (bucket_count hs) starts members) {x : ℕ} (known : x < bucket_count hs) where
  start_read : get_or starts x 0 ≡ class_start (key_buckets hs) x
  start_read = region_at m.starts_held x x (omega arith) (omega arith) (omega arith)

  pub size_read : get_or starts (x + 1) 0 ≡ get_or starts x 0 + size_of hs x
  unfolding size_of members_of
  size_read = region_at m.starts_held (x + 1) (suc x) (omega arith) (omega arith) (omega arith) ∙ omega (arith, start_next (key_buckets hs) x, start_read)

  pub members_rise : get_or starts x 0 ≤ get_or starts (x + 1) 0
  members_rise = omega (arith, size_read)

  -- the members of a bucket lie among all
  pub members_end : length members ≡ length hs → get_or starts (x + 1) 0 ≤ length members
  unfolding size_of members_of
  members_end e = omega (arith, size_read, start_read, start_inside (key_buckets hs) x, keys_length hs)

  -- as one part
  pub members_part : length members ≡ length hs → take (get_or starts (x + 1) 0 - get_or starts x 0) (drop (get_or starts x 0) members) ≡ members_of hs x
  unfolding size_of members_of
  members_part e =
      let count : get_or starts (x + 1) 0 - get_or starts x 0 ≡ length (items_of (key_buckets hs) x) = omega (arith, size_read) in
      ap₂ (λ (n at : ℕ). take n (drop at members)) count start_read
      ∙ region_part (items_of (key_buckets hs) x) (m.items_held x known) (omega (arith, start_inside (key_buckets hs) x, keys_length hs))

pub member_below : (hs : List ℕ) (x j : ℕ) → j < size_of hs x → get_or (members_of hs x) j 0 < length hs
unfolding size_of members_of
member_below hs x j h = omega (arith, (item_is (key_buckets hs) x j h).0, keys_length hs)
