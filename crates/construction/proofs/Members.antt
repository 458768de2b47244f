-- The members of the buckets: each key is in its bucket alone, and all buckets together have as many members as there are keys.
-- Assumes nothing.
use mathlib.Core.Path.{◌≡◌, refl, sym, ap₂, ◌∙◌}
use mathlib.Core.Logic.{◌⊎◌, inl, inr}
use mathlib.Core.Bool.{Bool, true, false}
use mathlib.Core.List.Memᴰ
use mathlib.Core.List.{List, [], ◌∷◌, ◌++◌, map, Memᴰ}
use Prim.Native.Nat.{ℕ, zero, suc, ◌+◌, ◌/◌, ◌<◌}
use native.Mathlib.Nat.{not-suc-le-zero}
use native.Mathlib.Omega.{arith}
use lib.Dec.{eqb}
use lib.ListN.{length, get_or, length-append, length-map}
use borrow.Author.Tests.{eq-eqb, ne_eqb}
use Rattle.num.specs.Choice.{when◌then◌else◌}
use Rattle.num.proofs.Choice.{Each}
use Rattle.encoding.specs.Encoding.{buckets_of}
use Rattle.point.specs.Hash.{bucket_of}
use Rattle.point.proofs.Slots.{bucket_lt}
use Rattle.classes.specs.Classes.{items_to, items_of}
use Rattle.construction.specs.Construct.{bucket_count, key_buckets, members_of, size_of, order_of}
use Rattle.construction.specs.Promises.{bucket_at}
use Rattle.construction.proofs.Sorted.{EachTwo, each_member, two_map, at_member, member_at}
use Rattle.construction.proofs.Different.{Distinct}
use Rattle.construction.proofs.Items.{item_is, is_item, items_rise}
use Rattle.construction.proofs.Order.{Before, before_not, is_order, order_sorted}

-- ---- sums over a list

unfoldable pub total : (ℕ → ℕ) → List ℕ → ℕ
total f [] = 0
total f (x ∷ l) = f x + total f l

total_sum : (f g h : ℕ → ℕ) → ((x : ℕ) → h x ≡ f x + g x) → (l : List ℕ) → total h l ≡ total f l + total g l
unfolding total
total_sum f g h e [] = omega arith
total_sum f g h e (x ∷ l) = let r = total_sum f g h e l in let q = e x in omega arith

-- ---- items by class: each item counts once

module _ (classes : List ℕ) where
  items_below : ℕ → ℕ → ℕ
  items_below i x = length (items_to classes x i)

  -- whether item i has class x
  hit : ℕ → ℕ → ℕ
  hit i x = when eqb (get_or classes i 0) x then 1 else 0

  one_more : (i x : ℕ) → items_below (suc i) x ≡ items_below i x + hit i x
  unfolding items_below hit items_to when◌then◌else◌
  one_more i x = go (eqb (get_or classes i 0) x)
    where
      go : (b : Bool) → length (items_to classes x i ++ (when b then i ∷ [] else [])) ≡ length (items_to classes x i) + (when b then 1 else 0)
      go true = length-append (items_to classes x i) (i ∷ [])
      go false = length-append (items_to classes x i) []

  no_hit : (i : ℕ) (l : List ℕ) → Each (λ y. get_or classes i 0 ≡ y → ⊥) l → total (hit i) l ≡ 0
  unfolding total hit when◌then◌else◌
  no_hit i [] h = refl
  no_hit i (x ∷ l) h = rw (ne_eqb (get_or classes i 0) x h.0, no_hit i l h.1) (omega arith)

  one_hit : (i : ℕ) (l : List ℕ) → Distinct l → Memᴰ (get_or classes i 0) l → total (hit i) l ≡ 1
  unfolding total hit when◌then◌else◌
  one_hit i [] d m = absurd (Memᴰ.not-nil m)
  one_hit i (x ∷ l) d m = go (Memᴰ.cases_cons m) (one_hit i l d.1)
    where
      go : (get_or classes i 0 ≡ x) ⊎ Memᴰ (get_or classes i 0) l → (Memᴰ (get_or classes i 0) l → total (hit i) l ≡ 1)
          → (when eqb (get_or classes i 0) x then 1 else 0) + total (hit i) l ≡ 1
      go (inl e) rest = rw (eq-eqb (get_or classes i 0) x e, no_hit i l (rw (← e) at d.0)) (omega arith)
      go (inr n) rest = rw (ne_eqb (get_or classes i 0) x (λ e. each_member (λ y. x ≡ y → ⊥) d.0 n (sym e)), rest n) (omega arith)

  total_none : (l : List ℕ) → total (items_below 0) l ≡ 0
  unfolding total items_below items_to
  total_none [] = refl
  total_none (x ∷ l) = let r = total_none l in omega arith

  -- in a list that has each class once
  total_below : (l : List ℕ) → Distinct l → (i : ℕ) → ((j : ℕ) → j < i → Memᴰ (get_or classes j 0) l) → total (items_below i) l ≡ i
  total_below l d zero m = total_none l
  total_below l d (suc i) m =
      total_sum (items_below i) (hit i) (items_below (suc i)) (one_more i) l
      ∙ ap₂ ◌+◌ (total_below l d i (λ j h. m j (omega arith))) (one_hit i l d (m i (omega arith)))
      ∙ omega arith

-- ---- members of buckets

module _ (hs : List ℕ) where
  pub bucket_below : (i : ℕ) → i < length hs → bucket_at hs i < bucket_count hs
  unfolding bucket_count buckets_of
  bucket_below i h = bucket_lt (get_or hs i 0) ((length hs + 1) / 2) (omega arith)

  key_bucket : (i : ℕ) → i < length hs → get_or (key_buckets hs) i 0 ≡ bucket_at hs i
  unfolding key_buckets
  key_bucket i h = at hs i h
    where
      at : (l : List ℕ) (j : ℕ) → j < length l → get_or (map (λ h. bucket_of h (bucket_count hs)) l) j 0 ≡ bucket_of (get_or l j 0) (bucket_count hs)
      at [] j h = absurd (not-suc-le-zero h)
      at (x ∷ l) zero h = refl
      at (x ∷ l) (suc j) h = at l j (omega arith)

  keys_length : length (key_buckets hs) ≡ length hs
  unfolding key_buckets
  keys_length = length-map hs (λ h. bucket_of h (bucket_count hs))

  -- a member of a bucket is a key of that bucket
  pub member_is : (x i : ℕ) → Memᴰ i (members_of hs x) → (i < length hs) × (bucket_at hs i ≡ x)
  unfolding members_of
  member_is x i m =
      let r = item_is (key_buckets hs) x i m in
      let h : i < length hs = omega (arith, r.0, keys_length) in
      (h, sym (key_bucket i h) ∙ r.1)

  -- each key is a member of its bucket
  pub is_member : (i : ℕ) → i < length hs → Memᴰ i (members_of hs (bucket_at hs i))
  unfolding members_of
  is_member i h = is_item (key_buckets hs) (bucket_at hs i) i (omega (arith, keys_length)) (key_bucket i h)

  pub members_rise : (x : ℕ) → EachTwo (λ i j. i < j) (members_of hs x)
  unfolding members_of
  members_rise x = items_rise (key_buckets hs) x

  -- a bucket with a member is not empty, and there is a key
  pub some_member : (x : ℕ) → 0 < size_of hs x → 0 < length hs
  unfolding size_of
  some_member x h = omega (arith, (member_is x (get_or (members_of hs x) 0 0) (at_member (members_of hs x) 0 h)).0)

  -- the bucket of a key has a member
  pub bucket_some : (i : ℕ) → i < length hs → 0 < size_of hs (bucket_at hs i)
  unfolding size_of
  bucket_some i h = omega (arith, (member_at (is_member i h)).1)

  pub order_distinct : Distinct (order_of hs)
  order_distinct = two_map (Before hs) (λ x y. x ≡ y → ⊥) (order_of hs) (λ x y m n b e. before_not hs x (rw (← e) at b)) (order_sorted hs)

  -- all buckets together have as many members as there are keys
  pub sizes_all : total (size_of hs) (order_of hs) ≡ length hs
  unfolding size_of members_of items_of items_below
  sizes_all =
      total_below (key_buckets hs) (order_of hs) order_distinct (length (key_buckets hs))
      (λ j h. let k : j < length hs = omega (arith, keys_length) in rw (key_bucket j k) (is_order hs (bucket_at hs j) (bucket_below j k)))
      ∙ keys_length
