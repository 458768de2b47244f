-- The items of a class by membership: which they are, and that they rise.
-- Assumes nothing.
use mathlib.Core.Path.{◌≡◌, subst}
use mathlib.Core.List.{List, Memᴰ}
use Prim.Native.Nat.{ℕ, ◌<◌, ◌≤◌}
use lib.ListN.{length, get_or}
use Rattle.classes.specs.Classes.{items_of}
use Rattle.classes.proofs.Items as classes
use Rattle.construction.proofs.Sorted.{EachTwo, member_at, at_member, at_two}

module _ (cs : List ℕ) (c : ℕ) where
  pub item_is : (x : ℕ) → Memᴰ x (items_of cs c) → (x < length cs) × (get_or cs x 0 ≡ c)
  item_is x m =
      let r = member_at m in
      subst (λ (y : ℕ). (y < length cs) × (get_or cs y 0 ≡ c)) r.2 (classes.item_is cs c r.0 r.1)

  pub is_item : (x : ℕ) → x < length cs → get_or cs x 0 ≡ c → Memᴰ x (items_of cs c)
  is_item x h e =
      let r = classes.index_is cs c x h e in
      subst (λ (y : ℕ). Memᴰ y (items_of cs c)) r.2 (at_member (items_of cs c) r.0 r.1)

  pub items_rise : EachTwo (λ x y. x < y) (items_of cs c)
  items_rise = at_two (λ x y. x < y) (items_of cs c) (classes.items_rise cs c)

  pub items_few : length (items_of cs c) ≤ length cs
  unfolding items_of
  items_few = classes.size_most cs c (length cs)
