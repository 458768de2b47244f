-- The prefixes of two keys: when they are one.
-- Assumes nothing.
use mathlib.Core.Path.{◌≡◌, refl, sym, ap, ap₂, ◌∙◌}
use mathlib.Core.Bool.{Bool, true, false}
use mathlib.Core.List.{List}
use Prim.Native.Nat.{ℕ, min}
use native.Mathlib.Omega.{arith}
use lib.Dec.{leb}
use lib.ListN.{length, take, drop, length-take}
use lib.Seq.{take_all}
use borrow.Author.Tests.{leb-true, leb-false}
use Rattle.num.specs.Order.{equal_bytes}
use Rattle.num.proofs.Order.{equal_bytes-other}

-- a prefix goes no further than the key
prefix_whole : (prefix : ℕ) (key : List ℕ) (n : ℕ) → n ≡ min prefix (length key) → take n key ≡ take prefix key
prefix_whole prefix key n e = go (leb prefix (length key)) refl
  where
    go : (b : Bool) → leb prefix (length key) ≡ b → take n key ≡ take prefix key
    go true q =
        let h = leb-true prefix (length key) q in
        let k : n ≡ prefix = omega arith in
        ap (λ (j : ℕ). take j key) k
    go false q =
        let h = leb-false prefix (length key) q in
        take_all n key (omega arith) ∙ sym (take_all prefix key (omega arith))

module _ (prefix : ℕ) (x y : List ℕ) (n m : ℕ) (e : n ≡ min prefix (length x)) (f : m ≡ min prefix (length y)) where
  -- they differ if their lengths do
  pub other : (n ≡ m → ⊥) → equal_bytes (take prefix x) (take prefix y) ≡ false
  other d =
      equal_bytes-other (take prefix x) (take prefix y) (λ q. d (omega (arith, ap (λ (l : List ℕ). length l) q, length-take prefix x, length-take prefix y)))

  -- of one length they differ if so many bytes of the keys do
  pub same : n ≡ m → (t : Bool) → t ≡ equal_bytes (take n (drop 0 x)) (take n (drop 0 y)) → equal_bytes (take prefix x) (take prefix y) ≡ t
  same q t r =
      sym (r ∙ ap₂ equal_bytes (prefix_whole prefix x n e) (ap (λ (k : ℕ). take k y) q ∙ prefix_whole prefix y m f))
