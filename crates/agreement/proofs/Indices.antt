-- Key records and versions by index: what holds of every section.
-- Assumes nothing.
use mathlib.Core.Path.{◌≡◌, refl, ap}
use mathlib.Core.List.{List}
use mathlib.Core.Bool.{Bool, true, false}
use Prim.Native.Nat.{ℕ, zero, suc, ◌+◌, ◌*◌, ◌-◌, ◌%◌, ◌<◌, ◌≤◌}
use native.Mathlib.Nat.{not-suc-le-zero}
use native.Mathlib.Omega.{arith}
use lib.Dec.{ltb}
use borrow.Author.Tests.{ltb-true, ltb-false}
use Rattle.num.proofs.Steps.{steps_le}
use Rattle.header.specs.declared.Opened.{Opened}
use Rattle.agreement.specs.Keys.{key_header_size, version_size, key_record_len, address_of, key_header_of, version_count, suffix_place, anchor_index, first_version, version_place}

-- an anchor's anchor is itself
pub anchor_self : (k : ℕ) → k % 1024 ≡ 0 → anchor_index k ≡ k
unfolding anchor_index
anchor_self k h = omega arith

-- a key that is no anchor has the anchor of the key before
pub anchor_before : (k : ℕ) → (suc k % 1024 ≡ 0 → ⊥) → anchor_index (suc k) ≡ anchor_index k
unfolding anchor_index
anchor_before k h = omega arith

-- an anchor comes no later than its keys
pub anchor_le : (k : ℕ) → anchor_index k ≤ k
unfolding anchor_index
anchor_le k = omega arith

module _ (s : List ℕ) (o : Opened) where
  -- a key record is followed by the next
  pub address_next : (k : ℕ) → address_of s o (suc k)
      ≡ address_of s o k + key_header_size o.encoding + (key_header_of s o k).suffix_len + version_count s o k * version_size o.encoding
  unfolding address_of key_record_len key_header_of version_count
  address_next k = omega arith

  -- which stands behind the last version
  pub versions_behind : (k : ℕ) → version_place s o k (version_count s o k) ≡ o.arena + address_of s o (suc k)
  unfolding version_place suffix_place
  versions_behind k = let n = address_next k in omega arith

  -- no address is below that of an earlier key
  pub address_le : (k m : ℕ) → k ≤ m → address_of s o k ≤ address_of s o m
  address_le = steps_le (address_of s o) (λ i. let n = address_next i in omega arith)

  -- the records of a key are followed by those of the next
  pub first_version_next : (k : ℕ) → first_version s o (suc k) ≡ first_version s o k + version_count s o k
  unfolding first_version
  first_version_next k = refl

  -- no key's records come before those of an earlier key
  pub first_version_le : (k m : ℕ) → k ≤ m → first_version s o k ≤ first_version s o m
  first_version_le = steps_le (first_version s o) (λ i. let n = first_version_next i in omega arith)

  -- the versions of a key come before those of the later ones
  pub version_before : (k j m : ℕ) → j < version_count s o k → k < m → first_version s o k + j < first_version s o m
  version_before k j m h l = let n = first_version_next k in let i = first_version_le (suc k) m l in omega arith

  -- a record is a version of one key only, and one version only
  pub same_version : (k j i l : ℕ) → j < version_count s o k → l < version_count s o i → first_version s o k + j ≡ first_version s o i + l → (k ≡ i) × (j ≡ l)
  same_version k j i l p q e =
      let x : k < i → ⊥ = λ h. let z = version_before k j i p h in omega arith in
      let y : i < k → ⊥ = λ h. let z = version_before i l k q h in omega arith in
      let m : k ≡ i = omega arith in
      let n = ap (first_version s o) m in
      (m, omega arith)

  -- every record before those of key n is a version of a key before it
  pub version_of : (n r : ℕ) → r < first_version s o n → (k : ℕ) × (j : ℕ) × (k < n) × (j < version_count s o k) × (r ≡ first_version s o k + j)
  unfolding first_version
  version_of zero r h = absurd (not-suc-le-zero h)
  version_of (suc n) r h = go (ltb r (first_version s o n)) refl (version_of n r)
    where
      go : (b : Bool) → ltb r (first_version s o n) ≡ b
          → (r < first_version s o n → (k : ℕ) × (j : ℕ) × (k < n) × (j < version_count s o k) × (r ≡ first_version s o k + j))
          → (k : ℕ) × (j : ℕ) × (k < suc n) × (j < version_count s o k) × (r ≡ first_version s o k + j)
      go true e f = let w = f (ltb-true _ _ e) in let l = w.2 in (w.0, w.1, omega arith, w.3, w.4)
      go false e f = let l : first_version s o n ≤ r = ltb-false _ _ e in (n, r - first_version s o n, omega arith, omega arith, omega arith)
