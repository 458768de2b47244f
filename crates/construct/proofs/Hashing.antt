-- The walk over keys: what is left to hash, stored behind what is hashed, is all.
-- Assumes nothing.
use mathlib.Core.Path.{◌≡◌, refl, sym, ap, ◌∙◌}
use mathlib.Core.List.{List}
use Prim.Native.Nat.{ℕ, zero, suc, ◌+◌, ◌-◌, ◌<◌}
use native.Mathlib.Numerals.{add-one}
use native.Mathlib.Omega.{arith}
use lib.ListN.{length, set, length-map}
use lib.Seq.{sets, length-sets, take_all}
use Rattle.num.proofs.Lists.{part_sets_same}
use Rattle.point.specs.Hash.{hash_value}
use Rattle.construction.specs.Construct.{hashes_of}
use Rattle.area.specs.Area.{area_key, next_head, keys_from_of}

pub keys_length : (count : ℕ) (area : List ℕ) (head : ℕ) → length (keys_from_of count area head) ≡ count
unfolding keys_from_of
keys_length zero area head = refl
keys_length (suc count) area head = ap suc (keys_length count area (next_head area head))

pub hashes_length : (keys : List (List ℕ)) (seed : ℕ) → length (hashes_of keys seed) ≡ length keys
unfolding hashes_of
hashes_length keys seed = length-map keys (λ key. hash_value key seed)

module _ (area : List ℕ) (head seed : ℕ) (h all : List ℕ) (i : ℕ) where
  pub hashing_turn : (count : ℕ) → 0 < count → sets h i (hashes_of (keys_from_of count area head) seed) ≡ all
      → (v : ℕ) → v ≡ hash_value (area_key area head) seed → (count₂ : ℕ) → count₂ ≡ count - 1 → (area₂ : List ℕ) → area₂ ≡ area → (head₂ : ℕ) → head₂ ≡ next_head area head
      → sets (set h i v) (i + 1) (hashes_of (keys_from_of count₂ area₂ head₂) seed) ≡ all
  unfolding keys_from_of hashes_of
  hashing_turn zero some same v ev count₂ ec area₂ ea head₂ eh = absurd (omega arith)
  hashing_turn (suc count) some same v ev count₂ ec area₂ ea head₂ eh =
      let e : count₂ ≡ count = omega arith in
      rw (ev, e, ea, eh, add-one i) same

-- once all are
pub hashing_done : (keys : List (List ℕ)) (seed : ℕ) (h₀ h : List ℕ) → length h₀ ≡ length keys → h ≡ sets h₀ 0 (hashes_of keys seed) → h ≡ hashes_of keys seed
hashing_done keys seed h₀ h size e =
    let ys = hashes_of keys seed in
    let n : length ys ≡ length h₀ = hashes_length keys seed ∙ sym size in
    e ∙ sym (take_all (length ys) (sets h₀ 0 ys) (omega (arith, length-sets h₀ 0 ys))) ∙ part_sets_same ys h₀ 0 (omega arith)

-- none is left
pub hashing_end : (area : List ℕ) (head seed : ℕ) (h : List ℕ) (i count : ℕ) → count ≡ 0 → h ≡ sets h i (hashes_of (keys_from_of count area head) seed)
unfolding keys_from_of hashes_of
hashing_end area head seed h i count e = rw e refl
