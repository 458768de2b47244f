-- The hash of a key: its chunks one after another, and the bits of each result.
-- Assumes nothing.
use mathlib.Core.Path.{◌≡◌, refl, sym, ap, ap₂, ◌∙◌}
use mathlib.Core.List.{List, []}
use Prim.Native.Nat.{ℕ, zero, suc, ◌+◌, ◌*◌, ◌-◌, ◌/◌, ◌%◌, ◌^◌, ◌<◌, ◌≤◌}
use native.Mathlib.Nat.{mod-lt, lt_of_le_of_lt, lt_of_lt_of_le, mul-le-mul_left, zero-add, add-mul-div_left, div-eq_of_lt}
use native.Mathlib.Omega.{arith}
use lib.Bits.{bit_xor, xor_lt}
use lib.Pow.{pow_pos, pow_mono, shr_le, shr_lt}
use lib.ListN.{length, get_or, take, drop}
use Rattle.std.proofs.Common.{fold, drop-drop, get_or-take, get_or-drop}
use Rattle.std.specs.Simd.{first_chunks}
use Rattle.num.specs.Number.{Bytes, le_at}
use Rattle.num.proofs.Number.{le_at-lt, le_at-more, le_at-none, le_at-same, le_at-split}
use Rattle.num.specs.Wrapping.{mul_mod}
use Rattle.point.specs.Hash.{xor_shift, mix_of, hash_chunk, chunks_of, tail_of, fingerprint_of}

-- the chunks one after another are those of a key
chunks_from : (key : List ℕ) (count at h : ℕ) → at + count * 8 ≤ length key
    → fold (λ h chunk. hash_chunk h (le_at chunk 0 8)) h (first_chunks 8 count (drop at key)) ≡ chunks_of count key at h
unfolding chunks_of
chunks_from key zero at h l = refl
chunks_from key (suc count) at h l =
    let first : le_at (take 8 (drop at key)) 0 8 ≡ le_at key at 8 =
    le_at-same (take 8 (drop at key)) key 8 0 at (λ k b. get_or-take 8 (drop at key) (0 + k) 0 (omega arith) ∙ get_or-drop at key (0 + k) 0 ∙ ap (λ (n : ℕ). get_or key (at + n) 0) (zero-add k)) in
    ap (λ (x : ℕ). chunks (hash_chunk h x) (first_chunks 8 count (drop 8 (drop at key)))) first
    ∙ ap (λ (s : List ℕ). chunks (hash_chunk h (le_at key at 8)) (first_chunks 8 count s)) (drop-drop 8 at key)
    ∙ chunks_from key count (at + 8) (hash_chunk h (le_at key at 8)) (omega arith)
  where
    chunks : ℕ → List (List ℕ) → ℕ
    chunks = fold (λ h chunk. hash_chunk h (le_at chunk 0 8))

pub all_chunks : (key : List ℕ) (h : ℕ)
    → fold (λ h chunk. hash_chunk h (le_at chunk 0 8)) h (first_chunks 8 (length key / 8) key) ≡ chunks_of (length key / 8) key 0 h
all_chunks key h = chunks_from key (length key / 8) 0 h (omega arith)

-- one chunk, and two
pub one_chunk : (key : List ℕ) (h : ℕ) → length key / 8 ≡ 1
    → hash_chunk h (le_at (get_or (first_chunks 8 (length key / 8) key) 0 []) 0 8) ≡ chunks_of (length key / 8) key 0 h
one_chunk key h e = rw e (chunks_from key 1 0 h (omega arith))

pub two_chunks : (key : List ℕ) (h : ℕ) → length key / 8 ≡ 2
    → hash_chunk (hash_chunk h (le_at (get_or (first_chunks 8 (length key / 8) key) 0 []) 0 8)) (le_at (get_or (first_chunks 8 (length key / 8) key) 1 []) 0 8)
    ≡ chunks_of (length key / 8) key 0 h
two_chunks key h e = rw e (chunks_from key 2 0 h (omega arith))

-- fewer than eight bytes are no chunk
pub chunks_none : (key : List ℕ) (h : ℕ) → length key < 8 → chunks_of (length key / 8) key 0 h ≡ h
unfolding chunks_of
chunks_none key h p =
    let e : length key / 8 ≡ 0 = omega arith in
    ap (λ (k : ℕ). chunks_of k key 0 h) e

-- a key of less than eight bytes is its tail
pub tail_few : (key : List ℕ) → length key < 8 → le_at key 0 (length key) ≡ tail_of key
unfolding tail_of
tail_few key p =
    let a : 0 ≡ 8 * (length key / 8) = omega arith in
    let w : length key ≡ length key % 8 = omega arith in
    ap₂ (le_at key) a w

-- one more of its bytes, from the last to the first
pub few_more : (key : List ℕ) (n left : ℕ) → 0 < left → left ≤ n
    → le_at key left (n - left) * 256 + get_or key (left - 1) 0 ≡ le_at key (left - 1) (n - (left - 1))
few_more key n left p q =
    let w : n - (left - 1) ≡ suc (n - left) = omega arith in
    let a : left - 1 + 1 ≡ left = omega arith in
    let m = le_at-more key (left - 1) (n - left) ∙ ap (λ (k : ℕ). get_or key (left - 1) 0 + 256 * le_at key k (n - left)) a in
    omega (arith, m, ap (le_at key (left - 1)) w)

-- at most seven bytes are below 2^56
pub few_lt : (key : List ℕ) → Bytes key → (at w : ℕ) → w ≤ 7 → le_at key at w < 2 ^ 56
few_lt key bytes at w p = lt_of_lt_of_le (le_at-lt key bytes w at) (pow_mono (mul-le-mul_left 8 p))

-- the last odd bytes are the top ones of the last eight
pub odd_top : (key : List ℕ) → Bytes key → (at rest : ℕ) → rest < 8 → 8 ≤ at + rest
    → le_at key (at + rest - 8) 8 / 2 ^ (64 - 8 * rest) ≡ le_at key at rest
odd_top key bytes at rest p q =
    let low : 8 ≡ 8 - rest + rest = omega arith in
    let place : at + rest - 8 + (8 - rest) ≡ at = omega arith in
    let power : 64 - 8 * rest ≡ 8 * (8 - rest) = omega arith in
    ap₂ (λ (w k : ℕ). le_at key (at + rest - 8) w / 2 ^ k) low power
    ∙ ap (λ (n : ℕ). n / 2 ^ (8 * (8 - rest))) (le_at-split key rest (8 - rest) (at + rest - 8))
    ∙ add-mul-div_left _ _ (pow_pos (8 * (8 - rest)))
    ∙ ap (λ (n : ℕ). n + le_at key (at + rest - 8 + (8 - rest)) rest) (div-eq_of_lt (le_at-lt key bytes (8 - rest) (at + rest - 8)))
    ∙ zero-add _
    ∙ ap (λ (n : ℕ). le_at key n rest) place

-- the bytes that the chunks leave are the tail
pub tail_left : (key : List ℕ) → Bytes key → 8 ≤ length key → le_at key (length key - 8) 8 / 2 ^ (64 - 8 * (length key % 8)) ≡ tail_of key
unfolding tail_of
tail_left key bytes p =
    let whole : 8 * (length key / 8) + length key % 8 ≡ length key = omega arith in
    ap (λ (n : ℕ). le_at key (n - 8) 8 / 2 ^ (64 - 8 * (length key % 8))) (sym whole)
    ∙ odd_top key bytes (8 * (length key / 8)) (length key % 8) (omega arith) (omega arith)

pub tail_none : (key : List ℕ) → length key % 8 ≡ 0 → tail_of key ≡ 0
unfolding tail_of
tail_none key p = rw (p, le_at-none) refl

product_lt : (a b : ℕ) → mul_mod a b < 2 ^ 64
product_lt a b = mod-lt (a * b) (pow_pos 64)

xor_shift-lt : (h k : ℕ) → h < 2 ^ 64 → xor_shift h k < 2 ^ 64
unfolding xor_shift
xor_shift-lt h k p = xor_lt 64 h (h / 2 ^ k) p (lt_of_le_of_lt (shr_le h k) p)

-- a mixed number has 64 bits
pub mix_lt : (h : ℕ) → mix_of h < 2 ^ 64
unfolding mix_of
mix_lt h = xor_shift-lt _ 31 (product_lt (xor_shift (mul_mod (xor_shift h 30) 0xbf58476d1ce4e5b9) 27) 0x94d049bb133111eb)

-- a fingerprint has 16 bits
pub fingerprint_lt : (h : ℕ) → fingerprint_of h < 2 ^ 16
unfolding fingerprint_of
fingerprint_lt h = shr_lt 16 48 (mix_lt (bit_xor h 0xd6e8feb86659fd93))
