-- Little-endian numbers, over the width.
-- Assumes nothing.
use Rattle.std.proofs.Common.{◌≡◌, ℕ, zero, suc, ◌+◌, ◌-◌, ◌*◌, ◌/◌, ◌%◌, ◌^◌, ◌<◌, ◌≤◌, true, List, [], ◌∷◌, ◌++◌, length, get_or, take, drop, set, sym, refl, ap, ◌∙◌, ap₂, append_assoc, not-suc-le-zero, add-zero, add_assoc, add-suc, mul_assoc, add_comm, suc-add, zero-add, mul-suc, mul-add, add-one, arith, get_or-drop, drop-cons, get_or-append-add, pow-add}
use lib.Seq.{sets}
use Rattle.num.specs.Number.{Bytes, le_at, le_bytes, is_width}
use Rattle.num.proofs.Choice.{one_of-case}

pub length_le_bytes : (w v : ℕ) → length (le_bytes w v) ≡ w
unfolding le_bytes
length_le_bytes zero v = refl
length_le_bytes (suc w) v = ap suc (length_le_bytes w (v / 256))

-- the bytes of a number are bytes
pub bytes_le_bytes : (w v : ℕ) → Bytes (le_bytes w v)
unfolding le_bytes
bytes_le_bytes zero v k = omega arith
bytes_le_bytes (suc w) v zero = omega arith
bytes_le_bytes (suc w) v (suc k) = bytes_le_bytes w (v / 256) k

pub pow_step : (w : ℕ) → 2 ^ (8 * suc w) ≡ 256 * 2 ^ (8 * w)
pow_step w = ap (λ (n : ℕ). 2 ^ n) (mul-suc 8 w ∙ add_comm (8 * w) 8) ∙ pow-add 2 8 (8 * w)

-- a number of w bytes is below 2^(8w)
pub le_at-lt : (s : List ℕ) → Bytes s → (w at : ℕ) → le_at s at w < 2 ^ (8 * w)
unfolding le_at
le_at-lt s bytes zero at = omega arith
le_at-lt s bytes (suc w) at = rw pow_step (omega (arith, le_at-lt s bytes w (suc at), bytes at))

-- reading depends on the bytes read alone
pub le_at-same : (s t : List ℕ) (w p q : ℕ) → ((k : ℕ) → k < w → get_or s (p + k) 0 ≡ get_or t (q + k) 0) → le_at s p w ≡ le_at t q w
unfolding le_at
le_at-same s t zero p q h = refl
le_at-same s t (suc w) p q h =
    ap₂ (λ (a b : ℕ). a + 256 * b)
    (ap (λ (k : ℕ). get_or s k 0) (sym (add-zero p)) ∙ h 0 (omega arith) ∙ ap (λ (k : ℕ). get_or t k 0) (add-zero q))
    (le_at-same s t w (suc p) (suc q) (λ k l. ap (λ (n : ℕ). get_or s n 0) (shift p k) ∙ h (suc k) (omega arith) ∙ ap (λ (n : ℕ). get_or t n 0) (sym (shift q k))))
  where
    shift : (m k : ℕ) → suc m + k ≡ m + suc k
    shift m k = omega arith

-- reading at a place is reading what stands there from its front
pub le_at-drop : (s : List ℕ) (w at : ℕ) → le_at s at w ≡ le_at (drop at s) 0 w
le_at-drop s w at = le_at-same s (drop at s) w at 0 (λ k h. sym (get_or-drop at s (0 + k) 0 ∙ ap (λ (n : ℕ). get_or s (at + n) 0) (plain k)))
  where
    plain : (k : ℕ) → 0 + k ≡ k
    plain k = omega arith

-- reading behind a prefix is reading the rest
pub le_at-append : (p q : List ℕ) (w k : ℕ) → le_at (p ++ q) (length p + k) w ≡ le_at q k w
le_at-append p q w k =
    le_at-same (p ++ q) q w (length p + k) k
    (λ j h. ap (λ (n : ℕ). get_or (p ++ q) n 0) (regroup (length p) j) ∙ get_or-append-add p q (k + j) 0)
  where
    regroup : (l j : ℕ) → l + k + j ≡ l + (k + j)
    regroup l j = omega arith

-- the bytes of a number, read from the front, are the number
pub le_at-front : (w v : ℕ) (q : List ℕ) → v < 2 ^ (8 * w) → le_at (le_bytes w v ++ q) 0 w ≡ v
unfolding le_at le_bytes
le_at-front zero v q h = omega arith
le_at-front (suc w) v q h =
    ap (λ (n : ℕ). v % 256 + 256 * n)
    (le_at-append (v % 256 ∷ []) (le_bytes w (v / 256) ++ q) w 0 ∙ le_at-front w (v / 256) q (let h' : v < 256 * 2 ^ (8 * w) = rw pow_step at h in omega arith))
    ∙ omega arith

-- what stands at a place as the bytes of a number is read there as that number
pub le_at-standing : (s : List ℕ) (at w v : ℕ) (q : List ℕ) → drop at s ≡ le_bytes w v ++ q → v < 2 ^ (8 * w) → le_at s at w ≡ v
le_at-standing s at w v q e h = le_at-drop s w at ∙ ap (λ (t : List ℕ). le_at t 0 w) e ∙ le_at-front w v q h

-- reading gives back what was written, at any width
pub le_at-le_bytes : (w v : ℕ) (p q : List ℕ) → v < 2 ^ (8 * w) → le_at (p ++ le_bytes w v ++ q) (length p) w ≡ v
le_at-le_bytes w v p q h =
    rw append_assoc (ap (λ (n : ℕ). le_at (p ++ (le_bytes w v ++ q)) n w) (sym (add-zero (length p))) ∙ le_at-append p (le_bytes w v ++ q) w 0 ∙ le_at-front w v q h)

-- one more byte, in front
pub le_at-more : (s : List ℕ) (at w : ℕ) → le_at s at (suc w) ≡ get_or s at 0 + 256 * le_at s (at + 1) w
unfolding le_at
le_at-more s at w = ap (λ (k : ℕ). get_or s at 0 + 256 * le_at s k w) (sym (add-one at))

-- writing gives back the bytes that were read
pub le_bytes-le_at : (s : List ℕ) → Bytes s → (w at : ℕ) → at + w ≤ length s → le_bytes w (le_at s at w) ≡ take w (drop at s)
unfolding le_at le_bytes
le_bytes-le_at s bytes zero at h = refl
le_bytes-le_at s bytes (suc w) at h =
    let b = bytes at in
    let r : (get_or s at 0 + 256 * le_at s (suc at) w) % 256 ≡ get_or s at 0 = omega arith in
    let q : (get_or s at 0 + 256 * le_at s (suc at) w) / 256 ≡ le_at s (suc at) w = omega arith in
    ap₂ (λ (x y : ℕ). x ∷ le_bytes w y) r q
    ∙ ap (λ (l : List ℕ). get_or s at 0 ∷ l) (le_bytes-le_at s bytes w (suc at) (omega arith))
    ∙ ap (take (suc w)) (sym (drop-cons s at 0 (omega arith)))

pub le_at-none : (s : List ℕ) (at : ℕ) → le_at s at 0 ≡ 0
unfolding le_at
le_at-none s at = refl

-- a number in two parts: the low bytes, then the high ones
pub le_at-split : (s : List ℕ) (v w at : ℕ) → le_at s at (w + v) ≡ le_at s at w + 2 ^ (8 * w) * le_at s (at + w) v
unfolding le_at
le_at-split s v zero at =
    let e : le_at s at (0 + v) ≡ le_at s (at + 0) v = ap₂ (le_at s) (sym (add-zero at)) (zero-add v) in
    omega arith
le_at-split s v (suc w) at =
    let e : le_at s at (suc w + v) ≡ get_or s at 0 + 256 * le_at s (suc at) (w + v) = ap (le_at s at) (suc-add w v) in
    let n : le_at s (suc at + w) v ≡ le_at s (at + suc w) v = ap (λ (k : ℕ). le_at s k v) (suc-add at w ∙ sym (add-suc at w)) in
    e
    ∙ ap (λ (k : ℕ). get_or s at 0 + 256 * k) (le_at-split s v w (suc at) ∙ ap (λ (k : ℕ). le_at s (suc at) w + 2 ^ (8 * w) * k) n)
    ∙ regroup (get_or s at 0) (le_at s (suc at) w) (2 ^ (8 * w)) (le_at s (at + suc w) v)
    ∙ ap (λ (k : ℕ). get_or s at 0 + 256 * le_at s (suc at) w + k * le_at s (at + suc w) v) (sym (pow_step w))
  where
    regroup : (a b p x : ℕ) → a + 256 * (b + p * x) ≡ a + 256 * b + 256 * p * x
    regroup a b p x = simp (mul-add, mul_assoc, add_assoc)

pub le_bytes-more : (w v : ℕ) → le_bytes (suc w) v ≡ (v % 256) ∷ le_bytes w (v / 256)
unfolding le_bytes
le_bytes-more w v = refl

pub le_bytes-none : (v : ℕ) → le_bytes 0 v ≡ []
unfolding le_bytes
le_bytes-none v = refl

-- a turn of the loop that writes: what is left to write from there is what was left before
pub put_step : (out : List ℕ) (at w i v : ℕ) → i < w
    → sets (set out (at + i) (v % 256)) (at + (i + 1)) (le_bytes (w - (i + 1)) (v / 256)) ≡ sets out (at + i) (le_bytes (w - i) v)
put_step out at w i v h =
    let n : w - i ≡ suc (w - (i + 1)) = omega arith in
    let k : at + (i + 1) ≡ suc (at + i) = omega arith in
    ap (λ (k : ℕ). sets (set out (at + i) (v % 256)) k (le_bytes (w - (i + 1)) (v / 256))) k
    ∙ ap (sets out (at + i)) (sym (ap (λ (m : ℕ). le_bytes m v) n ∙ le_bytes-more (w - (i + 1)) v))

pub put_done : (out : List ℕ) (at w i v : ℕ) → w ≤ i → sets out at (le_bytes (w - i) v) ≡ out
put_done out at w i v h =
    let e : w - i ≡ 0 = omega arith in
    ap (λ (k : ℕ). sets out at (le_bytes k v)) e ∙ ap (sets out at) (le_bytes-none v)

-- a byte is a number of width 1
pub le_at-one : (s : List ℕ) (at : ℕ) → le_at s at 1 ≡ get_or s at 0
le_at-one s at = le_at-more s at 0 ∙ let z = le_at-none s (at + 1) in omega arith

pub width_8 : (w : ℕ) → is_width w ≡ true → (w ≡ 1 → ⊥) → (w ≡ 2 → ⊥) → (w ≡ 4 → ⊥) → w ≡ 8
unfolding is_width
width_8 w e n₁ n₂ n₄ =
    one_of-case (λ n. w ≡ n → w ≡ 8) _ w e ((λ q. absurd (n₁ q)), ((λ q. absurd (n₂ q)), ((λ q. absurd (n₄ q)), ((λ q. q), tt)))) refl

-- equal numbers of a width were read from equal bytes
pub le_at-bytes : (s t : List ℕ) → Bytes s → Bytes t → (w p q : ℕ) → le_at s p w ≡ le_at t q w → (k : ℕ) → k < w → get_or s (p + k) 0 ≡ get_or t (q + k) 0
unfolding le_at
le_at-bytes s t bs bt zero p q e k h = absurd (not-suc-le-zero h)
le_at-bytes s t bs bt (suc w) p q e zero h =
    ap (λ (n : ℕ). get_or s n 0) (add-zero p) ∙ omega (arith, bs p, bt q) ∙ ap (λ (n : ℕ). get_or t n 0) (sym (add-zero q))
le_at-bytes s t bs bt (suc w) p q e (suc k) h =
    ap (λ (n : ℕ). get_or s n 0) (shift p)
    ∙ le_at-bytes s t bs bt w (suc p) (suc q) (omega (arith, bs p, bt q)) k (omega arith)
    ∙ ap (λ (n : ℕ). get_or t n 0) (sym (shift q))
  where
    shift : (m : ℕ) → m + suc k ≡ suc m + k
    shift m = omega arith

-- the low bytes of a number are its own
pub le_bytes-same : (w u v q : ℕ) → u + 2 ^ (8 * w) * q ≡ v → le_bytes w u ≡ le_bytes w v
unfolding le_bytes
le_bytes-same zero u v q e = refl
le_bytes-same (suc w) u v q e =
    let t : 2 ^ (8 * suc w) * q ≡ 256 * (2 ^ (8 * w) * q) = ap (λ (n : ℕ). n * q) (pow_step w) ∙ mul_assoc 256 (2 ^ (8 * w)) q in
    ap₂ ◌∷◌ (let low : u % 256 ≡ v % 256 = omega arith in low) (le_bytes-same w (u / 256) (v / 256) q (omega arith))

-- the low bytes stored are the number's
pub low_stored : (out x : List ℕ) (at width w v : ℕ) → width ≡ w → x ≡ sets out at (le_bytes w (v % 2 ^ (8 * w))) → x ≡ sets out at (le_bytes width v)
low_stored out x at width w v e h =
    h ∙ ap (sets out at) (le_bytes-same w (v % 2 ^ (8 * w)) v (v / 2 ^ (8 * w)) (omega arith) ∙ ap (λ (n : ℕ). le_bytes n v) (sym e))
