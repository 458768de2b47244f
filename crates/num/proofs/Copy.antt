-- A part of a list, stored element by element in another.
-- Assumes nothing.
use Rattle.std.proofs.Common.{◌≡◌, ℕ, suc, ◌+◌, ◌-◌, ◌<◌, ◌≤◌, List, ◌∷◌, ◌++◌, length, get_or, take, drop, set, sym, ap, ◌∙◌, arith, length-append, length-take-le, drop-cons, take_at, drop-drop, append_assoc, refl}
use lib.Seq.{sets, sets-eq}
use borrow.Rule.Slice.PartMut.{put_mid}

-- one element more, in front
pub part_cons : (src : List ℕ) (from count : ℕ) → 0 < count → from < length src
    → take count (drop from src) ≡ get_or src from 0 ∷ take (count - 1) (drop (from + 1) src)
part_cons src from count h l =
    let n : count ≡ suc (count - 1) = omega arith in
    let m : suc from ≡ from + 1 = omega arith in
    ap (λ (k : ℕ). take k (drop from src)) n
    ∙ ap (take (suc (count - 1))) (drop-cons src from 0 l)
    ∙ ap (λ (k : ℕ). get_or src from 0 ∷ take (count - 1) (drop k src)) m

-- a turn of the loop that copies: what is left to store from there is what was left before
pub copy_step : (out src : List ℕ) (at from count i : ℕ) → i < count → from + count ≤ length src
    → sets (set out (at + i) (get_or src (from + i) 0)) (at + (i + 1)) (take (count - (i + 1)) (drop (from + (i + 1)) src))
    ≡ sets out (at + i) (take (count - i) (drop (from + i) src))
copy_step out src at from count i h l =
    let k : at + (i + 1) ≡ suc (at + i) = omega arith in
    let n : count - (i + 1) ≡ count - i - 1 = omega arith in
    let m : from + (i + 1) ≡ from + i + 1 = omega arith in
    sym
    (ap (sets out (at + i)) (part_cons src (from + i) (count - i) (omega arith) (omega arith))
    ∙ ap (λ (j : ℕ). sets (set out (at + i) (get_or src (from + i) 0)) j (take (count - i - 1) (drop (from + i + 1) src))) (sym k)
    ∙ ap (λ (j : ℕ). sets (set out (at + i) (get_or src (from + i) 0)) (at + (i + 1)) (take j (drop (from + i + 1) src))) (sym n)
    ∙ ap (λ (j : ℕ). sets (set out (at + i) (get_or src (from + i) 0)) (at + (i + 1)) (take (count - (i + 1)) (drop j src))) (sym m))

pub copy_done : (out src : List ℕ) (at from count i : ℕ) → count ≤ i → sets out at (take (count - i) (drop from src)) ≡ out
copy_done out src at from count i h =
    let n : count - i ≡ 0 = omega arith in
    ap (λ (k : ℕ). sets out at (take k (drop from src))) n

-- the front of a list up to the end of what was stored in it
pub take_sets : (out vs : List ℕ) (at : ℕ) → at + length vs ≤ length out → take (at + length vs) (sets out at vs) ≡ take at out ++ vs
take_sets out vs at h =
    let n : length (take at out ++ vs) ≡ at + length vs = length-append (take at out) vs ∙ ap (λ (k : ℕ). k + length vs) (length-take-le at out (omega arith)) in
    ap (take (at + length vs)) (sets-eq vs out at h) ∙ take_at (take at out ++ vs) (drop (at + length vs) out) (at + length vs) n

-- a part of a list that was copied over: what stands there afterwards, and the rest as before
pub copied : (out part : List ℕ) (at n : ℕ) → at + n ≤ length out → length part ≡ n → put_mid at n out part ≡ sets out at part
copied out part at n h e =
    let l : length part ≡ n = e in
    sym (sets-eq part out at (omega arith) ∙ rw (l, append_assoc, ← drop-drop n at out) refl)
