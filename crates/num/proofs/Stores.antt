-- Runs of stores: one behind the other, and at the front of a tail that was lent on.
-- Assumes nothing.
use Rattle.std.proofs.Common.{◌≡◌, ℕ, ◌+◌, ◌-◌, ◌≤◌, List, ◌++◌, length, take, drop, sym, ap, ◌∙◌, append_assoc, append-nil, zero-add, arith, length-drop, drop_of_length-le, take_all, drop-drop}
use lib.Seq.{sets, sets-eq}
use borrow.Rule.Slice.PartMut.{mid_of, put_mid}
use Rattle.num.specs.Number.{le_bytes}
use Rattle.num.proofs.Number.{length_le_bytes}
use Rattle.num.proofs.Lists.{sets_append}

-- a run of stores, and the one behind it, are one
pub behind : (x₀ x₁ x₂ w v : List ℕ) (a b : ℕ) → a + length w ≡ b → x₁ ≡ sets x₀ a w → x₂ ≡ sets x₁ b v → x₂ ≡ sets x₀ a (w ++ v)
behind x₀ x₁ x₂ w v a b n e f =
    f ∙ ap (λ (x : List ℕ). sets x b v) e ∙ ap (λ (k : ℕ). sets (sets x₀ a w) k v) (sym n) ∙ sets_append w v x₀ a

-- the same behind a number
pub behind_number : (x₀ x₁ x₂ v : List ℕ) (a b w n : ℕ) → a + w ≡ b → x₁ ≡ sets x₀ a (le_bytes w n) → x₂ ≡ sets x₁ b v → x₂ ≡ sets x₀ a (le_bytes w n ++ v)
behind_number x₀ x₁ x₂ v a b w n h e f = behind x₀ x₁ x₂ (le_bytes w n) v a b (ap (λ (k : ℕ). a + k) (length_le_bytes w n) ∙ h) e f

-- the elements from the a-th on, and the list with others in their place
abbrev pub tail_of : ℕ → List ℕ → List ℕ
tail_of a xs = mid_of a (length xs - a) xs

abbrev pub tail_put : ℕ → List ℕ → List ℕ → List ℕ
tail_put a xs ys = put_mid a (length xs - a) xs ys

pub tail_all : (a : ℕ) (xs : List ℕ) → drop a xs ≡ tail_of a xs
tail_all a xs = sym (take_all (length xs - a) (drop a xs) (omega (arith, length-drop a xs)))

-- a run of stores at the front of a tail is one at its place in the whole
pub sets_tail : (xs ys w : List ℕ) (a : ℕ) → a + length w ≤ length xs → ys ≡ sets (tail_of a xs) 0 w → tail_put a xs ys ≡ sets xs a w
sets_tail xs ys w a h e =
    let d = drop a xs in
    let n : length d ≡ length xs - a = length-drop a xs in
    let l : length d ≤ length xs - a = omega arith in
    let f : 0 + length w ≤ length d = omega arith in
    let r : tail_put a xs (w ++ drop (0 + length w) (drop a xs)) ≡ sets xs a w =
    simp (drop_of_length-le (drop a xs) l, append-nil, zero-add, drop-drop) (sym (sets-eq w xs a h ∙ append_assoc (take a xs) w (drop (a + length w) xs))) in
    ap (tail_put a xs) (e ∙ ap (λ (t : List ℕ). sets t 0 w) (sym (tail_all a xs)) ∙ sets-eq w d 0 f) ∙ r
