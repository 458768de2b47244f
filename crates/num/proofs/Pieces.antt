-- Equal parts of two lists, and pieces of one length, one behind the other.
-- Assumes nothing.
use Rattle.std.proofs.Common.{◌≡◌, ℕ, zero, suc, ◌+◌, ◌*◌, ◌^◌, ◌<◌, ◌≤◌, List, [], ◌++◌, length, get_or, take, drop, sym, ap, ◌∙◌, append_assoc, append-nil, not-suc-le-zero, suc-mul, zero-add, zero-mul, arith, length-append}
use Rattle.num.specs.Number.{le_at, le_bytes}
use Rattle.num.proofs.Lists.{standing_next, standing_part, part_at, part_part}
use Rattle.num.proofs.Number.{le_at-same, le_at-front}

module _ {A : Type 0} where
  -- what stands behind a part of n elements
  pub standing_behind : (l t rest : List A) (place n : ℕ) → drop place l ≡ t ++ rest → length t ≡ n → drop (place + n) l ≡ rest
  standing_behind l t rest place n e h = ap (λ (k : ℕ). drop (place + k) l) (sym h) ∙ standing_next l t rest place e

  -- the n elements that stand at a place
  pub standing_here : (l t rest : List A) (place n : ℕ) → drop place l ≡ t ++ rest → length t ≡ n → take n (drop place l) ≡ t
  standing_here l t rest place n e h = ap (λ (k : ℕ). take k (drop place l)) (sym h) ∙ standing_part l t rest place e

  -- the parts of equal parts are equal
  pub parts_same : (l s : List A) (p q n at m : ℕ) → take n (drop p l) ≡ take n (drop q s) → at + m ≤ n
      → take m (drop (p + at) l) ≡ take m (drop (q + at) s)
  parts_same l s p q n at m e h =
      sym (part_part l p n at m h) ∙ ap (λ (t : List A). take m (drop at t)) e ∙ part_part s q n at m h

-- equal parts are equal numbers
pub le_at-parts : (l s : List ℕ) (p q w : ℕ) → take w (drop p l) ≡ take w (drop q s) → le_at l p w ≡ le_at s q w
le_at-parts l s p q w e =
    le_at-same l s w p q (λ k h. sym (part_at l p w k 0 h) ∙ ap (λ (t : List ℕ). get_or t k 0) e ∙ part_at s q w k 0 h)

-- a part that is the bytes of a number is that number
pub le_at-written : (l : List ℕ) (p w v : ℕ) → take w (drop p l) ≡ le_bytes w v → v < 2 ^ (8 * w) → le_at l p w ≡ v
le_at-written l p w v e h =
    le_at-same l (le_bytes w v ++ []) w p 0
    (λ k b. sym (part_at l p w k 0 b) ∙ ap (λ (t : List ℕ). get_or t k 0) (e ∙ sym (append-nil (le_bytes w v))) ∙ ap (λ (n : ℕ). get_or (le_bytes w v ++ []) n 0) (sym (zero-add k)))
    ∙ le_at-front w v [] h

-- pieces below n of w elements each: `pieces k count` are `count` pieces from piece k on
module _ {A : Type 0} (piece : ℕ → List A) (pieces : ℕ → ℕ → List A) (none : (k : ℕ) → pieces k 0 ≡ [])
    (more : (k count : ℕ) → pieces k (suc count) ≡ piece k ++ pieces (k + 1) count) (w n : ℕ) (sized : (i : ℕ) → i < n → length (piece i) ≡ w) where
  -- all pieces have the length of one, as often
  pub pieces_length : (k count : ℕ) → k + count ≤ n → length (pieces k count) ≡ count * w
  pieces_length k zero h = ap length (none k) ∙ sym (zero-mul w)
  pieces_length k (suc count) h =
      let e = ap length (more k count) ∙ length-append (piece k) (pieces (k + 1) count) in
      let p = sized k (omega arith) in
      let q = pieces_length (k + 1) count (omega arith) in
      omega (arith, suc-mul count w)

  -- the first piece stands before the others
  first_stands : (l rest : List A) (place k count : ℕ) → drop place l ≡ pieces k (suc count) ++ rest → drop place l ≡ piece k ++ (pieces (k + 1) count ++ rest)
  first_stands l rest place k count e = e ∙ ap (λ (t : List A). t ++ rest) (more k count) ∙ append_assoc (piece k) (pieces (k + 1) count) rest

  -- where pieces stand, each stands at its place
  pub piece_stands : (l rest : List A) (place k count i : ℕ) → k + count ≤ n → i < count → drop place l ≡ pieces k count ++ rest
      → take w (drop (place + i * w) l) ≡ piece (k + i)
  piece_stands l rest place k zero i b h e = absurd (not-suc-le-zero h)
  piece_stands l rest place k (suc count) zero b h e =
      let p : place + 0 * w ≡ place = omega arith in
      let q : k ≡ k + 0 = omega arith in
      ap (λ (m : ℕ). take w (drop m l)) p
      ∙ standing_here l (piece k) (pieces (k + 1) count ++ rest) place w (first_stands l rest place k count e) (sized k (omega arith))
      ∙ ap piece q
  piece_stands l rest place k (suc count) (suc i) b h e =
      let p : place + suc i * w ≡ place + w + i * w = omega (arith, suc-mul i w) in
      let q : k + 1 + i ≡ k + suc i = omega arith in
      let f = standing_behind l (piece k) (pieces (k + 1) count ++ rest) place w (first_stands l rest place k count e) (sized k (omega arith)) in
      ap (λ (m : ℕ). take w (drop m l)) p ∙ piece_stands l rest (place + w) (k + 1) count i (omega arith) (omega arith) f ∙ ap piece q
