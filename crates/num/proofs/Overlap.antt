-- Parts of two lists of bytes, compared by numbers that may overlap.
-- Assumes nothing.
use Rattle.std.proofs.Common.{◌≡◌, ℕ, ◌+◌, ◌-◌, ◌<◌, ◌≤◌, Bool, true, false, eqb, leb, List, length, get_or, take, drop, sym, refl, ap, ◌∙◌, add-zero, add_assoc, arith, ext_get_or, eq-eqb, eqb-true, leb-false, leb-true}
use Rattle.num.specs.Number.{Bytes, le_at}
use Rattle.num.specs.Order.{equal_bytes}
use Rattle.num.proofs.Choice.{same_truth, never_true}
use Rattle.num.proofs.Lists.{part_at, part_length}
use Rattle.num.proofs.Number.{le_at-bytes, le_at-same}
use Rattle.num.proofs.Order.{equal_bytes-same, equal_bytes-true}

at_front : (s : List ℕ) (at w : ℕ) → le_at s (at + 0) w ≡ le_at s at w
at_front s at w = ap (λ (k : ℕ). le_at s k w) (add-zero at)

module _ (a : List ℕ) (i : ℕ) (b : List ℕ) (j : ℕ) where
  -- the first m bytes at two places are the same
  abbrev pub Agree : ℕ → Type 0
  Agree m = (k : ℕ) → k < m → get_or a (i + k) 0 ≡ get_or b (j + k) 0

  pub agree_none : Agree 0
  agree_none k h = absurd (omega arith)

  -- are the parts of n bytes the same?
  abbrev pub same : ℕ → Bool
  same n = equal_bytes (take n (drop i a)) (take n (drop j b))

  pub agree_same : (n : ℕ) → i + n ≤ length a → j + n ≤ length b → Agree n → same n ≡ true
  agree_same n ha hb g =
      let la = part_length a i n ha in
      let lb = part_length b j n hb in
      equal_bytes-same _ _
      (ext_get_or 0 (take n (drop i a)) (take n (drop j b)) (la ∙ sym lb)
      (λ k h. part_at a i n k 0 (omega arith) ∙ g k (omega arith) ∙ sym (part_at b j n k 0 (omega arith))))

  pub same_agree : (n : ℕ) → same n ≡ true → Agree n
  same_agree n e k h =
      sym (part_at a i n k 0 h) ∙ ap (λ (l : List ℕ). get_or l k 0) (equal_bytes-true _ _ e) ∙ part_at b j n k 0 h

  -- the parts agree in the numbers of w bytes from p on
  pub agree_number : (n p w : ℕ) → p + w ≤ n → Agree n → le_at a (i + p) w ≡ le_at b (j + p) w
  agree_number n p w h g =
      le_at-same a b w (i + p) (j + p)
      (λ k l. ap (λ (m : ℕ). get_or a m 0) (add_assoc i p k) ∙ g (p + k) (omega arith) ∙ sym (ap (λ (m : ℕ). get_or b m 0) (add_assoc j p k)))

  module _ (ba : Bytes a) (bb : Bytes b) where
    -- one more number that is the same, with no byte left out before it
    pub agree_more : (m p w : ℕ) → p ≤ m → Agree m → le_at a (i + p) w ≡ le_at b (j + p) w → Agree (p + w)
    agree_more m p w h g e k l = go (leb p k) refl
      where
        behind : (at : ℕ) → p ≤ k → at + p + (k - p) ≡ at + k
        behind at q = omega arith

        go : (t : Bool) → leb p k ≡ t → get_or a (i + k) 0 ≡ get_or b (j + k) 0
        go true t =
            let q = leb-true p k t in
            sym (ap (λ (n : ℕ). get_or a n 0) (behind i q))
            ∙ le_at-bytes a b ba bb w (i + p) (j + p) e (k - p) (omega arith)
            ∙ ap (λ (n : ℕ). get_or b n 0) (behind j q)
        go false t = g k (omega (arith, leb-false p k t))

    -- the last number decides, if the bytes before it agree
    pub last_number : (n m p w : ℕ) → i + n ≤ length a → j + n ≤ length b → p + w ≡ n → p ≤ m → Agree m
        → eqb (le_at a (i + p) w) (le_at b (j + p) w) ≡ same n
    last_number n m p w ha hb e h g =
        same_truth _ (same n)
        (λ t. agree_same n ha hb (λ k l. agree_more m p w h g (eqb-true _ _ t) k (omega arith)))
        (λ t. eq-eqb _ _ (agree_number n p w (omega arith) (same_agree n t)))

    -- two numbers decide that overlap, or meet
    pub both_ends : (n w : ℕ) → i + n ≤ length a → j + n ≤ length b → w ≤ n → n ≤ w + w → le_at a i w ≡ le_at b j w
        → eqb (le_at a (i + (n - w)) w) (le_at b (j + (n - w)) w) ≡ same n
    both_ends n w ha hb l m e =
        last_number n w (n - w) w ha hb (omega arith) (omega arith)
        (λ k h. agree_more 0 0 w (omega arith) agree_none (at_front a i w ∙ e ∙ sym (at_front b j w)) k (omega arith))

  -- another number in front is another part
  pub other_front : (n w : ℕ) → w ≤ n → (le_at a i w ≡ le_at b j w → ⊥) → same n ≡ false
  other_front n w h d = never_true (same n) (λ t. d (sym (at_front a i w) ∙ agree_number n 0 w (omega arith) (same_agree n t) ∙ at_front b j w))

  -- another number is another part
  pub other_number : (n p w : ℕ) → p + w ≤ n → (le_at a (i + p) w ≡ le_at b (j + p) w → ⊥) → same n ≡ false
  other_number n p w h d = never_true (same n) (λ t. d (agree_number n p w h (same_agree n t)))
