-- Numbers read or compared one by one.
-- Assumes nothing.
use Rattle.std.proofs.Common.{◌≡◌, refl, sym, ap, ◌∙◌, ℕ, zero, suc, ◌+◌, ◌-◌, ◌<◌, ◌≤◌, Bool, true, false, List, eqb, length, get_or, set, take, min, drop, leb, leb-true, leb-false, drop-cons, drop_of_length-le, take_all, arith}
use lib.Seq.{sets, length-sets}
use Rattle.std.specs.Prelude.{◌&&◌}
use Rattle.num.specs.Choice.{both}
use Rattle.num.proofs.Lists.{part_sets_same}
use Rattle.list.specs.Rows.{number_at, behind, behind_all, numbers_at, stand_at}

pub behind_step : (n i place : ℕ) → i < n → behind_all (n - (i + 1)) (behind place) ≡ behind_all (n - i) place
unfolding behind_all
behind_step n i place h =
    let m : n - i ≡ suc (n - (i + 1)) = omega arith in
    sym (ap (λ (k : ℕ). behind_all k place) m)

pub behind_done : (n i place : ℕ) → n ≤ i → behind_all (n - i) place ≡ place
unfolding behind_all
behind_done n i place h =
    let m : n - i ≡ 0 = omega arith in
    ap (λ (k : ℕ). behind_all k place) m

numbers_length : (list : List ℕ) (place n : ℕ) → length (numbers_at list place n) ≡ n
unfolding numbers_at
numbers_length list place zero = refl
numbers_length list place (suc n) = ap suc (numbers_length list (behind place) n)

-- a turn of the loop that reads: what is left to store from there is what was left before
pub numbers_step : (to list : List ℕ) (n i place : ℕ) → i < n
    → sets (set to i (number_at list place)) (i + 1) (numbers_at list (behind place) (n - (i + 1))) ≡ sets to i (numbers_at list place (n - i))
unfolding numbers_at
numbers_step to list n i place h =
    let m : n - i ≡ suc (n - (i + 1)) = omega arith in
    let k : i + 1 ≡ suc i = omega arith in
    sym
    (ap (λ (j : ℕ). sets to i (numbers_at list place j)) m
    ∙ ap (λ (j : ℕ). sets (set to i (number_at list place)) j (numbers_at list (behind place) (n - (i + 1)))) (sym k))

pub numbers_done : (to list : List ℕ) (n i place : ℕ) → n ≤ i → sets to i (numbers_at list place (n - i)) ≡ to
unfolding numbers_at
numbers_done to list n i place h =
    let m : n - i ≡ 0 = omega arith in
    ap (λ (j : ℕ). sets to i (numbers_at list place j)) m

-- stored over as many places, they are all there is
pub numbers_whole : (to list : List ℕ) (place : ℕ) → sets to 0 (numbers_at list place (length to)) ≡ numbers_at list place (length to)
numbers_whole to list place =
    let all = numbers_at list place (length to) in
    let n = numbers_length list place (length to) in
    let l = length-sets to 0 all in
    sym (take_all (length all) (sets to 0 all) (omega arith)) ∙ part_sets_same all to 0 (omega arith)

-- a turn of the loop that compares
pub stand_step : (same : Bool) (list numbers : List ℕ) (i place : ℕ) → i < length numbers
    → both (same && eqb (number_at list place) (get_or numbers i 0)) (stand_at list (behind place) (drop (i + 1) numbers)) ≡ both same (stand_at list place (drop i numbers))
unfolding stand_at both
stand_step same list numbers i place h =
    let k : i + 1 ≡ suc i = omega arith in
    ap (λ (j : ℕ). both (same && eqb (number_at list place) (get_or numbers i 0)) (stand_at list (behind place) (drop j numbers))) k
    ∙ go same
    ∙ ap (λ (l : List ℕ). both same (stand_at list place l)) (sym (drop-cons numbers i 0 h))
  where
    rest : Bool
    rest = stand_at list (behind place) (drop (suc i) numbers)

    go : (b : Bool) → both (b && eqb (number_at list place) (get_or numbers i 0)) rest ≡ both b (both (eqb (number_at list place) (get_or numbers i 0)) rest)
    go true = refl
    go false = refl

-- all were compared
pub stand_done : (same : Bool) (list numbers : List ℕ) (i place : ℕ) → length numbers ≤ i → both same (stand_at list place (drop i numbers)) ≡ same
unfolding stand_at both
stand_done same list numbers i place h = ap (λ (l : List ℕ). both same (stand_at list place l)) (drop_of_length-le numbers {i = i} h) ∙ go same
  where
    go : (b : Bool) → both b true ≡ b
    go true = refl
    go false = refl

-- no more is taken than there is
pub take_least : (n : ℕ) (xs : List ℕ) → take (min (length xs) n) xs ≡ take n xs
take_least n xs = go (leb (length xs) n) refl
  where
    go : (b : Bool) → leb (length xs) n ≡ b → take (min (length xs) n) xs ≡ take n xs
    go true e = let h = leb-true _ _ e in take_all (min (length xs) n) xs (omega arith) ∙ sym (take_all n xs h)
    go false e = let h = leb-false _ _ e in let m : min (length xs) n ≡ n = omega arith in ap (λ (k : ℕ). take k xs) m
