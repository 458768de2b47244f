-- The library's decimal digits of a number are those by which the lines are defined.
-- Assumes nothing.
use Rattle.std.proofs.Common.{◌≡◌, ℕ, zero, suc, ◌+◌, ◌/◌, ◌%◌, ◌^◌, ◌<◌, ◌≤◌, List, [], ◌∷◌, ◌++◌, false, decimal, length, ap, ◌∙◌, arith, append_assoc, append-nil, lt-ltb, le-ltb, eq-eqb, ne_eqb, ⊎_elim}
use Rattle.std.specs.Fmt.{digits, digits_onto}
use Rattle.std.proofs.lemmas.Fmt.{length-decimal-le}
use Rattle.std.proofs.lemmas.Bool.{cases_lt}
use Rattle.lines.specs.Lines.{decimal_from, decimal_of}

one_digit : (k f n : ℕ) (acc : List ℕ) → n < 10 → digits_onto (suc k) 10 false n acc ≡ decimal_from (suc f) n ++ acc
unfolding decimal_from
one_digit k f n acc h =
    let front : n / 10 ≡ 0 = omega arith in
    let last : n % 10 ≡ n = omega arith in
    rw (eq-eqb (n / 10) 0 front, last, lt-ltb n 10 h, decimal_from)

one_more : (k f n : ℕ) (acc : List ℕ) → 10 ≤ n → digits_onto k 10 false (n / 10) ((48 + n % 10) ∷ acc) ≡ decimal_from f (n / 10) ++ ((48 + n % 10) ∷ acc)
    → digits_onto (suc k) 10 false n acc ≡ decimal_from (suc f) n ++ acc
unfolding decimal_from
one_more k f n acc h front =
    let some : n / 10 ≡ 0 → ⊥ = λ e. omega arith in
    rw (ne_eqb (n / 10) 0 some, lt-ltb (n % 10) 10 (omega arith), le-ltb n 10 h, decimal_from, append_assoc) front

digits_from : (k f n : ℕ) (acc : List ℕ) → n < 10 ^ suc k → n < f → digits_onto (suc k) 10 false n acc ≡ decimal_from f n ++ acc
digits_from k zero n acc fits few = absurd (omega arith)
digits_from zero (suc f) n acc fits few = one_digit zero f n acc (omega arith)
digits_from (suc k) (suc f) n acc fits few = ⊎_elim
    (λ one. one_digit (suc k) f n acc one)
    (λ more. one_more (suc k) f n acc more (digits_from k f (n / 10) ((48 + n % 10) ∷ acc) (omega arith) (omega arith)))
    (cases_lt n 10)

-- as many digits as hold a number are its decimal digits
pub decimal_digits : (n k : ℕ) → 0 < k → n < 10 ^ k → digits_onto k 10 false n [] ≡ decimal_of n
unfolding decimal_of
decimal_digits n zero some fits = absurd (omega arith)
decimal_digits n (suc k) some fits = digits_from k (suc n) n [] fits (omega arith) ∙ append-nil (decimal_from (suc n) n)

-- so those of a number of 64 bits are what the library writes
pub decimal_same : (n : ℕ) → n < 2 ^ 64 → decimal n ≡ decimal_of n
unfolding digits
decimal_same n h = decimal_digits n 64 (omega arith) (omega arith)

-- a number of 64 bits has at most 20 digits
pub decimal_short : (n : ℕ) → n < 2 ^ 64 → length (decimal_of n) ≤ 20
decimal_short n h = omega (arith, ap length (decimal_same n h), length-decimal-le 20 n (omega arith) (omega arith) h)
