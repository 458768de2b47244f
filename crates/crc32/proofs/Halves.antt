-- The rule of a table of half bytes at each entry, from the one test over the whole table, and a byte by its halves.
-- Assumes nothing.
use Rattle.std.proofs.Common.{◌≡◌, ℕ, zero, suc, ◌+◌, ◌*◌, ◌<◌, ◌/◌, ◌%◌, ◌^◌, true, List, [], ◌∷◌, length, get_or, refl, sym, ap, ap₂, ◌∙◌, add-zero, zero-add, add-suc, suc-add, le_of_suc-le-suc, not-suc-le-zero, arith, lt-ltb, le-ltb, eqb-true}
use lib.Bits.{bit_xor}
use Rattle.num.specs.Choice.{choice_defs}
use Rattle.num.proofs.Choice.{both_true, if_true, if_false}
use Rattle.crc32.specs.V42.{crc_defs}
use Rattle.crc32.specs.Table.{entry_of, table_defs}
use Rattle.crc32.proofs.Register.{steps, steps_linear, low_high}
use Rattle.crc32.proofs.Table.{entry_steps, row_at}
use Rattle.crc32.specs.Halves.{half_at, are_rows, is_halves, halves_defs, HALVES}

rows_at : (t : List (List ℕ)) (n : ℕ) → are_rows n t ≡ true → (s k : ℕ) → s < length t → k < 32 → get_or (get_or t s []) k 0 ≡ entry_of (n + s) (half_at k)
unfolding are_rows
rows_at [] n e s k hs hk = absurd (not-suc-le-zero hs)
rows_at (r ∷ rs) n e zero k hs hk =
    let e₁ = both_true _ _ e in
    let l = eqb-true (length r) 32 e₁.0 in
    rw add-zero (row_at (λ i. entry_of n (half_at i)) r (both_true _ _ e₁.1).0 k (rw l hk))
rows_at (r ∷ rs) n e (suc s) k hs hk =
    rows_at rs (suc n) (both_true _ _ (both_true _ _ e).1).1 s k (le_of_suc-le-suc hs) hk
    ∙ ap (λ (j : ℕ). entry_of j (half_at k)) (suc-add n s ∙ sym (add-suc n s))

-- the rule at each entry of a table that passes the test
halves_at : (t : List (List ℕ)) → is_halves t ≡ true → (s k : ℕ) → s < 8 → k < 32 → get_or (get_or t s []) k 0 ≡ entry_of s (half_at k)
unfolding is_halves
halves_at t e s k hs hk =
    let b = both_true _ _ e in
    let l = eqb-true (length t) 8 b.0 in
    rows_at t 0 b.1 s k (rw l hs) hk ∙ ap (λ (j : ℕ). entry_of j (half_at k)) (zero-add s)

low_half : (x : ℕ) → x < 16 → half_at x ≡ x
unfolding half_at
low_half x h = if_true _ _ _ (lt-ltb _ _ h)

high_half : (x : ℕ) → half_at (x + 16) ≡ x * 2 ^ 4
unfolding half_at
high_half x = if_false _ _ _ (le-ltb (x + 16) 16 (omega arith)) ∙ omega arith

-- the entries of half bytes that the tables of the code hold pass the test
pub halves_pass : is_halves HALVES ≡ true
unfolding crc_defs choice_defs table_defs halves_defs HALVES
halves_pass = refl

-- a byte's entry is the exclusive or of those of its halves
pub two_halves : (t : List (List ℕ)) → is_halves t ≡ true → (s b : ℕ) → s < 8 → b < 256
    → bit_xor (get_or (get_or t s []) (b % 16) 0) (get_or (get_or t s []) (b / 16 + 16) 0) ≡ entry_of s b
two_halves t e s b hs hb =
    let low : b % 16 < 16 = omega arith in
    let high : b / 16 < 16 = omega arith in
    let byte : b / 16 * 2 ^ 4 < 256 = omega arith in
    ap₂ bit_xor
    (halves_at t e s (b % 16) hs (omega arith) ∙ ap (entry_of s) (low_half (b % 16) low) ∙ entry_steps s (b % 16) (omega arith))
    (halves_at t e s (b / 16 + 16) hs (omega arith) ∙ ap (entry_of s) (high_half (b / 16)) ∙ entry_steps s (b / 16 * 2 ^ 4) byte)
    ∙ sym (steps_linear (8 * suc s) (b % 16) (b / 16 * 2 ^ 4))
    ∙ ap (steps (8 * suc s)) (low_high 4 b)
    ∙ sym (entry_steps s b hb)
