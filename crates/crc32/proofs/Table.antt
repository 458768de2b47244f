-- The tables' rule, computed at all 2,048 entries and said of every table that passes the test, and the steps that the
-- tables take.
-- Assumes nothing.
use Rattle.std.proofs.Common.{◌≡◌, ℕ, zero, suc, ◌+◌, ◌*◌, ◌<◌, ◌/◌, ◌%◌, ◌^◌, true, List, [], ◌∷◌, map, length, get_or, replicate, refl, sym, ap, ap₂, ◌∙◌, subst, add-zero, add-suc, zero-add, suc-add, le_of_suc-le-suc, not-suc-le-zero, mod-lt, mod-eq_of_lt, arith, lit<, eqb-true}
use Rattle.std.specs.List.{range_with_len}
use Rattle.std.specs.Int.{from_le_bytes, w64}
use Rattle.std.proofs.lemmas.List.FromFn.{get_or-map-range_with_len}
use lib.Bits.{bit_xor, xor_comm, xor_zero_r, xor_lt}
use Rattle.num.specs.Choice.{choice_defs}
use Rattle.num.specs.Number.{Bytes, le_bytes}
use Rattle.std.proofs.lemmas.Nat.{le_bytes_8}
use Rattle.num.proofs.Choice.{both_true, false_true}
use Rattle.num.proofs.Lists.{bytes_one, bytes_zeros}
use Rattle.num.proofs.Number.{pow_step, bytes_le_bytes}
use Rattle.num.proofs.Standing.{std_bytes}
use Rattle.crc32.specs.V42.{update_of, crc_defs}
use Rattle.crc32.specs.Table.{entry_of, is_row, is_next, are_next, is_table, table_defs}
use Rattle.crc32.specs.declared.TheConstants.{SLICES}
use Rattle.crc32.proofs.Register.{steps, byte_step, register, steps_add, steps_linear, steps_byte, steps_none, register_word}
use Rattle.crc32.proofs.Division.{update_register}

pub table_rule : SLICES ≡ map (λ slice. map (entry_of slice) (range_with_len 0 256)) (range_with_len 0 8)
unfolding crc_defs choice_defs
table_rule = refl

pub entry_rule : (slice byte : ℕ) → slice < 8 → byte < 256 → get_or (get_or SLICES slice []) byte 0 ≡ entry_of slice byte
entry_rule slice byte h k =
    ap (λ (t : List (List ℕ)). get_or (get_or t slice []) byte 0) table_rule
    ∙ ap (λ (r : List ℕ). get_or r byte 0) (get_or-map-range_with_len (λ slice. map (entry_of slice) (range_with_len 0 256)) 0 8 slice slice [] h (omega arith))
    ∙ get_or-map-range_with_len (entry_of slice) 0 256 byte byte 0 k (omega arith)

register_zeros : (s c : ℕ) → register c (replicate s 0) ≡ steps (8 * s) c
unfolding register byte_step steps
register_zeros zero c = refl
register_zeros (suc s) c =
    let n : 8 + 8 * s ≡ 8 * suc s = omega arith in
    register_zeros s (steps 8 (bit_xor c 0))
    ∙ ap (λ (x : ℕ). steps (8 * s) (steps 8 x)) (xor_zero_r c)
    ∙ sym (steps_add 8 (8 * s) c)
    ∙ ap (λ (k : ℕ). steps k c) n

bytes_entry : (b s : ℕ) → b < 256 → Bytes (b ∷ replicate s 0)
bytes_entry b s h zero = h
bytes_entry b s h (suc k) = bytes_zeros s k

-- a byte and some zero bytes, from a register of zeros
pub entry_steps : (s b : ℕ) → b < 256 → entry_of s b ≡ steps (8 * suc s) b
unfolding register byte_step
entry_steps s b h =
    let n : 8 + 8 * s ≡ 8 * suc s = omega arith in
    update_register 0 (b ∷ replicate s 0) (lit< tt) (bytes_entry b s h)
    ∙ register_zeros s (steps 8 (bit_xor 0 b))
    ∙ sym (steps_add 8 (8 * s) b)
    ∙ ap (λ (k : ℕ). steps k b) n

-- the low byte of a register by its own steps, the others beside it
steps_split : (n w : ℕ) → steps (8 + n) w ≡ bit_xor (steps (8 + n) (w % 256)) (steps n (w / 256))
steps_split n w =
    steps_byte n 0 w
    ∙ steps_linear n (steps 8 (w % 256)) (w / 256)
    ∙ ap (λ (x : ℕ). bit_xor x (steps n (w / 256))) (sym (steps_add 8 n (w % 256)))

steps_low : (w : ℕ) → bit_xor (steps 8 (w % 256)) (w / 256) ≡ steps 8 w
unfolding steps
steps_low w = sym (steps_split 0 w)

row_from : (f : ℕ → ℕ) (xs : List ℕ) (i : ℕ) → is_row f i xs ≡ true → (k : ℕ) → k < length xs → get_or xs k 0 ≡ f (i + k)
unfolding is_row
row_from f [] i t k h = absurd (not-suc-le-zero h)
row_from f (x ∷ xs) i t zero h = rw add-zero (eqb-true _ _ (both_true _ _ t).0)
row_from f (x ∷ xs) i t (suc k) h = row_from f xs (suc i) (both_true _ _ t).1 k (le_of_suc-le-suc h) ∙ ap f (suc-add i k ∙ sym (add-suc i k))

-- what stands at each place of a row that passes the test
pub row_at : (f : ℕ → ℕ) (xs : List ℕ) → is_row f 0 xs ≡ true → (k : ℕ) → k < length xs → get_or xs k 0 ≡ f k
row_at f xs t k h = row_from f xs 0 t k h ∙ ap f (zero-add k)

next_at : (first ps xs : List ℕ) → is_next first ps xs ≡ true → (k : ℕ) → k < length ps
    → get_or xs k 0 ≡ bit_xor (get_or first (get_or ps k 0 % 256) 0) (get_or ps k 0 / 256)
unfolding is_next
next_at first [] [] t k h = absurd (not-suc-le-zero h)
next_at first [] (x ∷ xs) t k h = false_true t
next_at first (p ∷ ps) [] t k h = false_true t
next_at first (p ∷ ps) (x ∷ xs) t zero h = eqb-true _ _ (both_true _ _ t).0
next_at first (p ∷ ps) (x ∷ xs) t (suc k) h = next_at first ps xs (both_true _ _ t).1 k (le_of_suc-le-suc h)

next_length : (first ps xs : List ℕ) → is_next first ps xs ≡ true → length ps ≡ length xs
unfolding is_next
next_length first [] [] t = refl
next_length first [] (x ∷ xs) t = false_true t
next_length first (p ∷ ps) [] t = false_true t
next_length first (p ∷ ps) (x ∷ xs) t = ap suc (next_length first ps xs (both_true _ _ t).1)

-- a row whose entries are the bytes after so many bytes of steps
Row : ℕ → List ℕ → Type 0
Row n r = (length r ≡ 256) × ((k : ℕ) → k < 256 → get_or r k 0 ≡ steps (8 * suc n) k)

one_on : (first p r : List ℕ) (n : ℕ) → Row 0 first → Row n p → is_next first p r ≡ true → Row (suc n) r
unfolding Row
one_on first p r n hf hp t = (sym (next_length first p r t) ∙ hp.0, at)
  where
    at : (k : ℕ) → k < 256 → get_or r k 0 ≡ steps (8 * suc (suc n)) k
    at k hk =
        let q = steps (8 * suc n) k in
        let l : k < length p = rw hp.0 hk in
        let m : 8 * suc n + 8 ≡ 8 * suc (suc n) = omega arith in
        next_at first p r t k l
        ∙ ap (λ (x : ℕ). bit_xor (get_or first (x % 256) 0) (x / 256)) (hp.1 k hk)
        ∙ ap (λ (x : ℕ). bit_xor x (q / 256)) (hf.1 (q % 256) (mod-lt q (lit< tt)))
        ∙ steps_low q
        ∙ sym (steps_add (8 * suc n) 8 k)
        ∙ ap (λ (j : ℕ). steps j k) m

rows_at : (first : List ℕ) → Row 0 first → (rs : List (List ℕ)) (p : List ℕ) (n : ℕ) → Row n p → are_next first p rs ≡ true
    → (s : ℕ) → s < length rs → Row (suc (n + s)) (get_or rs s [])
unfolding are_next
rows_at first hf [] p n hp t s hs = absurd (not-suc-le-zero hs)
rows_at first hf (r ∷ rs) p n hp t zero hs = rw add-zero (one_on first p r n hf hp (both_true _ _ t).0)
rows_at first hf (r ∷ rs) p n hp t (suc s) hs =
    subst (λ (m : ℕ). Row (suc m) (get_or rs s [])) (suc-add n s ∙ sym (add-suc n s))
    (rows_at first hf rs r (suc n) (one_on first p r n hf hp (both_true _ _ t).0) (both_true _ _ t).1 s (le_of_suc-le-suc hs))

first_row : (r : List ℕ) → length r ≡ 256 → is_row (entry_of 0) 0 r ≡ true → Row 0 r
unfolding Row
first_row r l t = (l, λ k hk. row_at (entry_of 0) r t k (rw l hk) ∙ entry_steps 0 k hk)

later_row : (r : List ℕ) (rs : List (List ℕ)) → length rs ≡ 7 → Row 0 r → are_next r r rs ≡ true → (s : ℕ) → s < 8 → Row s (get_or (r ∷ rs) s [])
later_row r rs l first t zero hs = first
later_row r rs l first t (suc n) hs =
    subst (λ (m : ℕ). Row (suc m) (get_or rs n [])) (zero-add n) (rows_at r first rs r 0 first t n (omega arith))

table_rows : (t : List (List ℕ)) → is_table t ≡ true → (s : ℕ) → s < 8 → Row s (get_or t s [])
unfolding is_table
table_rows [] e s hs = false_true e
table_rows (r ∷ rs) e s hs =
    let e₁ = both_true _ _ e in
    let e₂ = both_true _ _ e₁.1 in
    let e₃ = both_true _ _ e₂.1 in
    later_row r rs (eqb-true _ _ e₁.0) (first_row r (eqb-true _ _ e₂.0) e₃.0) e₃.1 s hs

-- the rule at each entry of a table that passes the test
pub table_at : (t : List (List ℕ)) → is_table t ≡ true → (s k : ℕ) → s < 8 → k < 256 → get_or (get_or t s []) k 0 ≡ entry_of s k
unfolding Row
table_at t e s k hs hk = (table_rows t e s hs).1 k hk ∙ sym (entry_steps s k hk)

-- the tables that the code reads pass the test
pub slices_pass : is_table SLICES ≡ true
unfolding crc_defs choice_defs table_defs
slices_pass = refl

-- the entries of the bytes of a word, n and one more, each from its own row of a table
unfoldable pub entries : ℕ → ℕ → ℕ
entries zero w = entry_of 0 (w % 256)
entries (suc n) w = bit_xor (entry_of (suc n) (w % 256)) (entries n (w / 256))

entries_steps : (n w : ℕ) → w < 2 ^ (8 * suc n) → entries n w ≡ steps (8 * suc n) w
unfolding entries
entries_steps zero w h = entry_steps 0 (w % 256) (omega arith) ∙ ap (steps 8) (mod-eq_of_lt h)
entries_steps (suc n) w h =
    let h' : w < 256 * 2 ^ (8 * suc n) = rw pow_step at h in
    let m : 8 + 8 * suc n ≡ 8 * suc (suc n) = omega arith in
    ap₂ bit_xor (entry_steps (suc n) (w % 256) (omega arith)) (entries_steps n (w / 256) (omega arith))
    ∙ ap (λ (k : ℕ). bit_xor (steps k (w % 256)) (steps (8 * suc n) (w / 256))) (sym m)
    ∙ sym (steps_split (8 * suc n) w)
    ∙ ap (λ (k : ℕ). steps k w) m

-- the word step: the entries of its eight bytes are the register after them
pub eight_entries : (c v : ℕ) → c < 2 ^ 32 → v < 2 ^ 64 → entries 7 (bit_xor v c) ≡ update_of c (le_bytes 8 v)
eight_entries c v hc hv =
    entries_steps 7 (bit_xor v c) (xor_lt 64 v c hv (omega arith))
    ∙ ap (steps 64) (xor_comm v c)
    ∙ sym (register_word 8 v c hv)
    ∙ sym (update_register c (le_bytes 8 v) hc (bytes_le_bytes 8 v))

-- the byte of a number at a bit
abbrev w_byte : ℕ → ℕ → ℕ
w_byte w k = w / 2 ^ k % 256

-- a low byte, and what is left by a rule already
step : (s w v rest : ℕ) → w / 256 ≡ v → steps (8 * s) v ≡ rest → steps (8 * suc s) w ≡ bit_xor (entry_of s (w % 256)) rest
step s w v rest e f =
    let n : 8 * suc s ≡ 8 + 8 * s = omega arith in
    ap (λ (k : ℕ). steps k w) n
    ∙ steps_split (8 * s) w
    ∙ ap₂ bit_xor (ap (λ (k : ℕ). steps k (w % 256)) (sym n) ∙ sym (entry_steps s (w % 256) (omega arith))) (ap (steps (8 * s)) e ∙ f)

word_entries : (w : ℕ) → w < 2 ^ 64 → steps 64 w
    ≡ bit_xor (entry_of 7 (w % 256)) (bit_xor (entry_of 6 (w_byte w 8)) (bit_xor (entry_of 5 (w_byte w 16)) (bit_xor (entry_of 4 (w_byte w 24))
    (bit_xor (entry_of 3 (w_byte w 32)) (bit_xor (entry_of 2 (w_byte w 40)) (bit_xor (entry_of 1 (w_byte w 48)) (entry_of 0 (w_byte w 56))))))))
word_entries w small =
    step 7 w (w / 2 ^ 8) _ refl
    (step 6 (w / 2 ^ 8) (w / 2 ^ 16) _ (omega arith)
    (step 5 (w / 2 ^ 16) (w / 2 ^ 24) _ (omega arith)
    (step 4 (w / 2 ^ 24) (w / 2 ^ 32) _ (omega arith)
    (step 3 (w / 2 ^ 32) (w / 2 ^ 40) _ (omega arith)
    (step 2 (w / 2 ^ 40) (w / 2 ^ 48) _ (omega arith)
    (step 1 (w / 2 ^ 48) (w / 2 ^ 56) _ (omega arith)
    (let top : w / 2 ^ 56 ≡ w / 2 ^ 56 % 256 = omega arith in ap (steps 8) top ∙ sym (entry_steps 0 (w / 2 ^ 56 % 256) (omega arith)))))))))

-- eight bytes by their entries, those of the last bytes joined first
pub eight_rule : (c word : ℕ) (bytes : List ℕ) → c < 2 ^ 32 → length bytes ≡ 8 → Bytes bytes → from_le_bytes w64 bytes < 2 ^ 64
    → word ≡ bit_xor (from_le_bytes w64 bytes) c
    → bit_xor (entry_of 7 (word % 256)) (bit_xor (entry_of 6 (w_byte word 8)) (bit_xor (entry_of 5 (w_byte word 16)) (bit_xor (entry_of 4 (w_byte word 24))
    (bit_xor (entry_of 3 (w_byte word 32)) (bit_xor (entry_of 2 (w_byte word 40)) (bit_xor (entry_of 1 (w_byte word 48)) (entry_of 0 (w_byte word 56))))))))
    ≡ update_of c bytes
eight_rule c word bytes hc eight h small is =
    let v = from_le_bytes w64 bytes in
    sym (word_entries word (rw is (xor_lt 64 v c small (omega arith))))
    ∙ ap (steps 64) (is ∙ xor_comm v c)
    ∙ sym (register_word 8 v c small)
    ∙ ap (register c) (sym (std_bytes 8 v) ∙ le_bytes_8 bytes v eight h refl)
    ∙ sym (update_register c bytes hc h)

-- the byte step: the low byte of the register and the byte by the first table
pub one_law : (c b w r : ℕ) → w ≡ b → b < 256 → c < 2 ^ 32 → r ≡ entry_of 0 (bit_xor c w % 256)
    → bit_xor r (bit_xor c w / 256 % 2 ^ 32) ≡ update_of c (b ∷ [])
unfolding register byte_step
one_law c b w r e hb hc er =
    let x : bit_xor c w < 2 ^ 32 = xor_lt 32 c w hc (omega arith) in
    let m : bit_xor c w / 256 % 2 ^ 32 ≡ bit_xor c w / 256 = omega arith in
    ap₂ bit_xor (er ∙ entry_steps 0 (bit_xor c w % 256) (omega arith)) m
    ∙ steps_low (bit_xor c w)
    ∙ ap (λ (z : ℕ). steps 8 (bit_xor c z)) e
    ∙ sym (update_register c (b ∷ []) hc (bytes_one b hb))

-- a byte by one entry
pub one_rule : (c b : ℕ) → c < 2 ^ 32 → b < 256 → bit_xor (entry_of 0 (bit_xor (c % 256) b)) (c / 256) ≡ update_of c (b ∷ [])
unfolding register byte_step
one_rule c b hc hb =
    rw (entry_steps 0 (bit_xor (c % 256) b) (xor_lt 8 (c % 256) b (omega arith) hb), update_register c (b ∷ []) hc (bytes_one b hb), xor_comm (c % 256) b, xor_comm c b)
    (sym (steps_byte 0 b c ∙ steps_none _))
