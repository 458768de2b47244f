-- The division of V.42 is what the register does.
-- Assumes nothing.
use mathlib.Core.Path.{◌≡◌, refl, sym, ap, ap₂, ◌∙◌, subst}
use mathlib.Core.List.{List, [], ◌∷◌, ◌++◌, map}
use mathlib.Core.Bool.{Bool, true, false, not}
use Prim.Native.Nat.{ℕ, zero, suc, ◌+◌, ◌*◌, ◌-◌, ◌/◌, ◌%◌, ◌<◌, ◌^◌}
use native.Mathlib.Nat.{suc_inj}
use native.Mathlib.Numerals.{add-one}
use native.Mathlib.Omega.{arith}
use lib.Pow.{shr_lt, pow-add}
use lib.Dec.{eqb, lit<}
use lib.ListN.{length, replicate, length-append}
use lib.Bits.{bit_xor, xor_assoc, xor_block, xor_zero_r, xor_comm}
use Rattle.num.specs.Choice.{when◌then◌else◌, choice_defs}
use Rattle.num.specs.Number.{Bytes}
use Rattle.num.proofs.Xor.{bit_ind}
use Rattle.num.proofs.Lists.{bytes_append}
use Rattle.crc32.specs.V42.{sum, add, bits_of, content, number_of, sum_of_remainders, crc_of, update_of, finalize_of, crc_defs}
use Rattle.crc32.proofs.Polynomial.{rest, length_rest, reduced, length_reduced, remainders_none, remainders_bit, length_sum_of_remainders}
use Rattle.crc32.proofs.Register.{poly, bit_step, steps, byte_step, register, step_linear, step_even, low_high, register_append}

bit : Bool → ℕ
bit c = when◌then◌else◌ c 1 0

bit_lt : (c : Bool) → bit c < 2
unfolding bit when◌then◌else◌
bit_lt true = omega arith
bit_lt false = omega arith

bit_sum : (a b : Bool) → bit_xor (bit a) (bit b) ≡ bit (sum a b)
unfolding bit sum when◌then◌else◌
bit_sum true true = refl
bit_sum true false = refl
bit_sum false true = refl
bit_sum false false = refl

number_cons : (c : Bool) (p : List Bool) → number_of (c ∷ p) ≡ number_of p * 2 + bit c
unfolding number_of bit
number_cons c p = omega arith

xor_cons : (a b : Bool) (m n : ℕ) → bit_xor (m * 2 + bit a) (n * 2 + bit b) ≡ bit_xor m n * 2 + bit (sum a b)
xor_cons a b m n = xor_block 1 m n (bit a) (bit b) (bit_lt a) (bit_lt b) ∙ ap (λ (x : ℕ). bit_xor m n * 2 + x) (bit_sum a b)

-- the sum of two polynomials of one length is the exclusive or of their numbers
number_add : (p q : List Bool) → length p ≡ length q → number_of (add p q) ≡ bit_xor (number_of p) (number_of q)
unfolding add number_of
number_add [] [] h = refl
number_add [] (b ∷ q) h = absurd (let z : ◌≡◌ {A = ℕ} 0 1 = omega arith in omega arith)
number_add (a ∷ p) [] h = absurd (let z : ◌≡◌ {A = ℕ} 0 1 = omega arith in omega arith)
number_add (a ∷ p) (b ∷ q) h =
    number_cons (sum a b) (add p q)
    ∙ ap (λ (x : ℕ). x * 2 + bit (sum a b)) (number_add p q (suc_inj h))
    ∙ sym (ap₂ bit_xor (number_cons a p) (number_cons b q) ∙ xor_cons a b (number_of p) (number_of q))

number_zero : (p : List Bool) → number_of (p ++ (false ∷ [])) ≡ number_of p
unfolding number_of when◌then◌else◌
number_zero [] = refl
number_zero (c ∷ p) = ap (λ (x : ℕ). when◌then◌else◌ c 1 0 + 2 * x) (number_zero p)

number_rest : number_of rest ≡ poly
unfolding rest crc_defs choice_defs
number_rest = refl

-- a step of the register, by its lowest bit and the others
step_cons : (b : Bool) (n : ℕ) → bit_step (n * 2 + bit b) ≡ when◌then◌else◌ b (bit_xor n poly) n
unfolding bit_step bit when◌then◌else◌
step_cons true n =
    let o : (n * 2 + 1) % 2 ≡ 1 = omega arith in
    let h : (n * 2 + 1) / 2 ≡ n = omega arith in
    rw (o, h) (xor_comm poly n)
step_cons false n =
    let o : (n * 2 + 0) % 2 ≡ 0 = omega arith in
    let h : (n * 2 + 0) / 2 ≡ n = omega arith in
    rw (o, h)

-- a division step behind a leading coefficient is a step of the register
number_reduced : (b : Bool) (u : List Bool) → length u ≡ 32 → number_of (reduced b u) ≡ bit_step (number_of u * 2 + bit b)
unfolding reduced when◌then◌else◌
number_reduced true u h = number_add u rest (h ∙ sym length_rest) ∙ ap (bit_xor (number_of u)) number_rest ∙ sym (step_cons true (number_of u))
number_reduced false u h = sym (step_cons false (number_of u))

-- the register fed bit by bit
feed : ℕ → List Bool → ℕ
feed c [] = c
feed c (x ∷ m) = feed (bit_step (bit_xor c (bit x))) m

xor_bit : (c x : Bool) (n : ℕ) → bit_xor (n * 2 + bit c) (bit x) ≡ n * 2 + bit (sum c x)
xor_bit c x n =
    let e : bit x ≡ 0 * 2 + bit x = omega arith in
    ap (bit_xor (n * 2 + bit c)) e ∙ xor_cons c x n 0 ∙ ap (λ (k : ℕ). k * 2 + bit (sum c x)) (xor_zero_r n)

-- the two sumOfRemainders together are the register after the bits
remainders_feed : (m r : List Bool) → length r ≡ 32 → number_of (sum_of_remainders r m) ≡ feed (number_of r) m
unfolding feed
remainders_feed [] r h = ap number_of (remainders_none r h)
remainders_feed (x ∷ m) [] h = absurd (let z : ◌≡◌ {A = ℕ} 0 1 = omega arith in omega arith)
remainders_feed (x ∷ m) (c ∷ t) h =
    let u = t ++ (false ∷ []) in
    let l : length u ≡ 32 = length-append t (false ∷ []) ∙ omega arith in
    ap number_of (remainders_bit c t x m (suc_inj h))
    ∙ remainders_feed m (reduced (sum c x) u) (length_reduced (sum c x) u ∙ l)
    ∙ ap (λ (k : ℕ). feed k m)
    (number_reduced (sum c x) u l
    ∙ ap (λ (n : ℕ). bit_step (n * 2 + bit (sum c x))) (number_zero t)
    ∙ ap bit_step (sym (ap (λ (n : ℕ). bit_xor n (bit x)) (number_cons c t) ∙ xor_bit c x (number_of t))))

bit_odd : (v : ℕ) → bit (eqb (v % 2) 1) ≡ v % 2
unfolding bit when◌then◌else◌
bit_odd v = bit_ind (λ (x : ℕ). when◌then◌else◌ (eqb x 1) 1 0 ≡ x) refl refl (v % 2) (omega arith)

-- a bit is fed, and the others of the number move down beside the register
feed_low : (c v : ℕ) → bit_step (bit_xor c v) ≡ bit_xor (bit_step (bit_xor c (v % 2))) (v / 2)
feed_low c v =
    ap bit_step (ap (bit_xor c) (sym (low_high 1 v)) ∙ sym (xor_assoc c (v % 2) (v / 2 * 2 ^ 1)))
    ∙ step_linear (bit_xor c (v % 2)) (v / 2 * 2 ^ 1)
    ∙ ap (bit_xor (bit_step (bit_xor c (v % 2)))) (step_even (v / 2) 0 ∙ omega arith)

-- the bits of a number fed one by one are stepped through as a whole
feed_number : (n v c : ℕ) (m : List Bool) → v < 2 ^ n → feed c (bits_of n v ++ m) ≡ feed (steps n (bit_xor c v)) m
unfolding feed bits_of steps
feed_number zero v c m h =
    let z : v ≡ 0 = omega arith in
    ap (λ (k : ℕ). feed k m) (sym (ap (bit_xor c) z ∙ xor_zero_r c))
feed_number (suc n) v c m h =
    let l : v / 2 < 2 ^ n = shr_lt n 1 (subst (λ (k : ℕ). v < 2 ^ k) (sym (add-one n)) h) in
    feed_number n (v / 2) (bit_step (bit_xor c (bit (eqb (v % 2) 1)))) m l
    ∙ ap (λ (k : ℕ). feed (steps n k) m) (ap (λ (x : ℕ). bit_xor (bit_step (bit_xor c x)) (v / 2)) (bit_odd v) ∙ sym (feed_low c v))

register_feed : (s : List ℕ) (c : ℕ) → Bytes s → feed c (content s) ≡ register c s
unfolding feed content register byte_step
register_feed [] c h = refl
register_feed (b ∷ s) c h = feed_number 8 b c (content s) (h 0) ∙ register_feed s (byte_step c b) (λ k. h (suc k))

length_bits_of : (n v : ℕ) → length (bits_of n v) ≡ n
unfolding bits_of
length_bits_of zero v = refl
length_bits_of (suc n) v = ap suc (length_bits_of n (v / 2))

number_bits_of : (n v : ℕ) → v < 2 ^ n → number_of (bits_of n v) ≡ v
unfolding bits_of number_of
number_bits_of zero v h = omega arith
number_bits_of (suc n) v h =
    let l : v / 2 < 2 ^ n = shr_lt n 1 (subst (λ (k : ℕ). v < 2 ^ k) (sym (add-one n)) h) in
    let e = number_bits_of n (v / 2) l in
    let b = bit_odd v in
    number_cons (eqb (v % 2) 1) (bits_of n (v / 2)) ∙ omega arith

-- the register form: from any preset the division is one step of the register per bit, each byte's lowest bit first
pub update_register : (c : ℕ) (s : List ℕ) → c < 2 ^ 32 → Bytes s → update_of c s ≡ register c s
unfolding update_of
update_register c s hc hs =
    remainders_feed (content s) (bits_of 32 c) (length_bits_of 32 c)
    ∙ ap (λ (k : ℕ). feed k (content s)) (number_bits_of 32 c hc)
    ∙ register_feed s c hs

odd_bit : (c : Bool) → eqb (bit c) 1 ≡ c
unfolding bit when◌then◌else◌
odd_bit true = refl
odd_bit false = refl

bits_number : (p : List Bool) → bits_of (length p) (number_of p) ≡ p
unfolding bits_of
bits_number [] = refl
bits_number (c ∷ p) =
    let h = bit_lt c in
    let e = number_cons c p in
    let o : number_of (c ∷ p) % 2 ≡ bit c = omega arith in
    let q : number_of (c ∷ p) / 2 ≡ number_of p = omega arith in
    ap₂ ◌∷◌ (ap (λ (x : ℕ). eqb x 1) o ∙ odd_bit c) (ap (bits_of (length p)) q ∙ bits_number p)

bit_not : (c : Bool) → bit (not c) + bit c ≡ 1
unfolding bit when◌then◌else◌
bit_not true = refl
bit_not false = refl

number_not : (p : List Bool) → number_of (map not p) + number_of p + 1 ≡ 2 ^ length p
unfolding number_of
number_not [] = refl
number_not (c ∷ p) =
    let a = number_cons (not c) (map not p) in
    let b = number_cons c p in
    let i = number_not p in
    let d = bit_not c in
    let n : suc (length p) ≡ 1 + length p = omega arith in
    let e : 2 ^ suc (length p) ≡ 2 * 2 ^ length p = ap (λ (k : ℕ). 2 ^ k) n ∙ pow-add 2 1 (length p) in
    omega arith

-- the ones' complement of a register
pub finalize_sub : (c : ℕ) → c < 2 ^ 32 → finalize_of c ≡ 2 ^ 32 - 1 - c
unfolding finalize_of
finalize_sub c h =
    let n = number_not (bits_of 32 c) in
    let l : 2 ^ length (bits_of 32 c) ≡ 2 ^ 32 = ap (λ (k : ℕ). 2 ^ k) (length_bits_of 32 c) in
    let e = number_bits_of 32 c h in
    omega arith

preset : replicate 32 true ≡ bits_of 32 0xFFFFFFFF
unfolding bits_of
preset = refl

-- the frame check sequence is the complement of the register after the bytes, preset to ones
pub crc_update : (s : List ℕ) → crc_of s ≡ finalize_of (update_of 0xFFFFFFFF s)
unfolding crc_of finalize_of update_of
crc_update s =
    let p = sum_of_remainders (replicate 32 true) (content s) in
    let l : length p ≡ 32 = length_sum_of_remainders (replicate 32 true) (content s) refl in
    ap (λ (q : List Bool). number_of (map not q)) (sym (bits_number p) ∙ ap (λ (n : ℕ). bits_of n (number_of p)) l ∙ ap (λ (q : List Bool). bits_of 32 (number_of (sum_of_remainders q (content s)))) preset)

number_lt : (p : List Bool) → number_of p < 2 ^ length p
number_lt p = let n = number_not p in omega arith

-- a register has 32 bits
pub update_lt : (c : ℕ) (s : List ℕ) → update_of c s < 2 ^ 32
unfolding update_of
update_lt c s =
    let p = sum_of_remainders (bits_of 32 c) (content s) in
    let l : 2 ^ length p ≡ 2 ^ 32 = ap (λ (k : ℕ). 2 ^ k) (length_sum_of_remainders (bits_of 32 c) (content s) (length_bits_of 32 c)) in
    omega (arith, number_lt p)

-- the register form of the frame check sequence: preset to ones, one step per bit, complemented
pub crc_register : (s : List ℕ) → Bytes s → crc_of s ≡ 2 ^ 32 - 1 - register 0xFFFFFFFF s
crc_register s h =
    crc_update s
    ∙ finalize_sub (update_of 0xFFFFFFFF s) (update_lt 0xFFFFFFFF s)
    ∙ ap (λ (k : ℕ). 2 ^ 32 - 1 - k) (update_register 0xFFFFFFFF s (lit< tt) h)

-- the register after a concatenation is that after its second part, from that after its first
pub update_append : (c : ℕ) (s t : List ℕ) → c < 2 ^ 32 → Bytes s → Bytes t → update_of c (s ++ t) ≡ update_of (update_of c s) t
update_append c s t hc hs ht =
    update_register c (s ++ t) hc (bytes_append s t hs ht)
    ∙ register_append s t c
    ∙ ap (λ (k : ℕ). register k t) (sym (update_register c s hc hs))
    ∙ sym (update_register (update_of c s) t (update_lt c s) ht)

pub update_none : (c : ℕ) → c < 2 ^ 32 → update_of c [] ≡ c
unfolding register
update_none c h = update_register c [] h (λ k. lit< tt)
