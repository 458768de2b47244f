-- CRC-32 is the 32-bit frame check sequence of ITU-T V.42 (8.1.1.6.2), here by the division that the standard describes.
-- A polynomial modulo 2 is the list of its coefficients, that of the highest power first; `true` stands for 1.
use Rattle.std.specs.Prelude.{ℕ, zero, suc, ◌+◌, ◌*◌, ◌-◌, ◌/◌, ◌%◌, List, [], ◌∷◌, ◌++◌, map, Bool, true, false, not, eqb, length, drop, replicate}
use Rattle.num.specs.Choice.{when◌then◌else◌, one_of}

-- the sum of two coefficients modulo 2
unfoldable pub sum : Bool → Bool → Bool
sum true b = not b
sum false b = b

-- the sum modulo 2, coefficient by coefficient from the highest power down; the second polynomial is never the longer one
unfoldable pub add : List Bool → List Bool → List Bool
add [] q = []
add (a ∷ p) [] = a ∷ p
add (a ∷ p) (b ∷ q) = sum a b ∷ add p q

-- the product with x^k
unfoldable pub times_power : ℕ → List Bool → List Bool
times_power k p = p ++ replicate k false

-- the polynomial of degree n at most whose terms have the exponents listed
unfoldable pub polynomial : ℕ → List ℕ → List Bool
polynomial zero exponents = one_of exponents 0 ∷ []
polynomial (suc n) exponents = one_of exponents (suc n) ∷ polynomial n exponents

-- x^32 + x^26 + x^23 + x^22 + x^16 + x^12 + x^11 + x^10 + x^8 + x^7 + x^5 + x^4 + x^2 + x + 1
unfoldable pub generator : List Bool
generator = polynomial 32 (32 ∷ 26 ∷ 23 ∷ 22 ∷ 16 ∷ 12 ∷ 11 ∷ 10 ∷ 8 ∷ 7 ∷ 5 ∷ 4 ∷ 2 ∷ 1 ∷ 0 ∷ [])

-- n steps of long division by the generator. Where the leading coefficient is 1, the generator times the power of x that
-- gives it the same degree is subtracted, which modulo 2 is to add it. The leading coefficient is then 0 and is dropped.
unfoldable pub division_steps : ℕ → List Bool → List Bool
division_steps zero p = p
division_steps (suc n) [] = []
division_steps (suc n) (c ∷ p) = division_steps n (drop 1 (when c then add (c ∷ p) generator else c ∷ p))

-- the remainder of the division modulo 2 by the generator, for a dividend of 32 coefficients or more: those of x^31 to x^0
unfoldable pub remainder : List Bool → List Bool
remainder p = division_steps (length p - 32) p

-- the n low bits of a number, the lowest first
unfoldable pub bits_of : ℕ → ℕ → List Bool
bits_of zero v = []
bits_of (suc n) v = eqb (v % 2) 1 ∷ bits_of n (v / 2)

-- the bits of the bytes in the order of transmission (V.42, 8.1.2): each byte's lowest bit first
unfoldable pub content : List ℕ → List Bool
content [] = []
content (b ∷ bs) = bits_of 8 b ++ content bs

-- the number of a check sequence. The coefficient of x^31 is sent first (V.42, 8.1.2), so it is the lowest bit of the first
-- byte, and the bytes are a little-endian number.
unfoldable pub number_of : List Bool → ℕ
number_of [] = 0
number_of (c ∷ p) = (when c then 1 else 0) + 2 * number_of p

-- the sum modulo 2 of (a) the remainder of x^k times the preset and (b) the remainder of x^32 times the content,
-- where k is the number of bits of the content
unfoldable pub sum_of_remainders : List Bool → List Bool → List Bool
sum_of_remainders preset bits = add (remainder (times_power (length bits) preset)) (remainder (times_power 32 bits))

-- the frame check sequence: the ones' complement of that sum for the preset x^31 + x^30 + ... + x + 1
unfoldable pub crc_of : List ℕ → ℕ
crc_of s = number_of (map not (sum_of_remainders (replicate 32 true) (content s)))

-- `update` of crc32.rs: that sum for a register of 32 bits as the preset, where V.42 has all ones
unfoldable pub update_of : ℕ → List ℕ → ℕ
update_of state s = number_of (sum_of_remainders (bits_of 32 state) (content s))

-- `finalize` of crc32.rs: the ones' complement of a register
unfoldable pub finalize_of : ℕ → ℕ
finalize_of state = number_of (map not (bits_of 32 state))

-- for proofs alone: `unfolding crc_defs` opens the definitions of this file
unfoldable pub crc_defs : ℕ
unfolding sum add times_power polynomial generator division_steps remainder bits_of content number_of sum_of_remainders crc_of update_of finalize_of
crc_defs = 0
