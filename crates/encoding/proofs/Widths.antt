-- The widths of numbers, and what fits them.
-- Assumes nothing.
use mathlib.Core.Path.{◌≡◌, refl}
use mathlib.Core.Bool.{true}
use mathlib.Core.List.{[], ◌∷◌}
use Prim.Native.Nat.{ℕ, ◌*◌, ◌-◌, ◌^◌, ◌<◌, ◌≤◌}
use native.Mathlib.Omega.{arith}
use lib.Dec.{leb, ltb}
use borrow.Author.Tests.{leb-true, leb-false, ltb-true, ltb-false}
use Rattle.num.specs.Choice.{either, one_of}
use Rattle.num.specs.Number.{is_width}
use Rattle.num.proofs.Choice.{if_case, either_false, one_of-case}
use Rattle.encoding.specs.declared.Totals.{Totals}
use Rattle.encoding.specs.declared.Encoding.{Encoding}
use Rattle.encoding.specs.Encoding.{Widths, Bounded, width_of, value_width_of, address_width_of, arena_len_of, tombstone_of, encoding_with, encoding_of}

-- a width is 1, 2, 4 or 8, each under the tests that lead to it
width_of-case : (P : ℕ → Type 0) (max : ℕ) → (max < 256 → P 1) → (max < 65536 → P 2) → (max < 2 ^ 32 → P 4) → (2 ^ 32 ≤ max → P 8) → P (width_of max)
unfolding width_of
width_of-case P max one two four eight =
    if_case P (leb max 255) _ _
    (λ t. let h = leb-true max 255 t in one (omega arith))
    (λ _. if_case P (leb max 65535) _ _
    (λ t. let h = leb-true max 65535 t in two (omega arith))
    (λ _. if_case P (leb max 4294967295) _ _
    (λ t. let h = leb-true max 4294967295 t in four (omega arith))
    (λ f. let h = leb-false max 4294967295 f in eight (omega arith))))

-- every width is one of those that are read
pub width_of-is_width : (max : ℕ) → is_width (width_of max) ≡ true
unfolding is_width one_of either
width_of-is_width max = width_of-case (λ w. is_width w ≡ true) max (λ _. refl) (λ _. refl) (λ _. refl) (λ _. refl)

-- below 2^32 a width is at most 4
pub width_of-small : (max : ℕ) → max < 2 ^ 32 → one_of (1 ∷ 2 ∷ 4 ∷ []) (width_of max) ≡ true
unfolding one_of either
width_of-small max h = width_of-case (λ w. one_of (1 ∷ 2 ∷ 4 ∷ []) w ≡ true) max (λ _. refl) (λ _. refl) (λ _. refl) (λ l. absurd (omega arith))

-- a number up to the greatest fits its width
pub width_of-fits : (n max : ℕ) → n ≤ max → max < 2 ^ 64 → n < 2 ^ (8 * width_of max)
width_of-fits n max l h = width_of-case (λ w. n < 2 ^ (8 * w)) max (λ b. omega arith) (λ b. omega arith) (λ b. omega arith) (λ b. omega arith)

value_width_of-case : (P : ℕ → Type 0) (max : ℕ) → (max < 32768 → P 2) → P 4 → P (value_width_of max)
unfolding value_width_of
value_width_of-case P max two four = if_case P (ltb max 32768) _ _ (λ t. two (ltb-true max 32768 t)) (λ _. four)

-- an address width is 8, or 4 where both the arena with 4 and the last offset are below 2^32
pub address_width_of-case : (P : ℕ → Type 0) (arena last : ℕ) → (arena < 2 ^ 32 → last < 2 ^ 32 → P 4) → P 8 → P (address_width_of arena last)
unfolding address_width_of
address_width_of-case P arena last four eight =
    if_case P (either (ltb 4294967295 arena) (ltb 4294967295 last)) _ _
    (λ _. eight)
    (λ f. let a = ltb-false 4294967295 arena (either_false _ _ f).0 in
    let l = ltb-false 4294967295 last (either_false _ _ f).1 in
    four (omega arith) (omega arith))

-- with addresses of 4 or 8 bytes, the encoding of bounded totals has widths that question 4 allows
pub encoding_with-widths : (address : ℕ) (t : Totals) → one_of (4 ∷ 8 ∷ []) address ≡ true → Bounded t → Widths (encoding_with address t)
unfolding encoding_with one_of either is_width
encoding_with-widths address t a b =
    record {
      address = a;
      key = width_of-small t.max_key_len (omega arith);
      count = width_of-small t.max_versions (omega arith);
      seq = width_of-is_width (t.max_seq - t.min_seq);
      value = value_width_of-case (λ w. one_of (2 ∷ 4 ∷ []) w ≡ true) t.max_value_len (λ _. refl) refl;
    }

-- the encoding of bounded totals has widths that question 4 allows
pub encoding_of-widths : (t : Totals) → Bounded t → Widths (encoding_of t)
unfolding encoding_of one_of either
encoding_of-widths t b =
    encoding_with-widths _ t
    (address_width_of-case (λ w. one_of (4 ∷ 8 ∷ []) w ≡ true) (arena_len_of (encoding_with 4 t) t) t.last_value_offset (λ _ _. refl) refl) b

-- the bounds of the widths that question 4 allows
pub widths_le : (e : Encoding) → Widths e → (e.address ≤ 8) × (e.key ≤ 4) × (e.count ≤ 4) × (e.seq ≤ 8) × (e.value ≤ 4) × (2 ≤ e.value)
widths_le e w = (
  one_of-case (λ n. n ≤ 8) _ _ w.address (omega arith, (omega arith, tt)),
  one_of-case (λ n. n ≤ 4) _ _ w.key (omega arith, (omega arith, (omega arith, tt))),
  one_of-case (λ n. n ≤ 4) _ _ w.count (omega arith, (omega arith, (omega arith, tt))),
  one_of-case (λ n. n ≤ 8) _ _ w.seq (omega arith, (omega arith, (omega arith, (omega arith, tt)))),
  one_of-case (λ n. n ≤ 4) _ _ w.value (omega arith, (omega arith, tt)),
  one_of-case (λ n. 2 ≤ n) _ _ w.value (omega arith, (omega arith, tt)),
)

-- a length up to the longest key fits the key width
pub key_fits : (t : Totals) (n : ℕ) → Bounded t → n ≤ t.max_key_len → n < 2 ^ (8 * (encoding_of t).key)
unfolding encoding_of encoding_with
key_fits t n b h = width_of-fits n t.max_key_len h (omega arith)

-- a number of versions up to the most fits the count width
pub count_fits : (t : Totals) (n : ℕ) → Bounded t → n ≤ t.max_versions → n < 2 ^ (8 * (encoding_of t).count)
unfolding encoding_of encoding_with
count_fits t n b h = width_of-fits n t.max_versions h (omega arith)

-- a sequence up to the greatest, less the least, fits the sequence width
pub seq_fits : (t : Totals) (s : ℕ) → t.max_seq < 2 ^ 64 → s ≤ t.max_seq → s - t.min_seq < 2 ^ (8 * (encoding_of t).seq)
unfolding encoding_of encoding_with
seq_fits t s b h = width_of-fits (s - t.min_seq) (t.max_seq - t.min_seq) (omega arith) (omega arith)

-- an offset up to the last one fits the address width
pub offset_fits : (t : Totals) (o : ℕ) → t.last_value_offset < 2 ^ 64 → o ≤ t.last_value_offset → o < 2 ^ (8 * (encoding_of t).address)
unfolding encoding_of encoding_with
offset_fits t o b h =
    address_width_of-case (λ w. o < 2 ^ (8 * w)) (arena_len_of (encoding_with 4 t) t) t.last_value_offset (λ _ l. omega arith) (omega arith)

-- a value length is below the bit that marks a tombstone
pub value_below_tombstone : (t : Totals) (n : ℕ) → n ≤ t.max_value_len → n ≤ 16777216 → n < tombstone_of (encoding_of t)
unfolding encoding_of encoding_with tombstone_of
value_below_tombstone t n h l = value_width_of-case (λ w. n < 2 ^ (8 * w - 1)) t.max_value_len (λ b. omega arith) (omega arith)

-- the tombstone's bit is the top one: twice its number is the first that does not fit
pub tombstone_double : (e : Encoding) → Widths e → 2 * tombstone_of e ≡ 2 ^ (8 * e.value)
unfolding tombstone_of
tombstone_double e w = one_of-case (λ n. 2 * 2 ^ (8 * n - 1) ≡ 2 ^ (8 * n)) _ _ w.value (refl, (refl, tt))
