-- The walk over key records, one key at a time.
-- Assumes nothing.
use mathlib.Core.Path.{◌≡◌, refl, sym, ap, ap₂, ◌∙◌, subst⁻¹}
use mathlib.Core.Bool.{Bool, true, false}
use mathlib.Core.List.{List, [], ◌∷◌, ◌++◌, append-nil}
use Prim.Native.Nat.{ℕ, zero, suc, ◌+◌, ◌*◌, ◌%◌, ◌^◌, ◌<◌, ◌≤◌}
use native.Mathlib.Nat.{mul-le-mul, le_of_lt}
use native.Mathlib.Omega.{arith}
use lib.Dec.{leb, ltb}
use lib.ListN.{length, length-append}
use lib.Seq.{sets, length-sets}
use borrow.Author.Tests.{le-leb, lt-leb, leb-true, leb-false}
use Rattle.std.specs.Prelude.{Option, Some, None, Result, Ok, Err}
use Rattle.refusal.specs.declared.Refusal.{Refusal}
use Rattle.refusal.specs.declared.Refusal.TheVariants as refusal
use Rattle.num.specs.Choice.{when◌then◌else◌, both}
use Rattle.num.specs.Number.{Bytes}
use Rattle.num.proofs.Choice.{false_true, both_true, if_case, if_true, if_false}
use Rattle.num.proofs.Lists.{sets_append}
use Rattle.sstable.specs.declared.Kind.{Kind}
use Rattle.sstable.specs.declared.Kind.TheVariants.{Put, Tombstone}
use Rattle.encoding.specs.Encoding.{Widths, key_header_len_of, version_len_of}
use Rattle.encoding.proofs.Widths.{widths_le}
use Rattle.header.specs.declared.Opened.{Opened}
use Rattle.arena.specs.declared.KeyHeader.{KeyHeader}
use Rattle.arena.specs.Key.{key_header_at}
use Rattle.arena.specs.Internal.{Narrow}
use Rattle.encoding.proofs.Lengths.{version_le}
use Rattle.arena.proofs.Reading.{key_header_narrow}
use Rattle.versions.specs.Version.{stored_seq}
use Rattle.locator.specs.Locator.{readable}
use Rattle.spans.specs.Span.{Pair, value_end, unless_tombstone, value_at, first_within, versions_start, key_value, next_address_of, pairs_joined, values_from, pair_numbers, pairs_written, spanned_read}
use Rattle.spans.specs.Internal.{value_read, refused_of, is_given, pairs_of}

-- ---- answers one behind the other

pub given_joined : (a b : Result (List Pair) Refusal) → is_given (pairs_joined a b) ≡ both (is_given a) (is_given b)
unfolding pairs_joined is_given both
given_joined (Ok ps) (Ok qs) = refl
given_joined (Ok ps) (Err e) = refl
given_joined (Err e) b = refl

pairs_joined_lem : (a b : Result (List Pair) Refusal) → is_given (pairs_joined a b) ≡ true → pairs_of (pairs_joined a b) ≡ pairs_of a ++ pairs_of b
unfolding pairs_joined is_given pairs_of
pairs_joined_lem (Ok ps) (Ok qs) e = refl
pairs_joined_lem (Ok ps) (Err r) e = false_true e
pairs_joined_lem (Err r) b e = false_true e

joined_none : (a : Result (List Pair) Refusal) → pairs_joined a (Ok []) ≡ a
unfolding pairs_joined
joined_none (Ok ps) = ap Ok (append-nil ps)
joined_none (Err e) = refl

-- what is given is given by its pairs
pub given_pairs : (a : Result (List Pair) Refusal) → is_given a ≡ true → a ≡ Ok (pairs_of a)
unfolding is_given pairs_of
given_pairs (Ok ps) e = refl
given_pairs (Err r) e = false_true e

-- what is asked of one answer and of those behind it
abbrev pub asked_then : Result (List Pair) Refusal → Result (List Pair) Refusal → Result (Unit {0}) Refusal
asked_then (Ok ps) b = refused_of b
asked_then (Err e) b = Err e

asked_joined : (a b : Result (List Pair) Refusal) → refused_of (pairs_joined a b) ≡ asked_then a b
unfolding pairs_joined refused_of
asked_joined (Ok ps) (Ok qs) = refl
asked_joined (Ok ps) (Err e) = refl
asked_joined (Err e) b = refl

-- what the refusal of an answer, or none, says of it
abbrev pub Told : Result (List Pair) Refusal → Result (Unit {0}) Refusal → Type 0
Told a (Ok u) = is_given a ≡ true
Told a (Err e) = a ≡ Err e

told_own : (a : Result (List Pair) Refusal) → Told a (refused_of a)
unfolding refused_of is_given
told_own (Ok ps) = refl
told_own (Err e) = refl

pub asked_told : (a : Result (List Pair) Refusal) {r : Result (Unit {0}) Refusal} → r ≡ refused_of a → Told a r
asked_told a e = subst⁻¹ (Told a) e (told_own a)

-- ---- the numbers of pairs

pub numbers_length : (ps : List Pair) → length (pair_numbers ps) ≡ 2 * length ps
unfolding pair_numbers
numbers_length [] = refl
numbers_length (p ∷ ps) = let e = numbers_length ps in omega arith

numbers_append : (ps qs : List Pair) → pair_numbers (ps ++ qs) ≡ pair_numbers ps ++ pair_numbers qs
unfolding pair_numbers
numbers_append [] qs = refl
numbers_append (p ∷ ps) qs = ap (λ (l : List ℕ). p.offset ∷ p.len ∷ l) (numbers_append ps qs)

-- pairs and the pairs behind them are stored one behind the other
pub pairs_stored : (l : List ℕ) (to : ℕ) (ps qs : List Pair) → sets (sets l to (pair_numbers ps)) (to + 2 * length ps) (pair_numbers qs) ≡ sets l to (pair_numbers (ps ++ qs))
pairs_stored l to ps qs =
    ap (λ (n : ℕ). sets (sets l to (pair_numbers ps)) (to + n) (pair_numbers qs)) (sym (numbers_length ps))
    ∙ sets_append (pair_numbers ps) (pair_numbers qs) l to
    ∙ ap (sets l to) (sym (numbers_append ps qs))

-- ---- a key has one value at most

value_few : (k : Kind) (p : Pair) → length (unless_tombstone k p) ≤ 1
unfolding unless_tombstone
value_few Put p = omega arith
value_few Tombstone p = omega arith

at_few : (s : List ℕ) (o : Opened) (pos : ℕ) → length (value_at s o pos) ≤ 1
unfolding value_at
at_few s o pos = value_few _ _

-- what holds of the value of each version, of none and of 25 holds of the answer of some versions
from_case : (P : Result (List Pair) Refusal → Type 0) (s : List ℕ) (o : Opened) (limit : ℕ) → P (Ok []) → P (Err refusal.Read) → ((pos : ℕ) → P (Ok (value_at s o pos)))
    → (n pos : ℕ) → P (first_within n s o pos limit)
unfolding first_within
from_case P s o limit empty fails holds zero pos = empty
from_case P s o limit empty fails holds (suc n) pos =
    go (both (readable s pos o.encoding.seq) (ltb (stored_seq s o pos) (2 ^ 64))) (leb (stored_seq s o pos) limit)
    (if_case P (readable s pos (value_end o.encoding)) _ _ (λ _. holds pos) (λ _. fails))
    (from_case P s o limit empty fails holds n (pos + version_len_of o.encoding))
  where
    go : (read low : Bool) → P (when readable s pos (value_end o.encoding) then Ok (value_at s o pos) else Err refusal.Read)
        → P (first_within n s o (pos + version_len_of o.encoding) limit)
        → P (elim read [
          | false ↦ Err refusal.Read
          | true ↦ elim low [
            | true ↦ when readable s pos (value_end o.encoding) then Ok (value_at s o pos) else Err refusal.Read
            | false ↦ first_within n s o (pos + version_len_of o.encoding) limit
          ]
        ])
    go false low p q = fails
    go true true p q = p
    go true false p q = q

from_few : (n : ℕ) (s : List ℕ) (o : Opened) (pos limit : ℕ) → length (pairs_of (first_within n s o pos limit)) ≤ 1
unfolding pairs_of
from_few n s o pos limit = from_case (λ a. length (pairs_of a) ≤ 1) s o limit (omega arith) (omega arith) (at_few s o) n pos

-- ---- a walk refuses with 25 alone

abbrev Only25 : Result (List Pair) Refusal → Type 0
Only25 a = is_given a ≡ false → a ≡ Err refusal.Read

joined_25 : (a b : Result (List Pair) Refusal) → Only25 a → Only25 b → Only25 (pairs_joined a b)
unfolding pairs_joined is_given
joined_25 (Ok ps) (Ok qs) p q e = false_true (sym e)
joined_25 (Ok ps) (Err r) p q e = q e
joined_25 (Err r) b p q e = p e

pub keys_25 : (n : ℕ) (s : List ℕ) (o : Opened) (limit at : ℕ) → is_given (values_from n s o limit at) ≡ false → values_from n s o limit at ≡ Err refusal.Read
unfolding values_from key_value is_given
keys_25 zero s o limit at = λ e. false_true (sym e)
keys_25 (suc n) s o limit at =
    joined_25 _ _
    (if_case Only25 _ _ _ (λ _. from_case Only25 s o limit (λ e. false_true (sym e)) (λ _. refl) (λ _ e. false_true (sym e)) _ _) (λ _ _. refl))
    (keys_25 n s o limit _)

-- ---- one key more

module _ (s : List ℕ) (o : Opened) (limit at : ℕ) where
  abbrev pub stands : KeyHeader
  stands = key_header_at s o.encoding (o.arena + at)

  pub keys_none : (n : ℕ) → n ≤ 0 → values_from n s o limit at ≡ Ok []
  unfolding values_from
  keys_none n h = let e : n ≡ 0 = omega arith in ap (λ (k : ℕ). values_from k s o limit at) e

  keys_more : (n k : ℕ) → n ≡ suc k → values_from n s o limit at ≡ pairs_joined (key_value s o limit at stands) (values_from k s o limit (next_address_of o at stands))
  unfolding values_from
  keys_more n k h = ap (λ (m : ℕ). values_from m s o limit at) h

  -- the value of the key
  abbrev pub key : Result (List Pair) Refusal
  key = key_value s o limit at stands

  -- and those of the keys behind it
  abbrev pub others : ℕ → Result (List Pair) Refusal
  others k = values_from k s o limit (next_address_of o at stands)

  -- one key alone
  pub one_key : values_from 1 s o limit at ≡ key
  unfolding values_from
  one_key = joined_none key

  -- a key header outside the section is not read
  pub key_outside : length s < o.arena + at + key_header_len_of o.encoding → key ≡ Err refusal.Read
  unfolding key_value readable
  key_outside l = if_false _ _ _ (lt-leb (o.arena + at + key_header_len_of o.encoding) (length s) l)

  -- a key record by the numbers that code has of it
  module _ {h : KeyHeader} {header : ℕ} (e : h ≡ stands) (eh : header ≡ key_header_len_of o.encoding) where
    pub key_versions : o.arena + at + header ≤ length s → first_within h.versions s o (o.arena + at + (header + h.suffix_len)) limit ≡ key
    unfolding key_value readable versions_start
    key_versions l =
        ap₂ (λ (k : KeyHeader) (n : ℕ). first_within k.versions s o (o.arena + at + (n + k.suffix_len)) limit) e eh
        ∙ sym (if_true _ _ _ (le-leb (o.arena + at + key_header_len_of o.encoding) (length s) (omega arith)))

    pub next_is : {size : ℕ} → size ≡ version_len_of o.encoding → (at + (header + h.suffix_len) + h.versions * size) % 2 ^ 32 ≡ next_address_of o at stands
    unfolding next_address_of versions_start
    next_is {size} es =
        ap₂ (λ (k : KeyHeader) (n : ℕ). (at + (n + k.suffix_len) + k.versions * size) % 2 ^ 32) e eh
        ∙ ap (λ (n : ℕ). (at + versions_start o stands + stands.versions * n) % 2 ^ 32) es

    -- its suffix length has four bytes at most, and so has the number of versions
    pub record_bounds : Bytes s → Widths o.encoding → {size : ℕ} → size ≡ version_len_of o.encoding
        → (header ≤ 28) × (h.suffix_len < 2 ^ 32) × (h.versions * size ≤ 2 ^ 32 * 24)
    unfolding key_header_len_of
    record_bounds b w {size} es =
        let n = subst⁻¹ Narrow e (key_header_narrow s o.encoding (o.arena + at) b w) in
        let m = widths_le o.encoding w in
        let l : size ≤ 24 = omega (arith, version_le o.encoding w) in
        (omega arith, n.suffix, mul-le-mul (le_of_lt n.versions) l)

  -- where the key is not refused, its header is inside
  pub key_inside : is_given key ≡ true → o.arena + at + key_header_len_of o.encoding ≤ length s
  unfolding readable is_given
  key_inside e = go (readable s (o.arena + at) (key_header_len_of o.encoding)) refl
    where
      go : (b : Bool) → readable s (o.arena + at) (key_header_len_of o.encoding) ≡ b → o.arena + at + key_header_len_of o.encoding ≤ length s
      go true p = leb-true _ _ p
      go false p = false_true (sym (ap is_given (key_outside (leb-false _ _ p))) ∙ e)

  found_left : (v : Option ℕ) (b : Result (List Pair) Refusal) → asked_then (value_read s o (Ok v)) b ≡ refused_of b
  unfolding value_read
  found_left (Some pos) b = refl
  found_left None b = refl

  found_given : (v : Option ℕ) → is_given (value_read s o (Ok v)) ≡ true
  unfolding value_read is_given
  found_given (Some pos) = refl
  found_given None = refl

  key_few : length (pairs_of key) ≤ 1
  unfolding key_value pairs_of
  key_few = if_case (λ a. length (pairs_of a) ≤ 1) _ _ _ (λ _. from_few _ s o _ limit) (λ _. omega arith)

  -- a key that is refused refuses all, and one that is given leaves it to the others
  pub key_asked : (n k : ℕ) → n ≡ suc k → refused_of (values_from n s o limit at) ≡ asked_then key (others k)
  key_asked n k h = ap refused_of (keys_more n k h) ∙ asked_joined _ _

  -- so does what was read of the key
  module _ (r : Result (Option ℕ) Refusal) (read : value_read s o r ≡ key) where
    pub key_left : {v : Option ℕ} → r ≡ Ok v → (n k : ℕ) → n ≡ suc k → refused_of (values_from n s o limit at) ≡ refused_of (others k)
    key_left {v} e n k h = key_asked n k h ∙ ap (λ (a : Result (List Pair) Refusal). asked_then a (others k)) (sym read ∙ ap (value_read s o) e) ∙ found_left v (others k)

    pub key_refused : {e : Refusal} → r ≡ Err e → (n k : ℕ) → n ≡ suc k → refused_of (values_from n s o limit at) ≡ Err e
    unfolding value_read
    key_refused e n k h = key_asked n k h ∙ ap (λ (a : Result (List Pair) Refusal). asked_then a (others k)) (sym read ∙ ap (value_read s o) e)

    pub key_is_given : {v : Option ℕ} → r ≡ Ok v → is_given key ≡ true
    key_is_given {v} e = sym (ap is_given (sym (ap (value_read s o) e) ∙ read)) ∙ found_given v

  -- where nothing is refused, neither this key nor the others are, and the pairs of both are those of all
  pub key_given : (n k : ℕ) → n ≡ suc k → is_given (values_from n s o limit at) ≡ true
      → (is_given key ≡ true) × (is_given (others k) ≡ true) × (pairs_of (values_from n s o limit at) ≡ pairs_of key ++ pairs_of (others k))
  key_given n k h e =
      let m = keys_more n k h in
      let b = both_true _ _ (sym (ap is_given m ∙ given_joined _ _) ∙ e) in
      (b.0, b.1, ap pairs_of m ∙ pairs_joined_lem key (others k) (sym (ap is_given m) ∙ e))

  -- once its pair is stored, the pairs of the others are to be stored behind it
  pub key_stored : (n k : ℕ) → n ≡ suc k → is_given (values_from n s o limit at) ≡ true → (l : List ℕ) (to : ℕ) {m : List ℕ} {next : ℕ}
      → next ≡ to + 2 * length (pairs_of key) → m ≡ sets l to (pair_numbers (pairs_of key))
      → (next ≤ to + 2) × (length m ≡ length l) × (next + 2 * length (pairs_of (others k)) ≡ to + 2 * length (pairs_of (values_from n s o limit at)))
      × (sets m next (pair_numbers (pairs_of (others k))) ≡ sets l to (pair_numbers (pairs_of (values_from n s o limit at))))
  key_stored n k h e l to en em =
      let g = (key_given n k h e).2 in
      let f = key_few in
      let sum = length-append (pairs_of key) (pairs_of (others k)) in
      let a = ap length g in (
        omega arith,
        ap length em ∙ length-sets l to (pair_numbers (pairs_of key)),
        omega arith,
        ap₂ (λ (r : List ℕ) (i : ℕ). sets r i (pair_numbers (pairs_of (others k)))) em en
            ∙ pairs_stored l to (pairs_of key) (pairs_of (others k))
            ∙ ap (λ (ps : List Pair). sets l to (pair_numbers ps)) (sym g),
      )

-- ---- the answers

module _ (a : Result (List Pair) Refusal) (l : List ℕ) where
  pub refused_told : {e : Refusal} → a ≡ Err e → (Err e ≡ spanned_read a) × (l ≡ pairs_written a l)
  unfolding spanned_read pairs_written
  refused_told e = (sym (ap spanned_read e), sym (ap (λ (x : Result (List Pair) Refusal). pairs_written x l) e))

  pub pairs_told_lem : {ps : List Pair} → a ≡ Ok ps → {n : ℕ} {m : List ℕ} → n ≡ length ps → m ≡ sets l 0 (pair_numbers ps) → (Ok n ≡ spanned_read a) × (m ≡ pairs_written a l)
  unfolding spanned_read pairs_written
  pairs_told_lem e en em = (ap Ok en ∙ sym (ap spanned_read e), em ∙ sym (ap (λ (x : Result (List Pair) Refusal). pairs_written x l) e))

  pub given_told : is_given a ≡ true → {n : ℕ} {m : List ℕ} → n ≡ length (pairs_of a) → m ≡ sets l 0 (pair_numbers (pairs_of a)) → (Ok n ≡ spanned_read a) × (m ≡ pairs_written a l)
  given_told t = pairs_told_lem (given_pairs a t)
