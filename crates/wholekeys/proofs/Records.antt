-- A key record by the numbers that code reads of it, each at its place.
-- Assumes nothing.
use mathlib.Core.Path.{◌≡◌, refl, ap, ap₂, ◌∙◌}
use mathlib.Core.Bool.{true}
use mathlib.Core.List.{List}
use Prim.Native.Nat.{ℕ, suc, ◌+◌, ◌*◌, ◌%◌, ◌^◌, ◌<◌, ◌≤◌}
use native.Mathlib.Nat.{mul-le-mul, le_of_lt}
use native.Mathlib.Omega.{arith}
use lib.ListN.{length}
use lib.Seq.{sets}
use Rattle.std.specs.Prelude.{Result}
use Rattle.refusal.specs.declared.Refusal.{Refusal}
use Rattle.num.specs.Number.{Bytes, le_at}
use Rattle.encoding.specs.Encoding.{Widths, key_header_len_of, version_len_of}
use Rattle.header.specs.declared.Opened.{Opened}
use Rattle.arena.specs.declared.KeyHeader.{KeyHeader}
use Rattle.arena.specs.Key.{key_header_at}
use Rattle.encoding.proofs.Lengths.{version_le}
use Rattle.arena.proofs.Reading.{key_header_narrow}
use Rattle.spans.specs.Span.{Pair, first_within, versions_start, next_address_of, values_from, pair_numbers}
use Rattle.spans.specs.Internal.{is_given, pairs_of}
use Rattle.spans.proofs.Keys as keys
use Rattle.wholekeys.specs.Internal.{record_end}

module _ (s : List ℕ) (o : Opened) (limit at : ℕ) {header size suffix versions : ℕ} (eh : header ≡ key_header_len_of o.encoding) (es : size ≡ version_len_of o.encoding)
    (ex : suffix ≡ le_at s (o.arena + at + (o.encoding.address + o.encoding.key)) o.encoding.key)
    (ev : versions ≡ le_at s (o.arena + at + (o.encoding.address + o.encoding.key) + o.encoding.key) o.encoding.count) where
  abbrev stands : KeyHeader
  stands = key_header_at s o.encoding (o.arena + at)

  suffix_is : suffix ≡ stands.suffix_len
  unfolding key_header_at
  suffix_is = ex ∙ ap (λ (n : ℕ). le_at s n o.encoding.key) (omega arith)

  versions_is : versions ≡ stands.versions
  unfolding key_header_at
  versions_is = ev ∙ ap (λ (n : ℕ). le_at s n o.encoding.count) (omega arith)

  start_is : header + suffix ≡ versions_start o stands
  unfolding versions_start
  start_is = ap₂ ◌+◌ eh suffix_is

  pub next_is : (at + (header + suffix) + versions * size) % 2 ^ 32 ≡ next_address_of o at stands
  unfolding next_address_of
  next_is = ap₂ (λ (a b : ℕ). (at + a + b) % 2 ^ 32) start_is (ap₂ ◌*◌ versions_is es)

  pub end_is : at + (header + suffix) + versions * size ≡ record_end o at stands
  unfolding record_end
  end_is = ap₂ (λ (a b : ℕ). at + a + b) start_is (ap₂ ◌*◌ versions_is es)

  -- the suffix length has four bytes at most, and so has the number of versions
  pub record_bounds : Bytes s → Widths o.encoding → (suffix < 2 ^ 32) × (versions < 2 ^ 32) × (versions * size ≤ 2 ^ 32 * 24)
  record_bounds b w =
      let n = key_header_narrow s o.encoding (o.arena + at) b w in
      let x = n.suffix in
      let v = n.versions in
      let a = suffix_is in
      let c = versions_is in
      let l : versions < 2 ^ 32 = omega arith in
      let m : size ≤ 24 = omega (arith, version_le o.encoding w) in
      (omega arith, l, mul-le-mul (le_of_lt l) m)

  -- the value of the key
  abbrev found : Result (List Pair) Refusal
  found = first_within versions s o (o.arena + at + (header + suffix)) limit

  -- where its header is inside, that is the answer of the key
  pub found_is : o.arena + at + header ≤ length s → found ≡ keys.key s o limit at
  found_is l =
      ap₂ (λ (k m : ℕ). first_within k s o (o.arena + at + (header + m)) limit) versions_is suffix_is
      ∙ keys.key_versions s o limit at refl eh l

  -- the values of the keys behind it
  abbrev rest : ℕ → Result (List Pair) Refusal
  rest k = values_from k s o limit ((at + (header + suffix) + versions * size) % 2 ^ 32)

  rest_is : (k : ℕ) → rest k ≡ keys.others s o limit at k
  rest_is k = ap (λ (a : ℕ). values_from k s o limit a) next_is

  module _ (n k : ℕ) (h : n ≡ suc k) (e : is_given (values_from n s o limit at) ≡ true) where
    found-given : found ≡ keys.key s o limit at
    found-given = let l = keys.key_inside s o limit at (keys.key_given s o limit at n k h e).0 in found_is (omega arith)

    -- where nothing is refused, neither this key nor the others are
    pub key_given : (is_given found ≡ true) × (is_given (rest k) ≡ true)
    key_given = let g = keys.key_given s o limit at n k h e in (ap is_given found-given ∙ g.0, ap is_given (rest_is k) ∙ g.1)

    -- once its pair is stored, the pairs of the others are to be stored behind it
    pub key_stored : (l : List ℕ) (to : ℕ) {m : List ℕ} {next : ℕ} → next ≡ to + 2 * length (pairs_of found) → m ≡ sets l to (pair_numbers (pairs_of found))
        → (next ≤ to + 2) × (length m ≡ length l) × (next + 2 * length (pairs_of (rest k)) ≡ to + 2 * length (pairs_of (values_from n s o limit at)))
        × (sets m next (pair_numbers (pairs_of (rest k))) ≡ sets l to (pair_numbers (pairs_of (values_from n s o limit at))))
    key_stored l to {m} {next} en em =
        let put = keys.key_stored s o limit at n k h e l to
        (en ∙ ap (λ (a : Result (List Pair) Refusal). to + 2 * length (pairs_of a)) found-given)
        (em ∙ ap (λ (a : Result (List Pair) Refusal). sets l to (pair_numbers (pairs_of a))) found-given) in
        (put.0, put.1, ap (λ (a : Result (List Pair) Refusal). next + 2 * length (pairs_of a)) (rest_is k) ∙ put.2, ap (λ (a : Result (List Pair) Refusal). sets m next (pair_numbers (pairs_of a))) (rest_is k) ∙ put.3)
