-- Keys whose records are whole in the section are read at their scan addresses, and nothing of them is refused.
-- Assumes nothing.
use mathlib.Core.Path.{◌≡◌, refl, ap, ◌∙◌, subst⁻¹}
use mathlib.Core.Bool.{true}
use mathlib.Core.List.{List}
use Prim.Native.Nat.{ℕ, zero, suc, ◌+◌, ◌*◌, ◌%◌, ◌^◌, ◌<◌, ◌≤◌}
use native.Mathlib.Nat.{mod-eq_of_lt}
use native.Mathlib.Omega.{arith}
use lib.ListN.{length}
use borrow.Author.Tests.{le-leb}
use Rattle.num.specs.Number.{Bytes, le_at}
use Rattle.num.proofs.Choice.{true_both, if_true}
use Rattle.num.proofs.Number.{le_at-lt}
use Rattle.encoding.specs.declared.Encoding.{Encoding}
use Rattle.encoding.specs.Encoding.{scan_header_len, key_header_len_of, version_len_of}
use Rattle.header.specs.declared.Opened.{Opened}
use Rattle.arena.specs.declared.KeyHeader.{KeyHeader}
use Rattle.arena.specs.Key.{key_header_at}
use Rattle.locator.specs.Locator.{readable}
use Rattle.spans.specs.Span.{scan_address, versions_start, key_value, next_address_of, values_from}
use Rattle.spans.specs.Internal.{is_given}
use Rattle.spans.proofs.Keys.{given_joined}
use Rattle.wholekeys.specs.Internal.{record_end, key_end, WholeKeys}
use Rattle.wholekeys.proofs.Records.{next_is}
use Rattle.wholekeys.proofs.Whole.{table_place, address_is, key_end_lem}
use Rattle.wholepairs.proofs.Versions.{room_given}

-- the bytes of a key header, summed up as code does
pub header_sum : (e : Encoding) → e.address + e.key + e.key + e.count ≡ key_header_len_of e
unfolding key_header_len_of
header_sum e = omega arith

module _ (s : List ℕ) (o : Opened) (first count : ℕ) (w : WholeKeys s o first count) (b : Bytes s) (four : o.encoding.address ≡ 4) where
  address_lt : (i : ℕ) → scan_address s o i < 2 ^ 32
  unfolding scan_address
  address_lt i =
      let p = o.scan + scan_header_len + i * o.encoding.address in
      subst⁻¹ (λ (n : ℕ). le_at s p n < 2 ^ 32) four (le_at-lt s b 4 p)

  -- the header of a key, at its scan address
  abbrev header_of : ℕ → KeyHeader
  header_of i = key_header_at s o.encoding (o.arena + scan_address s o i)

  next_told : (i : ℕ) → suc i < count → next_address_of o (scan_address s o (first + i)) (header_of (first + i)) ≡ scan_address s o (first + suc i)
  unfolding next_address_of record_end key_end
  next_told i h = ap (λ (n : ℕ). n % 2 ^ 32) (w.behind i h) ∙ mod-eq_of_lt (address_lt (first + suc i))

  -- behind a key come the others from the next scan address on; where none is left the address plays no part
  pub rest_told : (n i limit : ℕ) → i + suc n ≡ count
      → values_from n s o limit (next_address_of o (scan_address s o (first + i)) (header_of (first + i))) ≡ values_from n s o limit (scan_address s o (first + suc i))
  unfolding values_from
  rest_told zero i limit e = refl
  rest_told (suc n) i limit e = ap (values_from (suc n) s o limit) (next_told i (omega arith))

  key_whole : (i limit : ℕ) → i < count → is_given (key_value s o limit (scan_address s o (first + i)) (header_of (first + i))) ≡ true
  unfolding key_value readable record_end key_end versions_start
  key_whole i limit h =
      let a = scan_address s o (first + i) in
      let n = header_of (first + i) in
      let l = w.inside i h in
      ap is_given (if_true _ _ _ (le-leb (o.arena + a + key_header_len_of o.encoding) (length s) (omega arith)))
      ∙ room_given n.versions s o (o.arena + a + versions_start o n) limit w.sums (omega arith)

  keys_whole : (n i limit : ℕ) → i + n ≡ count → is_given (values_from n s o limit (scan_address s o (first + i))) ≡ true
  unfolding values_from is_given
  keys_whole zero i limit e = refl
  keys_whole (suc n) i limit e =
      given_joined (key_value s o limit (scan_address s o (first + i)) (header_of (first + i))) (values_from n s o limit (next_address_of o (scan_address s o (first + i)) (header_of (first + i))))
      ∙ true_both _ _ (key_whole i limit (omega arith)) (ap is_given (rest_told n i limit e) ∙ keys_whole n (suc i) limit (omega arith))

  -- nothing of the keys is refused
  pub whole_given : (limit : ℕ) → is_given (values_from count s o limit (scan_address s o first)) ≡ true
  whole_given limit =
      let e : first ≡ first + 0 = omega arith in
      ap (λ (k : ℕ). is_given (values_from count s o limit (scan_address s o k))) e ∙ keys_whole count 0 limit (omega arith)

-- ---- one key more, by the code's numbers

module _ (s : List ℕ) (o : Opened) (first count i : ℕ) (four : o.encoding.address ≡ 4) {table at : ℕ} (some : i < count)
    (place : table ≡ table_place o (first + i)) (ea : at ≡ le_at s table 4) where
  -- its header is read by words
  pub header_room : WholeKeys s o first count → o.arena + at + (o.encoding.address + o.encoding.key) + o.encoding.key + 8 ≤ length s
  unfolding key_end record_end versions_start key_header_len_of
  header_room w =
      let e = address_is s o first i four place ea in
      let l = w.inside i some in
      omega arith

  module _ (limit : ℕ) {header size suffix versions : ℕ} (eh : header ≡ key_header_len_of o.encoding) (es : size ≡ version_len_of o.encoding)
      (ex : suffix ≡ le_at s (o.arena + at + (o.encoding.address + o.encoding.key)) o.encoding.key)
      (ev : versions ≡ le_at s (o.arena + at + (o.encoding.address + o.encoding.key) + o.encoding.key) o.encoding.count) where
    -- its versions have a word behind them
    pub versions_room : WholeKeys s o first count → o.arena + at + (header + suffix) + versions * size + 8 ≤ length s
    versions_room w =
        let e = key_end_lem s o first i four place ea limit eh es ex ev in
        let l = w.inside i some in
        omega arith

    -- the others are those from the next scan address on
    pub step_told : WholeKeys s o first count → Bytes s → (k : ℕ) → i + suc k ≡ count
        → values_from k s o limit ((at + (header + suffix) + versions * size) % 2 ^ 32) ≡ values_from k s o limit (scan_address s o (first + (i + 1)))
    step_told w b k h =
        ap (values_from k s o limit)
        (next_is s o limit at eh es ex ev ∙ ap (λ (a : ℕ). next_address_of o a (key_header_at s o.encoding (o.arena + a))) (address_is s o first i four place ea))
        ∙ rest_told s o first count w b four k i limit h
        ∙ let e : first + suc i ≡ first + (i + 1) = omega arith in ap (λ (n : ℕ). values_from k s o limit (scan_address s o n)) e
