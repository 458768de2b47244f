-- Key records one behind the other, at their scan addresses; a record of the usual widths.
-- Assumes nothing.
use mathlib.Core.Path.{◌≡◌, refl, sym, ap, ◌∙◌, subst, subst⁻¹}
use mathlib.Core.Bool.{Bool, true, false}
use mathlib.Core.List.{List}
use Prim.Native.Nat.{ℕ, suc, ◌+◌, ◌*◌, ◌^◌, ◌<◌, ◌≤◌}
use native.Mathlib.Omega.{arith}
use lib.Dec.{eqb}
use lib.ListN.{length}
use borrow.Author.Tests.{eqb-true, eqb-false}
use Rattle.num.specs.Number.{Bytes, le_at}
use Rattle.num.proofs.Choice.{both_true, one_of-case}
use Rattle.num.proofs.Number.{le_at-lt}
use Rattle.encoding.specs.Encoding.{Widths, key_header_len_of, version_len_of}
use Rattle.encoding.proofs.Widths.{widths_le}
use Rattle.header.specs.declared.Opened.{Opened}
use Rattle.header.specs.Internal.{usual_widths}
use Rattle.arena.specs.Key.{key_header_at}
use Rattle.versions.specs.Version.{stored_seq}
use Rattle.spans.specs.Span.{scan_address}
use Rattle.wholekeys.specs.Internal.{record_end, key_end, WholeKeys}
use Rattle.wholekeys.proofs.Records.{end_is, record_bounds}

-- ---- the table of scan addresses, as code reads it

-- the place of a key's scan address
abbrev pub table_place : Opened → ℕ → ℕ
table_place o i = o.scan + 24 + 4 * i

pub table_address : (s : List ℕ) (o : Opened) → o.encoding.address ≡ 4 → (i : ℕ) {place : ℕ} → place ≡ table_place o i → le_at s place 4 ≡ scan_address s o i
unfolding scan_address
table_address s o four i {place = place} e =
    let f : place ≡ o.scan + 24 + i * 4 = omega arith in
    rw (f, four)

-- no sequence of at most four bytes has a sum beyond 64 bits, if the least is below 2^63
pub low_sums : (s : List ℕ) (o : Opened) → Bytes s → Widths o.encoding → o.encoding.seq ≤ 4 → o.min_seq < 2 ^ 63 → (pos : ℕ) → stored_seq s o pos < 2 ^ 64
unfolding stored_seq
low_sums s o b w h l pos =
    let n = one_of-case (λ (k : ℕ). k ≤ 4 → le_at s pos k < 2 ^ 32) _ _ w.seq
    ((λ _. omega (arith, le_at-lt s b 1 pos)), ((λ _. omega (arith, le_at-lt s b 2 pos)), ((λ _. omega (arith, le_at-lt s b 4 pos)), ((λ x. absurd (omega arith)), tt)))) h in
    omega arith

-- ---- the first of some keys are whole, but for the end of the last, where `next` is

pub record SoFar (s : List ℕ) (o : Opened) (first most done next : ℕ) : Type 0 where
  pub inside : (i : ℕ) → i < done → scan_address s o (first + i) ≤ most
  pub chain : (i : ℕ) → suc i < done → key_end s o (first + i) ≡ scan_address s o (first + suc i)
  pub last : (i : ℕ) → suc i ≡ done → next ≡ key_end s o (first + i)

module _ (s : List ℕ) (o : Opened) (first most : ℕ) where
  pub none_so_far : (done next : ℕ) → done ≡ 0 → SoFar s o first most done next
  none_so_far done next e = record { inside = λ i h. absurd (omega arith); chain = λ i h. absurd (omega arith); last = λ i h. absurd (omega arith) }

  -- a number below the successor is below, or it is the last
  latest : (P : ℕ → Type 0) (i done : ℕ) → i < suc done → (i < done → P i) → P done → P i
  latest P i done h before now = go (eqb i done) refl
    where
      go : (t : Bool) → eqb i done ≡ t → P i
      go true p = subst⁻¹ P (eqb-true i done p) now
      go false p = let d = eqb-false i done p in before (omega arith)

  more_so_far : (done next : ℕ) → SoFar s o first most done next → scan_address s o (first + done) ≤ most → next ≡ scan_address s o (first + done)
      → SoFar s o first most (suc done) (key_end s o (first + done))
  more_so_far done next w l e =
      record {
        inside = λ i h. latest (λ k. scan_address s o (first + k) ≤ most) i done h (w.inside i) l;
        chain = λ i h. chained i h (eqb (suc i) done) refl;
        last = λ i h. let d : done ≡ i = omega arith in ap (λ (k : ℕ). key_end s o (first + k)) d;
      }
    where
      chained : (i : ℕ) → suc i < suc done → (t : Bool) → eqb (suc i) done ≡ t → key_end s o (first + i) ≡ scan_address s o (first + suc i)
      chained i h true p =
          let d = eqb-true (suc i) done p in
          sym (w.last i d) ∙ e ∙ ap (λ (k : ℕ). scan_address s o (first + k)) (sym d)
      chained i h false p = let d = eqb-false (suc i) done p in w.chain i (omega arith)

-- where the last ends inside, too, all are whole
pub all_so_far : (s : List ℕ) (o : Opened) (first count : ℕ) {most done next : ℕ} → SoFar s o first most done next → done ≡ count → next ≤ most
    → o.arena + most + 8 ≤ length s → ((pos : ℕ) → stored_seq s o pos < 2 ^ 64) → WholeKeys s o first count
all_so_far s o first count {done = done} w e l room sums =
    record { sums = sums; inside = λ i h. ended i h (eqb (suc i) done) refl; behind = λ i h. w.chain i (omega arith) }
  where
    ended : (i : ℕ) → i < count → (t : Bool) → eqb (suc i) done ≡ t → o.arena + key_end s o (first + i) + 8 ≤ length s
    ended i h true p = let n = w.last i (eqb-true (suc i) done p) in omega arith
    ended i h false p =
        let d = eqb-false (suc i) done p in
        let n = w.chain i (omega arith) in
        let a = w.inside (suc i) (omega arith) in
        omega arith

-- ---- one key more, by the code's numbers

module _ (s : List ℕ) (o : Opened) (first i : ℕ) (four : o.encoding.address ≡ 4) {table at : ℕ} (place : table ≡ table_place o (first + i))
    (ea : at ≡ le_at s table 4) where
  pub address_is : at ≡ scan_address s o (first + i)
  address_is = ea ∙ table_address s o four (first + i) place

  module _ (limit : ℕ) {header size suffix versions : ℕ} (eh : header ≡ key_header_len_of o.encoding) (es : size ≡ version_len_of o.encoding)
      (ex : suffix ≡ le_at s (o.arena + at + (o.encoding.address + o.encoding.key)) o.encoding.key)
      (ev : versions ≡ le_at s (o.arena + at + (o.encoding.address + o.encoding.key) + o.encoding.key) o.encoding.count) where
    pub key_end_lem : at + (header + suffix) + versions * size ≡ key_end s o (first + i)
    unfolding key_end
    key_end_lem = end_is s o limit at eh es ex ev ∙ ap (λ (a : ℕ). record_end o a (key_header_at s o.encoding (o.arena + a))) address_is

    -- its end is a small number
    pub key_small : Bytes s → Widths o.encoding → at + (header + suffix) + versions * size < 2 ^ 40
    unfolding key_header_len_of
    key_small b w =
        let n = record_bounds s o limit at eh es ex ev b w in
        let l = widths_le o.encoding w in
        let a = le_at-lt s b 4 table in
        omega (arith, n.0, n.2)

    -- it starts where the key before it ends
    pub step_so_far : {most next : ℕ} → at ≤ most → at ≡ next → SoFar s o first most i next
        → SoFar s o first most (i + 1) (at + (header + suffix) + versions * size)
    step_so_far {most} {next} l b w =
        let a = address_is in
        let d : suc i ≡ i + 1 = omega arith in
        subst (λ (k : ℕ). SoFar s o first most k (at + (header + suffix) + versions * size)) d
        (subst⁻¹ (SoFar s o first most (suc i)) key_end_lem (more_so_far s o first most i next w (omega arith) (sym b ∙ a)))

-- the same keys are whole
pub whole_over : {s t : List ℕ} {o p : Opened} {first from count n : ℕ} → s ≡ t → o ≡ p → first ≡ from → count ≡ n
    → WholeKeys s o first count → WholeKeys t p from n
whole_over {s} {t} {o} {p} {first} {from} {count} {n} es eo ef ec w =
    subst (λ (k : ℕ). WholeKeys t p from k) ec
    (subst (λ (k : ℕ). WholeKeys t p k count) ef
    (subst (λ (x : Opened). WholeKeys t x first count) eo (subst (λ (x : List ℕ). WholeKeys x o first count) es w)))

-- ---- a record of the usual widths

-- a record whose widths, but for that of sequences, are replaced
abbrev with_widths : Opened → ℕ → ℕ → ℕ → ℕ → Opened
with_widths o address key count value =
    record {
      seed = o.seed;
      min_seq = o.min_seq;
      count = o.count;
      buckets = o.buckets;
      arena = o.arena;
      encoding = record { address = address; key = key; count = count; seq = o.encoding.seq; value = value; checksum = o.encoding.checksum };
      scan = o.scan;
      packed = o.packed;
    }

-- with the usual ones in their place it is the same record
pub usual_same : (o : Opened) → usual_widths o.encoding ≡ true → with_widths o 4 1 1 2 ≡ o
unfolding usual_widths
usual_same o t =
    let e = o.encoding in
    let a = both_true _ _ t in
    let k = both_true _ _ a.1 in
    let n = both_true _ _ k.1 in
    ap (λ (w : ℕ). with_widths o w 1 1 2) (sym (eqb-true e.address 4 a.0))
    ∙ ap (λ (w : ℕ). with_widths o e.address w 1 2) (sym (eqb-true e.key 1 k.0))
    ∙ ap (λ (w : ℕ). with_widths o e.address e.key w 2) (sym (eqb-true e.count 1 n.0))
    ∙ ap (λ (w : ℕ). with_widths o e.address e.key e.count w) (sym (eqb-true e.value 2 n.1))
