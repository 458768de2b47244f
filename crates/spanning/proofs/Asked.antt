-- The result of every call of `kiban_span`, by its questions in plain terms.
-- Assumes nothing.
use mathlib.Core.Path.{◌≡◌, refl, sym, ap, ◌∙◌, subst}
use mathlib.Core.Logic.{◌⊎◌, inl, inr, ◌↔◌}
use mathlib.Core.Bool.{Bool, true, false, not}
use mathlib.Core.List.{List, [], ◌∷◌}
use Prim.Native.Nat.{ℕ, zero, suc, ◌+◌, ◌*◌, ◌<◌, ◌≤◌}
use native.Mathlib.Nat.{zero-add}
use native.Mathlib.Omega.{arith}
use lib.Dec.{leb}
use lib.ListN.{length, get_or, drop}
use lib.Seq.{sets, length-sets}
use borrow.Author.Tests.{le-leb, leb-true, eqb-false, eq-eqb, ne_eqb}
use Rattle.std.specs.Prelude.{Result, Ok, Err}
use Rattle.num.specs.Choice.{when◌then◌else◌, both}
use Rattle.num.proofs.Lists.{get_d-sets_inside, drop_sets_behind}
use Rattle.num.proofs.Choice.{both_true, true_both, if_true, if_false, if_case, never_true}
use Rattle.refusal.specs.Refusal.{refusal_number, answer_number}
use Rattle.refusal.specs.declared.Refusal.{Refusal}
use Rattle.refusal.specs.declared.Refusal.TheVariants as refusal
use Rattle.header.specs.declared.Opened.{Opened}
use Rattle.opened.specs.Opened.{is_record_of}
use Rattle.numbers.specs.Numbers.{opened_of, is_record_numbers}
use Rattle.spans.specs.Span.{Pair, scannable, scan_address, span_of, values_from, pair_numbers, pairs_written, spanned_read}
use Rattle.spans.proofs.Keys.{numbers_length}
use Rattle.scans.proofs.Asked.{scanned}
use Rattle.scans.specs.Spans.{span_of_numbers, found_written}
use Rattle.calls.specs.Calls.{place, Holding, GivesRecord}
use Rattle.calls.proofs.Given.{passed, numbers_pass, bytes_pass}
use Rattle.spanning.specs.Reads.{RecordsGive}
use Rattle.spanning.specs.Calls.{spanned, SpanCall, pair_at, PairsLeft, NumbersScan, KeysInside, PlacesEnough, Passes, ReadFails, SpanAsked}
use Rattle.spanning.proofs.Judged.{Judged, bad, good, span_judged, keys_few}

number : Result (List Pair) Refusal → ℕ
number a = answer_number (spanned_read a)

-- ---- one question

-- asked twice with one number
joined : (a b : Bool) (x y : Result (List Pair) Refusal) → (when a then (when b then x else y) else y) ≡ (when both a b then x else y)
unfolding when◌then◌else◌ both
joined true b x y = refl
joined false b x y = refl

-- a number that neither the question nor what is behind it gives
other : (t : Bool) (n : Refusal) (rest : Result (List Pair) Refusal) (k : ℕ) → (refusal_number n ≡ k → ⊥) → (number rest ≡ k → ⊥) → number (when t then rest else Err n) ≡ k → ⊥
unfolding number answer_number spanned_read
other t n rest k w r = if_case (λ (a : Result (List Pair) Refusal). number a ≡ k → ⊥) t rest (Err n) (λ _. r) (λ _. w)

module _ {P : Type 0} (t : Bool) (n : Refusal) (rest : Result (List Pair) Refusal) (asked : (t ≡ true) ↔ P) where
  yes : P → number (when t then rest else Err n) ≡ number rest
  yes p = ap number (if_true t rest (Err n) (asked.1 p))

  -- its own number is given exactly if the answer is no
  own : (number rest ≡ refusal_number n → ⊥) → (number (when t then rest else Err n) ≡ refusal_number n) ↔ (P → ⊥)
  unfolding number answer_number spanned_read
  own w = (λ e p. w (sym (yes p) ∙ e), λ x. ap number (if_false t rest (Err n) (never_true t (λ e. x (asked.0 e)))))

  -- another one exactly if the answer is yes, and what is behind gives it
  behind : (k : ℕ) → (refusal_number n ≡ k → ⊥) → (number (when t then rest else Err n) ≡ k) ↔ (P × (number rest ≡ k))
  unfolding number answer_number spanned_read
  behind k w = (λ e. go t refl e, λ q. yes q.0 ∙ q.1)
    where
      go : (b : Bool) → t ≡ b → number (when t then rest else Err n) ≡ k → P × (number rest ≡ k)
      go true p e = (asked.0 p, sym (yes (asked.0 p)) ∙ e)
      go false p e = absurd (w (sym (ap number (if_false t rest (Err n) p)) ∙ e))

-- ---- the reads

module _ {F : Type 0} {G : List Pair → Type 0} {a : Result (List Pair) Refusal} where
  -- 25 exactly if one of them fails, 0 if none does
  judged_25 : Judged F G a → (number a ≡ 25) ↔ F
  unfolding number answer_number spanned_read
  judged_25 (bad f e) = (λ _. f, λ _. ap number e)
  judged_25 (good ps n g e) = (λ i. absurd (let z = sym (ap number e) ∙ i in omega arith), λ f. absurd (n f))

  judged_0 : Judged F G a → (number a ≡ 0) ↔ (F → ⊥)
  unfolding number answer_number spanned_read
  judged_0 (bad f e) = (λ i. absurd (let z = sym (ap number e) ∙ i in omega arith), λ n. absurd (n f))
  judged_0 (good ps n g e) = (λ _. n, λ _. ap number e)

  -- then the pairs are given
  judged_pairs : Judged F G a → number a ≡ 0 → (ps : List Pair) × G ps × (a ≡ Ok ps)
  unfolding number answer_number spanned_read
  judged_pairs (bad f e) z = absurd (let y = sym (ap number e) ∙ z in omega arith)
  judged_pairs (good ps n g e) z = (ps, g, e)

  -- there is no other number
  judged_number : Judged F G a → (answer_number (spanned_read a) ≡ 0) ⊎ (answer_number (spanned_read a) ≡ 25)
  unfolding answer_number spanned_read
  judged_number (bad f e) = inr (ap (λ (x : Result (List Pair) Refusal). answer_number (spanned_read x)) e)
  judged_number (good ps n g e) = inl (ap (λ (x : Result (List Pair) Refusal). answer_number (spanned_read x)) e)

pub read_number : (s : List ℕ) (o : Opened) (first count limit : ℕ)
    → (answer_number (spanned_read (values_from count s o limit (scan_address s o first))) ≡ 0)
    ⊎ (answer_number (spanned_read (values_from count s o limit (scan_address s o first))) ≡ 25)
read_number s o first count limit = judged_number (span_judged s o first limit count)

-- ---- the questions in their order

pub scan_asked : (h : Holding) → GivesRecord h → (scannable (opened_of h.numbers) ≡ true) ↔ NumbersScan h.numbers
unfolding opened_of scannable
scan_asked h g = (
  λ e.
      let c = scanned (opened_of h.numbers) e in
      let p = g.packed in
      let n = eqb-false (place h.numbers 12) 1 c.plain in
      record { plain = few (place h.numbers 12) p n; scan = c.scan; four = c.four },
  λ n.
      let z = n.plain in
      true_both _ _ (ap not (ne_eqb (place h.numbers 12) 1 (λ e. omega arith)))
      (true_both _ _ (ap not (ne_eqb _ _ n.scan)) (eq-eqb _ _ n.four)),
)
  where
    few : (i : ℕ) → i ≤ 1 → (i ≡ 1 → ⊥) → i ≡ 0
    few i l n = omega (arith, n)

module _ (h : Holding) (first count limit places : ℕ) where
  abbrev o : Opened
  o = opened_of h.numbers

  abbrev read : Result (List Pair) Refusal
  read = values_from count h.bytes o limit (scan_address h.bytes o first)

  abbrev t29 : Bool
  t29 = leb (2 * count) places

  abbrev from29 : Result (List Pair) Refusal
  from29 = when t29 then read else Err refusal.SpanRoom

  abbrev t28 : Bool
  t28 = leb (first + count) o.count

  abbrev from28 : Result (List Pair) Refusal
  from28 = when t28 then from29 else Err refusal.SpanKeys

  abbrev from27 : Result (List Pair) Refusal
  from27 = when scannable o then from28 else Err refusal.NoSpans

  abbrev t24 : Bool
  t24 = both (is_record_numbers h.numbers) (is_record_of h.bytes o)

  abbrev from24 : Result (List Pair) Refusal
  from24 = when t24 then from27 else Err refusal.RecordGiven

  questions : span_of_numbers h.bytes h.numbers first count limit places ≡ from24
  unfolding span_of_numbers span_of
  questions = joined (is_record_numbers h.numbers) (is_record_of h.bytes o) from27 (Err refusal.RecordGiven)

  -- each test says what its plain terms say

  record_asked_lem : (t24 ≡ true) ↔ GivesRecord h
  record_asked_lem = (λ e. let p = both_true _ _ e in passed h p.0 p.1, λ g. true_both _ _ (numbers_pass h g) (bytes_pass h g))

  keys_asked : (t28 ≡ true) ↔ KeysInside h first count
  unfolding opened_of
  keys_asked = (
    λ e. let l = leb-true (first + count) (place h.numbers 2) e in omega arith,
    λ l. le-leb (first + count) (place h.numbers 2) (omega arith),
  )

  places_asked : (t29 ≡ true) ↔ PlacesEnough count places
  places_asked = (λ e. let l = leb-true (2 * count) places e in omega arith, λ l. le-leb (2 * count) places (omega arith))

  -- numbers that do not come from a question on

  not_read : (k : ℕ) → (k ≡ 0 → ⊥) → (k ≡ 25 → ⊥) → number read ≡ k → ⊥
  unfolding number
  not_read k z w e = go (read_number h.bytes o first count limit)
    where
      go : (number read ≡ 0) ⊎ (number read ≡ 25) → ⊥
      go (inl f) = z (sym e ∙ f)
      go (inr f) = w (sym e ∙ f)

  not_29 : (k : ℕ) → (k ≡ 0 → ⊥) → (k ≡ 25 → ⊥) → (29 ≡ k → ⊥) → number from29 ≡ k → ⊥
  not_29 k z w n = other t29 refusal.SpanRoom read k n (not_read k z w)

  not_28 : (k : ℕ) → (k ≡ 0 → ⊥) → (k ≡ 25 → ⊥) → (29 ≡ k → ⊥) → (28 ≡ k → ⊥) → number from28 ≡ k → ⊥
  not_28 k z w n m = other t28 refusal.SpanKeys from29 k m (not_29 k z w n)

  -- the equivalences

  result_24 : (number from24 ≡ 24) ↔ (GivesRecord h → ⊥)
  result_24 =
      own t24 refusal.RecordGiven from27 record_asked_lem
      (other (scannable o) refusal.NoSpans from28 24 (λ e. omega arith) (not_28 24 (λ e. omega arith) (λ e. omega arith) (λ e. omega arith) (λ e. omega arith)))

  result_27 : (number from24 ≡ 27) ↔ (GivesRecord h × (NumbersScan h.numbers → ⊥))
  result_27 =
      let f = behind t24 refusal.RecordGiven from27 record_asked_lem 27 (λ e. omega arith) in
      let n = not_28 27 (λ e. omega arith) (λ e. omega arith) (λ e. omega arith) (λ e. omega arith) in (
        λ e. let q = f.0 e in (q.0, (own (scannable o) refusal.NoSpans from28 (scan_asked h q.0) n).0 q.1),
        λ q. f.1 (q.0, (own (scannable o) refusal.NoSpans from28 (scan_asked h q.0) n).1 q.1),
      )

  -- another number comes from 28 on exactly if all before is answered by yes
  from_28 : (k : ℕ) → (24 ≡ k → ⊥) → (27 ≡ k → ⊥) → (number from24 ≡ k) ↔ (GivesRecord h × NumbersScan h.numbers × (number from28 ≡ k))
  from_28 k a b =
      let f = behind t24 refusal.RecordGiven from27 record_asked_lem k a in (
        λ e.
            let p = f.0 e in
            let q = (behind (scannable o) refusal.NoSpans from28 (scan_asked h p.0) k b).0 p.1 in
            (p.0, q.0, q.1),
        λ q. f.1 (q.0, (behind (scannable o) refusal.NoSpans from28 (scan_asked h q.0) k b).1 (q.1, q.2)),
      )

  result_28 : (number from24 ≡ 28) ↔ (GivesRecord h × NumbersScan h.numbers × (KeysInside h first count → ⊥))
  result_28 =
      let f = from_28 28 (λ e. omega arith) (λ e. omega arith) in
      let w = own t28 refusal.SpanKeys from29 keys_asked (not_29 28 (λ e. omega arith) (λ e. omega arith) (λ e. omega arith)) in
      (λ e. let q = f.0 e in (q.0, q.1, w.0 q.2), λ q. f.1 (q.0, q.1, w.1 q.2))

  -- and from 29 on
  from_29 : (k : ℕ) → (24 ≡ k → ⊥) → (27 ≡ k → ⊥) → (28 ≡ k → ⊥)
      → (number from24 ≡ k) ↔ (GivesRecord h × NumbersScan h.numbers × KeysInside h first count × (number from29 ≡ k))
  from_29 k a b c =
      let f = from_28 k a b in
      let w = behind t28 refusal.SpanKeys from29 keys_asked k c in (
        λ e. let p = f.0 e in let q = w.0 p.2 in (p.0, p.1, q.0, q.1),
        λ q. f.1 (q.0, q.1, w.1 (q.2, q.3)),
      )

  result_29 : (number from24 ≡ 29) ↔ (GivesRecord h × NumbersScan h.numbers × KeysInside h first count × (PlacesEnough count places → ⊥))
  result_29 =
      let f = from_29 29 (λ e. omega arith) (λ e. omega arith) (λ e. omega arith) in
      let w = own t29 refusal.SpanRoom read places_asked (not_read 29 (λ e. omega arith) (λ e. omega arith)) in
      (λ e. let q = f.0 e in (q.0, q.1, q.2, w.0 q.3), λ q. f.1 (q.0, q.1, q.2, w.1 q.3))

  -- 0 and 25 come from the reads
  from_reads : (k : ℕ) → (24 ≡ k → ⊥) → (27 ≡ k → ⊥) → (28 ≡ k → ⊥) → (29 ≡ k → ⊥)
      → (number from24 ≡ k) ↔ (Passes h first count places × (number read ≡ k))
  from_reads k a b c d =
      let f = from_29 k a b c in
      let w = behind t29 refusal.SpanRoom read places_asked k d in (
        λ e. let q = f.0 e in let r = w.0 q.3 in (record { gives = q.0; scans = q.1; keys = q.2; room = r.0 }, r.1),
        λ q. let p = q.0 in f.1 (p.gives, p.scans, p.keys, w.1 (p.room, q.1)),
      )

  result_25 : (number from24 ≡ 25) ↔ (Passes h first count places × ReadFails h first count limit)
  result_25 =
      let f = from_reads 25 (λ e. omega arith) (λ e. omega arith) (λ e. omega arith) (λ e. omega arith) in
      let w = judged_25 (span_judged h.bytes o first limit count) in
      (λ e. let q = f.0 e in (q.0, w.0 q.1), λ q. f.1 (q.0, w.1 q.1))

  result_0 : (number from24 ≡ 0) ↔ (Passes h first count places × (ReadFails h first count limit → ⊥))
  result_0 =
      let f = from_reads 0 (λ e. omega arith) (λ e. omega arith) (λ e. omega arith) (λ e. omega arith) in
      let w = judged_0 (span_judged h.bytes o first limit count) in
      (λ e. let q = f.0 e in (q.0, w.0 q.1), λ q. f.1 (q.0, w.1 q.1))

  -- where all is answered by yes the reads are the answer
  all_yes : Passes h first count places → from24 ≡ read
  all_yes p =
      if_true t24 from27 (Err refusal.RecordGiven) (record_asked_lem.1 p.gives)
      ∙ if_true (scannable o) from28 (Err refusal.NoSpans) ((scan_asked h p.gives).1 p.scans)
      ∙ if_true t28 from29 (Err refusal.SpanKeys) (keys_asked.1 p.keys)
      ∙ if_true t29 read (Err refusal.SpanRoom) (places_asked.1 p.room)

  given_pairs : number from24 ≡ 0
      → (ps : List Pair) × RecordsGive h.bytes o first limit 0 count ps × (span_of_numbers h.bytes h.numbers first count limit places ≡ Ok ps)
  given_pairs z =
      let q = (from_reads 0 (λ e. omega arith) (λ e. omega arith) (λ e. omega arith) (λ e. omega arith)).0 z in
      let r = judged_pairs (span_judged h.bytes o first limit count) q.1 in
      (r.0, r.1, questions ∙ all_yes q.0 ∙ r.2)

-- ---- what a call leaves

-- the numbers of pair i
number_offset : (ps : List Pair) (i : ℕ) → i < length ps → get_or (pair_numbers ps) (2 * i) 0 ≡ (pair_at ps i).offset
unfolding pair_numbers pair_at
number_offset [] i h = absurd (omega arith)
number_offset (p ∷ ps) zero h = refl
number_offset (p ∷ ps) (suc i) h =
    let e : 2 * suc i ≡ suc (suc (2 * i)) = omega arith in
    ap (λ (n : ℕ). get_or (pair_numbers (p ∷ ps)) n 0) e ∙ number_offset ps i (omega arith)

number_length : (ps : List Pair) (i : ℕ) → i < length ps → get_or (pair_numbers ps) (2 * i + 1) 0 ≡ (pair_at ps i).len
unfolding pair_numbers pair_at
number_length [] i h = absurd (omega arith)
number_length (p ∷ ps) zero h = refl
number_length (p ∷ ps) (suc i) h =
    let e : 2 * suc i + 1 ≡ suc (suc (2 * i + 1)) = omega arith in
    ap (λ (n : ℕ). get_or (pair_numbers (p ∷ ps)) n 0) e ∙ number_length ps i (omega arith)

module _ (h : Holding) (first count limit : ℕ) (c : SpanCall h first count limit) where
  pub pairs_left : (ps : List Pair) → spanned h first count limit (length c.before) ≡ Ok ps → 2 * length ps ≤ length c.before
      → PairsLeft h first count limit c ps
  unfolding pairs_written found_written
  pairs_left ps e l =
      let n = numbers_length ps in
      let after = c.leaves ∙ ap (λ (r : Result (List Pair) Refusal). pairs_written r c.before) e in
      let at : (k : ℕ) → k < length (pair_numbers ps) → place c.after k ≡ get_or (pair_numbers ps) k 0 =
      λ k b. ap (λ (r : List ℕ). place r k) after ∙ ap (λ (j : ℕ). place (sets c.before 0 (pair_numbers ps)) j) (sym (zero-add k))
      ∙ get_d-sets_inside (pair_numbers ps) c.before 0 k 0 b (omega arith) in
      record {
        found = c.leaves_found ∙ ap (λ (r : Result (List Pair) Refusal). found_written r c.found) e;
        places = ap length after ∙ length-sets c.before 0 (pair_numbers ps);
        offsets = λ i b. at (2 * i) (omega arith) ∙ number_offset ps i b;
        lengths = λ i b. at (2 * i + 1) (omega arith) ∙ number_length ps i b;
        behind = ap (drop (2 * length ps)) after ∙ drop_sets_behind (pair_numbers ps) c.before 0 (2 * length ps) (omega arith);
      }

-- what is equivalent of a number is so of its equal
same_result : (Q : ℕ → Type 0) {Z : Type 0} {m n : ℕ} → m ≡ n → Q m ↔ Z → Q n ↔ Z
same_result Q e f = (λ q. f.0 (subst Q (sym e) q), λ z. subst Q e (f.1 z))

-- every call of `kiban_span` is answered by its questions in their order
pub span_asked : SpanAsked
unfolding SpanAsked number
span_asked h first count limit c =
    let places = length c.before in
    let same = sym (c.returns ∙ ap number (questions h first count limit places)) in
    record {
      refused_24 = same_result (λ (i : ℕ). i ≡ 24) same (result_24 h first count limit places);
      refused_27 = same_result (λ (i : ℕ). i ≡ 27) same (result_27 h first count limit places);
      refused_28 = same_result (λ (i : ℕ). i ≡ 28) same (result_28 h first count limit places);
      refused_29 = same_result (λ (i : ℕ). i ≡ 29) same (result_29 h first count limit places);
      refused_25 = same_result (λ (i : ℕ). i ≡ 25) same (result_25 h first count limit places);
      zero = same_result (λ (i : ℕ). i ≡ 0) same (result_0 h first count limit places);
      gives = λ z.
          let room = ((result_0 h first count limit places).0 (same ∙ z)).0.room in
          let g = given_pairs h first count limit places (same ∙ z) in
          let few = keys_few g.1 in
          (g.0, g.1, pairs_left h first count limit c g.0 g.2 (omega arith));
    }
