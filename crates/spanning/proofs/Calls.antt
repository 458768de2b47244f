-- What a span by a linker gives, and what every call of `kiban_span` leaves.
-- Assumes nothing.
use mathlib.Core.Path.{◌≡◌, refl, sym, ap, ◌∙◌, subst}
use mathlib.Core.Logic.{◌⊎◌, inl, inr}
use mathlib.Core.List.{List, Memᴰ}
use Prim.Native.Nat.{ℕ, ◌+◌, ◌*◌, ◌≤◌}
use native.Mathlib.Omega.{arith}
use lib.ListN.{length, take, drop, length-append, length-take}
use Rattle.std.specs.Prelude.{Result, Ok, Err}
use Rattle.num.specs.Number.{Bytes}
use Rattle.num.proofs.Choice.{if_case}
use Rattle.refusal.specs.Refusal.{refusal_number, answer_number}
use Rattle.refusal.specs.declared.Refusal.{Refusal}
use Rattle.refusal.specs.declared.Refusal.TheVariants as refusal
use Rattle.header.specs.declared.Opened.{Opened}
use Rattle.opened.specs.Opened.{is_record_of}
use Rattle.locating.specs.Store.{LinkerStore, Version, Holds, store_versions}
use Rattle.locating.proofs.Accepted.{store_indexed}
use Rattle.numbers.specs.Numbers.{record_numbers, opened_of, is_record_numbers}
use Rattle.numbers.proofs.RecordNumbers.{record_read, record_is}
use Rattle.numbered.specs.Numbers.{OwnNumber}
use Rattle.spans.specs.Span.{Pair, scannable, scan_address, span_of, values_from, pairs_written, spanned_read}
use Rattle.scans.specs.Spans.{span_of_numbers, found_written}
use Rattle.scans.proofs.Numbers.{spanned_over}
use Rattle.calls.specs.Calls.{place, Holding, holding, blocks_held, GivesRecord}
use Rattle.calls.proofs.Answers.{store_held, HoldsStore, held_none, held_greatest}
use Rattle.calls.proofs.Calls.{linker_holds}
use Rattle.calls.proofs.Given.{passed}
use Rattle.spanning.specs.Spans.{store_keys, StoreKeysRise, keys_spanned, span, ValueLies, KeyGives, value, tombstone, none, SpanGives, no_key, next_key, KeysInOrder, Scans, Spans, SpansExactly, lookup_pairs, SpanIsLookups}
use Rattle.spanning.specs.Calls.{spanned, SpanCall, span_numbers, SpansNumbered, NumbersScan, Passes, SpanAnswer, SpanAsked, PairsLeft, LookupsOf, answers_pairs, SpanGiven, LinkerKeys, SpanCalls}
use Rattle.spanning.proofs.Accepted.{store_keys_rise, yes_scans, spans_exactly, span_is_lookups}
use Rattle.spanning.proofs.Lookups.{answers_few, lookups_same}
use Rattle.spanning.proofs.Asked.{read_number, scan_asked, pairs_left, span_asked}

-- ---- every call

-- 0, or one of the numbers
Own : Result (List Pair) Refusal → Type 0
unfolding answer_number spanned_read
Own a = OwnNumber span_numbers (answer_number (spanned_read a))

one_of_lem : (n : Refusal) → Memᴰ (refusal_number n) span_numbers → Own (Err n)
unfolding Own OwnNumber answer_number spanned_read
one_of_lem n m = inr m

walk_own : (s : List ℕ) (o : Opened) (first count limit : ℕ) → Own (values_from count s o limit (scan_address s o first))
unfolding Own OwnNumber
walk_own s o first count limit = go (read_number s o first count limit)
  where
    number : ℕ
    number = answer_number (spanned_read (values_from count s o limit (scan_address s o first)))

    go : (number ≡ 0) ⊎ (number ≡ 25) → OwnNumber span_numbers number
    go (inl e) = inl e
    go (inr e) = inr (Memᴰ.tail (Memᴰ.head e))

span_own : (s numbers : List ℕ) (first count limit places : ℕ) → Own (span_of_numbers s numbers first count limit places)
unfolding span_of_numbers span_of
span_own s numbers first count limit places =
    if_case Own _ _ _
    (λ _. if_case Own _ _ _
    (λ _. if_case Own _ _ _
    (λ _. if_case Own _ _ _
    (λ _. if_case Own _ _ _
    (λ _. walk_own s _ first count limit)
    (λ _. one_of_lem refusal.SpanRoom (Memᴰ.tail (Memᴰ.tail (Memᴰ.tail (Memᴰ.tail (Memᴰ.head refl)))))))
    (λ _. one_of_lem refusal.SpanKeys (Memᴰ.tail (Memᴰ.tail (Memᴰ.tail (Memᴰ.head refl))))))
    (λ _. one_of_lem refusal.NoSpans (Memᴰ.tail (Memᴰ.tail (Memᴰ.head refl)))))
    (λ _. one_of_lem refusal.RecordGiven (Memᴰ.head refl)))
    (λ _. one_of_lem refusal.RecordGiven (Memᴰ.head refl))

-- where the number is not 0 nothing is written
refused_kept : (a : Result (List Pair) Refusal) (before : List ℕ) (found : ℕ) → (answer_number (spanned_read a) ≡ 0 → ⊥)
    → (pairs_written a before ≡ before) × (found_written a found ≡ found)
unfolding answer_number spanned_read pairs_written found_written
refused_kept (Ok ps) before found n = absurd (n refl)
refused_kept (Err k) before found n = (refl, refl)

pub spans_numbered : SpansNumbered
unfolding SpansNumbered Own
spans_numbered h first count limit c =
    let k = refused_kept (spanned h first count limit (length c.before)) c.before c.found in
    record {
      number = subst (OwnNumber span_numbers) (sym c.returns) (span_own h.bytes h.numbers first count limit (length c.before));
      kept = λ n. let r = k (λ z. n (c.returns ∙ z)) in (c.leaves ∙ r.0, c.leaves_found ∙ r.1);
    }

-- ---- the versions and keys, read off data and list alone

module _ (h : Holding) (o : Opened) (limit : ℕ) where
  lies : (v : Version) (p : Pair) → ValueLies (store_held h o) v p → ValueLies (blocks_held h) v p
  unfolding store_held blocks_held
  lies v p l =
      record {
        entry = l.entry;
        listed = l.listed;
        version = l.version;
        offset = l.offset;
        size = l.size;
        len = l.len;
        inside = l.inside;
        value = l.value;
      }

  held_key : (key : List ℕ) (ps : List Pair) → KeyGives (store_held h o) limit key ps → KeyGives (blocks_held h) limit key ps
  unfolding store_held blocks_held
  held_key key ps (value v p g k l) = value v p (held_greatest h o key limit v g) k (lies v p l)
  held_key key ps (tombstone v g k) = tombstone v (held_greatest h o key limit v g) k
  held_key key ps (none n) = none (held_none h o key limit n)

  held_span : (keys : List (List ℕ)) (ps : List Pair) → SpanGives (store_held h o) limit keys ps → SpanGives (blocks_held h) limit keys ps
  held_span keys ps no_key = no_key
  held_span keys ps (next_key k r) = next_key (held_key _ _ k) (held_span _ _ r)

  held_ordered : KeysInOrder (store_held h o) → KeysInOrder (blocks_held h)
  unfolding store_keys Holds store_versions store_held blocks_held
  held_ordered k = record { rising = k.rising; held = k.held; one = k.one }

  held_keys : store_keys (store_held h o) ≡ store_keys (blocks_held h)
  unfolding store_keys store_held blocks_held
  held_keys = refl

-- ---- the calls of a linker

-- a key gives one pair at most
key_few : (t : LinkerStore) (limit : ℕ) (key : List ℕ) (ps : List Pair) → KeyGives t limit key ps → length ps ≤ 1
key_few t limit key ps (value v p g k l) = omega arith
key_few t limit key ps (tombstone v g k) = omega arith
key_few t limit key ps (none n) = omega arith

span_few : (t : LinkerStore) (limit : ℕ) (keys : List (List ℕ)) (ps : List Pair) → SpanGives t limit keys ps → length ps ≤ length keys
span_few t limit keys ps no_key = omega arith
span_few t limit keys qs (next_key {ps = one} {qs = rest} k r) =
    let a = key_few t limit _ one k in
    let b = span_few t limit _ rest r in
    omega (arith, length-append one rest)

module _ (h : Holding) (o : Opened) (x : HoldsStore h o) where
  record_place : (i : ℕ) → place h.numbers i ≡ place (record_numbers o) i
  record_place i = ap (λ (l : List ℕ). place l i) x.numbers

  -- it holds a record's numbers, and the bytes give the record
  gives_record : GivesRecord h
  unfolding store_held
  gives_record =
      passed h (ap is_record_numbers x.numbers ∙ record_is o)
      (ap (is_record_of h.bytes) (ap opened_of x.numbers ∙ record_read o) ∙ (store_indexed (store_held h o) x.store).is_record)

  numbers_scans : NumbersScan h.numbers → Scans (store_held h o)
  unfolding store_held
  numbers_scans n =
      yes_scans (store_held h o) (ap scannable (sym (ap opened_of x.numbers ∙ record_read o)) ∙ (scan_asked h gives_record).1 n)

  -- place 2 is the number of keys
  keys_held : place h.numbers 2 ≡ length (store_keys (blocks_held h))
  unfolding store_held record_numbers StoreKeysRise
  keys_held = record_place 2 ∙ sym (store_keys_rise (store_held h o) x.store).count ∙ ap length (held_keys h o 0)

  module _ (b : Bytes h.bytes) (first count limit : ℕ) (c : SpanCall h first count limit) where
    -- the call spans the store
    call-spans : spanned h first count limit (length c.before) ≡ span (store_held h o) first count limit (length c.before)
    unfolding span store_held
    call-spans =
        ap (λ (n : List ℕ). span_of_numbers h.bytes n first count limit (length c.before)) x.numbers
        ∙ sym (spanned_over h.bytes (record_numbers o) first count limit (length c.before) (record_is o) (sym (record_read o)))

    spans : Spans (store_held h o) first count limit (length c.before)
    unfolding SpansExactly store_held
    spans = spans_exactly (store_held h o) x.store b first count limit (length c.before)

    asked : SpanAnswer h first count limit c
    unfolding SpanAsked
    asked = span_asked h first count limit c

    -- the pairs of the keys spanned, where 27 to 29 are answered by yes
    gives : NumbersScan h.numbers → first + count ≤ length (store_keys (blocks_held h)) → 2 * count ≤ length c.before
        → (c.result ≡ 0)
        × ((ps : List Pair) × SpanGives (blocks_held h) limit (keys_spanned (blocks_held h) first count) ps × PairsLeft h first count limit c ps)
    unfolding answer_number spanned_read keys_spanned
    gives n k l =
        let g = spans.gives (numbers_scans n) (omega (arith, ap length (held_keys h o limit))) l in
        let f = held_span h o limit _ g.0 g.2 in
        let m = span_few (blocks_held h) limit _ g.0 f in
        let t = length-take count (drop first (store_keys (store_held h o))) in (
          c.returns ∙ ap (λ (r : Result (List Pair) Refusal). answer_number (spanned_read r)) (call-spans ∙ g.1),
          (
            g.0,
            subst (λ (keys : List (List ℕ)). SpanGives (blocks_held h) limit (take count (drop first keys)) g.0) (held_keys h o limit) f,
            pairs_left h first count limit c g.0 (call-spans ∙ g.1) (omega arith),
          ),
        )

    -- as many keys as the record says
    passes : Passes h first count (length c.before)
        → NumbersScan h.numbers × (first + count ≤ length (store_keys (blocks_held h))) × (2 * count ≤ length c.before)
    passes q = let k = q.keys in (q.scans, omega (arith, keys_held), q.room)

    -- the pairs of lookups of the keys spanned
    looked : NumbersScan h.numbers → first + count ≤ length (store_keys (blocks_held h)) → 2 * count ≤ length c.before
        → (calls : LookupsOf h limit (keys_spanned (blocks_held h) first count)) → PairsLeft h first count limit c (answers_pairs calls)
    unfolding SpanIsLookups keys_spanned store_held
    looked n k l calls =
        let keys = keys_spanned (blocks_held h) first count in
        let e = lookups_same h o x limit keys calls in
        let f = ap (λ (ks : List (List ℕ)). lookup_pairs (store_held h o) limit (take count (drop first ks))) (held_keys h o limit) in
        let g = span_is_lookups (store_held h o) x.store b (numbers_scans n) first count limit (length c.before)
        (omega (arith, ap length (held_keys h o limit))) l in
        let m = answers_few calls in
        let t = length-take count (drop first (store_keys (blocks_held h))) in
        pairs_left h first count limit c (answers_pairs calls) (call-spans ∙ g ∙ ap Ok (f ∙ sym e)) (omega arith)

    call-spanned : SpanGiven h first count limit c
    call-spanned =
        record {
          zero = (λ z. passes (asked.zero.0 z).0, λ q. (gives q.0 q.1 q.2).0);
          gives = λ z. let q = passes (asked.zero.0 z).0 in (gives q.0 q.1 q.2).1;
          lookups = λ z. let q = passes (asked.zero.0 z).0 in looked q.0 q.1 q.2;
          refused_27 = (λ e. (asked.refused_27.0 e).1, λ n. asked.refused_27.1 (gives_record, n));
          refused_28 = (
            λ e. let q = asked.refused_28.0 e in let k = q.2 in (q.1, omega (arith, k, keys_held)),
            λ q. let k = q.1 in asked.refused_28.1 (gives_record, q.0, λ l. omega (arith, keys_held)),
          );
          refused_29 = (
            λ e. let q = asked.refused_29.0 e in let k = q.2 in let r = q.3 in (q.1, omega (arith, keys_held), omega (arith, r)),
            λ q. let k = q.1 in let l = q.2 in asked.refused_29.1 (gives_record, q.0, omega (arith, keys_held), λ r. omega arith),
          );
          never_24 = λ e. asked.refused_24.0 e gives_record;
          never_25 = λ e. let q = passes (asked.refused_25.0 e).0 in let z = (gives q.0 q.1 q.2).0 in omega arith;
        }

-- the keys of a linker's blocks are those that its numbers count, in order
pub linker_keys : LinkerKeys
unfolding LinkerKeys StoreKeysRise
linker_keys k =
    let x = linker_holds k in
    record {
      count = sym (keys_held (holding k) x.0 x.1);
      ordered = held_ordered (holding k) x.0 0 (store_keys_rise (store_held (holding k) x.0) x.1.store).ordered;
    }

-- a span by a linker gives the values of the keys that it spans
pub span_calls : SpanCalls
unfolding SpanCalls
span_calls k b first count limit c =
    let x = linker_holds k in
    call-spanned (holding k) x.0 x.1 b first count limit c
