-- What calls of `kiban_lookup` leave has the pairs that the lookups of the store find.
-- Assumes nothing.
use mathlib.Core.Path.{◌≡◌, refl, sym, ap, ap₂, ◌∙◌}
use mathlib.Core.List.{List, [], ◌∷◌, ◌++◌}
use Prim.Native.Nat.{ℕ, ◌≤◌}
use native.Mathlib.Omega.{arith}
use lib.Dec.{eqb}
use lib.ListN.{length, length-append}
use lib.Seq.{sets}
use Rattle.std.specs.Prelude.{Some, None, Ok, Err}
use Rattle.num.specs.Choice.{when◌then◌else◌}
use Rattle.num.proofs.Choice.{if_case}
use Rattle.num.proofs.Lists.{get_d-sets_inside}
use Rattle.sstable.specs.declared.Kind.{Kind}
use Rattle.sstable.specs.declared.Kind.TheVariants.{Put, Tombstone}
use Rattle.sstable.specs.Kind.{kind_number}
use Rattle.header.specs.declared.Opened.{Opened}
use Rattle.refusal.specs.declared.Refusal.{Refusal}
use Rattle.locator.specs.Locator.{Located}
use Rattle.lookup.specs.Lookup.{locate_of}
use Rattle.locating.specs.Looks.{lookup, LooksExactly}
use Rattle.locating.proofs.Accepted.{lookup_exactly}
use Rattle.numbers.specs.Numbers.{record_numbers, answer_numbers, none_numbers}
use Rattle.numbers.proofs.RecordNumbers.{record_read, record_is}
use Rattle.spans.specs.Span.{Pair, unless_tombstone}
use Rattle.looks.specs.Looked.{lookup_of, answer_written}
use Rattle.looks.proofs.Numbers.{looked_up}
use Rattle.calls.specs.Calls.{place, Holding, LookupCall}
use Rattle.calls.proofs.Answers.{store_held, HoldsStore}
use Rattle.spanning.specs.Spans.{located_pairs, lookup_pairs}
use Rattle.spanning.specs.Calls.{LookupsOf, no_lookup, next_lookup, answer_pairs, answers_pairs}

-- the pairs of six numbers, by three of them
answer_places : (answer : List ℕ) (kind offset len : ℕ) → place answer 1 ≡ kind → place answer 3 ≡ offset → place answer 4 ≡ len
    → answer_pairs answer ≡ (when eqb kind 1 then record { offset = offset; len = len } ∷ [] else [])
unfolding answer_pairs
answer_places answer kind offset len a b c =
    ap (λ (k : ℕ). when eqb k 1 then record { offset = place answer 3; len = place answer 4 } ∷ [] else []) a
    ∙ ap₂ (λ (i j : ℕ). when eqb kind 1 then record { offset = i; len = j } ∷ [] else []) b c

-- the answer behind a lookup has the pairs of what is found
written_pairs : (r : Located) (before : List ℕ) → length before ≡ 6 → ((n : Refusal) → r ≡ Err n → ⊥) → answer_pairs (answer_written r before) ≡ located_pairs r
unfolding answer_written located_pairs answer_numbers when◌then◌else◌ unless_tombstone
written_pairs (Ok (Some l)) before six n =
    answer_places (sets before 0 (answer_numbers l)) (kind_number l.kind) l.offset l.len
    (get_d-sets_inside (answer_numbers l) before 0 1 0 (omega arith) (omega arith))
    (get_d-sets_inside (answer_numbers l) before 0 3 0 (omega arith) (omega arith))
    (get_d-sets_inside (answer_numbers l) before 0 4 0 (omega arith) (omega arith))
    ∙ kinds l.kind
  where
    kinds : (k : Kind) → (when eqb (kind_number k) 1 then record { offset = l.offset; len = l.len } ∷ [] else [])
        ≡ unless_tombstone k (record { offset = l.offset; len = l.len })
    kinds Put = refl
    kinds Tombstone = refl
written_pairs (Ok None) before six n =
    answer_places (sets before 0 none_numbers) 0 0 0 (get_d-sets_inside none_numbers before 0 1 0 (omega arith) (omega arith))
    (get_d-sets_inside none_numbers before 0 3 0 (omega arith) (omega arith)) (get_d-sets_inside none_numbers before 0 4 0 (omega arith) (omega arith))
written_pairs (Err k) before six n = absurd (n k refl)

answer_few : (answer : List ℕ) → length (answer_pairs answer) ≤ 1
unfolding answer_pairs
answer_few answer = if_case (λ (ps : List Pair). length ps ≤ 1) (eqb (place answer 1) 1) _ _ (λ _. omega arith) (λ _. omega arith)

pub answers_few : {h : Holding} {limit : ℕ} {keys : List (List ℕ)} (calls : LookupsOf h limit keys) → length (answers_pairs calls) ≤ length keys
unfolding answers_pairs
answers_few no_lookup = omega arith
answers_few (next_lookup c calls) =
    let a = answer_few c.after in
    let b = answers_few calls in
    omega (arith, length-append (answer_pairs c.after) (answers_pairs calls))

module _ (h : Holding) (o : Opened) (x : HoldsStore h o) (limit : ℕ) where
  -- the pairs of a lookup call are those of the lookup
  lookup_same : (key : List ℕ) (c : LookupCall h key limit) → answer_pairs c.after ≡ located_pairs (lookup (store_held h o) key limit)
  unfolding lookup store_held LooksExactly
  lookup_same key c =
      let looks = ap (λ (n : List ℕ). lookup_of h.bytes n key limit) x.numbers
      ∙ looked_up h.bytes (record_numbers o) key limit o (locate_of h.bytes o key limit) (record_is o) (sym (record_read o)) refl in
      ap answer_pairs (c.leaves ∙ ap (λ (r : Located). answer_written r c.before) looks)
      ∙ written_pairs (locate_of h.bytes o key limit) c.before c.six (lookup_exactly (store_held h o) x.store key limit).never

  pub lookups_same : (keys : List (List ℕ)) (calls : LookupsOf h limit keys) → answers_pairs calls ≡ lookup_pairs (store_held h o) limit keys
  unfolding answers_pairs lookup_pairs
  lookups_same keys no_lookup = refl
  lookups_same keys (next_lookup c calls) = ap₂ (λ (ps qs : List Pair). ps ++ qs) (lookup_same _ c) (lookups_same _ calls)
