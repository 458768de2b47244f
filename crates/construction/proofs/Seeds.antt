-- Which seed is taken: the first of the eight without equal hashes in a bucket and without a bucket that has no pilot.
-- Assumes nothing.
use mathlib.Core.Path.{◌≡◌, refl, sym, ap, ◌∙◌}
use mathlib.Core.Bool.{Bool, true, false}
use mathlib.Core.List.{List, [], ◌∷◌}
use mathlib.Core.Option.{Option, some, none}
use Prim.Native.Nat.{ℕ, zero, suc, ◌+◌, ◌<◌, ◌≤◌}
use native.Mathlib.Omega.{arith}
use lib.Dec.{leb, eqb}
use lib.ListN.{get_or}
use borrow.Author.Tests.{leb-true, eqb-true, eqb-false}
use Rattle.std.specs.Prelude.{Result, Ok, Err}
use Rattle.refusal.specs.declared.Refusal.{Refusal}
use Rattle.refusal.specs.declared.Refusal.TheVariants as refusal
use Rattle.num.specs.Choice.{when◌then◌else◌}
use Rattle.num.proofs.Choice.{false_true}
use Rattle.num.proofs.Steps.{each_yes, first_or_later}
use Rattle.construction.specs.Construct.{Placement, Constructed, seed_of, hashes_of, bucket_count, members_of, size_of, order_of, empty_placement, different, serves, least_pilot, bucket_placed_for, place_bucket, place_buckets, singles_for, hashes_differ, placement_of, construct_from, construct_of}
use Rattle.construction.specs.Promises.{WithoutPilot, SeedFails, equal_hashes, without_pilot, Fails, FirstSeed, Seeds}
use Rattle.construction.proofs.Different.{different_two, distinct_same}
use Rattle.construction.proofs.Members.{bucket_below, is_member}
use Rattle.construction.proofs.Filling.{none_serves, least_pilot_lem}
use Rattle.construction.proofs.Placing.{member_hashes, Turn, large, small, turn_of, buckets_step, placed_differ, differ_unasked}
use Rattle.construction.proofs.Slots.{buckets_split}
use Rattle.construction.proofs.Placed.{parts}

module _ (hs : List ℕ) where
  -- ---- a seed that fails has a bucket without pilot

  bucket_stuck : (t : Placement) (x : ℕ) → place_bucket hs t x ≡ none → (2 ≤ size_of hs x) × ((p : ℕ) → p < 100000 → serves hs t.slots x p ≡ false)
  unfolding place_bucket bucket_placed_for when◌then◌else◌
  bucket_stuck t x e = go (leb 2 (size_of hs x)) refl e
    where
      pilot : (o : Option ℕ) → least_pilot hs t.slots x ≡ o → bucket_placed_for hs t x o ≡ none → (p : ℕ) → p < 100000 → serves hs t.slots x p ≡ false
      pilot (some p) q e = absurd (let z : ◌≡◌ {A = ℕ} 0 1 = cc in omega arith)
      pilot none q e = none_serves hs t.slots x q

      go : (b : Bool) → leb 2 (size_of hs x) ≡ b → (when b then bucket_placed_for hs t x (least_pilot hs t.slots x) else some t) ≡ none
          → (2 ≤ size_of hs x) × ((p : ℕ) → p < 100000 → serves hs t.slots x p ≡ false)
      go true q e = (leb-true 2 (size_of hs x) q, pilot (least_pilot hs t.slots x) refl e)
      go false q e = absurd (let z : ◌≡◌ {A = ℕ} 0 1 = cc in omega arith)

  buckets_stuck : (l : List ℕ) (t : Placement) → place_buckets hs t l ≡ none → WithoutPilot hs t l
  unfolding place_buckets
  buckets_stuck [] t e = absurd (let z : ◌≡◌ {A = ℕ} 0 1 = cc in omega arith)
  buckets_stuck (x ∷ l) t e = go (place_bucket hs t x) refl e (λ u. buckets_stuck l u)
    where
      go : (o : Option Placement) → place_bucket hs t x ≡ o → ◌≡◌ {A = Option Placement} (elim o [ some u ↦ place_buckets hs u l | none ↦ none ]) none
          → ((u : Placement) → place_buckets hs u l ≡ none → WithoutPilot hs u l) → WithoutPilot hs t (x ∷ l)
      go (some u) q e rest =
          let r = rest u e in
          record {
            before = x ∷ r.before;
            bucket = r.bucket;
            after = r.after;
            cut = ap (λ (k : List ℕ). x ∷ k) r.cut;
            then_left = r.then_left;
            placed = rw (q, place_buckets) r.placed;
            size = r.size;
            no_pilot = r.no_pilot;
          }
      go none q e rest =
          let s = bucket_stuck t x q in
          record { before = []; bucket = x; after = l; cut = refl; then_left = t; placed = refl; size = s.0; no_pilot = s.1 }

  none_fails : placement_of hs ≡ none → SeedFails hs
  unfolding singles_for
  none_fails e = go (place_buckets hs (empty_placement hs) (order_of hs)) refl (sym (differ_unasked hs) ∙ e)
    where
      go : (o : Option Placement) → place_buckets hs (empty_placement hs) (order_of hs) ≡ o → singles_for hs o ≡ none → SeedFails hs
      go (some u) q e = absurd (let z : ◌≡◌ {A = ℕ} 0 1 = cc in omega arith)
      go none q e = without_pilot (buckets_stuck (order_of hs) (empty_placement hs) q)

  -- ---- and a seed with one fails

  not_both : (t : Placement) → placement_of hs ≡ some t → SeedFails hs → ⊥
  unfolding hashes_differ
  not_both t e (equal_hashes f) =
      let x = f.bucket in
      let p = parts hs t e in
      let below : x < bucket_count hs = rw f.other_in at (bucket_below hs f.other f.keys) in
      let d = different_two (member_hashes hs x) (each_yes (λ x. different (member_hashes hs x)) (bucket_count hs) (placed_differ hs p.0 p.1) x below) in
      let m = rw f.one_in at (is_member hs f.one (omega (arith, f.different_keys, f.keys))) in
      let n = rw f.other_in at (is_member hs f.other f.keys) in
      let z = distinct_same (λ i. get_or hs i 0) (members_of hs x) d f.one f.other m n f.equal in
      omega (arith, f.different_keys)
  not_both t e (without_pilot f) =
      let p = parts hs t e in
      let s = buckets_split hs f.before (f.bucket ∷ f.after) (empty_placement hs) p.0 (rw f.cut at p.1) in
      let found = s.1 in
      let known = f.placed in
      let same : s.0 ≡ f.then_left = cc in
      let r = buckets_step hs s.0 p.0 f.bucket f.after s.2 in
      go s.0 r.0 same (turn_of hs s.0 r.0 f.bucket r.1)
    where
      go : (v w : Placement) → v ≡ f.then_left → Turn hs v f.bucket w → ⊥
      go v w same (large p l q z) =
          let g = least_pilot_lem hs v.slots f.bucket p q in
          false_true (sym (f.no_pilot p g.0) ∙ ap (λ (y : Placement). serves hs y.slots f.bucket p) (sym same) ∙ g.1.serves_it)
      go v w same (small l z) = omega (arith, f.size)

  fails_none : SeedFails hs → placement_of hs ≡ none
  fails_none f = go (placement_of hs) refl
    where
      go : (o : Option Placement) → placement_of hs ≡ o → o ≡ none
      go (some t) e = absurd (not_both t e f)
      go none e = refl

-- ---- the eight seeds

module _ (keys : List (List ℕ)) where
  -- the placement under seed k
  abbrev under : ℕ → Option Placement
  under k = placement_of (hashes_of keys (seed_of k))

  from_refused : (count k : ℕ) (n : Refusal) → construct_from count keys k ≡ Err n → (n ≡ refusal.NoSeed) × ((j : ℕ) → k ≤ j → j < k + count → Fails keys j)
  unfolding construct_from
  from_refused zero k n e = (cc, λ j h l. absurd (omega arith))
  from_refused (suc count) k n e = go (under k) refl e (from_refused count (k + 1) n)
    where
      go : (o : Option Placement) → under k ≡ o
          → ◌≡◌ {A = Result Constructed Refusal} (elim o [ some t ↦ Ok (record { seed = seed_of k; placement = t }) | none ↦ construct_from count keys (k + 1) ]) (Err n)
          → (construct_from count keys (k + 1) ≡ Err n → (n ≡ refusal.NoSeed) × ((j : ℕ) → k + 1 ≤ j → j < k + 1 + count → Fails keys j))
          → (n ≡ refusal.NoSeed) × ((j : ℕ) → k ≤ j → j < k + suc count → Fails keys j)
      go (some t) q e rest = absurd (let z : ◌≡◌ {A = ℕ} 0 1 = cc in omega arith)
      go none q e rest =
          let r = rest e in
          (r.0, λ j h l. first_or_later (Fails keys) k j h (none_fails (hashes_of keys (seed_of k)) q) (λ m. r.1 j (omega arith) (omega arith)))

  refused_from : (count k : ℕ) → ((j : ℕ) → k ≤ j → j < k + count → Fails keys j) → construct_from count keys k ≡ Err refusal.NoSeed
  unfolding construct_from
  refused_from zero k f = refl
  refused_from (suc count) k f =
      rw (fails_none (hashes_of keys (seed_of k)) (f k (omega arith) (omega arith)), construct_from)
      (refused_from count (k + 1) (λ j h l. f j (omega arith) (omega arith)))

  -- seed m is the first from k on that serves, with c
  record First (k m : ℕ) (c : Constructed) : Type 0 where
    from : k ≤ m
    seed : c.seed ≡ seed_of m
    placement : under m ≡ some c.placement
    first : (j : ℕ) → k ≤ j → j < m → Fails keys j

  from_given : (count k : ℕ) (c : Constructed) → construct_from count keys k ≡ Ok c → (m : ℕ) × (m < k + count) × First k m c
  unfolding construct_from
  from_given zero k c e = absurd (let z : ◌≡◌ {A = ℕ} 0 1 = cc in omega arith)
  from_given (suc count) k c e = go (under k) refl e (from_given count (k + 1) c)
    where
      go : (o : Option Placement) → under k ≡ o
          → ◌≡◌ {A = Result Constructed Refusal} (elim o [ some t ↦ Ok (record { seed = seed_of k; placement = t }) | none ↦ construct_from count keys (k + 1) ]) (Ok c)
          → (construct_from count keys (k + 1) ≡ Ok c → (m : ℕ) × (m < k + 1 + count) × First (k + 1) m c)
          → (m : ℕ) × (m < k + suc count) × First k m c
      go (some t) q e rest =
          let z : record { seed = seed_of k; placement = t } ≡ c = cc in
          let seed = ap (λ (d : Constructed). d.seed) (sym z) in
          let placement = q ∙ ap (λ (d : Constructed). some d.placement) z in
          (k, omega arith, record { from = omega arith; seed = seed; placement = placement; first = λ j h l. absurd (omega arith) })
      go none q e rest =
          let r = rest e in
          let h = r.1 in
          let f = r.2 in
          let from : k ≤ r.0 = omega (arith, f.from) in
          let first : (j : ℕ) → k ≤ j → j < r.0 → Fails keys j =
          λ j h l. first_or_later (Fails keys) k j h (none_fails (hashes_of keys (seed_of k)) q) (λ m. f.first j (omega arith) l) in
          (r.0, omega arith, record { from = from; seed = f.seed; placement = f.placement; first = first })

  given_from : (count k m : ℕ) (c : Constructed) → m < k + count → First k m c → construct_from count keys k ≡ Ok c
  unfolding construct_from
  given_from zero k m c h f = absurd (omega (arith, f.from))
  given_from (suc count) k m c h f = go (eqb k m) refl (given_from count (k + 1) m c)
    where
      go : (b : Bool) → eqb k m ≡ b → (m < k + 1 + count → First (k + 1) m c → construct_from count keys (k + 1) ≡ Ok c)
          → construct_from (suc count) keys k ≡ Ok c
      go true q rest =
          let z = eqb-true k m q in
          let p : under k ≡ some c.placement = rw z f.placement in
          let w : seed_of k ≡ c.seed = ap seed_of z ∙ sym f.seed in
          rw (p, construct_from) (λ i. Ok (record { seed = w i; placement = c.placement }))
      go false q rest =
          let d = eqb-false k m q in
          let l = f.from in
          rw (fails_none (hashes_of keys (seed_of k)) (f.first k (omega arith) (omega arith)), construct_from)
          (rest (omega arith) (record { from = omega arith; seed = f.seed; placement = f.placement; first = λ j a b. f.first j (omega arith) b }))

  -- a first seed that serves is one of eight
  given_first : (c : Constructed) → (m : ℕ) × (m < 1 + 8) × First 1 m c → (k : ℕ) × FirstSeed keys k c
  given_first c r =
      let m = r.0 in
      let f = r.2 in
      let h = r.1 in (
        m,
        record {
          from = f.from;
          to = omega arith;
          seed = f.seed;
          placement = f.placement;
          serving = not_both (hashes_of keys (seed_of m)) c.placement f.placement;
          first = f.first;
        },
      )

  pub seeds : Seeds keys
  unfolding construct_of
  seeds =
      record {
        refuses = (λ e k a b. (from_refused 8 1 refusal.NoSeed e).1 k a (omega arith), λ f. refused_from 8 1 (λ j a b. f j a (omega arith)));
        never = λ n e. (from_refused 8 1 n e).0;
        answers = λ c e. given_first c (from_given 8 1 c e);
        serves = λ k c f.
            given_from 8 1 k c (omega (arith, f.to)) (record { from = f.from; seed = f.seed; placement = f.placement; first = f.first });
      }
