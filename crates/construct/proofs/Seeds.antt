-- One seed, and the eight.
-- Assumes nothing.
use mathlib.Core.Path.{◌≡◌, refl, sym, ap, ap₂, ◌∙◌}
use mathlib.Core.Bool.{Bool, true, false}
use mathlib.Core.List.{List, ◌++◌}
use mathlib.Core.Option.{Option, some, none}
use Prim.Native.Nat.{ℕ, zero, suc, ◌+◌, ◌*◌, ◌^◌, ◌<◌, ◌≤◌}
use native.Mathlib.Omega.{arith}
use lib.ListN.{length, take, drop, length-append, length-drop}
use lib.Seq.{take_at}
use Rattle.std.specs.Prelude.{Result, Ok, Err}
use Rattle.refusal.specs.declared.Refusal.{Refusal}
use Rattle.refusal.specs.declared.Refusal.TheVariants as refusal
use Rattle.num.specs.Wrapping.{mul_mod}
use Rattle.point.specs.Hash.{hash_step, mix_of}
use Rattle.std.proofs.Common.{replicate}
use Rattle.construction.specs.Construct.{Placement, bucket_count, Constructed, seed_of, hashes_of, order_of, empty_placement, place_buckets, place_singles, singles_for, placement_of, construct_from, construct_of}
use Rattle.construction.specs.Scratch.{placement_in}
use Rattle.construction.specs.Internal.{Room, free_count, singles_in, served_as, place_defs}
use Rattle.construction.proofs.Placing.{free_singles, differ_unasked}
use Rattle.construct.proofs.Hashing.{hashes_length}

-- ---- one seed

module _ (hs : List ℕ) (r : Bool) (t u : Placement) (e : served_as r t ≡ place_buckets hs u (order_of hs)) (f : u ≡ empty_placement hs) where
  placed_from : served_as r t ≡ place_buckets hs (empty_placement hs) (order_of hs)
  placed_from = e ∙ ap (λ (v : Placement). place_buckets hs v (order_of hs)) f

  answer : singles_for hs (served_as r t) ≡ placement_of hs
  answer = ap (singles_for hs) placed_from ∙ sym (differ_unasked hs)

  -- a bucket had no pilot
  pub seed_fails : (v : Placement) → r ≡ false → served_as false v ≡ placement_of hs
  unfolding served_as singles_for
  seed_fails v n = ap (λ (b : Bool). singles_for hs (served_as b t)) (sym n) ∙ answer

  -- each had one
  pub seed_free : r ≡ true → free_count t.slots ≡ singles_in hs (order_of hs)
  unfolding served_as
  seed_free n = free_singles hs t (sym (ap (λ (b : Bool). served_as b t) (sym n) ∙ placed_from))

  pub seed_serves : (v : Placement) → r ≡ true → v ≡ place_singles hs t (order_of hs) → served_as true v ≡ placement_of hs
  unfolding served_as singles_for
  seed_serves v n p = ap some p ∙ ap (λ (b : Bool). singles_for hs (served_as b t)) (sym n) ∙ answer

-- no pilot is placed, and no slot taken
pub cleared : (hs : List ℕ) {p q : List ℕ} {m n : ℕ} → p ≡ replicate m 0 → m ≡ bucket_count hs → q ≡ replicate n (length hs) → n ≡ length hs → record { pilots = p; slots = q } ≡ empty_placement hs
unfolding empty_placement
cleared hs ep em eq en = ap₂ (λ (a b : List ℕ). record { pilots = a; slots = b }) (ep ∙ ap (λ (k : ℕ). replicate k 0) em) (eq ∙ ap (λ (k : ℕ). replicate k (length hs)) en)

-- ---- the hashes of a seed

module _ (keys : List (List ℕ)) (h new : List ℕ) (count seed : ℕ) (size : length keys ≡ count) (stored : new ≡ hashes_of keys seed) (inside : count ≤ length h) where
  new_length : length new ≡ count
  new_length = ap length stored ∙ hashes_length keys seed ∙ size

  pub hashes_part : take count (new ++ drop count h) ≡ hashes_of keys seed
  hashes_part = take_at new (drop count h) count new_length ∙ stored

  pub hashes_first : take (length keys) (new ++ drop count h) ≡ hashes_of keys seed
  hashes_first = ap (λ (k : ℕ). take k (new ++ drop count h)) size ∙ hashes_part

  pub hashes_size : length (new ++ drop count h) ≡ length h
  hashes_size = omega (arith, length-append new (drop count h), length-drop count h, new_length)

  pub hashes_room : (s : List ℕ) → 1 ≤ count → count ≤ 2 ^ 20 → 6 * count + 8 ≤ length s → Room (take count (new ++ drop count h)) s
  unfolding place_defs
  hashes_room s p q r =
      let n = ap length (sym stored) ∙ new_length in
      rw hashes_part (record { some_key = omega arith; few = omega arith; room = omega arith })

  -- what one seed answers, said of the keys
  pub seed_answer : (r : Bool) (s : List ℕ) → served_as r (placement_in (length (take count (new ++ drop count h))) s) ≡ placement_of (take count (new ++ drop count h))
      → served_as r (placement_in count s) ≡ placement_of (hashes_of keys seed)
  seed_answer r s e =
      ap (λ (n : ℕ). served_as r (placement_in n s)) (sym (ap length (hashes_part ∙ sym stored) ∙ new_length)) ∙ e ∙ ap placement_of hashes_part

-- ---- the eight seeds

pub seed_is : (k r m : ℕ) → r ≡ mix_of m → m ≡ mul_mod hash_step k → r ≡ seed_of k
unfolding seed_of
seed_is k r m e f = e ∙ ap mix_of f

-- seed k and those after it answer what all answer
pub record Trying (keys : List (List ℕ)) (k : ℕ) : Type 0 where
  pub left : ℕ
  pub turns : k + left ≡ 9
  pub same : construct_from left keys k ≡ construct_of keys

pub trying_start : (keys : List (List ℕ)) → Trying keys 1
unfolding construct_of
trying_start keys = record { left = 8; turns = refl; same = refl }

module _ {keys : List (List ℕ)} {k : ℕ} (st : Trying keys k) where
  pub trying_none : 8 < k → Err refusal.NoSeed ≡ construct_of keys
  unfolding construct_from
  trying_none h = go st.left st.turns st.same
    where
      go : (left : ℕ) → k + left ≡ 9 → construct_from left keys k ≡ construct_of keys → Err refusal.NoSeed ≡ construct_of keys
      go zero t e = e
      go (suc left) t e = absurd (omega arith)

  module _ (h : k ≤ 8) where
    -- what seed k answers is the answer, or the next seed's turn
    turn_of : (left : ℕ) → Option Placement → Result Constructed Refusal
    turn_of left p = elim p [ some t ↦ Ok (record { seed = seed_of k; placement = t }) | none ↦ construct_from left keys (k + 1) ]

    turn : (left : ℕ) × (k + suc left ≡ 9) × ((p : Option Placement) → p ≡ placement_of (hashes_of keys (seed_of k)) → turn_of left p ≡ construct_of keys)
    unfolding construct_from turn_of
    turn = go st.left st.turns st.same
      where
        go : (left : ℕ) → k + left ≡ 9 → construct_from left keys k ≡ construct_of keys
            → (l : ℕ) × (k + suc l ≡ 9) × ((p : Option Placement) → p ≡ placement_of (hashes_of keys (seed_of k)) → turn_of l p ≡ construct_of keys)
        go zero t e = absurd (omega arith)
        go (suc left) t e = (left, t, λ p q. ap (turn_of left) q ∙ e)

    module _ (seed : ℕ) (this : seed ≡ seed_of k) (r : Bool) (t : Placement) (e : served_as r t ≡ placement_of (hashes_of keys seed)) where
      tried : (b : Bool) → r ≡ b → served_as b t ≡ placement_of (hashes_of keys (seed_of k))
      tried b p = ap (λ (c : Bool). served_as c t) (sym p) ∙ e ∙ ap (λ (s : ℕ). placement_of (hashes_of keys s)) this

      pub trying_found : r ≡ true → Ok (record { seed = seed; placement = t }) ≡ construct_of keys
      unfolding turn_of served_as
      trying_found p = ap (λ (s : ℕ). Ok (record { seed = s; placement = t })) this ∙ turn.2 (some t) (tried true p)

      pub trying_next : r ≡ false → Trying keys (k + 1)
      unfolding turn_of served_as
      trying_next p = let l = turn.1 in record { left = turn.0; turns = omega arith; same = turn.2 none (tried false p) }
