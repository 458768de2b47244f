-- A list that covers the data, pair by pair and by each pair's place in it.
-- Assumes nothing.
use mathlib.Core.Path.{◌≡◌, refl, sym, ap, ◌∙◌}
use mathlib.Core.List.{List, [], ◌∷◌}
use mathlib.Core.Logic.{◌↔◌}
use Prim.Native.Nat.{ℕ, zero, suc, ◌+◌, ◌*◌, ◌/◌, ◌%◌, ◌<◌, ◌≤◌}
use native.Mathlib.Omega.{arith}
use lib.ListN.{length, get_or, take, drop}
use Rattle.admission.specs.Blocks.{offset_at, length_at, pair_end, pair_start, block_at, Covers}
use Rattle.admission.proofs.Block.{WholeBlock}
use Rattle.admission.proofs.Entries.{stands_exactly}

-- ---- pair by pair

-- the pairs that are left, from an offset on
abbrev pub CoversFrom : List ℕ → List ℕ → ℕ → Type 0
CoversFrom «data» [] at = at ≡ length «data»
CoversFrom «data» (offset ∷ []) at = ⊥
CoversFrom «data» (offset ∷ len ∷ pairs) at =
    (offset ≡ at) × (offset + len ≤ length «data») × WholeBlock (take len (drop offset «data»)) × CoversFrom «data» pairs (offset + len)

-- ---- pair i of a list that has one pair more in front

module _ (x y : ℕ) (pairs : List ℕ) where
  pub offset_next : (i : ℕ) → offset_at (x ∷ y ∷ pairs) (suc i) ≡ offset_at pairs i
  unfolding offset_at
  offset_next i = let n : 2 * suc i ≡ suc (suc (2 * i)) = omega arith in ap (λ (k : ℕ). get_or (x ∷ y ∷ pairs) k 0) n

  length_next : (i : ℕ) → length_at (x ∷ y ∷ pairs) (suc i) ≡ length_at pairs i
  unfolding length_at
  length_next i = let n : 2 * suc i + 1 ≡ suc (suc (2 * i + 1)) = omega arith in ap (λ (k : ℕ). get_or (x ∷ y ∷ pairs) k 0) n

  end_next : (i : ℕ) → pair_end (x ∷ y ∷ pairs) (suc i) ≡ pair_end pairs i
  unfolding pair_end
  end_next i = λ j. offset_next i j + length_next i j

  end_first : pair_end (x ∷ y ∷ pairs) 0 ≡ x + y
  unfolding pair_end offset_at length_at
  end_first = refl

  pub block_next : («data» : List ℕ) (i : ℕ) → block_at «data» (x ∷ y ∷ pairs) (suc i) ≡ block_at «data» pairs i
  unfolding block_at
  block_next «data» i = λ j. take (length_next i j) (drop (offset_next i j) «data»)

  block_first : («data» : List ℕ) → block_at «data» (x ∷ y ∷ pairs) 0 ≡ take y (drop x «data»)
  unfolding block_at offset_at length_at
  block_first «data» = refl

-- ---- the pairs from an offset on, by their places

-- where pair i is to begin, the first at an offset
start_from : ℕ → List ℕ → ℕ → ℕ
start_from at pairs zero = at
start_from at pairs (suc i) = pair_end pairs i

start_next : (x y : ℕ) (pairs : List ℕ) (at i : ℕ) → start_from at (x ∷ y ∷ pairs) (suc i) ≡ start_from (x + y) pairs i
unfolding start_from
start_next x y pairs at zero = end_first x y pairs
start_next x y pairs at (suc i) = end_next x y pairs i

-- what questions 11 to 13 say of pair i
record Pair («data» pairs : List ℕ) (at i : ℕ) : Type 0 where
  begins : offset_at pairs i ≡ start_from at pairs i
  finishes : pair_end pairs i ≤ length «data»
  block : WholeBlock (block_at «data» pairs i)

record ByPlace («data» pairs : List ℕ) (at : ℕ) : Type 0 where
  even : length pairs % 2 ≡ 0
  each : (i : ℕ) → 2 * i + 1 < length pairs → Pair «data» pairs at i
  whole : start_from at pairs (length pairs / 2) ≡ length «data»

module _ («data» : List ℕ) (x y : ℕ) (pairs : List ℕ) (at : ℕ) where
  pair_first : (x ≡ at) → x + y ≤ length «data» → WholeBlock (take y (drop x «data»)) → Pair «data» (x ∷ y ∷ pairs) at 0
  unfolding offset_at start_from
  pair_first e h b =
      record {
        begins = e;
        finishes = rw end_first h;
        block = rw block_first b;
      }

  pair_next : (i : ℕ) → Pair «data» pairs (x + y) i → Pair «data» (x ∷ y ∷ pairs) at (suc i)
  pair_next i p =
      record {
        begins = offset_next x y pairs i ∙ p.begins ∙ sym (start_next x y pairs at i);
        finishes = rw end_next p.finishes;
        block = rw block_next p.block;
      }

  pair_back : (i : ℕ) → Pair «data» (x ∷ y ∷ pairs) at (suc i) → Pair «data» pairs (x + y) i
  pair_back i p =
      record {
        begins = sym (offset_next x y pairs i) ∙ p.begins ∙ start_next x y pairs at i;
        finishes = rw end_next at p.finishes;
        block = rw block_next at p.block;
      }

by_place : («data» pairs : List ℕ) (at : ℕ) → CoversFrom «data» pairs at → ByPlace «data» pairs at
unfolding start_from
by_place «data» [] at c = record { even = refl; each = λ i h. absurd (omega arith); whole = c }
by_place «data» (x ∷ []) at c = absurd c
by_place «data» (x ∷ y ∷ pairs) at c =
    let r = by_place «data» pairs (x + y) c.3 in
    let n : suc (suc (length pairs)) / 2 ≡ suc (length pairs / 2) = omega arith in
    let v = r.even in
    record {
      even = omega arith;
      each = each-pair r;
      whole = ap (start_from at (x ∷ y ∷ pairs)) n ∙ start_next x y pairs at (length pairs / 2) ∙ r.whole;
    }
  where
    each-pair : ByPlace «data» pairs (x + y) → (i : ℕ) → 2 * i + 1 < suc (suc (length pairs)) → Pair «data» (x ∷ y ∷ pairs) at i
    each-pair r zero h = pair_first «data» x y pairs at c.0 c.1 c.2
    each-pair r (suc i) h = pair_next «data» x y pairs at i (r.each i (omega arith))

pair_by_pair : («data» pairs : List ℕ) (at : ℕ) → ByPlace «data» pairs at → CoversFrom «data» pairs at
unfolding start_from offset_at
pair_by_pair «data» [] at p = p.whole
pair_by_pair «data» (x ∷ []) at p = let e = p.even in absurd (omega arith)
pair_by_pair «data» (x ∷ y ∷ pairs) at p =
    let n : suc (suc (length pairs)) / 2 ≡ suc (length pairs / 2) = omega arith in
    let v = p.even in
    let first = p.each 0 (omega arith) in
    let rest : ByPlace «data» pairs (x + y) =
    record {
      even = omega arith;
      each = λ i h. pair_back «data» x y pairs at i (p.each (suc i) (omega arith));
      whole = sym (start_next x y pairs at (length pairs / 2)) ∙ ap (start_from at (x ∷ y ∷ pairs)) (sym n) ∙ p.whole;
    } in
    (first.begins, rw end_first at first.finishes, rw block_first at first.block, pair_by_pair «data» pairs (x + y) rest)

start_zero : (blocks : List ℕ) (i : ℕ) → start_from 0 blocks i ≡ pair_start blocks i
unfolding start_from pair_start
start_zero blocks zero = refl
start_zero blocks (suc i) = refl

-- pair by pair from 0 on, or by each pair's place in the list
pub covers_exactly : («data» blocks : List ℕ) → CoversFrom «data» blocks 0 ↔ Covers «data» blocks
covers_exactly «data» blocks = (to, from)
  where
    to : CoversFrom «data» blocks 0 → Covers «data» blocks
    to c =
        let p = by_place «data» blocks 0 c in
        record {
          even = p.even;
          begins = λ i h. (p.each i h).begins ∙ start_zero blocks i;
          finishes = λ i h. (p.each i h).finishes;
          sound = λ i h.
              let b = (p.each i h).block in
              let m = b.sound in
              (m.0, m.1, (stands_exactly (block_at «data» blocks i) m.0 m.1).0 b.walked);
          whole = sym (start_zero blocks (length blocks / 2)) ∙ p.whole;
        }

    from : Covers «data» blocks → CoversFrom «data» blocks 0
    from c =
        pair_by_pair «data» blocks 0
        (record {
          even = c.even;
          each = λ i h.
              record {
                begins = c.begins i h ∙ sym (start_zero blocks i);
                finishes = c.finishes i h;
                block =
                    let b = c.sound i h in
                    record { sound = (b.0, b.1); walked = (stands_exactly (block_at «data» blocks i) b.0 b.1).1 b.2 };
              };
          whole = start_zero blocks (length blocks / 2) ∙ c.whole;
        })
