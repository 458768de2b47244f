-- Places are asked for last, and the offset of a pair finds that pair.
-- Assumes nothing.
use mathlib.Core.Path.{◌≡◌, refl, sym, ap, ◌∙◌, subst}
use mathlib.Core.List.{List, [], ◌∷◌, ◌++◌}
use mathlib.Core.Bool.{Bool, true, false}
use Prim.Native.Nat.{ℕ, zero, suc, ◌+◌, ◌*◌, ◌-◌, ◌%◌, ◌<◌, ◌≤◌}
use native.Mathlib.Omega.{arith}
use lib.Dec.{eqb, leb}
use lib.ListN.{length, get_or, take, drop, length-append, length-drop}
use borrow.Author.Tests.{leb-false}
use Rattle.std.specs.Prelude.{Result, Ok, Err}
use Rattle.refusal.specs.declared.Refusal.{Refusal}
use Rattle.refusal.specs.declared.Refusal.TheVariants as refusal
use Rattle.num.specs.Choice.{when◌then◌else◌, either, one_of}
use Rattle.num.proofs.Choice.{false_true}
use Rattle.num.proofs.Lists.{part_length, part_at}
use Rattle.blocks.specs.declared.BlockRecord.{BlockRecord}
use Rattle.blocks.specs.Blocks.{records_from, placed_for, fill_of, filled_places, no_record}
use Rattle.refusal.specs.Refusal.{refusal_number, answer_number}
use Rattle.refusal.proofs.Asked.{ok_refused, same_refusal}
use Rattle.blocks.proofs.Pairs.{refuses_one, records_refuse}
use Rattle.blocklist.specs.Promises.{at_place, PairRecords, Lowest, FillsExactly, FindsLowest, PlacesAskedLast, PairsAskedFirst, FillNumbers, FindsPairs}
use Rattle.blocklist.proofs.Filling.{records_plain, fills_exactly, wrote_given, places_first}
use Rattle.blocklist.proofs.Seeking.{finds_lowest}

-- ---- 41

pub places_asked_last : PlacesAskedLast
unfolding PlacesAskedLast fill_of placed_for answer_number one_of either when◌then◌else◌
places_asked_last «data» blocks places e = go (eqb (length blocks % 2) 0) (records_from «data» blocks 0) refl e
  where
    room : (rs : List BlockRecord) → records_from «data» blocks 0 ≡ Ok rs → (b : Bool) → leb (length rs) places ≡ b → (when b then Ok rs else Err refusal.BlocksRoom) ≡ Err refusal.BlocksRoom
        → (rs : List BlockRecord) × PairRecords «data» blocks 0 rs × (places < length rs)
    room rs a true l x = ok_refused x
    room rs a false l x = (rs, records_plain «data» blocks 0 rs a, leb-false (length rs) places l)

    go : (b : Bool) (a : Result (List BlockRecord) Refusal) → records_from «data» blocks 0 ≡ a → (when b then placed_for places a else Err refusal.BlockList) ≡ Err refusal.BlocksRoom
        → (rs : List BlockRecord) × PairRecords «data» blocks 0 rs × (places < length rs)
    go true (Ok rs) a x = room rs a (leb (length rs) places) refl x
    go true (Err n) a x = false_true (refuses_one (records_from «data» blocks 0) (records_refuse «data» blocks 0) refusal.BlocksRoom (a ∙ x))
    go false a p x = absurd (let k = ap answer_number x in omega arith)

pub pairs_asked_first : PairsAskedFirst
unfolding PairsAskedFirst fill_of placed_for when◌then◌else◌
pairs_asked_first «data» blocks places n e f others = go (eqb (length blocks % 2) 0) (records_from «data» blocks 0) e
  where
    room : (rs : List BlockRecord) (b : Bool) → (when b then Ok rs else Err refusal.BlocksRoom) ≡ Err n → placed_for others (Ok rs) ≡ Err n
    room rs true x = ok_refused x
    room rs false x = absurd (f (sym (same_refusal x)))

    go : (b : Bool) (a : Result (List BlockRecord) Refusal) → (when b then placed_for places a else Err refusal.BlockList) ≡ Err n → (when b then placed_for others a else Err refusal.BlockList) ≡ Err n
    go true (Ok rs) x = room rs (leb (length rs) places) x
    go true (Err k) x = x
    go false a x = x

-- a number that is one of two is one of three
pairs_number : (a b c : Bool) → either a (either b false) ≡ true → either a (either b (either c false)) ≡ true
unfolding either
pairs_number true b c q = refl
pairs_number false true c q = refl
pairs_number false false c q = false_true q

pub fill_numbers : FillNumbers
unfolding FillNumbers fill_of placed_for answer_number one_of either when◌then◌else◌
fill_numbers «data» blocks places n e = go (eqb (length blocks % 2) 0) (records_from «data» blocks 0) refl e
  where
    -- a number of 41 is in the list, and so is one of the two that pairs are refused with
    last : refusal.BlocksRoom ≡ n → one_of (11 ∷ 12 ∷ 41 ∷ []) (refusal_number n) ≡ true
    last q = subst (λ (m : Refusal). one_of (11 ∷ 12 ∷ 41 ∷ []) (refusal_number m) ≡ true) q refl

    more : one_of (11 ∷ 12 ∷ []) (refusal_number n) ≡ true → one_of (11 ∷ 12 ∷ 41 ∷ []) (refusal_number n) ≡ true
    more q = pairs_number (eqb (refusal_number n) 11) (eqb (refusal_number n) 12) (eqb (refusal_number n) 41) q

    room : (rs : List BlockRecord) (b : Bool) → (when b then Ok rs else Err refusal.BlocksRoom) ≡ Err n → one_of (11 ∷ 12 ∷ 41 ∷ []) (refusal_number n) ≡ true
    room rs true x = ok_refused x
    room rs false x = last (same_refusal x)

    go : (b : Bool) (a : Result (List BlockRecord) Refusal) → records_from «data» blocks 0 ≡ a → (when b then placed_for places a else Err refusal.BlockList) ≡ Err n → one_of (11 ∷ 12 ∷ 41 ∷ []) (refusal_number n) ≡ true
    go true (Ok rs) a x = room rs (leb (length rs) places) x
    go true (Err k) a x = more (refuses_one (records_from «data» blocks 0) (records_refuse «data» blocks 0) n (a ∙ x))
    go false a p x = subst (λ (m : Refusal). one_of (11 ∷ 12 ∷ 41 ∷ []) (refusal_number m) ≡ true) (same_refusal x) refl

-- ---- a pair's offset finds the pair

module _ («data» blocks : List ℕ) (rs : List BlockRecord) (p : PairRecords «data» blocks 0 rs) where
  -- a sound block is at least 34 bytes long
  long : (i : ℕ) → i < length rs → 34 ≤ (at_place rs i).len
  long i l =
      let r = p.each i l in
      let n = part_length «data» (at_place rs i).offset (at_place rs i).len r.inside in
      let m = r.sound.long in
      omega arith

  -- so each block's offset is below those of the blocks behind it
  rising : (i k : ℕ) → i + suc k < length rs → (at_place rs i).offset < (at_place rs (i + suc k)).offset
  rising i zero h =
      let n : i + 1 ≡ i + suc zero = omega arith in
      let f = p.follow i (omega arith) in
      let l = long i (omega arith) in
      subst (λ (j : ℕ). (at_place rs i).offset < (at_place rs j).offset) n (omega arith)
  rising i (suc k) h =
      let n : i + suc k + 1 ≡ i + suc (suc k) = omega arith in
      let f = p.follow (i + suc k) (omega arith) in
      let l = rising i k (omega arith) in
      subst (λ (j : ℕ). (at_place rs i).offset < (at_place rs j).offset) n (omega arith)

  module _ (after : List BlockRecord) (same : (i : ℕ) → i < length rs → at_place after i ≡ at_place rs i)
      (from count i : ℕ) (h : from + count ≤ length after) (l : i < count) (w : from + i < length rs) where
    offset-in : (j : ℕ) → j ≤ i → (at_place (take count (drop from after)) j).offset ≡ (at_place rs (from + j)).offset
    offset-in j k = ap (λ (r : BlockRecord). r.offset) (part_at after from count j no_record (omega arith) ∙ same (from + j) (omega arith))

    lowest-in : Lowest (take count (drop from after)) (get_or blocks (2 * (from + i)) 0) i
    lowest-in =
        record {
          within = let n = part_length after from count h in omega arith;
          there = offset-in i (omega arith) ∙ (p.each (from + i) w).offset_is;
          lower = lower;
        }
      where
        lower : (j : ℕ) → j < i → (at_place (take count (drop from after)) j).offset ≡ get_or blocks (2 * (from + i)) 0 → ⊥
        lower j k x =
            let m : from + j + suc (i - suc j) ≡ from + i = omega arith in
            let up = subst (λ (t : ℕ). (at_place rs (from + j)).offset < (at_place rs t).offset) m (rising (from + j) (i - suc j) (omega arith)) in
            let here = offset-in j (omega arith) in
            let there = (p.each (from + i) w).offset_is in
            omega arith

pub finds_pairs : FindsPairs
unfolding FindsPairs FindsLowest FillsExactly filled_places
finds_pairs «data» blocks n before e from count i h l w =
    let g = wrote_given (fill_of «data» blocks (length before)) n e in
    let p = (fills_exactly «data» blocks (length before) g.0).0 g.1 in
    let k = g.2 in
    let r = p.1 in
    let m : from + count ≤ length (g.0 ++ drop (length g.0) before) = simp (length-append, length-drop) (omega arith) in
    let low = lowest-in «data» blocks g.0 p.0 (g.0 ++ drop (length g.0) before) (places_first g.0 before) from count i m l (omega arith) in
    rw g.1 ((finds_lowest (take count (drop from (g.0 ++ drop (length g.0) before))) (get_or blocks (2 * (from + i)) 0) i).1 low)
