-- What the entries return and leave.
-- Assumes nothing.
use mathlib.Core.Path.{◌≡◌, refl, sym, ap, ◌∙◌, subst}
use mathlib.Core.List.{List, [], ◌∷◌}
use mathlib.Core.Bool.{Bool, true, false}
use mathlib.Core.Logic.{◌⊎◌, inl, inr}
use Prim.Native.Nat.{ℕ, zero, suc, ◌+◌, ◌*◌, ◌/◌, ◌%◌, ◌<◌, ◌≤◌}
use native.Mathlib.Omega.{arith}
use lib.Dec.{eqb, leb, ltb}
use lib.ListN.{length, get_or}
use borrow.Author.Tests.{eqb-true, eqb-false, leb-true, leb-false, ltb-true, ltb-false, eq-eqb, ne_eqb, le-leb, lt-leb}
use Rattle.std.specs.Prelude.{Result, Ok, Err, Option, Some, None}
use Rattle.refusal.specs.declared.Refusal.{Refusal}
use Rattle.refusal.specs.declared.Refusal.TheVariants as refusal
use Rattle.num.specs.Choice.{when◌then◌else◌, either, one_of}
use Rattle.num.proofs.Choice.{false_true, both_true, true_both}
use Rattle.block.specs.Verify.{verify_of}
use Rattle.block.proofs.Sound.{sound_exactly}
use Rattle.opening.specs.Open.{block_bytes, pair_fits}
use Rattle.opening.proofs.Pairs.{drop_pair}
use Rattle.blocks.specs.declared.BlockRecord.{BlockRecord}
use Rattle.blocks.specs.Blocks.{record_for, pair_record, records_from, fill_of, filled_read, filled_count, filled_places, find_of, found_place}
use Rattle.blocks.specs.Internal.{verdict_of}
use Rattle.refusal.specs.Refusal.{refusal_number, answer_number}
use Rattle.refusal.proofs.Asked.{ok_refused}
use Rattle.block.specs.declared.BlockMeta.{BlockMeta}
use Rattle.blocks.proofs.Pairs.{verify_refused, pair_passes, asked_11 as fails-11, Asking, asking_start, asking_done, asking_failed, asking_more}
use Rattle.blocks.proofs.Writing.{fill_failed, fill_placed}
use Rattle.blocklist.specs.Promises.{FilledList, FillsPlaces, FillNumbers, FindsLowest, FindsNone}
use Rattle.blocklist.specs.Calls.{begin_of, PairLies, PairSound, PairsPass, FillResult, odd, asked_11, asked_12, asked_41, filled, FillCalls, FillLeft, FillLeaves, FindResult, found, none, FindCalls}
use Rattle.blocklist.proofs.Filling.{fills_places}
use Rattle.blocklist.proofs.Pairs.{fill_numbers}
use Rattle.blocklist.proofs.Seeking.{finds_lowest, finds_none}

-- ---- one pair

module _ («data» blocks : List ℕ) (i : ℕ) where
  -- its two numbers, and what is asked of them
  abbrev offset : ℕ
  offset = get_or blocks (2 * i) 0

  abbrev len : ℕ
  len = get_or blocks (2 * i + 1) 0

  abbrev fits : Bool
  fits = pair_fits (length «data») (begin_of blocks i) offset len

  abbrev verified : Result BlockMeta Refusal
  verified = verify_of (block_bytes «data» offset len)

  abbrev asked : Result BlockRecord Refusal
  asked = pair_record «data» (begin_of blocks i) offset len

  lies_of : fits ≡ true → PairLies «data» blocks i
  unfolding pair_fits
  lies_of e =
      let b = both_true (eqb offset (begin_of blocks i)) (leb (offset + len) (length «data»)) e in
      record { begins = eqb-true offset (begin_of blocks i) b.0; finishes = leb-true (offset + len) (length «data») b.1 }

  of_lies : PairLies «data» blocks i → fits ≡ true
  unfolding pair_fits
  of_lies p =
      true_both (eqb offset (begin_of blocks i)) (leb (offset + len) (length «data»)) (eq-eqb offset (begin_of blocks i) p.begins) (le-leb (offset + len) (length «data») p.finishes)

  lies_or_not : PairLies «data» blocks i ⊎ (PairLies «data» blocks i → ⊥)
  lies_or_not = go fits refl
    where
      go : (b : Bool) → fits ≡ b → PairLies «data» blocks i ⊎ (PairLies «data» blocks i → ⊥)
      go true e = inl (lies_of e)
      go false e = inr (λ p. false_true (sym e ∙ of_lies p))

  not_lies : (PairLies «data» blocks i → ⊥) → fits ≡ false
  not_lies f = go fits refl
    where
      go : (b : Bool) → fits ≡ b → fits ≡ false
      go true e = absurd (f (lies_of e))
      go false e = e

  sound_or_not : PairSound «data» blocks i ⊎ (PairSound «data» blocks i → ⊥)
  unfolding PairSound
  sound_or_not = go verified refl
    where
      go : (v : Result BlockMeta Refusal) → verified ≡ v → PairSound «data» blocks i ⊎ (PairSound «data» blocks i → ⊥)
      go (Ok m) e = inl (m, (sound_exactly (block_bytes «data» offset len) m).0 e)
      go (Err x) e = inr (λ p. ok_refused (sym ((sound_exactly (block_bytes «data» offset len) p.0).1 p.1) ∙ e))

  not_sound : (PairSound «data» blocks i → ⊥) → verified ≡ Err refusal.Block
  unfolding PairSound
  not_sound f = go verified refl
    where
      go : (v : Result BlockMeta Refusal) → verified ≡ v → verified ≡ Err refusal.Block
      go (Ok m) e = absurd (f (m, (sound_exactly (block_bytes «data» offset len) m).0 e))
      go (Err x) e = e ∙ ap (λ (r : Refusal). Err r) (verify_refused (block_bytes «data» offset len) x e)

  -- what is answered for the pair
  passes_both : PairLies «data» blocks i → PairSound «data» blocks i → Ok tt ≡ verdict_of asked
  unfolding PairSound verdict_of
  passes_both p s =
      sym (ap verdict_of (pair_passes «data» (begin_of blocks i) offset len s.0 p.begins p.finishes ((sound_exactly (block_bytes «data» offset len) s.0).1 s.1)))

  refused_11 : (PairLies «data» blocks i → ⊥) → asked ≡ Err refusal.BlockList
  refused_11 f = fails-11 «data» (begin_of blocks i) offset len (not_lies f)

  refused_12 : PairLies «data» blocks i → (PairSound «data» blocks i → ⊥) → asked ≡ Err refusal.Block
  unfolding pair_record record_for when◌then◌else◌
  refused_12 p f = rw (of_lies p, not_sound f)

-- ---- from the questions to the number

module _ («data» blocks : List ℕ) (n : ℕ) (paired : length blocks ≡ 2 * n) where
  -- behind pairs that pass, the next one is asked
  asking_at : (i : ℕ) → i ≤ n → PairsPass «data» blocks i → Asking «data» blocks (2 * i) (begin_of blocks i)
  unfolding begin_of PairsPass
  asking_at zero l p = asking_start «data» blocks
  asking_at (suc i) l p =
      let a = asking_at i (omega arith) (λ j k. p j (omega arith)) in
      let here = p i (omega arith) in
      let m : 2 * i + 2 ≡ 2 * suc i = omega arith in
      subst (λ (k : ℕ). Asking «data» blocks k (get_or blocks (2 * i) 0 + get_or blocks (2 * i + 1) 0)) m
      (asking_more «data» blocks (2 * i) (begin_of blocks i) a _ _ (drop_pair blocks (2 * i) (omega arith)) (2 * i + 2) tt refl (passes_both «data» blocks i here.0 here.1))

  -- its refusal is that of the list
  stops : (i : ℕ) (x : Refusal) → i < n → PairsPass «data» blocks i → asked «data» blocks i ≡ Err x → Err x ≡ verdict_of (records_from «data» blocks 0)
  unfolding verdict_of
  stops i x l p e = asking_failed «data» blocks (2 * i) (begin_of blocks i) (asking_at i (omega arith) p) _ _ (drop_pair blocks (2 * i) (omega arith)) x (sym (ap verdict_of e))

  -- if all pass, none is refused
  passes : PairsPass «data» blocks n → Ok tt ≡ verdict_of (records_from «data» blocks 0)
  passes p = asking_done «data» blocks (2 * n) (begin_of blocks n) (asking_at n (omega arith) p) (omega arith)

module _ («data» blocks : List ℕ) (places : ℕ) where
  abbrev number : ℕ
  number = answer_number (filled_read (fill_of «data» blocks places))

  stopped : (n i : ℕ) (x : Refusal) → length blocks ≡ 2 * n → i < n → PairsPass «data» blocks i → asked «data» blocks i ≡ Err x → number ≡ refusal_number x
  unfolding answer_number
  stopped n i x e l p q = sym (ap answer_number (fill_failed «data» blocks places (eq-eqb _ _ (omega arith)) x (stops «data» blocks n e i x l p q)))

  -- 41, or all is filled
  placed : (n : ℕ) → length blocks ≡ 2 * n → PairsPass «data» blocks n → (b : Bool) → leb n places ≡ b → number ≡ when b then 0 else 41
  unfolding answer_number when◌then◌else◌
  placed n e p b q =
      let m : length blocks / 2 ≡ n = omega arith in
      sym (ap answer_number (fill_placed «data» blocks places (eq-eqb _ _ (omega arith)) tt (passes «data» blocks n e p)))
      ∙ ap (λ (t : Bool). answer_number (when t then Ok (length blocks / 2) else Err refusal.BlocksRoom)) (ap (λ (k : ℕ). leb k places) m ∙ q)
      ∙ go b
    where
      go : (b : Bool) → answer_number (when b then Ok (length blocks / 2) else Err refusal.BlocksRoom) ≡ when b then 0 else 41
      go true = refl
      go false = refl

  answered : (k : ℕ) → FillResult «data» blocks places k → number ≡ k
  unfolding fill_of filled_read answer_number when◌then◌else◌
  answered k (odd e) = rw (ne_eqb (length blocks % 2) 0 (λ z. omega arith))
  answered k (asked_11 n i e l p f) = stopped n i refusal.BlockList e l p (refused_11 «data» blocks i f)
  answered k (asked_12 n i e l p q f) = stopped n i refusal.Block e l p (refused_12 «data» blocks i q f)
  answered k (asked_41 n e p l) = placed n e p false (lt-leb n places l)
  answered k (filled n e p l) = placed n e p true (le-leb n places l)

  -- ---- there is a result

  abbrev Answered : Type 0
  Answered = (k : ℕ) × FillResult «data» blocks places k

  module _ (n : ℕ) (paired : length blocks ≡ 2 * n) where
    one_more : (i : ℕ) → PairsPass «data» blocks i → PairLies «data» blocks i → PairSound «data» blocks i → PairsPass «data» blocks (suc i)
    unfolding PairsPass
    one_more i p q s j l = go (ltb j i) refl
      where
        go : (b : Bool) → ltb j i ≡ b → PairLies «data» blocks j × PairSound «data» blocks j
        go true e = p j (ltb-true j i e)
        go false e =
            let k = ltb-false j i e in
            let same : i ≡ j = omega arith in
            subst (λ (t : ℕ). PairLies «data» blocks t × PairSound «data» blocks t) same (q, s)

    -- the first pairs pass, or one of them does not
    first : (i : ℕ) → i ≤ n → PairsPass «data» blocks i ⊎ Answered
    unfolding PairsPass
    first zero l = inl (λ j k. absurd (omega arith))
    first (suc i) l = go (first i (omega arith))
      where
        sound : PairsPass «data» blocks i → PairLies «data» blocks i → PairSound «data» blocks i ⊎ (PairSound «data» blocks i → ⊥) → PairsPass «data» blocks (suc i) ⊎ Answered
        sound p q (inl s) = inl (one_more i p q s)
        sound p q (inr f) = inr (12, asked_12 n i paired (omega arith) p q f)

        lies : PairsPass «data» blocks i → PairLies «data» blocks i ⊎ (PairLies «data» blocks i → ⊥) → PairsPass «data» blocks (suc i) ⊎ Answered
        lies p (inl q) = sound p q (sound_or_not «data» blocks i)
        lies p (inr f) = inr (11, asked_11 n i paired (omega arith) p f)

        go : PairsPass «data» blocks i ⊎ Answered → PairsPass «data» blocks (suc i) ⊎ Answered
        go (inl p) = lies p (lies_or_not «data» blocks i)
        go (inr r) = inr r

    of-pairs : Answered
    of-pairs = go (first n (omega arith))
      where
        room : PairsPass «data» blocks n → (b : Bool) → leb n places ≡ b → Answered
        room p true e = (0, filled n paired p (leb-true n places e))
        room p false e = (41, asked_41 n paired p (leb-false n places e))

        go : PairsPass «data» blocks n ⊎ Answered → Answered
        go (inl p) = room p (leb n places) refl
        go (inr r) = r

  some : Answered
  some = go (eqb (length blocks % 2) 0) refl
    where
      go : (b : Bool) → eqb (length blocks % 2) 0 ≡ b → Answered
      go true e = let z = eqb-true (length blocks % 2) 0 e in of-pairs (length blocks / 2) (omega arith)
      go false e = let f = eqb-false (length blocks % 2) 0 e in (11, odd (omega arith))

pub fill_calls : FillCalls
unfolding FillCalls
fill_calls c n =
    let r = some c.backing c.blocks (length c.before) in (
      λ e. subst (FillResult c.backing c.blocks (length c.before)) (sym (answered c.backing c.blocks (length c.before) r.0 r.1) ∙ sym c.returns ∙ e) r.1,
      λ x. c.returns ∙ answered c.backing c.blocks (length c.before) n x,
    )

-- ---- what filling leaves

pub fill_left : FillLeaves
unfolding FillLeaves FillsPlaces FillNumbers answer_number filled_read filled_places one_of either
fill_left c = go (fill_of c.backing c.blocks (length c.before)) refl
  where
    go : (a : Result (List BlockRecord) Refusal) → fill_of c.backing c.blocks (length c.before) ≡ a → FillLeft c
    go (Ok rs) e =
        let written = fills_places c.backing c.blocks (length rs) c.before (ap filled_read e) in
        let count = ap (λ (a : Result (List BlockRecord) Refusal). filled_count (filled_read a) c.count) e in
        let counted : length rs ≡ c.count_after = omega (arith, count, c.leaves_count) in
        record {
          zero = λ z. subst (λ (k : ℕ). FilledList c.backing c.blocks k c.before c.after) counted
              (subst (FilledList c.backing c.blocks (length rs) c.before) (sym c.leaves) written);
          other = λ f. absurd (f (c.returns ∙ ap (λ (a : Result (List BlockRecord) Refusal). answer_number (filled_read a)) e));
        }
    go (Err k) e =
        let same : c.result ≡ refusal_number k = c.returns ∙ ap (λ (a : Result (List BlockRecord) Refusal). answer_number (filled_read a)) e in
        record {
          zero = λ z. false_true (subst (λ (m : ℕ). one_of (11 ∷ 12 ∷ 41 ∷ []) m ≡ true) (sym same ∙ z) (fill_numbers c.backing c.blocks (length c.before) k e));
          other = λ f. (
            c.leaves ∙ ap (λ (a : Result (List BlockRecord) Refusal). filled_places a c.before) e,
            c.leaves_count ∙ ap (λ (a : Result (List BlockRecord) Refusal). filled_count (filled_read a) c.count) e,
          );
        }

-- ---- finding

module _ (rs : List BlockRecord) (offset : ℕ) where
  find_result : (f : Option ℕ) → find_of rs offset ≡ f → FindResult rs offset (found_place (length rs) f)
  unfolding FindsLowest FindsNone
  find_result (Some i) e = found i ((finds_lowest rs offset i).0 e)
  find_result None e = none ((finds_none rs offset).0 e)

  find_answered : (n : ℕ) → FindResult rs offset n → found_place (length rs) (find_of rs offset) ≡ n
  unfolding FindsLowest FindsNone
  find_answered n (found i p) = ap (found_place (length rs)) ((finds_lowest rs offset i).1 p)
  find_answered n (none f) = ap (found_place (length rs)) ((finds_none rs offset).1 f)

pub find_calls : FindCalls
unfolding FindCalls
find_calls c n = (
  λ e. subst (FindResult c.records c.offset) (sym c.returns ∙ e) (find_result c.records c.offset (find_of c.records c.offset) refl),
  λ r. c.returns ∙ find_answered c.records c.offset n r,
)
