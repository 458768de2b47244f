-- The pairs of the block list one after another: questions 11 and 12.
-- Assumes nothing.
use mathlib.Core.Path.{◌≡◌, refl, sym, ap, ◌∙◌}
use mathlib.Core.List.{List, [], ◌∷◌}
use mathlib.Core.Bool.{Bool, true, false}
use Prim.Native.Nat.{ℕ, zero, suc, ◌+◌, ◌*◌, ◌/◌, ◌-◌, ◌%◌, ◌<◌, ◌≤◌}
use native.Mathlib.Omega.{arith}
use lib.Dec.{leb}
use lib.ListN.{length, get_or, take, drop, drop_of_length-le}
use lib.Seq.{drop-cons}
use borrow.Author.Tests.{leb-true, leb-false, le-leb, lt-leb, eq-eqb}
use Rattle.std.specs.Prelude.{Result, Ok, Err}
use Rattle.refusal.specs.declared.Refusal.{Refusal}
use Rattle.refusal.specs.declared.Refusal.TheVariants as refusal
use Rattle.num.specs.Choice.{both}
use Rattle.num.proofs.Choice.{both_true}
use Rattle.num.proofs.Lists.{part_length, part_at}
use Rattle.std.specs.Simd.{first_chunks}
use Rattle.std.proofs.lemmas.List.{drop-drop}
use Rattle.block.specs.declared.BlockMeta.{BlockMeta}
use Rattle.refusal.proofs.Asked.{refused_ok}
use Rattle.block.specs.Verify.{verify_of}
use Rattle.block.specs.Walk.{WalkEnd, at_end, stopped, walk_at, records_of}
use Rattle.block.proofs.Walk.{records_sound}
use Rattle.block.proofs.Sound.{sound_exactly}
use Rattle.arena.specs.Internal.{Readable, Inside}
use Rattle.header.specs.declared.Opened.{Opened}
use Rattle.validate.specs.declared.Carried.{Carried}
use Rattle.validate.specs.Walk.{Inputs, Progress, walk_ended, records_asked}
use Rattle.opening.specs.Open.{PairsEnd, block_bytes, block_for, block_asked, pair_fits, pairs_from}
use Rattle.validate.specs.Internal.{inputs_with, progress_in, Held, Ready}
use Rattle.validate.proofs.Entries.{entries_inside}

-- ---- one pair

-- question 11 by a difference
pub fits_behind : (n at offset len : ℕ) → at ≤ n → offset ≡ at → leb len (n - at) ≡ pair_fits n at offset len
unfolding pair_fits both
fits_behind n at offset len h e = rw (eq-eqb offset at e) (go (leb len (n - at)) refl)
  where
    go : (b : Bool) → leb len (n - at) ≡ b → b ≡ leb (offset + len) n
    go true p = let l = leb-true len (n - at) p in sym (le-leb (offset + len) n (omega arith))
    go false p = let l = leb-false len (n - at) p in sym (lt-leb (offset + len) n (omega arith))

-- a pair that fits ends within the data
pub fits_inside : (n at offset len : ℕ) → pair_fits n at offset len ≡ true → offset + len ≤ n
unfolding pair_fits
fits_inside n at offset len e = leb-true (offset + len) n (both_true _ _ e).1

-- the part of the data from an offset to its end
pub part_cut : (l : List ℕ) (offset len : ℕ) → take (offset + len - offset) (drop offset l) ≡ take len (drop offset l)
part_cut l offset len = let n : offset + len - offset ≡ len = omega arith in ap (λ (k : ℕ). take k (drop offset l)) n

pub part_inside : (l : List ℕ) (offset len : ℕ) → offset + len ≤ length l → offset + length (take (offset + len - offset) (drop offset l)) ≤ length l
part_inside l offset len h = omega (arith, ap length (part_cut l offset len), part_length l offset len h)

module _ (t : Inputs) (offset len : ℕ) (p : Progress) (raw : List ℕ) (z : raw ≡ take len (drop offset t.backing)) where
  verified : (v : Result BlockMeta Refusal) → verify_of raw ≡ v → block_for t offset p raw v ≡ block_asked t offset len p
  unfolding block_asked
  verified v e = ap (block_for t offset p raw) (sym e) ∙ ap (λ (l : List ℕ). block_for t offset p l (verify_of l)) z

  -- question 12 fails
  pub pair_unsound : (n : Refusal) → verify_of raw ≡ Err n → Err n ≡ block_asked t offset len p
  unfolding block_for
  pair_unsound n e = verified (Err n) e

  -- a sound block's records are asked
  pub pair_sound : (m : BlockMeta) → verify_of raw ≡ Ok m → records_asked t offset p (walk_at raw m.entries_end 0 []) ≡ block_asked t offset len p
  unfolding block_for
  pair_sound m e = ap (records_asked t offset p) (sym (records_sound raw m e)) ∙ verified (Ok m) e

-- the entries of a sound block end in it
pub sound_inside : (raw : List ℕ) (m : BlockMeta) → verify_of raw ≡ Ok m → m.entries_end ≤ length raw
sound_inside raw m e = omega (arith, ((sound_exactly raw m).0 e).fitting)

-- a walk whose records are passed reached the end of the entries
ended_given : (how : WalkEnd) (a : Result Progress Refusal) (q : Progress) → walk_ended how a ≡ Ok q → a ≡ Ok q
unfolding walk_ended
ended_given how (Err n) q e = refused_ok e
ended_given at_end (Ok p) q e = e
ended_given stopped (Ok p) q e = refused_ok e

-- the cursor behind a pair lies in the arena
pub pair_inside : (t : Inputs) (offset len : ℕ) (p q : Progress) → Readable t.section t.opened → Inside t.section t.opened t.end p.cursor
    → block_asked t offset len p ≡ Ok q → Inside t.section t.opened t.end q.cursor
unfolding block_asked block_for records_asked
pair_inside t offset len p q r i e = go (verify_of (block_bytes t.backing offset len)) e
  where
    go : (v : Result BlockMeta Refusal) → block_for t offset p (block_bytes t.backing offset len) v ≡ Ok q → Inside t.section t.opened t.end q.cursor
    go (Err n) x = refused_ok x
    go (Ok m) x = entries_inside t r _ p q i (ended_given (records_of (block_bytes t.backing offset len)).ended _ q x)

-- what the walk counts on holds behind a pair
pub ready_passed : (s «data» : List ℕ) (o : Opened) (end half offset len : ℕ) (scratch left : List ℕ) (w after : Carried) → Ready s o end half scratch w → length left ≡ length scratch
    → block_asked (inputs_with s «data» o end half) offset len (progress_in half scratch w) ≡ Ok (progress_in half left after) → Held half after → Ready s o end half left after
unfolding progress_in
ready_passed s «data» o end half offset len scratch left w after ready kept e h =
    record {
      readable = ready.readable;
      inside = pair_inside (inputs_with s «data» o end half) offset len (progress_in half scratch w) (progress_in half left after) ready.readable ready.inside e;
      halves = omega (arith, kept, ready.halves);
      held = h;
    }

-- ---- the pairs from a place on

pub drop_pair : (blocks : List ℕ) (i : ℕ) → i + 1 < length blocks → drop i blocks ≡ get_or blocks i 0 ∷ get_or blocks (i + 1) 0 ∷ drop (i + 2) blocks
drop_pair blocks i h =
    let n : suc i ≡ i + 1 = omega arith in
    let m : suc (i + 1) ≡ i + 2 = omega arith in
    drop-cons blocks i 0 (omega arith)
    ∙ ap (λ (k : ℕ). get_or blocks i 0 ∷ drop k blocks) n
    ∙ ap (λ (l : List ℕ). get_or blocks i 0 ∷ l) (drop-cons blocks (i + 1) 0 h)
    ∙ ap (λ (k : ℕ). get_or blocks i 0 ∷ get_or blocks (i + 1) 0 ∷ drop k blocks) m

-- the numbers of a list, two by two: pair k has numbers 2 k and 2 k + 1
chunk_at : (n k : ℕ) (xs d : List ℕ) → k < n → get_or (first_chunks 2 n xs) k d ≡ take 2 (drop (2 * k) xs)
chunk_at zero k xs d h = absurd (omega arith)
chunk_at (suc n) zero xs d h = refl
chunk_at (suc n) (suc k) xs d h =
    let e : 2 + 2 * k ≡ 2 * suc k = omega arith in
    chunk_at n k (drop 2 xs) d (omega arith) ∙ ap (take 2) (drop-drop (2 * k) 2 xs ∙ ap (λ (j : ℕ). drop j xs) e)

pair_first : (blocks d : List ℕ) (k : ℕ) → k < length blocks / 2 → get_or (get_or (first_chunks 2 (length blocks / 2) blocks) k d) 0 0 ≡ get_or blocks (2 * k) 0
pair_first blocks d k h =
    let e : 2 * k + 0 ≡ 2 * k = omega arith in
    ap (λ (l : List ℕ). get_or l 0 0) (chunk_at (length blocks / 2) k blocks d h) ∙ part_at blocks (2 * k) 2 0 0 (omega arith) ∙ ap (λ (j : ℕ). get_or blocks j 0) e

pair_second : (blocks d : List ℕ) (k : ℕ) → k < length blocks / 2 → get_or (get_or (first_chunks 2 (length blocks / 2) blocks) k d) 1 0 ≡ get_or blocks (2 * k + 1) 0
pair_second blocks d k h =
    ap (λ (l : List ℕ). get_or l 1 0) (chunk_at (length blocks / 2) k blocks d h) ∙ part_at blocks (2 * k) 2 1 0 (omega arith)

pub pair_drop : (blocks : List ℕ) (pairs : List (List ℕ)) (k : ℕ) → pairs ≡ first_chunks 2 (length blocks / 2) blocks → k < length blocks / 2
    → drop (2 * k) blocks ≡ get_or (get_or pairs k []) 0 0 ∷ get_or (get_or pairs k []) 1 0 ∷ drop (2 * k + 2) blocks
pair_drop blocks pairs k e h = rw (e, pair_first blocks [] k h, pair_second blocks [] k h) (drop_pair blocks (2 * k) (omega arith))

-- from a pair on the walk answers this
pub record Pairing (t : Inputs) (blocks : List ℕ) (answer : Result PairsEnd Refusal) (i at : ℕ) (st : Progress) : Type 0 where
  pub even : i % 2 ≡ 0
  pub within : at ≤ length t.backing
  pub same : pairs_from t (drop i blocks) at st ≡ answer

module _ (t : Inputs) (blocks : List ℕ) where
  pub pairing_start : (st : Progress) → Pairing t blocks (pairs_from t blocks 0 st) 0 0 st
  pairing_start st = record { even = refl; within = omega arith; same = refl }

  -- what follows question 11, and what follows the block
  after_block : List ℕ → ℕ → Result Progress Refusal → Result PairsEnd Refusal
  after_block pairs at a = elim a [ Ok after ↦ pairs_from t pairs at after | Err n ↦ Err n ]

  tested : List ℕ → ℕ → Result Progress Refusal → Bool → Result PairsEnd Refusal
  tested pairs at a b = elim b [ true ↦ after_block pairs at a | false ↦ Err refusal.BlockList ]

  module _ (answer : Result PairsEnd Refusal) (i at : ℕ) (st : Progress) (p : Pairing t blocks answer i at st) where
    pub pairing_done : length blocks ≤ i → Ok (record { at = at; progress = st }) ≡ answer
    unfolding pairs_from
    pairing_done h = sym (ap (λ (l : List ℕ). pairs_from t l at st) (drop_of_length-le blocks {i = i} h)) ∙ p.same

    module _ (offset len : ℕ) (h : drop i blocks ≡ offset ∷ len ∷ drop (i + 2) blocks) where
      from-pair : tested (drop (i + 2) blocks) (offset + len) (block_asked t offset len st)
          (pair_fits (length t.backing) at offset len) ≡ answer
      unfolding pairs_from tested after_block
      from-pair = sym (ap (λ (l : List ℕ). pairs_from t l at st) h) ∙ p.same

      -- question 11 fails
      pub pairing_11 : pair_fits (length t.backing) at offset len ≡ false → Err refusal.BlockList ≡ answer
      unfolding tested after_block
      pairing_11 e =
          sym (ap (tested (drop (i + 2) blocks) (offset + len) (block_asked t offset len st)) e) ∙ from-pair

      module _ (e : pair_fits (length t.backing) at offset len ≡ true) where
        from_block : after_block (drop (i + 2) blocks) (offset + len) (block_asked t offset len st) ≡ answer
        unfolding tested
        from_block =
            sym (ap (tested (drop (i + 2) blocks) (offset + len) (block_asked t offset len st)) e) ∙ from-pair

        -- a block is refused
        pub pairing_refused : (n : Refusal) → block_asked t offset len st ≡ Err n → Err n ≡ answer
        unfolding after_block
        pairing_refused n q = sym (ap (after_block (drop (i + 2) blocks) (offset + len)) q) ∙ from_block

        -- a block is passed
        pub pairing_more : (next : ℕ) (after : Progress) → i + 2 ≡ next → block_asked t offset len st ≡ Ok after
            → Pairing t blocks answer next (offset + len) after
        unfolding after_block
        pairing_more next after n q =
            record {
              even = omega (arith, p.even);
              within = fits_inside (length t.backing) at offset len e;
              same = ap (λ (j : ℕ). pairs_from t (drop j blocks) (offset + len) after) (sym n) ∙ sym (ap (after_block (drop (i + 2) blocks) (offset + len)) q) ∙ from_block;
            }
