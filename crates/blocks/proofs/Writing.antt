-- What filling answers, and the places while the records are written.
-- Assumes nothing.
use mathlib.Core.Path.{◌≡◌, refl, sym, ap, ◌∙◌}
use mathlib.Core.List.{List, ◌++◌}
use mathlib.Core.Bool.{Bool, true, false}
use Prim.Native.Nat.{ℕ, ◌+◌, ◌/◌, ◌%◌, ◌<◌, ◌≤◌}
use native.Mathlib.Nat.{zero-add}
use native.Mathlib.Numerals.{add-one}
use native.Mathlib.Omega.{arith}
use lib.Dec.{eqb, leb}
use lib.ListN.{length, length-set, get_or, set, drop, drop_of_length-le}
use lib.Seq.{sets, sets-eq, drop-cons}
use borrow.Author.Tests.{leb-true, eqb-true}
use Rattle.std.specs.Prelude.{Result, Ok, Err}
use Rattle.refusal.specs.declared.Refusal.{Refusal}
use Rattle.refusal.specs.declared.Refusal.TheVariants as refusal
use Rattle.refusal.proofs.Asked.{refused_ok, ok_refused, same_ok, same_refusal, asked}
use Rattle.num.specs.Choice.{when◌then◌else◌}
use Rattle.blocks.specs.declared.BlockRecord.{BlockRecord}
use Rattle.blocks.specs.Blocks.{records_from, placed_for, fill_of, filled_read, filled_places, no_record}
use Rattle.blocks.specs.Internal.{verdict_of, record_at, Passed, written_of}
use Rattle.blocks.proofs.Pairs.{asked_ok, records_length, records_each}

-- ---- the answer

failed_answer : (places : ℕ) (a : Result (List BlockRecord) Refusal) (n : Refusal) → Err n ≡ verdict_of a → Err n ≡ filled_read (placed_for places a)
unfolding verdict_of placed_for filled_read
failed_answer places (Ok rs) n h = refused_ok h
failed_answer places (Err k) n h = ap (λ (x : Refusal). Err x) (same_refusal h)

placed_answer : (places : ℕ) (rs : List BlockRecord) (b : Bool) → leb (length rs) places ≡ b
    → (when b then Ok (length rs) else Err refusal.BlocksRoom) ≡ filled_read (placed_for places (Ok rs))
unfolding placed_for filled_read when◌then◌else◌
placed_answer places rs true e = rw e
placed_answer places rs false e = rw e

module _ («data» blocks : List ℕ) (places : ℕ) where
  module _ (even : eqb (length blocks % 2) 0 ≡ true) where
    fill-even : placed_for places (records_from «data» blocks 0) ≡ fill_of «data» blocks places
    unfolding fill_of when◌then◌else◌
    fill-even = rw even

    pub fill_failed : (n : Refusal) → Err n ≡ verdict_of (records_from «data» blocks 0) → Err n ≡ filled_read (fill_of «data» blocks places)
    fill_failed n e = failed_answer places (records_from «data» blocks 0) n e ∙ ap filled_read fill-even

    module _ (u : Unit {0}) (all : Ok u ≡ verdict_of (records_from «data» blocks 0)) where
      all-given : (rs : List BlockRecord) × (records_from «data» blocks 0 ≡ Ok rs) × (length rs ≡ length blocks / 2)
      all-given =
          let g = asked_ok (records_from «data» blocks 0) u all in
          let m = eqb-true _ _ even in
          let n = records_length «data» blocks 0 g.0 g.1 in
          (g.0, g.1, omega arith)

      -- then 41 decides
      pub fill_placed : (when leb (length blocks / 2) places then Ok (length blocks / 2) else Err refusal.BlocksRoom) ≡ filled_read (fill_of «data» blocks places)
      fill_placed =
          let g = all-given in
          ap (λ (k : ℕ). when leb k places then Ok k else Err refusal.BlocksRoom) (sym g.2)
          ∙ placed_answer places g.0 (leb (length g.0) places) refl
          ∙ ap filled_read (ap (placed_for places) (sym g.1) ∙ fill-even)

  -- what is given has a place for each record
  pub fill_given : (rs : List BlockRecord) → fill_of «data» blocks places ≡ Ok rs → (records_from «data» blocks 0 ≡ Ok rs) × (length rs ≤ places)
  unfolding fill_of placed_for
  fill_given rs e =
      let f = asked _ _ _ rs e in
      go (records_from «data» blocks 0) f.1
    where
      go : (a : Result (List BlockRecord) Refusal) → placed_for places a ≡ Ok rs → (a ≡ Ok rs) × (length rs ≤ places)
      go (Err n) x = refused_ok x
      go (Ok ts) x =
          let f = asked _ _ _ rs x in
          let n : length ts ≡ length rs = ap length (same_ok f.1) in
          (f.1, let l = leb-true (length ts) places f.0 in omega arith)

-- ---- the records that are written

pub written_count : (a : Result (List BlockRecord) Refusal) (n : ℕ) → Ok n ≡ filled_read a → n ≡ length (written_of a)
unfolding filled_read written_of
written_count (Ok rs) n e = same_ok e
written_count (Err k) n e = ok_refused e

-- a refusal leaves every place
pub refused_kept : (a : Result (List BlockRecord) Refusal) (n : Refusal) (before : List BlockRecord) → Err n ≡ filled_read a → before ≡ filled_places a before
unfolding filled_read filled_places
refused_kept (Ok rs) n before e = refused_ok e
refused_kept (Err k) n before e = refl

module _ («data» blocks : List ℕ) (places : ℕ) where
  pub written_fits : (a : Result (List BlockRecord) Refusal) → fill_of «data» blocks places ≡ a → length (written_of a) ≤ places
  unfolding written_of
  written_fits (Ok rs) e = (fill_given «data» blocks places rs e).1
  written_fits (Err n) e = omega arith

  pub written_each : (a : Result (List BlockRecord) Refusal) → fill_of «data» blocks places ≡ a → (i : ℕ) → i < length (written_of a)
      → Passed «data» blocks i × (record_at «data» blocks i ≡ get_or (written_of a) i no_record)
  unfolding written_of
  written_each (Ok rs) e i l = records_each «data» blocks 0 rs (fill_given «data» blocks places rs e).0 i l
  written_each (Err n) e i l = absurd (omega arith)

-- the places once all records are written
pub places_filled : (a : Result (List BlockRecord) Refusal) (before : List BlockRecord) → length (written_of a) ≤ length before → sets before 0 (written_of a) ≡ filled_places a before
unfolding written_of filled_places
places_filled (Ok rs) before h = sets-eq rs before 0 (rw (zero-add (length rs)) h) ∙ ap (λ (k : ℕ). rs ++ drop k before) (zero-add (length rs))
places_filled (Err n) before h = refl

-- behind the first i records, the others are still to be written
pub record Writing (ws before now : List BlockRecord) (i : ℕ) : Type 0 where
  pub within : i ≤ length ws
  pub kept : length now ≡ length before
  pub left : sets now i (drop i ws) ≡ sets before 0 ws

module _ (ws before : List BlockRecord) where
  pub writing_start : Writing ws before before 0
  writing_start = record { within = omega arith; kept = refl; left = refl }

  module _ (now : List BlockRecord) (i : ℕ) (p : Writing ws before now i) where
    pub writing_more : i < length ws → (r : BlockRecord) → r ≡ get_or ws i no_record → Writing ws before (set now i r) (i + 1)
    writing_more l r e =
        record {
          within = omega arith;
          kept = length-set now i r ∙ p.kept;
          left = rw (e, add-one) (sym (ap (sets now i) (drop-cons ws i no_record l)) ∙ p.left);
        }

    pub writing_done : length ws ≤ i → now ≡ sets before 0 ws
    writing_done h = sym (ap (sets now i) (drop_of_length-le ws {i = i} h)) ∙ p.left
