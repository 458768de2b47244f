-- A block passes exactly if it is whole and its records pass.
-- Assumes nothing.
use mathlib.Core.Path.{◌≡◌, refl, ap, ◌∙◌}
use mathlib.Core.List.{List}
use Prim.Native.Nat.{ℕ}
use Rattle.std.specs.Prelude.{Result, Ok, Err}
use Rattle.refusal.specs.declared.Refusal.{Refusal}
use Rattle.refusal.proofs.Asked.{refused_ok}
use Rattle.block.specs.declared.BlockMeta.{BlockMeta}
use Rattle.block.specs.Verify.{verify_of, SoundBlock}
use Rattle.block.specs.Walk.{WalkEnd, at_end, stopped, records_of}
use Rattle.block.proofs.Sound.{sound_exactly}
use Rattle.validate.specs.Walk.{Inputs, Progress, placed, entries_from, walk_ended, records_asked}
use Rattle.opening.specs.Open.{block_bytes, block_for, block_asked}
use Rattle.admission.specs.Blocks.{in_data, block_entries}

-- a block is sound, and the walk of its records reaches the end of its entries
pub record WholeBlock (raw : List ℕ) : Type 0 where
  pub sound : (m : BlockMeta) × SoundBlock raw m
  pub walked : (records_of raw).ended ≡ at_end

ended_given : (how : WalkEnd) (a : Result Progress Refusal) (q : Progress) → walk_ended how a ≡ Ok q → (how ≡ at_end) × (a ≡ Ok q)
unfolding walk_ended
ended_given how (Err n) q e = refused_ok e
ended_given at_end (Ok o) q e = (refl, e)
ended_given stopped (Ok o) q e = refused_ok e

module _ (t : Inputs) (offset len : ℕ) (p q : Progress) where
  raw : List ℕ
  raw = block_bytes t.backing offset len

  passed_for : (v : Result BlockMeta Refusal) → verify_of raw ≡ v → block_for t offset p raw v ≡ Ok q
      → WholeBlock raw × (entries_from t p (block_entries t.backing offset len) ≡ Ok q)
  unfolding block_for records_asked block_entries in_data placed raw
  passed_for (Err n) e h = refused_ok h
  passed_for (Ok m) e h =
      let w = ended_given (records_of raw).ended _ q h in
      (record { sound = (m, (sound_exactly raw m).0 e); walked = w.0 }, w.1)

  -- a block that passes is whole, and its records pass
  pub block_passed : block_asked t offset len p ≡ Ok q
      → WholeBlock (block_bytes t.backing offset len) × (entries_from t p (block_entries t.backing offset len) ≡ Ok q)
  unfolding block_asked raw
  block_passed h = passed_for (verify_of raw) refl h

  -- and conversely
  pub passed_block : WholeBlock (block_bytes t.backing offset len) → entries_from t p (block_entries t.backing offset len) ≡ Ok q
      → block_asked t offset len p ≡ Ok q
  unfolding block_asked block_for records_asked walk_ended block_entries in_data placed raw
  passed_block w e =
      let m = w.sound.0 in
      ap (block_for t offset p raw) ((sound_exactly raw m).1 w.sound.1)
      ∙ ap (λ (how : WalkEnd). walk_ended how (entries_from t p (block_entries t.backing offset len))) w.walked
      ∙ ap (walk_ended at_end) e
