-- The walk of a block reaches the end of its entries exactly if its records stand one behind the other up to there.
-- Assumes nothing.
use mathlib.Core.Path.{◌≡◌, refl, subst, subst⁻¹}
use mathlib.Core.List.{List, []}
use mathlib.Core.Logic.{◌↔◌}
use Prim.Native.Nat.{ℕ, ◌+◌, ◌≤◌}
use native.Mathlib.Omega.{arith}
use Rattle.num.specs.Number.{le_at}
use Rattle.block.specs.declared.BlockMeta.{BlockMeta}
use Rattle.block.specs.declared.EntryHeader.{EntryHeader}
use Rattle.block.specs.Verify.{entries_end_in, SoundBlock}
use Rattle.block.specs.Walk.{Entry, met, step_of, at_end, no_entries, entry_then, walk_at, records_of}
use Rattle.block.proofs.Sound.{sound_end}
use Rattle.block.proofs.Step.{step_moved}
use Rattle.block.proofs.Walk.{walk_ind}
use Rattle.admission.specs.Blocks.{EntryStands, EntriesStand}

module _ (s : List ℕ) (end : ℕ) where
  -- the numbers of an entry that was met
  numbers_of : ℕ → Entry → EntryHeader
  numbers_of pos e =
      record { kind = e.kind; seq = e.seq; shared = le_at s (pos + 1) 4; non_shared = le_at s (pos + 5) 4; value_len = e.size }

  -- an entry that is met stands
  met_stands : (pos : ℕ) (prev : List ℕ) (e : Entry) (next : ℕ) → step_of s end pos prev ≡ met e next → EntryStands s end pos prev (numbers_of pos e) e
  unfolding numbers_of
  met_stands pos prev e next t =
      let m = step_moved s end pos prev e next t in
      let b = m.behind in
      let p = m.place in
      let v = m.value_inside in
      record {
        sound = record {
          header_inside = omega arith;
          kind = m.kind;
          seq = m.seq;
          shared = refl;
          non_shared = refl;
          value_len = m.size;
          tombstone_empty = m.tombstone_empty;
          inside = omega arith;
        };
        shared = m.shared;
        key = m.key;
        seq = refl;
        kind = refl;
        place = p;
        size = refl;
      }

  walk_stands : (pos : ℕ) (prev : List ℕ) → pos ≤ end → (walk_at s end pos prev).ended ≡ at_end → EntriesStand s end pos prev (walk_at s end pos prev).entries
  unfolding no_entries entry_then EntriesStand
  walk_stands =
      walk_ind s end (λ pos prev w. pos ≤ end → w.ended ≡ at_end → EntriesStand s end pos prev w.entries)
      (λ pos prev h l e. omega arith)
      (λ pos prev h q l e. absurd (let z : ◌≡◌ {A = ℕ} 0 1 = cc in omega arith))
      (λ pos prev x next t rest l e.
      let m = step_moved s end pos prev x next t in (
        numbers_of pos x,
        met_stands pos prev x next t,
        subst (λ (n : ℕ). EntriesStand s end n x.key (walk_at s end next x.key).entries) m.next_place (rest m.within e),
      ))

  stands_walk : (pos : ℕ) (prev : List ℕ) → EntriesStand s end pos prev (walk_at s end pos prev).entries → (walk_at s end pos prev).ended ≡ at_end
  unfolding no_entries entry_then EntriesStand
  stands_walk =
      walk_ind s end (λ pos prev w. EntriesStand s end pos prev w.entries → w.ended ≡ at_end)
      (λ pos prev h e. refl)
      (λ pos prev h q e. absurd (omega arith))
      (λ pos prev x next t rest e.
      let m = step_moved s end pos prev x next t in
      rest (subst⁻¹ (λ (n : ℕ). EntriesStand s end n x.key (walk_at s end next x.key).entries) m.next_place e.2))

-- question 13 in plain terms
pub stands_exactly : (raw : List ℕ) (m : BlockMeta) → SoundBlock raw m
    → ((records_of raw).ended ≡ at_end) ↔ EntriesStand raw m.entries_end 0 [] (records_of raw).entries
unfolding records_of
stands_exactly raw m b =
    let e = sound_end raw m b in (
      λ h. subst (λ (end : ℕ). EntriesStand raw end 0 [] (records_of raw).entries) e (walk_stands raw (entries_end_in raw) 0 [] (omega arith) h),
      λ h. stands_walk raw (entries_end_in raw) 0 [] (subst⁻¹ (λ (end : ℕ). EntriesStand raw end 0 [] (records_of raw).entries) e h),
    )
