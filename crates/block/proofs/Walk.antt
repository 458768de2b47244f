-- The walk of a block's records: one step unfolds, and no fuel is seen.
-- Assumes nothing.
use mathlib.Core.Path.{◌≡◌, refl, sym, ap, ◌∙◌, subst}
use mathlib.Core.List.Memᴰ
use mathlib.Core.List.{List, [], Memᴰ}
use mathlib.Core.Logic.{⊎_elim}
use mathlib.Core.Bool.{Bool, true, false}
use Prim.Native.Nat.{ℕ, zero, suc, ◌+◌, ◌-◌, ◌<◌, ◌≤◌}
use native.Mathlib.Omega.{arith}
use lib.Dec.{leb}
use borrow.Author.Tests.{leb-true, leb-false, le-leb, lt-leb}
use Rattle.num.specs.Number.{Bytes}
use Rattle.sstable.specs.declared.Kind.TheVariants.{Tombstone}
use Rattle.block.specs.declared.BlockMeta.{BlockMeta}
use Rattle.std.specs.Prelude.{Ok}
use Rattle.block.specs.Verify.{verify_of}
use Rattle.block.specs.Walk.{Entry, Step, met, stop, step_of, Walk, at_end, stopped, no_entries, entry_then, walk_from, walk_at, records_of}
use Rattle.block.proofs.Sound.{sound_exactly, sound_end}
use Rattle.block.proofs.Step.{step_moved, key_bytes}

module _ (s : List ℕ) (end : ℕ) where
  -- what follows a step, and what follows the test for the end
  after : ℕ → Step → Walk
  after f t = elim t [ met e next ↦ entry_then e (walk_from f s end next e.key) | stop ↦ no_entries stopped ]

  tested : ℕ → Step → Bool → Walk
  tested f t b = elim b [ true ↦ no_entries at_end | false ↦ after f t ]

  from_done : (f pos : ℕ) (prev : List ℕ) → end ≤ pos → walk_from (suc f) s end pos prev ≡ no_entries at_end
  unfolding walk_from tested after
  from_done f pos prev h = ap (tested f (step_of s end pos prev)) (le-leb end pos h)

  from_stop : (f pos : ℕ) (prev : List ℕ) → pos < end → step_of s end pos prev ≡ stop → walk_from (suc f) s end pos prev ≡ no_entries stopped
  unfolding walk_from tested after
  from_stop f pos prev h e = ap (tested f (step_of s end pos prev)) (lt-leb end pos h) ∙ ap (after f) e

  from_more : (f pos : ℕ) (prev : List ℕ) (e : Entry) (next : ℕ) → pos < end → step_of s end pos prev ≡ met e next
      → walk_from (suc f) s end pos prev ≡ entry_then e (walk_from f s end next e.key)
  unfolding walk_from tested after
  from_more f pos prev e next h t = ap (tested f (step_of s end pos prev)) (lt-leb end pos h) ∙ ap (after f) t

  fuel_step : (f g pos : ℕ) (prev : List ℕ)
      → ((next : ℕ) (key : List ℕ) → end - next < f → end - next < g → walk_from f s end next key ≡ walk_from g s end next key)
      → end - pos < suc f → end - pos < suc g → walk_from (suc f) s end pos prev ≡ walk_from (suc g) s end pos prev
  fuel_step f g pos prev same hf hg = go (leb end pos) refl
    where
      step : (t : Step) → step_of s end pos prev ≡ t → pos < end → walk_from (suc f) s end pos prev ≡ walk_from (suc g) s end pos prev
      step (met e next) q h =
          let m = step_moved s end pos prev e next q in
          from_more f pos prev e next h q ∙ ap (entry_then e) (same next e.key (omega arith) (omega arith)) ∙ sym (from_more g pos prev e next h q)
      step stop q h = from_stop f pos prev h q ∙ sym (from_stop g pos prev h q)

      go : (b : Bool) → leb end pos ≡ b → walk_from (suc f) s end pos prev ≡ walk_from (suc g) s end pos prev
      go true e = from_done f pos prev (leb-true _ _ e) ∙ sym (from_done g pos prev (leb-true _ _ e))
      go false e = step (step_of s end pos prev) refl (leb-false _ _ e)

  fuels : (f g pos : ℕ) (prev : List ℕ) → end - pos < f → end - pos < g → walk_from f s end pos prev ≡ walk_from g s end pos prev
  fuels zero g pos prev hf hg = absurd (omega arith)
  fuels (suc f) zero pos prev hf hg = absurd (omega arith)
  fuels (suc f) (suc g) pos prev hf hg = fuel_step f g pos prev (λ next key. fuels f g next key) hf hg

  -- enough fuel is enough: any above the bytes left gives the same walk
  pub walk_fuel : (f pos : ℕ) (prev : List ℕ) → end - pos < f → walk_from f s end pos prev ≡ walk_at s end pos prev
  unfolding walk_at
  walk_fuel f pos prev h = fuels f (suc (end - pos)) pos prev h (omega arith)

  -- at the end of the entries the walk ends
  pub walk_done : (pos : ℕ) (prev : List ℕ) → end ≤ pos → walk_at s end pos prev ≡ no_entries at_end
  unfolding walk_at
  walk_done pos prev h = from_done (end - pos) pos prev h

  -- a step that stops ends the walk
  pub walk_stop : (pos : ℕ) (prev : List ℕ) → pos < end → step_of s end pos prev ≡ stop → walk_at s end pos prev ≡ no_entries stopped
  unfolding walk_at
  walk_stop pos prev h e = from_stop (end - pos) pos prev h e

  -- a step that meets an entry is followed by the walk from behind it
  pub walk_more : (pos : ℕ) (prev : List ℕ) (e : Entry) (next : ℕ) → step_of s end pos prev ≡ met e next
      → walk_at s end pos prev ≡ entry_then e (walk_at s end next e.key)
  unfolding walk_at
  walk_more pos prev e next t =
      let m = step_moved s end pos prev e next t in
      from_more (end - pos) pos prev e next (omega arith) t ∙ ap (entry_then e) (fuels (end - pos) (suc (end - next)) next e.key (omega arith) (omega arith))

  module _ (P : ℕ → List ℕ → Walk → Type 0)
      (done : (pos : ℕ) (prev : List ℕ) → end ≤ pos → P pos prev (no_entries at_end))
      (halt : (pos : ℕ) (prev : List ℕ) → pos < end → step_of s end pos prev ≡ stop → P pos prev (no_entries stopped))
      (more : (pos : ℕ) (prev : List ℕ) (e : Entry) (next : ℕ) → step_of s end pos prev ≡ met e next
      → P next e.key (walk_at s end next e.key) → P pos prev (entry_then e (walk_at s end next e.key)))
    where
      ind-step : (f pos : ℕ) (prev : List ℕ) → ((next : ℕ) (key : List ℕ) → end - next < f → P next key (walk_at s end next key)) → end - pos < suc f → P pos prev (walk_at s end pos prev)
      ind-step f pos prev rest h = go (leb end pos) refl
        where
          step : (t : Step) → step_of s end pos prev ≡ t → pos < end → P pos prev (walk_at s end pos prev)
          step (met e next) q l =
              let m = step_moved s end pos prev e next q in
              subst (P pos prev) (sym (walk_more pos prev e next q)) (more pos prev e next q (rest next e.key (omega arith)))
          step stop q l = subst (P pos prev) (sym (walk_stop pos prev l q)) (halt pos prev l q)

          go : (b : Bool) → leb end pos ≡ b → P pos prev (walk_at s end pos prev)
          go true e = subst (P pos prev) (sym (walk_done pos prev (leb-true _ _ e))) (done pos prev (leb-true _ _ e))
          go false e = step (step_of s end pos prev) refl (leb-false _ _ e)

      ind : (f pos : ℕ) (prev : List ℕ) → end - pos < f → P pos prev (walk_at s end pos prev)
      ind zero pos prev h = absurd (omega arith)
      ind (suc f) pos prev h = ind-step f pos prev (λ next key. ind f next key) h

      -- what holds at the end, at a stop, and before a step if it holds behind it, holds of every walk
      pub walk_ind : (pos : ℕ) (prev : List ℕ) → P pos prev (walk_at s end pos prev)
      walk_ind pos prev = ind (suc (end - pos)) pos prev (omega arith)

-- an entry met behind a place: its header lies behind it, its value before the end of the entries
pub record EntryInside (pos end : ℕ) (e : Entry) : Type 0 where
  pub behind : pos + 21 ≤ e.place
  pub value_inside : e.place + e.size ≤ end
  pub tombstone_empty : e.kind ≡ Tombstone → e.size ≡ 0

-- each entry of a walk lies inside
pub walk_inside : (s : List ℕ) (end pos : ℕ) (prev : List ℕ) (e : Entry) → Memᴰ e (walk_at s end pos prev).entries → EntryInside pos end e
unfolding no_entries entry_then
walk_inside s end =
    walk_ind s end (λ pos prev w. (e : Entry) → Memᴰ e w.entries → EntryInside pos end e)
    (λ pos prev h e i. absurd (Memᴰ.not-nil i))
    (λ pos prev h q e i. absurd (Memᴰ.not-nil i))
    (λ pos prev x next t rest e i.
    let m = step_moved s end pos prev x next t in
    ⊎_elim
    (λ same. subst (EntryInside pos end) (sym same) (record { behind = m.behind; value_inside = m.value_inside; tombstone_empty = m.tombstone_empty }))
    (λ later. let r = rest e later in record { behind = omega arith; value_inside = r.value_inside; tombstone_empty = r.tombstone_empty })
    (Memᴰ.cases_cons i))

-- each key of a walk of bytes is of bytes
pub walk_bytes : (s : List ℕ) (end : ℕ) → Bytes s → (pos : ℕ) (prev : List ℕ) → Bytes prev
    → (e : Entry) → Memᴰ e (walk_at s end pos prev).entries → Bytes e.key
unfolding no_entries entry_then
walk_bytes s end b =
    walk_ind s end (λ pos prev w. Bytes prev → (e : Entry) → Memᴰ e w.entries → Bytes e.key)
    (λ pos prev h p e i. absurd (Memᴰ.not-nil i))
    (λ pos prev h q p e i. absurd (Memᴰ.not-nil i))
    (λ pos prev x next t rest p e i.
    let k = key_bytes s end pos prev x next b p t in
    ⊎_elim (λ same. subst (λ (y : Entry). Bytes y.key) (sym same) k) (λ later. rest k e later) (Memᴰ.cases_cons i))

-- the records of a sound block are those of the walk from its start to the end of its entries
pub records_sound : (raw : List ℕ) (m : BlockMeta) → verify_of raw ≡ Ok m → records_of raw ≡ walk_at raw m.entries_end 0 []
unfolding records_of
records_sound raw m e = ap (λ (end : ℕ). walk_at raw end 0 []) (sound_end raw m ((sound_exactly raw m).0 e))
