-- The walk over a block's records as the code's loop goes, with fuel: what a step says, what the walk says from a place on, and that it
-- is the walk of the block with the questions asked of its records.
-- Assumes nothing.
use mathlib.Core.Path.{◌≡◌, refl, sym, ap, ◌∙◌, subst}
use mathlib.Core.List.{List, [], map}
use mathlib.Core.Bool.{Bool, true, false}
use Prim.Native.Nat.{ℕ, zero, suc, ◌+◌, ◌-◌, ◌<◌, ◌≤◌}
use native.Mathlib.Omega.{arith}
use lib.Dec.{leb}
use lib.ListN.{length}
use borrow.Author.Tests.{le-leb, lt-leb}
use Rattle.std.specs.Prelude.{Result, Ok, Err}
use Rattle.refusal.specs.declared.Refusal.{Refusal}
use Rattle.refusal.specs.declared.Refusal.TheVariants as refusal
use Rattle.refusal.proofs.Asked.{refused_ok, same_ok}
use Rattle.block.specs.Walk.{Entry, Step, met, stop, step_of, Walk, at_end, stopped, no_entries, entry_then, walk_at}
use Rattle.block.proofs.Step.{step_moved}
use Rattle.block.proofs.Walk.{walk_ind}
use Rattle.arena.specs.Internal.{Readable, Inside}
use Rattle.header.specs.declared.Opened.{Opened}
use Rattle.validate.specs.declared.Carried.{Carried}
use Rattle.validate.specs.Walk.{Inputs, Progress, placed, entry_asked, entries_from, walk_ended, records_asked}
use Rattle.validate.specs.Internal.{State, progress_of, asked_from, record_asked, step_asked, asked_at, inputs_with, state_in, Held, Ready}
use Rattle.validate.proofs.Entries.{follow, entries_cons, entry_inside}

-- the records of a block from a place on, in at most as many steps as the first number says
unfoldable pub block_from : ℕ → Inputs → ℕ → List ℕ → ℕ → ℕ → State → Result State Refusal
block_from zero t offset raw entriesEnd pos st = Err refusal.Entry
block_from (suc f) t offset raw entriesEnd pos st =
    elim (leb entriesEnd pos) [
      | true ↦ Ok st
      | false ↦ elim (asked_at t offset raw entriesEnd pos st) [ Ok m ↦ block_from f t offset raw entriesEnd m.0 m.1 | Err n ↦ Err n ]
    ]

-- at a block's start no key is before
unfoldable pub at_start : State → State
at_start st = record { key = []; previous = st.previous; cursor = st.cursor }

-- a record passes a byte at least, so one step for each byte and one for the end are enough
unfoldable pub block_of : Inputs → ℕ → List ℕ → ℕ → State → Result State Refusal
block_of t offset raw entriesEnd st = block_from (suc entriesEnd) t offset raw entriesEnd 0 (at_start st)

-- ---- one record

-- a step that goes on moves forward, in the entries, and the cursor stays in the arena
pub record Moved (t : Inputs) (entriesEnd pos next : ℕ) (st after : State) : Type 0 where
  pub forward : pos < next
  pub within : next ≤ entriesEnd
  pub inside : Readable t.section t.opened → Inside t.section t.opened t.end st.cursor → Inside t.section t.opened t.end after.cursor

-- a record that is followed by more passed
asked_given : (n m : ℕ) (key : List ℕ) (after : State) (a : Result Progress Refusal) → asked_from n key a ≡ Ok (m, after)
    → (n ≡ m) × ((q : Progress) × (a ≡ Ok q) × (q.cursor ≡ after.cursor))
unfolding asked_from
asked_given n m key after (Err k) e = refused_ok e
asked_given n m key after (Ok q) e =
    let z = same_ok e in
    (ap (λ (x : ℕ × State). x.0) z, (q, refl, ap (λ (x : ℕ × State). x.1.cursor) z))

module _ (t : Inputs) (offset : ℕ) (raw : List ℕ) (entriesEnd pos : ℕ) (st : State) where
  moved_for : (p : Step) (next : ℕ) (after : State) → step_of raw entriesEnd pos st.key ≡ p → step_asked t offset st p ≡ Ok (next, after)
      → Moved t entriesEnd pos next st after
  unfolding step_asked record_asked progress_of
  moved_for stop next after q a = refused_ok a
  moved_for (met e n) next after q a =
      let v = asked_given n next (placed offset e).key after (entry_asked t (progress_of st) (placed offset e)) a in
      let m = step_moved raw entriesEnd pos st.key e n q in
      record {
        forward = omega (arith, v.0, m.forward);
        within = omega (arith, v.0, m.within);
        inside = λ r i.
            subst (Inside t.section t.opened t.end) v.1.2
            (entry_inside t r (progress_of st) v.1.0 (placed offset e) i v.1.1);
      }

  pub moved : (next : ℕ) (after : State) → asked_at t offset raw entriesEnd pos st ≡ Ok (next, after) → Moved t entriesEnd pos next st after
  unfolding asked_at
  moved next after q = moved_for (step_of raw entriesEnd pos st.key) next after refl q

-- ---- the records from a place on

module _ (t : Inputs) (offset : ℕ) (raw : List ℕ) (entriesEnd : ℕ) where
  -- what follows a step, and what follows the test for the end
  after_step : ℕ → Result (ℕ × State) Refusal → Result State Refusal
  after_step f a = elim a [ Ok m ↦ block_from f t offset raw entriesEnd m.0 m.1 | Err n ↦ Err n ]

  tested : ℕ → Result (ℕ × State) Refusal → State → Bool → Result State Refusal
  tested f a st b = elim b [ true ↦ Ok st | false ↦ after_step f a ]

  -- at the end of the entries the walk ends
  pub block_done : (f pos : ℕ) (st : State) → 0 < f → entriesEnd ≤ pos → block_from f t offset raw entriesEnd pos st ≡ Ok st
  unfolding block_from tested after_step
  block_done zero pos st p h = absurd (omega arith)
  block_done (suc f) pos st p h = ap (tested f (asked_at t offset raw entriesEnd pos st) st) (le-leb entriesEnd pos h)

  -- a record that is refused ends it
  pub block_refused : (f pos : ℕ) (n : Refusal) (st : State) → 0 < f → pos < entriesEnd → asked_at t offset raw entriesEnd pos st ≡ Err n
      → block_from f t offset raw entriesEnd pos st ≡ Err n
  unfolding block_from tested after_step
  block_refused zero pos n st p h e = absurd (omega arith)
  block_refused (suc f) pos n st p h e = ap (tested f (asked_at t offset raw entriesEnd pos st) st) (lt-leb entriesEnd pos h) ∙ ap (after_step f) e

  -- a record that is not is followed by the walk from behind it
  pub block_more : (f pos next : ℕ) (st after : State) → 0 < f → pos < entriesEnd → asked_at t offset raw entriesEnd pos st ≡ Ok (next, after)
      → block_from f t offset raw entriesEnd pos st ≡ block_from (f - 1) t offset raw entriesEnd next after
  unfolding block_from tested after_step
  block_more zero pos next st after p h e = absurd (omega arith)
  block_more (suc f) pos next st after p h e =
      let n : f ≡ suc f - 1 = omega arith in
      ap (tested f (asked_at t offset raw entriesEnd pos st) st) (lt-leb entriesEnd pos h)
      ∙ ap (after_step f) e
      ∙ ap (λ (k : ℕ). block_from k t offset raw entriesEnd next after) n

-- ---- the walk so far

-- from a place on, with fuel enough, the walk answers this
pub record Walking (t : Inputs) (offset : ℕ) (raw : List ℕ) (entriesEnd : ℕ) (answer : Result State Refusal) (pos : ℕ) (st : State) : Type 0 where
  pub within : pos ≤ entriesEnd
  pub fuel : ℕ
  pub enough : entriesEnd < pos + fuel
  pub same : block_from fuel t offset raw entriesEnd pos st ≡ answer

module _ (t : Inputs) (offset : ℕ) (raw : List ℕ) (entriesEnd : ℕ) where
  pub walking_start : (st : State) → Walking t offset raw entriesEnd (block_of t offset raw entriesEnd st) 0 (at_start st)
  unfolding block_of
  walking_start st = record { within = omega arith; fuel = suc entriesEnd; enough = omega arith; same = refl }

  module _ (answer : Result State Refusal) (pos : ℕ) (st : State) (w : Walking t offset raw entriesEnd answer pos st) where
    pub walking_done : entriesEnd ≤ pos → Ok st ≡ answer
    walking_done h = let l = w.enough in let p = w.within in sym (block_done t offset raw entriesEnd w.fuel pos st (omega arith) h) ∙ w.same

    pub walking_refused : (n : Refusal) → pos < entriesEnd → asked_at t offset raw entriesEnd pos st ≡ Err n → Err n ≡ answer
    walking_refused n h e = let l = w.enough in sym (block_refused t offset raw entriesEnd w.fuel pos n st (omega arith) h e) ∙ w.same

    pub walking_more : (next : ℕ) (after : State) → pos < entriesEnd → asked_at t offset raw entriesEnd pos st ≡ Ok (next, after)
        → Walking t offset raw entriesEnd answer next after
    walking_more next after h e =
        let l = w.enough in
        let m = moved t offset raw entriesEnd pos st next after e in
        record {
          within = m.within;
          fuel = w.fuel - 1;
          enough = omega (arith, m.forward);
          same = sym (block_more t offset raw entriesEnd w.fuel pos next st after (omega arith) h e) ∙ w.same;
        }

-- ---- what the walk counts on holds behind a record

-- a record that goes on leaves the keys in their halves, and the cursor in the arena
pub ready_more : (s «data» : List ℕ) (o : Opened) (end half offset : ℕ) (raw : List ℕ) (entriesEnd pos : ℕ) (scratch left : List ℕ) (w : Carried) → Ready s o end half scratch w
    → length left ≡ length scratch → (next : ℕ) (after : Carried)
    → asked_at (inputs_with s «data» o end half) offset raw entriesEnd pos (state_in half scratch w) ≡ Ok (next, state_in half left after) → Held half after
    → Ready s o end half left after
unfolding state_in
ready_more s «data» o end half offset raw entriesEnd pos scratch left w ready kept next after e h =
    record {
      readable = ready.readable;
      inside = (moved (inputs_with s «data» o end half) offset raw entriesEnd pos (state_in half scratch w) next (state_in half left after) e).inside ready.readable ready.inside;
      halves = omega (arith, kept, ready.halves);
      held = h;
    }

-- ---- the walk of the block, and the questions asked of its records

-- a state: a progress, and the key before in the block
state_of : List ℕ → Progress → State
state_of key p = record { key = key; previous = p.previous; cursor = p.cursor }

-- the answer without the key before
unfoldable pub forget : Result State Refusal → Result Progress Refusal
forget (Ok st) = Ok (progress_of st)
forget (Err n) = Err n

module _ (t : Inputs) (offset : ℕ) (raw : List ℕ) (end : ℕ) where
  step_from : (f pos : ℕ) (st : State) (s : Step) → pos < end → step_of raw end pos st.key ≡ s
      → block_from (suc f) t offset raw end pos st ≡ after_step t offset raw end f (step_asked t offset st s)
  unfolding block_from tested after_step asked_at
  step_from f pos st s h e =
      ap (tested t offset raw end f (asked_at t offset raw end pos st) st) (lt-leb end pos h)
      ∙ ap (λ (x : Step). after_step t offset raw end f (step_asked t offset st x)) e

  abbrev Told : ℕ → List ℕ → Walk → Type 0
  Told pos prev w = (f : ℕ) → end - pos < f → (p : Progress)
      → forget (block_from f t offset raw end pos (state_of prev p)) ≡ records_asked t offset p w

  told_done : (pos : ℕ) (prev : List ℕ) → end ≤ pos → Told pos prev (no_entries at_end)
  unfolding no_entries forget records_asked walk_ended progress_of state_of entries_from
  told_done pos prev h f l p = ap forget (block_done t offset raw end f pos (state_of prev p) (omega arith) h)

  told_halt : (pos : ℕ) (prev : List ℕ) → pos < end → step_of raw end pos prev ≡ stop → Told pos prev (no_entries stopped)
  unfolding no_entries forget records_asked walk_ended after_step step_asked state_of entries_from
  told_halt pos prev h e zero l p = absurd (omega arith)
  told_halt pos prev h e (suc f) l p = ap forget (step_from f pos (state_of prev p) stop h e)

  told_onward : (next : ℕ) (key : List ℕ) (w : Walk) (f : ℕ) → end - next < f → Told next key w → (a : Result Progress Refusal)
      → forget (after_step t offset raw end f (asked_from next key a)) ≡ walk_ended w.ended (follow t (map (placed offset) w.entries) a)
  unfolding forget records_asked walk_ended after_step asked_from follow state_of
  told_onward next key w f l h (Ok q) = h f l q
  told_onward next key w f l h (Err n) = refl

  told_more : (pos : ℕ) (prev : List ℕ) (e : Entry) (next : ℕ) → step_of raw end pos prev ≡ met e next
      → Told next e.key (walk_at raw end next e.key) → Told pos prev (entry_then e (walk_at raw end next e.key))
  unfolding entry_then step_asked record_asked records_asked placed progress_of state_of
  told_more pos prev e next s h zero l p = absurd (omega arith)
  told_more pos prev e next s h (suc f) l p =
      let m = step_moved raw end pos prev e next s in
      let w = walk_at raw end next e.key in
      ap forget (step_from f pos (state_of prev p) (met e next) (omega arith) s)
      ∙ told_onward next e.key w f (omega arith) h (entry_asked t p (placed offset e))
      ∙ ap (walk_ended w.ended) (sym (entries_cons t p (placed offset e) (map (placed offset) w.entries)))

  told : (pos : ℕ) (prev : List ℕ) → Told pos prev (walk_at raw end pos prev)
  told = walk_ind raw end Told told_done told_halt told_more

  -- the loop over a block's records asks 13 to 21 of the records that its walk meets
  pub block_told : (st : State) → forget (block_of t offset raw end st) ≡ records_asked t offset (progress_of st) (walk_at raw end 0 [])
  unfolding block_of at_start state_of progress_of
  block_told st = told 0 [] (suc end) (omega arith) (progress_of st)
