-- A run of adds: record and used area are those of the offers taken.
-- Assumes nothing.
use mathlib.Core.Path.{◌≡◌, refl, sym, ap, ap₂, ◌∙◌, subst⁻¹}
use mathlib.Core.List.{List, [], ◌∷◌, ◌++◌}
use mathlib.Core.Bool.{Bool, true, false}
use Prim.Native.Nat.{ℕ}
use native.Mathlib.Nat.{not-suc-le-zero}
use native.Mathlib.Omega.{arith}
use lib.ListN.{length, length-append}
use Rattle.std.specs.Prelude.{Result, Ok, Err}
use Rattle.refusal.specs.declared.Refusal.{Refusal}
use Rattle.refusal.specs.Refusal.{answer_number}
use Rattle.builder.specs.declared.Builder.{Builder}
use Rattle.builder.specs.Offer.{Offer}
use Rattle.builder.specs.Add.{BuilderState, add_of}
use Rattle.builder.proofs.Standing.{follows_key}
use Rattle.builder.proofs.Asked.{accepted}
use Rattle.written.specs.Arena.{KeyGroup}
use Rattle.building.specs.Run.{Lending, Run, empty_run, run_for, run_step, run_from, run_of}
use Rattle.building.specs.Taken.{groups_with, groups_after, groups_of, area_of, group_totals, builder_of, taken_defs}
use Rattle.building.specs.Internal.{Rising, Sound, StartsNew, Kept}
use Rattle.building.proofs.Counted.{builder_none}
use Rattle.building.proofs.Standing.{stands_passes}
use Rattle.building.proofs.Taking.{steps, area_begins, never_37}

-- ---- the groups of one offer more

after_more : (gs : List KeyGroup) (taken : List Offer) (e : Offer) → groups_after gs (taken ++ (e ∷ [])) ≡ groups_with (groups_after gs taken) e
unfolding groups_after
after_more gs [] e = refl
after_more gs (f ∷ taken) e = after_more (groups_with gs f) taken e

pub groups_more : (taken : List Offer) (e : Offer) → groups_of (taken ++ (e ∷ [])) ≡ groups_with (groups_of taken) e
unfolding groups_of
groups_more taken e = after_more [] taken e

starts_more : (taken : List Offer) (e : Offer) → StartsNew taken → (length taken ≡ 0 → e.new_key ≡ true) → StartsNew (taken ++ (e ∷ []))
unfolding StartsNew
starts_more [] e s h = h refl
starts_more (f ∷ taken) e s h = s

pub no_groups : (taken : List Offer) → length taken ≡ 0 → length (groups_of taken) ≡ 0
unfolding groups_of groups_after
no_groups [] e = refl
no_groups (f ∷ taken) e = absurd (omega arith)

-- ---- what a run keeps

kept_none : Kept empty_run
unfolding empty_run taken_defs Rising StartsNew
kept_none =
    record {
      builder = sym builder_none;
      used = refl;
      sound = record { small = λ i h. absurd (not-suc-le-zero h); rising = tt; few = omega arith; used = omega arith };
      starts = tt;
    }

module _ (r : Run) (k : Kept r) (l : Lending) where
  -- the add as it is asked of the groups
  asked_of : add_of (r.used ++ l.rest) r.builder l.offer ≡ add_of (area_of (groups_of r.taken) ++ l.rest) (builder_of (groups_of r.taken)) l.offer
  asked_of = ap₂ (λ (u : List ℕ) (b : Builder). add_of (u ++ l.rest) b l.offer) k.used k.builder

  first_new : (s : BuilderState) → add_of (r.used ++ l.rest) r.builder l.offer ≡ Ok s → length r.taken ≡ 0 → l.offer.new_key ≡ true
  unfolding builder_of group_totals
  first_new s q n =
      let p = (accepted _ _ l.offer s (sym asked_of ∙ q)).0.passed in
      let z = no_groups r.taken n in
      go l.offer.new_key refl (λ e. let f = follows_key l.offer.new_key (length (groups_of r.taken)) p.follows e in omega arith)
    where
      go : (t : Bool) → l.offer.new_key ≡ t → (l.offer.new_key ≡ false → ⊥) → l.offer.new_key ≡ true
      go true e f = e
      go false e f = absurd (f e)

  kept_given : (s : BuilderState) → add_of (r.used ++ l.rest) r.builder l.offer ≡ Ok s → Kept (run_for r l.offer (Ok s))
  unfolding run_for
  kept_given s q =
      let t = steps l.offer l.seq_fits l.offset_fits l.rest (groups_of r.taken) k.sound s (sym asked_of ∙ q) in
      let g = groups_more r.taken l.offer in
      record {
        builder = t.builder ∙ ap builder_of (sym g);
        used = t.used ∙ ap area_of (sym g);
        sound = subst⁻¹ Sound g t.sound;
        starts = starts_more r.taken l.offer k.starts (first_new s q);
      }

  kept_step : Kept (run_step r l)
  unfolding run_step run_for
  kept_step = go (add_of (r.used ++ l.rest) r.builder l.offer) refl
    where
      go : (a : Result BuilderState Refusal) → add_of (r.used ++ l.rest) r.builder l.offer ≡ a → Kept (run_for r l.offer a)
      go (Ok s) q = kept_given s q
      go (Err x) q = k

  -- no add is refused with 37
  pub add_never_37 : answer_number (add_of (r.used ++ l.rest) r.builder l.offer) ≡ 37 → ⊥
  add_never_37 q =
      let gs = groups_of r.taken in
      let n = length-append (area_of gs) l.rest in
      never_37 (area_of gs ++ l.rest) (builder_of gs) l.offer (stands_passes gs k.sound (area_of gs ++ l.rest) (area_begins gs l.rest) (omega arith)) (ap (λ (a : Result BuilderState Refusal). answer_number a) (sym asked_of) ∙ q)

kept_from : (ls : List Lending) (r : Run) → Kept r → Kept (run_from r ls)
unfolding run_from
kept_from [] r k = k
kept_from (l ∷ ls) r k = kept_from ls (run_step r l) (kept_step r k l)

pub kept : (ls : List Lending) → Kept (run_of ls)
unfolding run_of
kept ls = kept_from ls empty_run kept_none
