-- The state of a run.
-- Assumes nothing.
use mathlib.Core.Path.{◌≡◌, ap, ap₂, ◌∙◌}
use mathlib.Core.List.{List, ◌++◌}
use Prim.Native.Nat.{ℕ}
use native.Mathlib.Omega.{arith}
use lib.ListN.{length-append}
use Rattle.area.specs.Area.{keys_in_of}
use Rattle.builder.specs.declared.Builder.{Builder}
use Rattle.builder.specs.Record.{sizeable}
use Rattle.readback.specs.ReadBack.{reads_back_of}
use Rattle.written.specs.Arena.{KeyGroup}
use Rattle.writer.specs.Write.{groups_in}
use Rattle.building.specs.Run.{Run, run_of}
use Rattle.building.specs.Taken.{groups_of, area_of, group_totals, builder_of}
use Rattle.building.specs.State.{keys_of, StateOf, RunsKeep}
use Rattle.building.specs.Internal.{Kept}
use Rattle.building.proofs.AreaRead.{groups_in_lem, keys_in}
use Rattle.building.proofs.ReadsBack.{reads_back}
use Rattle.building.proofs.Standing.{size_passes}
use Rattle.building.proofs.Taking.{area_begins}
use Rattle.building.proofs.Runs.{kept, add_never_37}

module _ (r : Run) (k : Kept r) where
  abbrev gs : List KeyGroup
  gs = groups_of r.taken

  -- what is asked of the lent area and the record is asked of the groups'
  pub same_state : {A : Type 0} (f : List ℕ → Builder → A) (rest : List ℕ) → f (r.used ++ rest) r.builder ≡ f (area_of gs ++ rest) (builder_of gs)
  same_state f rest = ap₂ (λ (u : List ℕ) (b : Builder). f (u ++ rest) b) k.used k.builder

  state_of_lem : StateOf r
  unfolding builder_of group_totals keys_of
  state_of_lem =
      record {
        record_is = k.builder;
        area_is = k.used;
        adds = add_never_37 r k;
        sizes = ap sizeable k.builder ∙ size_passes gs k.sound;
        reads_back = λ rest.
            same_state reads_back_of rest ∙ reads_back (area_of gs ++ rest) gs k.sound (area_begins gs rest) (let n = length-append (area_of gs) rest in omega arith);
        groups = λ rest. same_state (λ a b. groups_in a b.totals.keys) rest ∙ groups_in_lem gs k.sound.small (area_begins gs rest);
        keys = λ rest. same_state (λ a b. keys_in_of a b.totals.keys) rest ∙ keys_in gs k.sound.small (area_begins gs rest);
      }

pub runs_keep : RunsKeep
unfolding RunsKeep
runs_keep ls = state_of_lem (run_of ls) (kept ls)
