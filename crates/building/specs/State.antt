-- The state of a builder is a function of the offers that it has taken, and question 37 never occurs for it.
use Rattle.std.specs.Prelude.{◌≡◌, true, List, ◌++◌, map, ℕ}
use Rattle.refusal.specs.Refusal.{answer_number}
use Rattle.area.specs.Area.{keys_in_of}
use Rattle.builder.specs.Offer.{Offer}
use Rattle.builder.specs.Record.{sizeable}
use Rattle.builder.specs.Add.{add_of}
use Rattle.readback.specs.ReadBack.{reads_back_of}
use Rattle.writer.specs.Write.{groups_in}
use Rattle.building.specs.Run.{Lending, Run, run_of}
use Rattle.building.specs.Taken.{groups_of, area_of, builder_of}

-- the keys of the offers taken, one for each that was marked new
unfoldable pub keys_of : List Offer → List (List ℕ)
keys_of taken = map (λ g. g.key) (groups_of taken)

pub record StateOf (r : Run) : Type 0 where
  -- record and used area are those of the offers taken
  pub record_is : r.builder ≡ builder_of (groups_of r.taken)
  pub area_is : r.used ≡ area_of (groups_of r.taken)
  -- no further add is refused with 37, whatever area it is lent
  pub adds : (l : Lending) → answer_number (add_of (r.used ++ l.rest) r.builder l.offer) ≡ 37 → ⊥
  -- nor is size or writing: the area reads back
  pub sizes : sizeable r.builder ≡ true
  pub reads_back : (rest : List ℕ) → reads_back_of (r.used ++ rest) r.builder ≡ true
  -- the groups and the keys that writing reads are those of the offers taken
  pub groups : (rest : List ℕ) → groups_in (r.used ++ rest) r.builder.totals.keys ≡ groups_of r.taken
  pub keys : (rest : List ℕ) → keys_in_of (r.used ++ rest) r.builder.totals.keys ≡ keys_of r.taken

-- this holds behind every list of adds
unfoldable pub RunsKeep : Type 0
RunsKeep = (ls : List Lending) → StateOf (run_of ls)
