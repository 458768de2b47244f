-- The adds of a builder, one list from the empty record on (document 01, "Building": "each of them, and writing, gets the used area as left
-- and the record of the last one taken, and nobody else writes them").
use Rattle.std.specs.Prelude.{ℕ, ◌^◌, ◌<◌, List, [], ◌∷◌, ◌++◌, take, Result, Ok, Err}
use Rattle.refusal.specs.declared.Refusal.{Refusal}
use Rattle.builder.specs.declared.Builder.{Builder}
use Rattle.builder.specs.Offer.{Offer}
use Rattle.builder.specs.Record.{empty_builder}
use Rattle.builder.specs.Add.{BuilderState, add_of}

-- one add: the offer, whose sequence and offset have 64 bits, and the bytes that the lent area has behind the used ones, as many as it may
-- have and whatever they are
pub record Lending : Type 0 where
  pub offer : Offer
  pub seq_fits : offer.seq < 2 ^ 64
  pub offset_fits : offer.offset < 2 ^ 64
  pub rest : List ℕ

-- what the adds so far have left: the record, the used bytes of the area, and the offers that were taken
pub record Run : Type 0 where
  pub builder : Builder
  pub used : List ℕ
  pub taken : List Offer

unfoldable pub empty_run : Run
empty_run = record { builder = empty_builder; used = []; taken = [] }

-- behind an add, by its answer: a refused offer leaves all three
unfoldable pub run_for : Run → Offer → Result BuilderState Refusal → Run
run_for r e (Err q) = r
run_for r e (Ok s) = record { builder = s.builder; used = take s.builder.used s.area; taken = r.taken ++ (e ∷ []) }

unfoldable pub run_step : Run → Lending → Run
run_step r l = run_for r l.offer (add_of (r.used ++ l.rest) r.builder l.offer)

-- further adds
unfoldable pub run_from : Run → List Lending → Run
run_from r [] = r
run_from r (l ∷ ls) = run_from (run_step r l) ls

-- all adds
unfoldable pub run_of : List Lending → Run
run_of ls = run_from empty_run ls

-- for proofs alone: `unfolding run_defs` opens the definitions of this file
unfoldable pub run_defs : ℕ
unfolding empty_run run_for run_step run_from run_of
run_defs = 0
