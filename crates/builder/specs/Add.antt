-- Adding an entry to a builder: questions 30 to 34 and 37 (document 01, "Building").
use Rattle.std.specs.Prelude.{◌≡◌, ℕ, ◌+◌, ◌^◌, Bool, List, ◌++◌, leb, ltb, length, Result, Ok, Err}
use Rattle.std.proofs.lemmas.List.Edits.{sets}
use Rattle.num.specs.Choice.{when◌then◌else◌, ask◌otherwise◌then◌, both, either}
use Rattle.num.specs.Number.{le_bytes}
use Rattle.refusal.specs.declared.Refusal.{Refusal}
use Rattle.refusal.specs.declared.Refusal.TheVariants as refusal
use Rattle.sstable.specs.Limits.{within_limits}
use Rattle.builder.specs.declared.Builder.{Builder}
use Rattle.area.specs.Area.{area_versions}
use Rattle.builder.specs.Offer.{Offer, head_bytes, version_bytes, entry_len}
use Rattle.builder.specs.Record.{Counted, builder_after, standing}

-- the most keys (question 33)
abbrev pub max_keys : ℕ
max_keys = 1048576

-- the number of versions of the offer's key, with this one
unfoldable pub versions_with : List ℕ → Builder → Offer → ℕ
versions_with area b e = when e.new_key then 1 else area_versions area b.last_key + 1

-- the area with the entry behind the used bytes; an entry that is not new is counted in the last key's head
unfoldable pub area_after_of : List ℕ → Builder → Offer → List ℕ
area_after_of area b e =
    when e.new_key then sets area b.used (head_bytes e.key ++ version_bytes e)
    else sets (sets area (b.last_key + 4) (le_bytes 4 (versions_with area b e))) b.used (version_bytes e)

unfoldable pub counted_of : List ℕ → Builder → Offer → Counted
counted_of area b e =
    record { key = e.key; count = versions_with area b e; size = length e.value; seq = e.seq; offset = e.offset; new_key = e.new_key }

-- an area and the record beside it
pub record BuilderState : Type 0 where
  pub area : List ℕ
  pub builder : Builder

-- the questions in their order; 37 goes before 34, which counts from the used bytes
unfoldable pub add_of : List ℕ → Builder → Offer → Result BuilderState Refusal
add_of area b e =
    ask within_limits (length e.key) (length e.value) otherwise Err refusal.AddLimits then  -- 30
    ask either e.new_key (ltb 0 b.totals.keys) otherwise Err refusal.FirstNotNew then  -- 31
    ask leb b.totals.last_value_offset e.offset otherwise Err refusal.OffsetFalls then  -- 32
    ask leb (b.totals.keys + (when e.new_key then 1 else 0)) max_keys otherwise Err refusal.TooManyKeys then  -- 33
    ask standing area b otherwise Err refusal.Builder then  -- 37
    ask both (leb (b.used + entry_len e) (length area)) (leb (b.used + entry_len e) (2 ^ 30)) otherwise Err refusal.AreaRoom then  -- 34
    Ok (record { area = area_after_of area b e; builder = builder_after area b (counted_of area b e) })

-- what the questions answer, without what an add gives
unfoldable pub refusal_in : {A : Type 0} → Result A Refusal → Result (Unit {0}) Refusal
refusal_in (Ok x) = Ok tt
refusal_in (Err e) = Err e

-- an offer with a key and a value of these lengths, this mark and this offset
pub record Like (e : Offer) (keyLen valueLen : ℕ) (new : Bool) (place : ℕ) : Type 0 where
  pub key_len : length e.key ≡ keyLen
  pub value_len : length e.value ≡ valueLen
  pub new_key : e.new_key ≡ new
  pub offset : e.offset ≡ place

-- what the questions answer of every such offer
pub record RefusedWith (area : List ℕ) (b : Builder) (keyLen valueLen : ℕ) (new : Bool) (place : ℕ) (answer : Result (Unit {0}) Refusal) : Type 0 where
  pub each : (e : Offer) → Like e keyLen valueLen new place → answer ≡ refusal_in (add_of area b e)

-- the record, or the refusal
unfoldable pub added_builder : Result BuilderState Refusal → Result Builder Refusal
added_builder (Ok b) = Ok b.builder
added_builder (Err e) = Err e

-- the area behind an add: unchanged on a refusal
unfoldable pub added_area : Result BuilderState Refusal → List ℕ → List ℕ
added_area (Ok b) before = b.area
added_area (Err e) before = before

-- for proofs alone: `unfolding add_defs` opens the definitions of this file
unfoldable pub add_defs : ℕ
unfolding versions_with area_after_of counted_of add_of refusal_in added_builder added_area
add_defs = 0
