-- What the probes answer where the functions below them ask something of their caller, and what they write.
use Rattle.std.specs.Prelude.{◌≡◌, ℕ, ◌+◌, ◌-◌, ◌^◌, List, [], ◌∷◌, Bool, eqb, leb, length, get_or, take, drop, Result, Ok, Err}
use Rattle.std.proofs.lemmas.List.Edits.{sets}
use Rattle.construction.specs.Construct.{Placement, Constructed}
use Rattle.num.specs.Choice.{when◌then◌else◌, either}
use Rattle.sstable.specs.Kind.{kind_number}
use Rattle.refusal.specs.declared.Refusal.{Refusal}
use Rattle.refusal.specs.declared.Refusal.TheVariants as refusal
use Rattle.refusal.specs.Refusal.{refusal_number}
use Rattle.block.specs.declared.BlockMeta.{BlockMeta}
use Rattle.block.specs.declared.Record.{Record}
use Rattle.block.specs.Record.{record_at}
use Rattle.point.specs.Hash.{bucket_of, position_of, slot_of}
use Rattle.encoding.specs.declared.Totals.{Totals}
use Rattle.builder.specs.Record.{size_of_section}

-- 0 where the number of buckets is 0
unfoldable pub bucket_probe : ℕ → ℕ → ℕ
bucket_probe h count = when eqb count 0 then 0 else bucket_of h count

-- 0 where the number of slots is 0, or the pilot has more than 32 bits
unfoldable pub no_slot : ℕ → ℕ → Bool
no_slot pilot n = either (eqb n 0) (leb (2 ^ 32) pilot)

unfoldable pub position_probe : ℕ → ℕ → ℕ → ℕ
position_probe h pilot n = when no_slot pilot n then 0 else position_of h pilot n

unfoldable pub slot_probe : ℕ → ℕ → ℕ → ℕ
slot_probe h pilot n = when no_slot pilot n then 0 else slot_of h pilot n

-- the numbers of a sound block; nothing is written of another
unfoldable pub meta_written : Result BlockMeta Refusal → List ℕ → List ℕ
meta_written (Ok m) before = sets before 0 (m.entries_end ∷ m.restart_start ∷ m.num_restarts ∷ [])
meta_written (Err e) before = before

-- the step of a walk for entries inside the block and a key scratch of a length: 13 also for entries that end outside, then 15
unfoldable pub record_number : ℕ → Result Record Refusal → ℕ
record_number room (Err e) = refusal_number e
record_number room (Ok r) = when leb r.key_len room then 0 else 15

unfoldable pub step_probe : List ℕ → ℕ → ℕ → ℕ → Result Record Refusal
step_probe raw end pos keyLen = when leb end (length raw) then record_at raw end pos keyLen else Err refusal.Entry  -- 13

unfoldable pub probed_record_written : ℕ → Result Record Refusal → List ℕ → List ℕ
probed_record_written room (Err e) before = before
probed_record_written room (Ok r) before =
    when leb r.key_len room
    then sets before 0 (kind_number r.kind ∷ r.seq ∷ r.key_len ∷ r.place ∷ r.size ∷ r.next ∷ [])
    else before

-- the key's own bytes stand behind those that it shares
unfoldable pub key_written : List ℕ → ℕ → Result Record Refusal → List ℕ → List ℕ
key_written raw pos (Err e) before = before
key_written raw pos (Ok r) before =
    when leb r.key_len (length before)
    then sets before r.shared (take (r.key_len - r.shared) (drop (pos + 21) raw))
    else before

-- nine numbers as totals
unfoldable pub totals_of : List ℕ → Totals
totals_of n =
    record {
      keys = get_or n 0 0;
      versions = get_or n 1 0;
      suffix_bytes = get_or n 2 0;
      min_seq = get_or n 3 0;
      max_seq = get_or n 4 0;
      max_key_len = get_or n 5 0;
      max_value_len = get_or n 6 0;
      max_versions = get_or n 7 0;
      last_value_offset = get_or n 8 0;
    }

-- the section's length of a builder with these totals, 0 if size refuses them
unfoldable pub size_probe : Result ℕ Refusal → ℕ
size_probe (Ok n) = n
size_probe (Err e) = 0

unfoldable pub length_probe : Totals → ℕ → ℕ
length_probe t prefix = size_probe (size_of_section (record { totals = t; used = 0; last_key = 0; anchor = 0 }) prefix)

-- the seed behind a construction, or what stood there
unfoldable pub seed_written : Result Constructed Refusal → ℕ → ℕ
seed_written (Ok c) before = c.seed
seed_written (Err n) before = before

-- the pilots and slots behind it are those that it gives; without a seed nothing is said of them
unfoldable pub PlacedAs : Result Constructed Refusal → Placement → Type 0
PlacedAs (Ok c) t = t ≡ c.placement
PlacedAs (Err n) t = Unit {0}

-- for proofs alone: `unfolding length_defs` opens what the length of a section is probed by
unfoldable pub length_defs : ℕ
unfolding totals_of size_probe length_probe
length_defs = 0
