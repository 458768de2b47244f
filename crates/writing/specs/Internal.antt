-- Not on the reading path: what the code asks before it writes.
use Rattle.std.specs.Prelude.{◌≡◌, true, List, ℕ, leb, ltb, Result, Ok, Err}
use Rattle.num.specs.Choice.{ask◌otherwise◌then◌, both, choice_defs}
use Rattle.refusal.specs.declared.Refusal.{Refusal}
use Rattle.refusal.specs.declared.Refusal.TheVariants as refusal
use Rattle.encoding.specs.Encoding.{max_scan_prefix, encoding_of, section_len_of}
use Rattle.builder.specs.declared.Builder.{Builder}
use Rattle.builder.specs.Record.{sizeable, size_of_section}
use Rattle.readback.specs.ReadBack.{reads_back_of}
use Rattle.writer.specs.Write.{scratch_enough}

-- 35 to 39 are answered with yes, and this is the section's length
pub record Asked (area : List ℕ) (b : Builder) (prefix size room64 room32 room : ℕ) : Type 0 where
  pub prefix_short : leb prefix max_scan_prefix ≡ true
  pub some : ltb 0 b.totals.keys ≡ true
  pub sized : sizeable b ≡ true
  pub read : reads_back_of area b ≡ true
  pub scratch : scratch_enough b.totals.keys room64 room32 ≡ true
  pub output : leb (section_len_of (encoding_of b.totals) b.totals prefix) room ≡ true
  pub length_of : size ≡ section_len_of (encoding_of b.totals) b.totals prefix

-- 35 to 39 alone, as writing asks them: the section's length
unfoldable pub section_len_asked : List ℕ → Builder → ℕ → ℕ → ℕ → ℕ → Result ℕ Refusal
section_len_asked area b prefix room64 room32 room =
    ask leb prefix max_scan_prefix otherwise Err refusal.PrefixLong then  -- 35
    ask ltb 0 b.totals.keys otherwise Err refusal.NoKey then  -- 36
    ask both (sizeable b) (reads_back_of area b) otherwise Err refusal.Builder then  -- 37
    ask scratch_enough b.totals.keys room64 room32 otherwise Err refusal.BuildScratch then  -- 38
    ask leb (section_len_of (encoding_of b.totals) b.totals prefix) room otherwise Err refusal.SectionRoom then  -- 39
    Ok (section_len_of (encoding_of b.totals) b.totals prefix)

-- for proofs alone: what the questions ask and answer
unfoldable pub asking_defs : ℕ
unfolding section_len_asked size_of_section choice_defs
asking_defs = 0
