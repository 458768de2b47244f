-- Not on the reading path: what the functions of this crate hand to each other.
use Rattle.std.specs.Prelude.{ℕ, ◌+◌, ◌^◌, ◌≤◌, ◌<◌, ◌≡◌, Bool, true, List, leb, ltb, length, Result, Ok, Err}
use Rattle.num.specs.Choice.{when◌then◌else◌, ask◌otherwise◌then◌, both, either, choice_defs}
use Rattle.refusal.specs.declared.Refusal.{Refusal}
use Rattle.refusal.specs.declared.Refusal.TheVariants as refusal
use Rattle.sstable.specs.Limits.{within_limits}
use Rattle.builder.specs.declared.Builder.{Builder}
use Rattle.area.specs.Area.{head_len, area_version_len, area_key_len, area_defs}
use Rattle.builder.specs.Offer.{Offer, entry_len}
use Rattle.builder.specs.Record.{anchor_next, shared_with, totals_after, builder_after, key_lies, standing}
use Rattle.builder.specs.Add.{max_keys}

-- what the questions leave of an entry that is taken
pub record Passed (area : List ℕ) (b : Builder) (e : Offer) : Type 0 where
  pub limits : within_limits (length e.key) (length e.value) ≡ true
  pub follows : either e.new_key (ltb 0 b.totals.keys) ≡ true
  pub stands : standing area b ≡ true
  pub room : b.used + entry_len e ≤ length area

-- what counting one more entry needs of a record: the used area lies in the lent one, what grows is at most 2^30, and the anchor, if there is a
-- key, lies in the used area
pub record Countable (area : List ℕ) (b : Builder) : Type 0 where
  pub inside : b.used ≤ length area
  pub keys : b.totals.keys ≤ 2 ^ 30
  pub versions : b.totals.versions ≤ 2 ^ 30
  pub suffix_bytes : b.totals.suffix_bytes ≤ 2 ^ 30
  pub used : b.used ≤ 2 ^ 30
  pub anchor : 0 < b.totals.keys → b.anchor + head_len + area_key_len area b.anchor ≤ b.used

-- the questions of an add by lengths alone
unfoldable pub questions_of : List ℕ → Builder → ℕ → ℕ → Bool → ℕ → Result (Unit {0}) Refusal
questions_of area b keyLen valueLen new place =
    ask within_limits keyLen valueLen otherwise Err refusal.AddLimits then
    ask either new (ltb 0 b.totals.keys) otherwise Err refusal.FirstNotNew then
    ask leb b.totals.last_value_offset place otherwise Err refusal.OffsetFalls then
    ask leb (b.totals.keys + (when new then 1 else 0)) max_keys otherwise Err refusal.TooManyKeys then
    ask standing area b otherwise Err refusal.Builder then
    ask both (leb (b.used + (area_version_len + (when new then head_len + keyLen else 0))) (length area))
    (leb (b.used + (area_version_len + (when new then head_len + keyLen else 0))) (2 ^ 30))
    otherwise Err refusal.AreaRoom then
    Ok tt

-- for proofs alone: what questions 30 to 37 of an add ask
unfoldable pub question_defs : ℕ
unfolding questions_of choice_defs
question_defs = 0

-- for proofs alone: what question 37 of an add asks
unfoldable pub standing_defs : ℕ
unfolding standing key_lies area_defs choice_defs
standing_defs = 0

-- for proofs alone: what an entry shares with the latest anchor
unfoldable pub shared_defs : ℕ
unfolding shared_with anchor_next area_defs choice_defs
shared_defs = 0

-- for proofs alone: what an entry adds to the totals, and to the record
unfoldable pub after_defs : ℕ
unfolding totals_after builder_after anchor_next choice_defs
after_defs = 0
