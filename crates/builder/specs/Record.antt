-- The builder's record: what an entry adds to it, and question 37 of it.
use Rattle.std.specs.Prelude.{ℕ, ◌+◌, ◌-◌, ◌%◌, ◌^◌, min, max, Bool, List, eqb, leb, length, Result, Ok, Err}
use Rattle.num.specs.Choice.{when◌then◌else◌, ask◌otherwise◌then◌, both, either}
use Rattle.num.specs.Order.{common_prefix_len}
use Rattle.refusal.specs.declared.Refusal.{Refusal}
use Rattle.refusal.specs.declared.Refusal.TheVariants as refusal
use Rattle.encoding.specs.declared.Totals.{Totals}
use Rattle.encoding.specs.Encoding.{group, encoding_of, section_len_of}
use Rattle.builder.specs.declared.Builder.{Builder}
use Rattle.area.specs.Area.{head_len, area_version_len, area_key_len, area_versions, area_key}

-- the empty builder
unfoldable pub empty_builder : Builder
empty_builder =
    record {
      totals =
          record {
            keys = 0;
            versions = 0;
            suffix_bytes = 0;
            min_seq = 0;
            max_seq = 0;
            max_key_len = 0;
            max_value_len = 0;
            max_versions = 0;
            last_value_offset = 0;
          };
      used = 0;
      last_key = 0;
      anchor = 0;
    }

-- what the record counts of an entry: its key and the number of versions of that key with this one, the length of its value, its sequence
-- and its offset, and whether the key is new
pub record Counted : Type 0 where
  pub key : List ℕ
  pub count : ℕ
  pub size : ℕ
  pub seq : ℕ
  pub offset : ℕ
  pub new_key : Bool

-- is the next new key an anchor? Every 1,024th from key 0 on is.
unfoldable pub anchor_next : Builder → Bool
anchor_next b = eqb (b.totals.keys % group) 0

-- how many bytes a new key shares with the latest anchor, 0 if it is one itself
unfoldable pub shared_with : List ℕ → Builder → List ℕ → ℕ
shared_with area b key = when anchor_next b then 0 else common_prefix_len (area_key area b.anchor) key

-- the totals with an entry, whose key is counted if it is new; the least sequence starts with the first version
unfoldable pub totals_after : List ℕ → Builder → Counted → Totals
totals_after area b e =
    record {
      keys = b.totals.keys + (when e.new_key then 1 else 0);
      versions = b.totals.versions + 1;
      suffix_bytes = b.totals.suffix_bytes + (when e.new_key then length e.key - shared_with area b e.key else 0);
      min_seq = when eqb b.totals.versions 0 then e.seq else min b.totals.min_seq e.seq;
      max_seq = max b.totals.max_seq e.seq;
      max_key_len = when e.new_key then max b.totals.max_key_len (length e.key) else b.totals.max_key_len;
      max_value_len = max b.totals.max_value_len e.size;
      max_versions = max b.totals.max_versions e.count;
      last_value_offset = e.offset;
    }

-- the record with an entry, which stands behind the used bytes
unfoldable pub builder_after : List ℕ → Builder → Counted → Builder
builder_after area b e =
    record {
      totals = totals_after area b e;
      used = b.used + area_version_len + (when e.new_key then head_len + length e.key else 0);
      last_key = when e.new_key then b.used else b.last_key;
      anchor = when both e.new_key (anchor_next b) then b.used else b.anchor;
    }

-- question 37: are the seven totals at most 2^30?
unfoldable pub totals_small : Builder → Bool
totals_small b =
    both (leb b.totals.keys (2 ^ 30))
    (both (leb b.totals.versions (2 ^ 30))
    (both (leb b.totals.suffix_bytes (2 ^ 30))
    (both (leb b.used (2 ^ 30))
    (both (leb b.totals.max_key_len (2 ^ 30))
    (both (leb b.totals.max_value_len (2 ^ 30))
    (leb b.totals.max_versions (2 ^ 30)))))))

-- question 37 of `add`, of a key's place: do its head and its bytes lie in the used area?
unfoldable pub key_lies : List ℕ → Builder → ℕ → Bool
key_lies area b head = both (leb (head + head_len) b.used) (leb (head + head_len + area_key_len area head) b.used)

-- question 37 of `add`: does the used area lie in the lent one, are the totals at most 2^30, and, if there is a key, do the last key and the
-- anchor lie in the used area, and is the last key's number of versions at most 2^30?
unfoldable pub standing : List ℕ → Builder → Bool
standing area b =
    both (leb b.used (length area))
    (both (totals_small b)
    (either (eqb b.totals.keys 0)
    (both (key_lies area b b.last_key)
    (both (key_lies area b b.anchor) (leb (area_versions area b.last_key) (2 ^ 30))))))

-- question 37 of `size`: are the totals at most 2^30, and is the greatest sequence not below the least?
unfoldable pub sizeable : Builder → Bool
sizeable b = both (totals_small b) (leb b.totals.min_seq b.totals.max_seq)

-- the size of the section that is written with a scan prefix, or 37
unfoldable pub size_of_section : Builder → ℕ → Result ℕ Refusal
size_of_section b prefix =
    ask sizeable b otherwise Err refusal.Builder then  -- 37
    Ok (section_len_of (encoding_of b.totals) b.totals prefix)

-- for proofs alone: `unfolding builder_defs` opens the definitions of this file
unfoldable pub builder_defs : ℕ
unfolding empty_builder anchor_next shared_with totals_after builder_after totals_small key_lies standing sizeable size_of_section
builder_defs = 0
