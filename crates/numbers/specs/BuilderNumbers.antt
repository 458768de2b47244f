-- A builder's record as sixteen numbers.
use Rattle.std.specs.Prelude.{ℕ, List, [], ◌∷◌, Bool, eqb, get_or}
use Rattle.num.specs.Choice.{when◌then◌else◌, both}
use Rattle.builder.specs.declared.Builder.{Builder}

-- keys, versions, suffix bytes, used bytes, least and greatest sequence, longest key, longest value, most versions of a key, last offset,
-- places of the last key and of the anchor; then zeros
unfoldable pub builder_numbers : Builder → List ℕ
builder_numbers b =
    b.totals.keys ∷ b.totals.versions ∷ b.totals.suffix_bytes ∷ b.used ∷ b.totals.min_seq ∷ b.totals.max_seq
    ∷ b.totals.max_key_len ∷ b.totals.max_value_len ∷ b.totals.max_versions ∷ b.totals.last_value_offset ∷ b.last_key ∷ b.anchor
    ∷ 0 ∷ 0 ∷ 0 ∷ 0 ∷ []

-- are the last four places 0, as in every record that an add wrote?
unfoldable pub is_builder_numbers : List ℕ → Bool
is_builder_numbers numbers =
    both (eqb (get_or numbers 12 0) 0)
    (both (eqb (get_or numbers 13 0) 0) (both (eqb (get_or numbers 14 0) 0) (eqb (get_or numbers 15 0) 0)))

-- the used bytes; with a number in the last four places 2^64 - 1, which is more than the 2^30 of question 37, so that 37 refuses the record where it
-- stands
unfoldable pub used_in : List ℕ → ℕ
used_in numbers = when is_builder_numbers numbers then get_or numbers 3 0 else 18446744073709551615

-- the record whose numbers these sixteen are: the places are those of builderNumbers
unfoldable pub builder_in : List ℕ → Builder
builder_in numbers =
    record {
      totals =
          record {
            keys = get_or numbers 0 0;
            versions = get_or numbers 1 0;
            suffix_bytes = get_or numbers 2 0;
            min_seq = get_or numbers 4 0;
            max_seq = get_or numbers 5 0;
            max_key_len = get_or numbers 6 0;
            max_value_len = get_or numbers 7 0;
            max_versions = get_or numbers 8 0;
            last_value_offset = get_or numbers 9 0;
          };
      used = used_in numbers;
      last_key = get_or numbers 10 0;
      anchor = get_or numbers 11 0;
    }
