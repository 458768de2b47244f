-- Reading the builder's area back (document 01, question 37 of writing): each entry is judged by 30 to 34 as `add` judges it, from the empty
-- record on, and the record that comes out has the totals, sequence bounds and last offset of the builder's own.
use Rattle.std.specs.Prelude.{ℕ, zero, suc, ◌+◌, ◌-◌, Bool, true, false, List, [], ◌∷◌, eqb, leb, ltb, length}
use Rattle.std.specs.Prelude.{Option, Some, None}
use Rattle.num.specs.Choice.{when◌then◌else◌, ask◌otherwise◌then◌, both, one_of}
use Rattle.num.specs.Number.{le_at}
use Rattle.sstable.specs.Limits.{within_limits}
use Rattle.encoding.specs.declared.Totals.{Totals}
use Rattle.builder.specs.declared.Builder.{Builder}
use Rattle.area.specs.Area.{head_len, area_version_len, area_key_len, area_versions, area_key, area_kind, area_size, area_offset}
use Rattle.builder.specs.Record.{Counted, empty_builder, builder_after}
use Rattle.builder.specs.Add.{max_keys}

-- what the record counts of the version at a place, of the key whose head stands at another
unfoldable pub counted_at : List ℕ → ℕ → ℕ → ℕ → Bool → Counted
counted_at area head place count new =
    record {
      key = area_key area head;
      count = count;
      size = area_size area place;
      seq = le_at area place 8;
      offset = area_offset area place;
      new_key = new;
    }

-- a version before the end of the used bytes, behind the record of those before it: its kind is known, and 30, 32 and 33 are answered with
-- yes. The first entry is read as a new key (31), and the end is at most 2^30 (34, by size's 37).
unfoldable pub version_read : List ℕ → ℕ → Builder → ℕ → ℕ → ℕ → Bool → Option Builder
version_read area end r head place count new =
    ask leb (place + area_version_len) end otherwise None then
    ask one_of (1 ∷ 2 ∷ []) (area_kind area place) otherwise None then
    ask within_limits (area_key_len area head) (area_size area place) otherwise None then
    ask leb r.totals.last_value_offset (area_offset area place) otherwise None then
    ask leb (r.totals.keys + (when new then 1 else 0)) max_keys otherwise None then
    Some (builder_after area r (counted_at area head place count new))

-- so many further versions of the last key, behind those that it has
unfoldable pub versions_read : ℕ → List ℕ → ℕ → Builder → ℕ → Option Builder
versions_read zero area end r count = Some r
versions_read (suc left) area end r count =
    elim (version_read area end r r.last_key r.used (count + 1) false) [ Some q ↦ versions_read left area end q (count + 1) | None ↦ None ]

unfoldable pub versions_read_for : ℕ → List ℕ → ℕ → Option Builder → Option Builder
versions_read_for left area end None = None
versions_read_for left area end (Some r) = versions_read left area end r 1

-- the key whose head stands behind the record of those before it: head and key lie before the end, and it has a version
unfoldable pub key_read : List ℕ → ℕ → Builder → Option Builder
key_read area end r =
    ask leb (r.used + head_len) end otherwise None then
    ask leb (r.used + head_len + area_key_len area r.used) end otherwise None then
    ask ltb 0 (area_versions area r.used) otherwise None then
    versions_read_for (area_versions area r.used - 1) area end
    (version_read area end r r.used (r.used + head_len + area_key_len area r.used) 1 true)

-- keys up to the end, at most as many as the first number says
unfoldable pub keys_read : ℕ → List ℕ → ℕ → Builder → Option Builder
keys_read zero area end r = None
keys_read (suc most) area end r =
    elim (leb end r.used) [
      | true ↦ Some r
      | false ↦ elim (key_read area end r) [ Some q ↦ keys_read most area end q | None ↦ None ]
    ]

-- a key takes a byte at least, so one for each byte and one for the end are enough
unfoldable pub area_read : List ℕ → ℕ → Option Builder
area_read area end = keys_read (suc end) area end empty_builder

-- are two totals the same?
unfoldable pub same_totals : Totals → Totals → Bool
same_totals a b =
    both (eqb a.keys b.keys)
    (both (eqb a.versions b.versions)
    (both (eqb a.suffix_bytes b.suffix_bytes)
    (both (eqb a.min_seq b.min_seq)
    (both (eqb a.max_seq b.max_seq)
    (both (eqb a.max_key_len b.max_key_len)
    (both (eqb a.max_value_len b.max_value_len)
    (both (eqb a.max_versions b.max_versions)
    (eqb a.last_value_offset b.last_value_offset))))))))

unfoldable pub reads_back_for : Builder → Option Builder → Bool
reads_back_for b None = false
reads_back_for b (Some r) = same_totals r.totals b.totals

-- does the used area lie in the lent one, and does it read back to the record?
unfoldable pub reads_back_of : List ℕ → Builder → Bool
reads_back_of area b = both (leb b.used (length area)) (reads_back_for b (area_read area b.used))

-- for proofs alone: `unfolding read_back_defs` opens the definitions of this file
unfoldable pub read_back_defs : ℕ
unfolding counted_at version_read versions_read versions_read_for key_read keys_read area_read same_totals reads_back_for reads_back_of
read_back_defs = 0
