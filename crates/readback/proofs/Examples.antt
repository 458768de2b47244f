-- The area of document 01's worked store, as its three adds leave it, read back, and read after changes of one byte.
-- Assumes nothing.
use mathlib.Core.Path.{◌≡◌, refl}
use mathlib.Core.Bool.{Bool, true, false}
use mathlib.Core.List.{List, [], ◌∷◌}
use Prim.Native.Nat.{ℕ}
use lib.ListN.{set}
use Rattle.num.specs.Choice.{choice_defs}
use Rattle.num.specs.Number.{le_at}
use Rattle.num.specs.Order.{common_prefix_len}
use Rattle.sstable.specs.Limits.{limit_defs}
use Rattle.encoding.specs.Encoding.{encoding_defs}
use Rattle.builder.specs.declared.Builder.{Builder}
use Rattle.area.specs.Area.{area_defs}
use Rattle.builder.specs.Record.{builder_defs}
use Rattle.readback.specs.ReadBack.{reads_back_of, read_back_defs}
use Rattle.readback.specs.Places.{head_at_of}

worked_area : List ℕ
worked_area =
    2 ∷ 0 ∷ 0 ∷ 0 ∷ 2 ∷ 0 ∷ 0 ∷ 0 ∷ 97 ∷ 98
    ∷ 7 ∷ 0 ∷ 0 ∷ 0 ∷ 0 ∷ 0 ∷ 0 ∷ 0 ∷ 1 ∷ 3 ∷ 0 ∷ 0 ∷ 0 ∷ 23 ∷ 0 ∷ 0 ∷ 0 ∷ 0 ∷ 0 ∷ 0 ∷ 0 ∷ 103 ∷ 186 ∷ 142 ∷ 235
    ∷ 3 ∷ 0 ∷ 0 ∷ 0 ∷ 0 ∷ 0 ∷ 0 ∷ 0 ∷ 2 ∷ 0 ∷ 0 ∷ 0 ∷ 0 ∷ 47 ∷ 0 ∷ 0 ∷ 0 ∷ 0 ∷ 0 ∷ 0 ∷ 0 ∷ 0 ∷ 0 ∷ 0 ∷ 0
    ∷ 2 ∷ 0 ∷ 0 ∷ 0 ∷ 1 ∷ 0 ∷ 0 ∷ 0 ∷ 97 ∷ 99
    ∷ 5 ∷ 0 ∷ 0 ∷ 0 ∷ 0 ∷ 0 ∷ 0 ∷ 0 ∷ 1 ∷ 0 ∷ 0 ∷ 0 ∷ 0 ∷ 69 ∷ 0 ∷ 0 ∷ 0 ∷ 0 ∷ 0 ∷ 0 ∷ 0 ∷ 0 ∷ 0 ∷ 0 ∷ 0
    ∷ 170 ∷ 170 ∷ []

worked_record : Builder
worked_record =
    record {
      totals =
          record {
            keys = 2;
            versions = 3;
            suffix_bytes = 3;
            min_seq = 3;
            max_seq = 7;
            max_key_len = 2;
            max_value_len = 3;
            max_versions = 2;
            last_value_offset = 69;
          };
      used = 95;
      last_key = 60;
      anchor = 0;
    }

-- with another byte at a place
changed : ℕ → ℕ → Bool
changed place byte = reads_back_of (set worked_area place byte) worked_record

worked : reads_back_of worked_area worked_record ≡ true
unfolding worked_area worked_record read_back_defs builder_defs area_defs choice_defs encoding_defs limit_defs le_at common_prefix_len
worked = refl

-- no version, or one more than there are, of either key; kind 3; an offset below the one before; another key, sequence or value length; but the
-- checksum of a value and what stands behind the used bytes are not judged
changes : (changed 4 0 ≡ false) × (changed 64 0 ≡ false) × (changed 64 2 ≡ false) × (changed 18 3 ≡ false) × (changed 48 22 ≡ false) × (changed 69 98 ≡ false)
    × (changed 35 2 ≡ false) × (changed 19 4 ≡ false) × (changed 31 0 ≡ true) × (changed 95 0 ≡ true)
unfolding changed worked_area worked_record read_back_defs builder_defs area_defs choice_defs encoding_defs limit_defs le_at common_prefix_len
changes = (refl, refl, refl, refl, refl, refl, refl, refl, refl, refl)

-- the heads of its keys, and the end
places : (head_at_of worked_area 0 ≡ 0) × (head_at_of worked_area 1 ≡ 60) × (head_at_of worked_area 2 ≡ 95)
unfolding worked_area head_at_of area_defs le_at
places = (refl, refl, refl)
