-- The starred widths of document 01, and the sizes of its worked store and of an empty builder.
-- Assumes nothing.
use mathlib.Core.Path.{◌≡◌, refl}
use Prim.Native.Nat.{ℕ, ◌^◌}
use Rattle.encoding.specs.declared.Totals.{Totals}
use Rattle.encoding.specs.Encoding.{encoding_defs, width_of, value_width_of, encoding_of, section_len_of}

widths : (width_of 255 ≡ 1) × (width_of 256 ≡ 2) × (width_of 65536 ≡ 4) × (width_of (2 ^ 32) ≡ 8)
unfolding encoding_defs
widths = (refl, refl, refl, refl)

value_widths : (value_width_of 32767 ≡ 2) × (value_width_of 32768 ≡ 4)
unfolding encoding_defs
value_widths = (refl, refl)

-- the totals of the worked store: `ab` whole, and of `ac` the suffix `c`
worked : Totals
worked =
    record {
      keys = 2;
      versions = 3;
      suffix_bytes = 3;
      min_seq = 3;
      max_seq = 7;
      max_key_len = 2;
      max_value_len = 3;
      max_versions = 2;
      last_value_offset = 69;
    }

size_of : Totals → ℕ → ℕ
size_of t prefix = section_len_of (encoding_of t) t prefix

worked_sizes : (size_of worked 0 ≡ 135) × (size_of worked 1 ≡ 175)
unfolding encoding_defs size_of worked
worked_sizes = (refl, refl)

-- the totals of a builder that was given nothing
empty : Totals
empty =
    record {
      keys = 0;
      versions = 0;
      suffix_bytes = 0;
      min_seq = 0;
      max_seq = 0;
      max_key_len = 0;
      max_value_len = 0;
      max_versions = 0;
      last_value_offset = 0;
    }

empty_sizes : (size_of empty 0 ≡ 69) × (size_of empty 1 ≡ 101)
unfolding encoding_defs size_of empty
empty_sizes = (refl, refl)
