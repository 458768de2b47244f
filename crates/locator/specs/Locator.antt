-- The versions of a key record under a limit, as a lookup reads them (question 25), and what a lookup answers.
use Rattle.std.specs.Prelude.{ℕ, zero, suc, ◌+◌, ◌^◌, List, Bool, true, false, Option, None, Some, Result, Ok, Err, leb, ltb, length}
use Rattle.num.specs.Choice.{when◌then◌else◌, ask◌otherwise◌then◌, both}
use Rattle.encoding.specs.Encoding.{version_len_of, tombstone_of}
use Rattle.header.specs.declared.Opened.{Opened}
use Rattle.versions.specs.Version.{stored_seq, stored_value, kind_in, length_in, stored_offset, stored_checksum}
use Rattle.locator.specs.declared.ValueLocator.{ValueLocator}
use Rattle.refusal.specs.declared.Refusal.{Refusal}
use Rattle.refusal.specs.declared.Refusal.TheVariants as refusal

-- what a lookup answers: the version that it finds, none, or the question that is answered with no
abbrev pub Located : Type 0
Located = Result (Option ValueLocator) Refusal

-- question 25 of a read: do so many bytes at a place lie in the section? An empty read at the section's end does.
unfoldable pub readable : List ℕ → ℕ → ℕ → Bool
readable s place bytes = leb (place + bytes) (length s)

-- the version at a place
unfoldable pub locator_at : List ℕ → Opened → ℕ → ValueLocator
locator_at s o pos =
    record {
      kind = kind_in o (stored_value s o pos);
      seq = stored_seq s o pos;
      offset = stored_offset s o pos;
      len = length_in o (stored_value s o pos);
      checksum = when o.encoding.checksum then stored_checksum s o pos else 0;
    }

-- some versions from a place on: the first whose sequence is not above the limit. The sequence is read, and its sum must be below
-- 2^64 (25); the rest is read only of the version that is answered.
unfoldable pub versions_from : ℕ → List ℕ → Opened → ℕ → ℕ → Located
versions_from zero s o pos limit = Ok None
versions_from (suc count) s o pos limit =
    elim (both (readable s pos o.encoding.seq) (ltb (stored_seq s o pos) (2 ^ 64))) [
      | false ↦ Err refusal.Read
      | true ↦ elim (leb (stored_seq s o pos) limit) [
        | true ↦ ask readable s pos (version_len_of o.encoding) otherwise Err refusal.Read then Ok (Some (locator_at s o pos))
        | false ↦ versions_from count s o (pos + version_len_of o.encoding) limit
      ]
    ]

-- for proofs alone: `unfolding locator_defs` opens the definitions of this file
unfoldable pub locator_defs : ℕ
unfolding readable locator_at versions_from
locator_defs = 0

-- and `unfolding read_defs` those of one version's numbers
unfoldable pub read_defs : ℕ
unfolding version_len_of stored_value stored_offset stored_checksum kind_in locator_at when◌then◌else◌
read_defs = 0

-- and `unfolding length_defs` that of its value's length
unfoldable pub length_defs : ℕ
unfolding tombstone_of length_in
length_defs = 0
