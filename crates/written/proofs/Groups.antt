-- A key group of the arena: its length, its place and its key header.
-- Assumes nothing.
use mathlib.Core.Path.{◌≡◌, refl, ap, ◌∙◌}
use mathlib.Core.List.{List, ◌++◌}
use mathlib.Core.Bool.{Bool, true, false}
use Prim.Native.Nat.{ℕ, suc, ◌+◌, ◌*◌, ◌<◌}
use native.Mathlib.Omega.{arith}
use lib.ListN.{length, get_or, length-append}
use Rattle.num.specs.Choice.{when◌then◌else◌}
use Rattle.num.specs.Number.{le_at}
use Rattle.encoding.specs.declared.Encoding.{Encoding}
use Rattle.encoding.specs.Encoding.{key_header_len_of, version_len_of}
use Rattle.arena.specs.declared.KeyHeader.{KeyHeader}
use Rattle.agreement.specs.Keys.{key_header_in}
use Rattle.written.specs.Joined.{fields_bytes}
use Rattle.written.specs.Arena.{StoredVersion, KeyGroup, no_stored, group_versions, group_suffix, group_address, group_header, key_header_fields, checksum_fields, stored_fields, stored_bytes, group_bytes, arena_written}
use Rattle.written.specs.Internal.{Stands, fields_len, FieldsFit}
use Rattle.written.proofs.Stands.{joined_length, joined_stands, even_length, even_stands, fields_read, fields_length}

pub key_header_length : (e : Encoding) (h : KeyHeader) → length (fields_bytes (key_header_fields e h)) ≡ key_header_len_of e
unfolding key_header_fields key_header_len_of
key_header_length e h = fields_length (key_header_fields e h) ∙ omega arith

checksum_length : (c : Bool) (checksum : ℕ) → fields_len (checksum_fields c checksum) ≡ (when c then 4 else 0)
unfolding checksum_fields when◌then◌else◌
checksum_length true checksum = refl
checksum_length false checksum = refl

pub version_length_lem : (e : Encoding) (least : ℕ) (v : StoredVersion) → length (fields_bytes (stored_fields e least v)) ≡ version_len_of e
unfolding stored_fields version_len_of
version_length_lem e least v =
    let c = checksum_length e.checksum v.checksum in
    fields_length (stored_fields e least v) ∙ omega arith

module _ (e : Encoding) (least : ℕ) where
  versions_length : (vs : List StoredVersion) → length (stored_bytes e least vs) ≡ length vs * version_len_of e
  unfolding stored_bytes
  versions_length vs =
      even_length (λ j. fields_bytes (stored_fields e least (get_or vs j no_stored))) (version_len_of e) (length vs) (λ j _. version_length_lem e least (get_or vs j no_stored))

  -- version j stands behind the j before it
  pub version_stands : {s : List ℕ} {pos : ℕ} (vs : List StoredVersion) (j : ℕ) → j < length vs
      → Stands s pos (stored_bytes e least vs) → Stands s (pos + j * version_len_of e) (fields_bytes (stored_fields e least (get_or vs j no_stored)))
  unfolding stored_bytes
  version_stands vs j h at =
      even_stands (λ j. fields_bytes (stored_fields e least (get_or vs j no_stored))) (version_len_of e) (length vs) j (λ j _. version_length_lem e least (get_or vs j no_stored)) h at

  module _ (gs : List KeyGroup) where
    group-length : (i : ℕ) → length (group_bytes e least gs i) ≡ key_header_len_of e + length (group_suffix gs i) + length (group_versions gs i) * version_len_of e
    unfolding group_bytes
    group-length i =
        omega (
          arith,
          length-append (fields_bytes (key_header_fields e (group_header e gs i))) (group_suffix gs i ++ stored_bytes e least (group_versions gs i)),
          length-append (group_suffix gs i) (stored_bytes e least (group_versions gs i)),
          key_header_length e (group_header e gs i),
          versions_length (group_versions gs i),
        )

    -- the writer's address of the next key is behind this one
    pub address_step : (i : ℕ) → group_address e gs (suc i) ≡ group_address e gs i + length (group_bytes e least gs i)
    unfolding group_address
    address_step i = let n = group-length i in omega arith

    address-start : group_address e gs 0 ≡ 0
    unfolding group_address
    address-start = refl

    pub arena_length : length (arena_written e least gs) ≡ group_address e gs (length gs)
    unfolding arena_written
    arena_length = joined_length (group_bytes e least gs) (group_address e gs) (length gs) address-start (λ i _. address_step i)

    -- each key group stands at its address
    pub group_stands : {s : List ℕ} {pos : ℕ} (i : ℕ) → i < length gs → Stands s pos (arena_written e least gs) → Stands s (pos + group_address e gs i) (group_bytes e least gs i)
    unfolding arena_written
    group_stands i h at = joined_stands (group_bytes e least gs) (group_address e gs) (length gs) i address-start (λ k _. address_step k) h at

-- a key header is read as it was written
pub key_header_read : {s : List ℕ} {pos : ℕ} (e : Encoding) (h : KeyHeader) → FieldsFit (key_header_fields e h) → Stands s pos (fields_bytes (key_header_fields e h)) → key_header_in s e pos ≡ h
unfolding key_header_fields key_header_in
key_header_read {s} {pos} e h f at =
    let r = fields_read (key_header_fields e h) f at in
    let last : pos + e.address + 2 * e.key ≡ pos + e.address + e.key + e.key = omega arith in
    λ i. record { anchor = r.0 i; shared = r.1.0 i; suffix_len = r.1.1.0 i; versions = (ap (λ (p : ℕ). le_at s p e.count) last ∙ r.1.1.1.0) i }
