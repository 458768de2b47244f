-- The versions from a place of the area on, and what is written of them turn by turn.
-- Assumes nothing.
use mathlib.Core.Path.{◌≡◌, refl, sym, ap, ◌∙◌}
use mathlib.Core.List.{List}
use Prim.Native.Nat.{ℕ, ◌+◌, ◌*◌}
use native.Mathlib.Numerals.{add-one}
use lib.ListN.{length, get_or}
use lib.Seq.{sets}
use Rattle.encoding.specs.declared.Encoding.{Encoding}
use Rattle.encoding.specs.Encoding.{version_len_of}
use Rattle.area.specs.Area.{area_version_len}
use Rattle.num.proofs.Stores.{behind}
use Rattle.written.specs.Joined.{joined, fields_bytes}
use Rattle.written.specs.Arena.{no_stored, stored_fields, stored_bytes}
use Rattle.written.proofs.Stands.{even_length, joined_same}
use Rattle.written.proofs.Groups.{version_length_lem}
use Rattle.writer.specs.Write.{stored_at, stored_from}
use Rattle.writer.proofs.Groups.{stored_length, stored_index}

module _ (e : Encoding) (least : ℕ) (area : List ℕ) (first : ℕ) where
  -- version j as it is written, and the first ones
  unfoldable pub version_piece : ℕ → List ℕ
  version_piece j = fields_bytes (stored_fields e least (stored_at area (first + area_version_len * j)))

  unfoldable pub versions_written : ℕ → List ℕ
  versions_written = joined version_piece

  versions_length : (j : ℕ) → length (versions_written j) ≡ j * version_len_of e
  unfolding versions_written version_piece
  versions_length j = even_length version_piece (version_len_of e) j (λ k _. version_length_lem e least (stored_at area (first + area_version_len * k)))

  pub versions_start_lem : (x : List ℕ) (at : ℕ) → x ≡ sets x at (versions_written 0)
  unfolding versions_written joined
  versions_start_lem x at = refl

  -- one more, behind those that are written
  pub versions_turn : (x₀ x₁ x₂ : List ℕ) (at end j : ℕ) → at + j * version_len_of e ≡ end → x₁ ≡ sets x₀ at (versions_written j) → x₂ ≡ sets x₁ end (version_piece j)
      → x₂ ≡ sets x₀ at (versions_written (j + 1))
  unfolding versions_written joined
  versions_turn x₀ x₁ x₂ at end j h p q =
      rw (add-one j) (behind x₀ x₁ x₂ (versions_written j) (version_piece j) at end (ap (λ (n : ℕ). at + n) (versions_length j) ∙ h) p q)

  -- all of them
  pub versions_done : (n : ℕ) → versions_written n ≡ stored_bytes e least (stored_from n area first)
  unfolding versions_written version_piece stored_bytes
  versions_done n =
      joined_same version_piece (λ j. fields_bytes (stored_fields e least (get_or (stored_from n area first) j no_stored))) n
      (λ j h. ap (λ v. fields_bytes (stored_fields e least v)) (sym (stored_index n area first j h)))
      ∙ ap (joined (λ j. fields_bytes (stored_fields e least (get_or (stored_from n area first) j no_stored)))) (sym (stored_length n area first))
