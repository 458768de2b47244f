-- A key record by the place of the key's head: its length, and its parts one behind the other.
-- Assumes nothing.
use mathlib.Core.Path.{◌≡◌, sym, ap, ap₂, ◌∙◌}
use mathlib.Core.List.{List, ◌++◌}
use Prim.Native.Nat.{ℕ, ◌+◌, ◌-◌, ◌≤◌}
use native.Mathlib.Omega.{arith}
use lib.ListN.{length, drop, length-drop}
use lib.Seq.{sets}
use Rattle.num.proofs.Lists.{part_length}
use Rattle.encoding.specs.declared.Encoding.{Encoding}
use Rattle.encoding.specs.Encoding.{key_header_len_of}
use Rattle.area.specs.Area.{head_len, area_key_len, area_versions, area_key, first_version_at}
use Rattle.num.proofs.Stores.{behind}
use Rattle.written.specs.Joined.{fields_bytes}
use Rattle.written.specs.Arena.{key_header_fields, stored_bytes}
use Rattle.written.proofs.Groups.{key_header_length}
use Rattle.writer.specs.Write.{stored_from}
use Rattle.keyrecords.specs.Internal.{key_record_bytes}

-- a key that lies in the area has the length that its head says
pub key_length : (area : List ℕ) (head : ℕ) → first_version_at area head ≤ length area → length (area_key area head) ≡ area_key_len area head
unfolding area_key first_version_at
key_length area head h = part_length area (head + head_len) (area_key_len area head) h

-- the three parts of a key record, one behind the other
pub record_parts : (e : Encoding) (least : ℕ) (area key x₀ x₁ x₂ x₃ : List ℕ) (head anchor shared at place end suffix-len versions first : ℕ)
    → first_version_at area head ≤ length area → suffix-len ≡ area_key_len area head - shared → versions ≡ area_versions area head → place ≡ at + key_header_len_of e
    → end ≡ place + suffix-len → key ≡ area_key area head → first ≡ first_version_at area head
    → x₁ ≡ sets x₀ at (fields_bytes (key_header_fields e (record { anchor = anchor; shared = shared; suffix_len = suffix-len; versions = versions })))
    → x₂ ≡ sets x₁ place (drop shared key)
    → x₃ ≡ sets x₂ end (stored_bytes e least (stored_from versions area first))
    → x₃ ≡ sets x₀ at (key_record_bytes e least area head anchor shared)
unfolding key_record_bytes
record_parts e least area key x₀ x₁ x₂ x₃ head anchor shared at place end suffix-len versions first h m v p q b d f g k =
    let fields : ℕ → ℕ → List ℕ = λ n c. fields_bytes (key_header_fields e (record { anchor = anchor; shared = shared; suffix_len = n; versions = c })) in
    let n = key_length area head h in
    let w : length (drop shared (area_key area head)) ≡ suffix-len = omega (arith, length-drop shared (area_key area head)) in
    behind x₀ x₁ x₃ (fields (area_key_len area head - shared) (area_versions area head)) (drop shared (area_key area head) ++ stored_bytes e least (stored_from (area_versions area head) area (first_version_at area head)))
    at place (ap (λ (n : ℕ). at + n) (key_header_length e _) ∙ sym p) (f ∙ ap₂ (λ (n c : ℕ). sets x₀ at (fields n c)) m v)
    (behind x₁ x₂ x₃ (drop shared (area_key area head)) (stored_bytes e least (stored_from (area_versions area head) area (first_version_at area head)))
    place end (ap (λ (n : ℕ). place + n) w ∙ sym q) (g ∙ ap (λ (l : List ℕ). sets x₁ place (drop shared l)) b)
    (k ∙ ap₂ (λ (c q : ℕ). sets x₂ end (stored_bytes e least (stored_from c area q))) v d))
