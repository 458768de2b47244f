-- Numbers written one behind the other: those of a version, and the bit that marks a tombstone.
-- Assumes nothing.
use mathlib.Core.Path.{◌≡◌, refl}
use mathlib.Core.List.{List, [], ◌∷◌}
use Prim.Native.Nat.{ℕ, ◌+◌, ◌*◌, ◌-◌, ◌^◌, ◌<◌}
use native.Mathlib.Omega.{arith}
use lib.Seq.{sets}
use Rattle.num.specs.Number.{le_bytes}
use Rattle.num.proofs.Choice.{one_of-case}
use Rattle.encoding.specs.declared.Encoding.{Encoding}
use Rattle.encoding.specs.Encoding.{Widths, tombstone_of}
use Rattle.num.proofs.Stores.{behind_number}
use Rattle.written.specs.Joined.{Field, fields_bytes}
use Rattle.written.specs.Joined.Field.{field}
use Rattle.written.specs.Arena.{StoredVersion, marked_size, checksum_fields, stored_fields}

pub fields_none : (x : List ℕ) (a : ℕ) → x ≡ sets x a (fields_bytes [])
unfolding fields_bytes
fields_none x a = refl

-- a number, and others behind it
pub fields_next : (x₀ x₁ x₂ : List ℕ) (fs : List Field) (a b w n : ℕ) → a + w ≡ b → x₁ ≡ sets x₀ a (le_bytes w n) → x₂ ≡ sets x₁ b (fields_bytes fs)
    → x₂ ≡ sets x₀ a (fields_bytes (field w n ∷ fs))
unfolding fields_bytes
fields_next x₀ x₁ x₂ fs a b w n h e f = behind_number x₀ x₁ x₂ (fields_bytes fs) a b w n h e f

-- one alone
pub fields_one : (x₀ x₁ : List ℕ) (a w n : ℕ) → x₁ ≡ sets x₀ a (le_bytes w n) → x₁ ≡ sets x₀ a (fields_bytes (field w n ∷ []))
fields_one x₀ x₁ a w n e = fields_next x₀ x₁ x₁ [] a (a + w) w n refl e (fields_none x₁ (a + w))

-- the numbers of a version
pub version_parts : (e : Encoding) (least : ℕ) (v : StoredVersion) (x₀ x₁ x₂ x₃ x₄ : List ℕ) (at seq size offset checksum : ℕ)
    → seq ≡ v.seq → size ≡ marked_size e v.kind v.size → offset ≡ v.offset → checksum ≡ v.checksum
    → x₁ ≡ sets x₀ at (le_bytes e.seq (seq - least)) → x₂ ≡ sets x₁ (at + e.seq) (le_bytes e.value size)
    → x₃ ≡ sets x₂ (at + e.seq + e.value) (le_bytes e.address offset)
    → x₄ ≡ sets x₃ (at + e.seq + e.value + e.address) (fields_bytes (checksum_fields e.checksum checksum))
    → x₄ ≡ sets x₀ at (fields_bytes (stored_fields e least v))
unfolding stored_fields
version_parts e least v x₀ x₁ x₂ x₃ x₄ at seq size offset checksum p q r s f g h k =
    rw (← p, ← q, ← r, ← s)
    (fields_next x₀ x₁ x₄ _ at (at + e.seq) e.seq (seq - least) refl f
    (fields_next x₁ x₂ x₄ _ (at + e.seq) (at + e.seq + e.value) e.value size refl g
    (fields_next x₂ x₃ x₄ _ (at + e.seq + e.value) (at + e.seq + e.value + e.address) e.address offset refl h k)))

-- the bit is at most the top one of 32
pub tombstone_small : (e : Encoding) → Widths e → tombstone_of e < 2 ^ 32
unfolding tombstone_of
tombstone_small e w = one_of-case (λ n. 2 ^ (8 * n - 1) < 2 ^ 32) _ _ w.value (omega arith, (omega arith, tt))
