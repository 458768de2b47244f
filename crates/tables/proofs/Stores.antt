-- Numbers and pieces stored one behind the other.
-- Assumes nothing.
use mathlib.Core.Path.{◌≡◌, refl, sym, ap, ◌∙◌}
use mathlib.Core.List.{List, [], ◌∷◌, ◌++◌, append-nil, append_assoc}
use Prim.Native.Nat.{ℕ, ◌+◌, ◌*◌, ◌-◌, ◌<◌}
use native.Mathlib.Nat.{sub-zero}
use native.Mathlib.Numerals.{add-one}
use native.Mathlib.Omega.{arith}
use lib.ListN.{length, set, take}
use lib.Seq.{sets, take-suc-set}
use Rattle.num.specs.Number.{le_bytes}
use Rattle.crc32.specs.V42.{crc_of}
use Rattle.num.proofs.Stores.{behind, behind_number}
use Rattle.written.specs.Joined.{joined, Field, fields_bytes}
use Rattle.written.specs.Joined.Field.{field}
use Rattle.written.proofs.Stands.{even_length}

-- ---- numbers

module _ (x₀ x₁ : List ℕ) where
  pub field_last : (a w v : ℕ) → x₁ ≡ sets x₀ a (le_bytes w v) → x₁ ≡ sets x₀ a (fields_bytes (field w v ∷ []))
  unfolding fields_bytes
  field_last a w v e = e ∙ ap (sets x₀ a) (sym (append-nil (le_bytes w v)))

  pub field_more : (x₂ : List ℕ) (fs : List Field) (a b w v : ℕ) → a + w ≡ b → x₁ ≡ sets x₀ a (le_bytes w v) → x₂ ≡ sets x₁ b (fields_bytes fs)
      → x₂ ≡ sets x₀ a (fields_bytes (field w v ∷ fs))
  unfolding fields_bytes
  field_more x₂ fs a b w v h e f = behind_number x₀ x₁ x₂ (fields_bytes fs) a b w v h e f

  -- a magic, and numbers behind it
  pub magic_first : (x₂ m : List ℕ) (fs : List Field) → length m ≡ 8 → x₁ ≡ sets x₀ 0 m → x₂ ≡ sets x₁ 8 (fields_bytes fs) → x₂ ≡ sets x₀ 0 (m ++ fields_bytes fs)
  magic_first x₂ m fs n e f = behind x₀ x₁ x₂ m (fields_bytes fs) 0 8 (omega arith) e f

pub fields_append : (fs gs : List Field) → fields_bytes (fs ++ gs) ≡ fields_bytes fs ++ fields_bytes gs
unfolding fields_bytes
fields_append [] gs = refl
fields_append (field w v ∷ fs) gs = ap (λ (l : List ℕ). le_bytes w v ++ l) (fields_append fs gs) ∙ sym (append_assoc (le_bytes w v) (fields_bytes fs) (fields_bytes gs))

-- ---- pieces of one length

module _ (piece : ℕ → List ℕ) (w : ℕ) (sized : (k : ℕ) → length (piece k) ≡ w) (x₀ : List ℕ) (at : ℕ) where
  pub pieces_none : x₀ ≡ sets x₀ at (joined piece 0)
  unfolding joined
  pieces_none = refl

  pub pieces_more : (x₁ x₂ : List ℕ) (k place : ℕ) → at + k * w ≡ place → x₁ ≡ sets x₀ at (joined piece k) → x₂ ≡ sets x₁ place (piece k)
      → x₂ ≡ sets x₀ at (joined piece (k + 1))
  unfolding joined
  pieces_more x₁ x₂ k place p e f =
      behind x₀ x₁ x₂ (joined piece k) (piece k) at place (ap (λ (n : ℕ). at + n) (even_length piece w k (λ i _. sized i)) ∙ p) e f
      ∙ ap (λ (n : ℕ). sets x₀ at (joined piece n)) (sym (add-one k))

-- ---- the end of a section

-- the type byte, and the CRC-32 of all up to it
pub sealed : (x₀ x₂ : List ℕ) (body crc : ℕ) → body < length x₀ → crc ≡ crc_of (take (body + 1 - 0) (set x₀ body 0))
    → x₂ ≡ sets (set x₀ body 0) (body + 1) (le_bytes 4 crc) → x₂ ≡ sets x₀ body (0 ∷ le_bytes 4 (crc_of (take body x₀ ++ (0 ∷ []))))
sealed x₀ x₂ body crc h p e =
    let c : crc ≡ crc_of (take body x₀ ++ (0 ∷ [])) = p ∙ ap (λ (n : ℕ). crc_of (take n (set x₀ body 0))) (sub-zero (body + 1) ∙ add-one body) ∙ ap crc_of (take-suc-set x₀ body 0 h) in
    e ∙ ap (λ (n : ℕ). sets (set x₀ body 0) n (le_bytes 4 crc)) (add-one body) ∙ ap (λ (n : ℕ). sets x₀ body (0 ∷ le_bytes 4 n)) c
