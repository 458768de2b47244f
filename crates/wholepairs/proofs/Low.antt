-- Under a limit below the least sequence no version is within it, and no pair is given.
-- Assumes nothing.
use mathlib.Core.Path.{◌≡◌, refl, sym, ap₂}
use mathlib.Core.Bool.{Bool, true, false}
use mathlib.Core.List.{List, [], ◌++◌}
use Prim.Native.Nat.{ℕ, zero, suc, ◌+◌, ◌^◌, ◌<◌}
use native.Mathlib.Omega.{arith}
use lib.Dec.{leb, ltb}
use borrow.Author.Tests.{lt-leb}
use Rattle.std.specs.Prelude.{Result, Ok, Err}
use Rattle.refusal.specs.declared.Refusal.{Refusal}
use Rattle.refusal.specs.declared.Refusal.TheVariants as refusal
use Rattle.num.specs.Choice.{when◌then◌else◌, both}
use Rattle.num.proofs.Choice.{false_true, if_case}
use Rattle.encoding.specs.Encoding.{version_len_of}
use Rattle.header.specs.declared.Opened.{Opened}
use Rattle.arena.specs.declared.KeyHeader.{KeyHeader}
use Rattle.versions.specs.Version.{stored_seq}
use Rattle.locator.specs.Locator.{readable}
use Rattle.spans.specs.Span.{Pair, value_end, value_at, first_within, key_value, pairs_joined, values_from}
use Rattle.spans.specs.Internal.{pairs_of}

low_first : (n : ℕ) (s : List ℕ) (o : Opened) (pos limit : ℕ) → limit < o.min_seq → pairs_of (first_within n s o pos limit) ≡ []
unfolding first_within stored_seq pairs_of
low_first zero s o pos limit l = refl
low_first (suc n) s o pos limit l =
    go (both (readable s pos o.encoding.seq) (ltb (stored_seq s o pos) (2 ^ 64))) (leb (stored_seq s o pos) limit)
    (lt-leb (stored_seq s o pos) limit (omega arith)) (low_first n s o (pos + version_len_of o.encoding) limit l)
  where
    go : (read within : Bool) → within ≡ false → pairs_of (first_within n s o (pos + version_len_of o.encoding) limit) ≡ []
        → pairs_of (elim read [
          | false ↦ Err refusal.Read
          | true ↦ elim within [
            | true ↦ when readable s pos (value_end o.encoding) then Ok (value_at s o pos) else Err refusal.Read
            | false ↦ first_within n s o (pos + version_len_of o.encoding) limit
          ]
        ]) ≡ []
    go false within e q = refl
    go true true e q = false_true (sym e)
    go true false e q = q

low_key : (s : List ℕ) (o : Opened) (limit at : ℕ) (h : KeyHeader) → limit < o.min_seq → pairs_of (key_value s o limit at h) ≡ []
unfolding key_value pairs_of
low_key s o limit at h l = if_case (λ (a : Result (List Pair) Refusal). pairs_of a ≡ []) _ _ _ (λ _. low_first _ s o _ limit l) (λ _. refl)

low_joined : (a b : Result (List Pair) Refusal) → pairs_of a ≡ [] → pairs_of b ≡ [] → pairs_of (pairs_joined a b) ≡ []
unfolding pairs_joined pairs_of
low_joined (Ok ps) (Ok qs) p q = ap₂ ◌++◌ p q
low_joined (Ok ps) (Err e) p q = refl
low_joined (Err e) b p q = refl

pub low_none : (n : ℕ) (s : List ℕ) (o : Opened) (limit at : ℕ) → limit < o.min_seq → pairs_of (values_from n s o limit at) ≡ []
unfolding values_from pairs_of
low_none zero s o limit at l = refl
low_none (suc n) s o limit at l = low_joined _ _ (low_key s o limit at _ l) (low_none n s o limit _ l)
