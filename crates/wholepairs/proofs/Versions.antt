-- Versions that lie in the section with a word behind them: none is refused, and each is read by words.
-- Assumes nothing.
use mathlib.Core.Path.{◌≡◌, refl, ap, ◌∙◌}
use mathlib.Core.Bool.{Bool, true, false}
use mathlib.Core.List.{List}
use Prim.Native.Nat.{ℕ, zero, suc, ◌+◌, ◌*◌, ◌^◌, ◌<◌, ◌≤◌}
use native.Mathlib.Nat.{suc-mul}
use native.Mathlib.Omega.{arith}
use lib.Dec.{leb}
use lib.ListN.{length}
use borrow.Author.Tests.{leb-true, leb-false}
use Rattle.std.specs.Prelude.{Ok}
use Rattle.encoding.specs.Encoding.{version_len_of}
use Rattle.header.specs.declared.Opened.{Opened}
use Rattle.versions.specs.Version.{stored_seq}
use Rattle.spans.specs.Span.{value_end, value_at, first_within}
use Rattle.spans.specs.Internal.{is_given}
use Rattle.spans.proofs.Values.{value_within, value_above, met_inside}

-- ---- of some versions, one is read

module _ (s : List ℕ) (o : Opened) (pos limit n k : ℕ) (sums : (p : ℕ) → stored_seq s o p < 2 ^ 64) (some : n ≡ suc k)
    (room : pos + n * version_len_of o.encoding + 8 ≤ length s) where
  -- it has a word behind it, and so have the others
  pub version_room : (pos + version_len_of o.encoding + 8 ≤ length s) × (pos + version_len_of o.encoding + k * version_len_of o.encoding + 8 ≤ length s)
  version_room =
      let m : n * version_len_of o.encoding ≡ suc k * version_len_of o.encoding = ap (λ (j : ℕ). j * version_len_of o.encoding) some in
      let d = suc-mul k (version_len_of o.encoding) in
      (omega arith, omega arith)

  -- within the limit it is the answer
  pub room_within : stored_seq s o pos ≤ limit → first_within n s o pos limit ≡ Ok (value_at s o pos)
  unfolding version_len_of value_end
  room_within w =
      let r = version_room.0 in
      value_within s o pos limit n (omega arith) (omega arith) (sums pos) w ∙ met_inside s o pos limit (omega arith)

  -- above it the next one is asked
  pub room_above : limit < stored_seq s o pos → first_within n s o pos limit ≡ first_within k s o (pos + version_len_of o.encoding) limit
  unfolding version_len_of
  room_above w = let r = version_room.0 in value_above s o pos limit n k some (omega arith) (sums pos) w

-- nothing is refused
pub room_given : (n : ℕ) (s : List ℕ) (o : Opened) (pos limit : ℕ) → ((p : ℕ) → stored_seq s o p < 2 ^ 64) → pos + n * version_len_of o.encoding + 8 ≤ length s
    → is_given (first_within n s o pos limit) ≡ true
unfolding first_within is_given
room_given zero s o pos limit sums h = refl
room_given (suc n) s o pos limit sums h = go (leb (stored_seq s o pos) limit) refl (room_given n s o (pos + version_len_of o.encoding) limit sums (omega (arith, suc-mul n (version_len_of o.encoding))))
  where
    go : (b : Bool) → leb (stored_seq s o pos) limit ≡ b → is_given (first_within n s o (pos + version_len_of o.encoding) limit) ≡ true
        → is_given (first_within (suc n) s o pos limit) ≡ true
    go true e rest = ap is_given (room_within s o pos limit (suc n) n sums refl h (leb-true _ _ e))
    go false e rest =
        ap is_given (room_above s o pos limit (suc n) n sums refl h (leb-false _ _ e)) ∙ rest
