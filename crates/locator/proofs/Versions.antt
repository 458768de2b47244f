-- The walk of a key's versions.
-- Assumes nothing.
use mathlib.Core.Path.{◌≡◌, refl, sym, ap, ap₂, ◌∙◌}
use mathlib.Core.Bool.{Bool, true, false}
use mathlib.Core.List.{List}
use Rattle.std.specs.Prelude.{Some, None, Ok, Err}
use Prim.Native.Nat.{ℕ, suc, ◌+◌, ◌-◌, ◌^◌, ◌<◌, ◌≤◌}
use native.Mathlib.Omega.{arith}
use lib.Dec.{leb, ltb}
use lib.ListN.{length}
use borrow.Author.Tests.{le-leb, lt-leb, lt-ltb, le-ltb}
use Rattle.num.specs.Choice.{when◌then◌else◌, both}
use Rattle.num.specs.Number.{le_at}
use Rattle.num.proofs.Choice.{true_both, both_no}
use Rattle.encoding.specs.Encoding.{version_len_of}
use Rattle.header.specs.declared.Opened.{Opened}
use Rattle.versions.specs.Version.{stored_seq}
use Rattle.locator.specs.Locator.{Located}
use Rattle.refusal.specs.declared.Refusal.TheVariants as refusal
use Rattle.locator.specs.Locator.{readable, locator_at, versions_from}

-- the sum of the least sequence and the stored number
pub stored_sum : (s : List ℕ) (o : Opened) (pos : ℕ) {n : ℕ} → n ≡ le_at s pos o.encoding.seq → o.min_seq + n ≡ stored_seq s o pos
unfolding stored_seq
stored_sum s o pos e = ap (λ (k : ℕ). o.min_seq + k) e

module _ (s : List ℕ) (o : Opened) (pos limit : ℕ) where
  -- ---- one version more

  -- is its sequence read inside the section, and its sum below 2^64?
  abbrev read_of : Bool
  read_of = both (readable s pos o.encoding.seq) (ltb (stored_seq s o pos) (2 ^ 64))

  -- the answer, by this and by the limit
  abbrev answer : ℕ → Bool → Bool → Located
  answer k read low =
      elim read [
        | true ↦ elim low [
          | true ↦ (when readable s pos (version_len_of o.encoding) then Ok (Some (locator_at s o pos)) else Err refusal.Read)
          | false ↦ versions_from k s o (pos + version_len_of o.encoding) limit
        ]
        | false ↦ Err refusal.Read
      ]

  one : (k : ℕ) (read low : Bool) → read_of ≡ read → leb (stored_seq s o pos) limit ≡ low → versions_from (suc k) s o pos limit ≡ answer k read low
  unfolding versions_from
  one k read low e f = ap₂ (answer k) e f

  module _ (l : pos + o.encoding.seq ≤ length s) where
    read-inside : readable s pos o.encoding.seq ≡ true
    unfolding readable
    read-inside = le-leb (pos + o.encoding.seq) (length s) l

    read-both : stored_seq s o pos < 2 ^ 64 → read_of ≡ true
    read-both b = true_both _ _ read-inside (lt-ltb (stored_seq s o pos) (2 ^ 64) b)

    read-beyond : 2 ^ 64 ≤ stored_seq s o pos → read_of ≡ false
    unfolding both
    read-beyond b = rw (read-inside, le-ltb (stored_seq s o pos) (2 ^ 64) b)

  read_outside : length s < pos + o.encoding.seq → read_of ≡ false
  unfolding readable
  read_outside l = sym (both_no _ _ (lt-leb (pos + o.encoding.seq) (length s) l))

  -- ---- some versions, of which there is one

  some : (n : ℕ) → 0 < n → versions_from n s o pos limit ≡ versions_from (suc (n - 1)) s o pos limit
  some n h = let e : n ≡ suc (n - 1) = omega arith in ap (λ (k : ℕ). versions_from k s o pos limit) e

  -- its sequence is not read outside the section
  pub version_outside : (n : ℕ) → 0 < n → length s < pos + o.encoding.seq → versions_from n s o pos limit ≡ Err refusal.Read
  version_outside n h l = some n h ∙ one (n - 1) false _ (read_outside l) refl

  -- its sequence is not beyond 64 bits
  pub version_beyond : (n stored : ℕ) → 0 < n → pos + o.encoding.seq ≤ length s → stored ≡ le_at s pos o.encoding.seq
      → 2 ^ 64 - 1 - o.min_seq < stored → versions_from n s o pos limit ≡ Err refusal.Read
  unfolding stored_seq
  version_beyond n stored h l e b = some n h ∙ one (n - 1) false _ (read-beyond l (omega arith)) refl

  -- its sequence is within the limit: it is the answer
  pub version_within : (n : ℕ) → 0 < n → pos + o.encoding.seq ≤ length s → stored_seq s o pos < 2 ^ 64 → stored_seq s o pos ≤ limit
      → versions_from n s o pos limit ≡ (when readable s pos (version_len_of o.encoding) then Ok (Some (locator_at s o pos)) else Err refusal.Read)
  version_within n h l b w = some n h ∙ one (n - 1) true true (read-both l b) (le-leb (stored_seq s o pos) limit w)

  -- or above it: the next one is asked
  pub version_above : (n k : ℕ) → n ≡ suc k → pos + o.encoding.seq ≤ length s → stored_seq s o pos < 2 ^ 64 → limit < stored_seq s o pos
      → versions_from n s o pos limit ≡ versions_from k s o (pos + version_len_of o.encoding) limit
  version_above n k h l b w = ap (λ (m : ℕ). versions_from m s o pos limit) h ∙ one k true false (read-both l b) (lt-leb (stored_seq s o pos) limit w)

  -- none is left
  pub versions_none : (n : ℕ) → n ≤ 0 → versions_from n s o pos limit ≡ Ok None
  unfolding versions_from
  versions_none n h = let e : n ≡ 0 = omega arith in ap (λ (k : ℕ). versions_from k s o pos limit) e
