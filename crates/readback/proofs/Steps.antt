-- The definitions as code with early returns and loops walks them.
-- Assumes nothing.
use mathlib.Core.Path.{◌≡◌, ap, ◌∙◌}
use mathlib.Core.Bool.{Bool, true, false}
use mathlib.Core.List.{List}
use Rattle.std.specs.Prelude.{Option, Some, None}
use Prim.Native.Nat.{ℕ, zero, suc, ◌+◌, ◌-◌, ◌≤◌, ◌<◌}
use native.Mathlib.Nat.{not-suc-le-zero}
use native.Mathlib.Omega.{arith}
use lib.ListN.{length, drop, length-take}
use borrow.Author.Tests.{le-leb, lt-leb}
use Rattle.num.proofs.Choice.{both_true}
use Rattle.builder.specs.declared.Builder.{Builder}
use Rattle.area.specs.Area.{head_len, area_key_len, area_key, area_size}
use Rattle.builder.specs.Internal.{Countable}
use Rattle.builder.proofs.Asked.{key_limit}
use Rattle.readback.specs.ReadBack.{version_read, versions_read, key_read, keys_read}
use Rattle.readback.specs.Internal.{LentArea, Running, version_passes}

-- a key that is read is within the limits
pub passes_limit : (area lent : List ℕ) (r : Builder) (key : List ℕ) (len place : ℕ) (new : Bool) (head : ℕ) → key ≡ area_key lent head → len ≡ area_key_len lent head
    → version_passes area r len place new ≡ true → length key ≤ 1048576
unfolding version_passes area_key
passes_limit area lent r key len place new head k l e =
    omega (
      arith,
      ap (λ (s : List ℕ). length s) k,
      length-take (area_key_len lent head) (drop (head + head_len) lent),
      key_limit len (area_size area place) (both_true _ _ (both_true _ _ e).1).0,
    )

-- one more entry can be counted in a record of what was read
pub running_countable : (area : List ℕ) (end : ℕ) (r : Builder) → LentArea area end → Running area end r → Countable area r
running_countable area end r l h =
    record { inside = omega arith; keys = omega arith; versions = omega arith; suffix_bytes = omega arith; used = omega arith; anchor = h.anchor }

-- ---- the loops

-- what follows a reading
after : (Builder → Option Builder) → Option Builder → Option Builder
after next o = elim o [ Some p ↦ next p | None ↦ None ]

module _ (area : List ℕ) (end : ℕ) (r : Builder) (count versions : ℕ) where
  -- a version is left
  one_left : count < versions
      → versions_read (versions - count) area end r count
      ≡ after (λ p. versions_read (versions - (count + 1)) area end p (count + 1)) (version_read area end r r.last_key r.used (count + 1) false)
  unfolding versions_read after
  one_left h =
      let n : versions - count ≡ suc (versions - (count + 1)) = omega arith in
      ap (λ (n : ℕ). versions_read n area end r count) n

  pub versions_more : (q : Builder) → count < versions → version_read area end r r.last_key r.used (count + 1) false ≡ Some q
      → versions_read (versions - count) area end r count ≡ versions_read (versions - (count + 1)) area end q (count + 1)
  unfolding after
  versions_more q h e = one_left h ∙ ap (after (λ p. versions_read (versions - (count + 1)) area end p (count + 1))) e

  pub versions_refused : count < versions → version_read area end r r.last_key r.used (count + 1) false ≡ None → versions_read (versions - count) area end r count ≡ None
  unfolding after
  versions_refused h e = one_left h ∙ ap (after (λ p. versions_read (versions - (count + 1)) area end p (count + 1))) e

  pub versions_done : versions ≤ count → versions_read (versions - count) area end r count ≡ Some r
  unfolding versions_read
  versions_done h =
      let n : versions - count ≡ 0 = omega arith in
      ap (λ (n : ℕ). versions_read n area end r count) n

module _ (area : List ℕ) (end : ℕ) (r : Builder) where
  turn : (Builder → Option Builder) → Bool → Option Builder
  turn next t = elim t [ true ↦ Some r | false ↦ after next (key_read area end r) ]

  pub keys_more : (most : ℕ) (q : Builder) → 0 < most → r.used < end → key_read area end r ≡ Some q → keys_read most area end r ≡ keys_read (most - 1) area end q
  unfolding keys_read turn after
  keys_more zero q h u e = absurd (not-suc-le-zero h)
  keys_more (suc most) q h u e =
      let n : most ≡ suc most - 1 = omega arith in
      ap (turn (keys_read most area end)) (lt-leb end r.used u) ∙ ap (after (keys_read most area end)) e ∙ ap (λ (n : ℕ). keys_read n area end q) n

  pub keys_refused : (most : ℕ) → 0 < most → r.used < end → key_read area end r ≡ None → keys_read most area end r ≡ None
  unfolding keys_read turn after
  keys_refused zero h u e = absurd (not-suc-le-zero h)
  keys_refused (suc most) h u e = ap (turn (keys_read most area end)) (lt-leb end r.used u) ∙ ap (after (keys_read most area end)) e

  pub keys_done : (most : ℕ) → 0 < most → end ≤ r.used → keys_read most area end r ≡ Some r
  unfolding keys_read turn after
  keys_done zero h u = absurd (not-suc-le-zero h)
  keys_done (suc most) h u = ap (turn (keys_read most area end)) (le-leb end r.used u)
