-- The value of a key of an accepted store is what its lookup finds.
-- Assumes nothing.
use mathlib.Core.Path.{◌≡◌, refl, sym, ap, ◌∙◌}
use mathlib.Core.Bool.{Bool, true, false}
use mathlib.Core.List.{List}
use Prim.Native.Nat.{ℕ, zero, suc, ◌+◌, ◌^◌, ◌<◌, ◌≤◌}
use native.Mathlib.Nat.{zero-add}
use native.Mathlib.Omega.{arith}
use lib.Dec.{leb}
use lib.ListN.{length}
use borrow.Author.Tests.{leb-true, leb-false, le-leb}
use Rattle.std.specs.Prelude.{Some, Ok}
use Rattle.num.proofs.Choice.{if_true}
use Rattle.block.specs.Walk.{Entry}
use Rattle.encoding.specs.Encoding.{key_header_len_of, version_len_of}
use Rattle.header.specs.declared.Opened.{Opened}
use Rattle.arena.specs.Key.{key_header_at}
use Rattle.versions.specs.Version.{stored_seq}
use Rattle.agreement.specs.Keys.{key_header_size, version_size, key_header_in, address_of, key_header_of, version_count, suffix_place, key_at, version_place, version_seq}
use Rattle.locator.specs.Locator.{Located}
use Rattle.locator.specs.Locator.{readable, locator_at, versions_from}
use Rattle.locator.proofs.Versions as located
use Rattle.lookup.specs.Lookup.{locate_of}
use Rattle.locating.proofs.Indexed.{Indexed}
use Rattle.locating.proofs.Reading.{located_own}
use Rattle.locating.proofs.Versions.{next_place}
use Rattle.spans.specs.Span.{value_end, value_at, first_within, versions_start, key_value}
use Rattle.spans.proofs.Values.{value_within, value_above}
use Rattle.spanning.specs.Spans.{located_pairs}

-- the value at a place is that of the version at the place
value_located : (s : List ℕ) (o : Opened) (pos : ℕ) → value_at s o pos ≡ located_pairs (Ok (Some (locator_at s o pos)))
unfolding value_at located_pairs locator_at
value_located s o pos = refl

module _ (s : List ℕ) (o : Opened) (pos limit : ℕ) (r : pos + version_len_of o.encoding ≤ length s) (b : stored_seq s o pos < 2 ^ 64) where
  -- a version within the limit is met by a span as by a lookup
  both_met : (n : ℕ) → stored_seq s o pos ≤ limit → first_within (suc n) s o pos limit ≡ Ok (located_pairs (versions_from (suc n) s o pos limit))
  unfolding readable value_end version_len_of
  both_met n w =
      let l : pos + o.encoding.seq ≤ length s = omega arith in
      let e : pos + value_end o.encoding ≤ length s = omega arith in
      value_within s o pos limit (suc n) (omega arith) l b w
      ∙ if_true _ _ _ (le-leb (pos + value_end o.encoding) (length s) e)
      ∙ ap Ok (value_located s o pos
      ∙ sym (ap located_pairs (located.version_within s o pos limit (suc n) (omega arith) l b w ∙ if_true _ _ _ (le-leb (pos + version_len_of o.encoding) (length s) r))))

  -- and one above it is passed by both
  both_passed : (n : ℕ) → limit < stored_seq s o pos
      → first_within n s o (pos + version_len_of o.encoding) limit ≡ Ok (located_pairs (versions_from n s o (pos + version_len_of o.encoding) limit))
      → first_within (suc n) s o pos limit ≡ Ok (located_pairs (versions_from (suc n) s o pos limit))
  unfolding version_len_of
  both_passed n w e =
      let l : pos + o.encoding.seq ≤ length s = omega arith in
      let next = pos + version_len_of o.encoding in
      value_above s o pos limit (suc n) n refl l b w
      ∙ e
      ∙ ap (λ (a : Located). Ok (located_pairs a))
      (sym (located.version_above s o pos limit (suc n) n refl l b w))

-- the first version stands behind key header and suffix
first_place : (s : List ℕ) (o : Opened) (k : ℕ)
    → o.arena + address_of s o k + versions_start o (key_header_at s o.encoding (o.arena + address_of s o k)) ≡ version_place s o k 0
unfolding version_place suffix_place versions_start key_header_len_of key_header_size key_header_at key_header_in key_header_of
first_place s o k = omega arith

module _ (s : List ℕ) (o : Opened) («data» : List ℕ) (es : List Entry) (x : Indexed s o «data» es) (k : ℕ) (h : k < o.count) (limit : ℕ) where
  -- the walk over the versions of key k from one on
  versions_both : (count j : ℕ) → j + count ≡ version_count s o k
      → first_within count s o (version_place s o k j) limit ≡ Ok (located_pairs (versions_from count s o (version_place s o k j) limit))
  unfolding first_within versions_from located_pairs version_seq stored_seq version_len_of version_size
  versions_both zero j e = refl
  versions_both (suc count) j e = go (leb (version_seq s o k j) limit) refl (versions_both count (suc j) (omega arith))
    where
      inside : version_place s o k j + version_len_of o.encoding ≤ length s
      inside = x.version_inside k j h (omega arith)

      below : stored_seq s o (version_place s o k j) < 2 ^ 64
      below = (x.versions k j h (omega arith)).sum

      go : (b : Bool) → leb (version_seq s o k j) limit ≡ b
          → first_within count s o (version_place s o k (suc j)) limit ≡ Ok (located_pairs (versions_from count s o (version_place s o k (suc j)) limit))
          → first_within (suc count) s o (version_place s o k j) limit ≡ Ok (located_pairs (versions_from (suc count) s o (version_place s o k j) limit))
      go true p rest = both_met s o (version_place s o k j) limit inside below count (leb-true _ _ p)
      go false p rest =
          both_passed s o (version_place s o k j) limit inside below count (leb-false _ _ p)
          (ap (λ (a : ℕ). first_within count s o a limit) (next_place s o k j)
          ∙ rest
          ∙ ap (λ (a : ℕ). Ok (located_pairs (versions_from count s o a limit))) (sym (next_place s o k j)))

  -- the value of key k is what its lookup finds
  pub key_found : key_value s o limit (address_of s o k) (key_header_at s o.encoding (o.arena + address_of s o k))
      ≡ Ok (located_pairs (locate_of s o (key_at s o k) limit))
  unfolding key_value readable key_header_len_of key_header_size key_header_at key_header_in key_header_of version_count
  key_found =
      if_true _ _ _ (le-leb (o.arena + address_of s o k + key_header_len_of o.encoding) (length s) (x.header_inside k h))
      ∙ ap (λ (a : ℕ). first_within (version_count s o k) s o a limit) (first_place s o k)
      ∙ versions_both (version_count s o k) 0 (zero-add (version_count s o k))
      ∙ ap (λ (a : Located). Ok (located_pairs a)) (sym (located_own s o «data» es x k h limit))
