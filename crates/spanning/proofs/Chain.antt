-- The keys of an accepted store with a scan part, one behind the other: their values are what their lookups find.
-- Assumes nothing.
use mathlib.Core.Path.{◌≡◌, refl, ap, ap₂, ◌∙◌, subst⁻¹}
use mathlib.Core.List.{List}
use Prim.Native.Nat.{ℕ, zero, suc, ◌+◌, ◌*◌, ◌%◌, ◌^◌, ◌<◌, ◌≤◌}
use native.Mathlib.Nat.{mod-eq_of_lt}
use native.Mathlib.Omega.{arith}
use Rattle.std.specs.Prelude.{Ok}
use Rattle.num.specs.Number.{Bytes, le_at}
use Rattle.num.proofs.Number.{le_at-lt}
use Rattle.block.specs.Walk.{Entry}
use Rattle.encoding.specs.Encoding.{key_header_len_of, version_len_of, scan_header_len}
use Rattle.arena.specs.Key.{key_header_at}
use Rattle.agreement.specs.Keys.{key_header_size, version_size, key_header_in, key_record_len, address_of}
use Rattle.agreement.specs.Agrees.{Agrees}
use Rattle.locating.specs.Store.{LinkerStore}
use Rattle.locating.specs.Looks.{lookup}
use Rattle.locating.proofs.Indexed.{Indexed}
use Rattle.spans.specs.Span.{scan_address, versions_start, next_address_of, pairs_joined, values_from}
use Rattle.spanning.specs.Spans.{Scans, lookup_pairs}
use Rattle.spanning.proofs.Keys.{arena_keys}
use Rattle.spanning.proofs.Values.{key_found}

module _ (t : LinkerStore) {scratch : ℕ} {es : List Entry} (bytes : Bytes t.bytes) (c : Scans t)
    (a : Agrees t.bytes t.backing scratch t.opened es) (x : Indexed t.bytes t.opened t.backing es) where
  open t use {bytes as s, backing as «data», opened as o}

  -- the scan address of a key is its address
  address_scanned : (k : ℕ) → k < o.count → scan_address s o k ≡ address_of s o k
  unfolding scan_address
  address_scanned k h = a.scanned c.scan k h

  -- which has four bytes
  address_lt : (k : ℕ) → k < o.count → address_of s o k < 2 ^ 32
  unfolding scan_address
  address_lt k h =
      let e = address_scanned k h in
      let p = o.scan + scan_header_len + k * o.encoding.address in
      let l : scan_address s o k < 2 ^ 32 = subst⁻¹ (λ (w : ℕ). le_at s p w < 2 ^ 32) c.four (le_at-lt s bytes 4 p) in
      omega arith

  -- so that of the next key stands behind a key record
  address_behind : (k : ℕ) → suc k < o.count → next_address_of o (address_of s o k) (key_header_at s o.encoding (o.arena + address_of s o k)) ≡ address_of s o (suc k)
  unfolding next_address_of versions_start address_of key_record_len key_header_len_of key_header_size version_len_of version_size key_header_at key_header_in
  address_behind k h =
      let n = key_header_at s o.encoding (o.arena + address_of s o k) in
      let e : address_of s o k + versions_start o n + n.versions * version_len_of o.encoding ≡ address_of s o (suc k) = omega arith in
      ap (λ (m : ℕ). m % 2 ^ 32) e ∙ mod-eq_of_lt (address_lt (suc k) h)

  -- where no key is left, the address plays no part
  keys_behind_lem : (count k limit : ℕ) → k + suc count ≤ o.count
      → values_from count s o limit (next_address_of o (address_of s o k) (key_header_at s o.encoding (o.arena + address_of s o k)))
      ≡ values_from count s o limit (address_of s o (suc k))
  unfolding values_from
  keys_behind_lem zero k limit h = refl
  keys_behind_lem (suc count) k limit h = ap (values_from (suc count) s o limit) (address_behind k (omega arith))

  -- the values of some keys
  keys_found : (count k limit : ℕ) → k + count ≤ o.count → values_from count s o limit (address_of s o k) ≡ Ok (lookup_pairs t limit (arena_keys s o count k))
  unfolding values_from arena_keys lookup_pairs lookup pairs_joined
  keys_found zero k limit h = refl
  keys_found (suc count) k limit h =
      ap₂ pairs_joined (key_found s o «data» es x k (omega arith) limit)
      (keys_behind_lem count k limit h ∙ keys_found count (suc k) limit (omega arith))

  -- from the scan address of the first
  pub scanned_found : (first count limit : ℕ) → first + count ≤ o.count
      → values_from count s o limit (scan_address s o first) ≡ Ok (lookup_pairs t limit (arena_keys s o count first))
  unfolding values_from arena_keys lookup_pairs
  scanned_found first zero limit h = refl
  scanned_found first (suc count) limit h =
      ap (values_from (suc count) s o limit) (address_scanned first (omega arith)) ∙ keys_found (suc count) first limit h
