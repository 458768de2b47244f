-- The lengths of bounded totals are small, so no sum wraps.
-- Assumes nothing.
use mathlib.Core.Path.{refl}
use Prim.Native.Nat.{ℕ, ◌+◌, ◌*◌, ◌^◌, ◌<◌, ◌≤◌}
use native.Mathlib.Nat.{mul-le-mul}
use native.Mathlib.Omega.{arith}
use lib.Dec.{ltb}
use Rattle.num.specs.Choice.{when◌then◌else◌, either, one_of}
use Rattle.num.proofs.Choice.{if_case}
use Rattle.encoding.specs.declared.Totals.{Totals}
use Rattle.encoding.specs.declared.Encoding.{Encoding}
use Rattle.encoding.specs.Encoding.{Widths, Bounded, key_header_len_of, version_len_of, arena_len_of, scan_len_of, section_len_of, arena_start_of, buckets_of, encoding_with, encoding_of}
use Rattle.encoding.proofs.Widths.{widths_le, encoding_with-widths, address_width_of-case}

pub key_header_le : (e : Encoding) → Widths e → key_header_len_of e ≤ 20
unfolding key_header_len_of
key_header_le e w = let h = widths_le e w in omega arith

pub version_le : (e : Encoding) → Widths e → version_len_of e ≤ 24
unfolding version_len_of
version_le e w =
    let h = widths_le e w in
    let c : when◌then◌else◌ e.checksum 4 0 ≤ 4 = if_case (λ n. n ≤ 4) e.checksum 4 0 (λ _. omega arith) (λ _. omega arith) in
    omega arith

-- a product of a bounded total and a width
pub product_le : (n k b : ℕ) → n ≤ 2 ^ 30 → k ≤ b → n * k ≤ 2 ^ 30 * b
product_le n k b h l = mul-le-mul h l

-- the arena is below 2^36 bytes
pub arena_len_le : (e : Encoding) (t : Totals) → Widths e → Bounded t → arena_len_of e t ≤ 45 * 2 ^ 30
unfolding arena_len_of
arena_len_le e t w b =
    let h = product_le t.keys (key_header_len_of e) 20 b.keys (key_header_le e w) in
    let v = product_le t.versions (version_len_of e) 24 b.versions (version_le e w) in
    omega arith

pub scan_len_le : (e : Encoding) (t : Totals) (prefix : ℕ) → Widths e → Bounded t → scan_len_of e t prefix ≤ 8 * 2 ^ 30 + 32
unfolding scan_len_of
scan_len_le e t prefix w b =
    let h = product_le t.keys e.address 8 b.keys (widths_le e w).0 in
    if_case (λ n. n ≤ 8 * 2 ^ 30 + 32) (ltb 0 prefix) _ _ (λ _. omega arith) (λ _. omega arith)

arena_start_le : (e : Encoding) (t : Totals) → Widths e → Bounded t → arena_start_of t.keys e.address ≤ 12 * 2 ^ 30 + 68
unfolding arena_start_of buckets_of
arena_start_le e t w b =
    let a = (widths_le e w).0 in
    let h = product_le t.keys (e.address + 2) 10 b.keys (omega arith) in
    omega arith

-- a section is below 2^37 bytes
pub section_len_le : (e : Encoding) (t : Totals) (prefix : ℕ) → Widths e → Bounded t → section_len_of e t prefix ≤ 65 * 2 ^ 30 + 105
unfolding section_len_of
section_len_le e t prefix w b =
    let s = arena_start_le e t w b in
    let a = arena_len_le e t w b in
    let p = scan_len_le e t prefix w b in
    omega arith

-- what the parts of a section's length come to
pub parts_le : (e : Encoding) (t : Totals) → Widths e → Bounded t
    → (e.address ≤ 8) × (t.keys ≤ 2 ^ 30) × (t.keys * e.address ≤ 8 * 2 ^ 30) × (t.keys * (e.address + 2) ≤ 10 * 2 ^ 30)
    × (arena_len_of e t ≤ 45 * 2 ^ 30)
parts_le e t w b =
    let a = (widths_le e w).0 in
    (a, b.keys, product_le t.keys e.address 8 b.keys a, product_le t.keys (e.address + 2) 10 b.keys (omega arith), arena_len_le e t w b)

-- an address up to the arena's length fits the address width
pub address_fits : (t : Totals) (a : ℕ) → Bounded t → a ≤ arena_len_of (encoding_of t) t → a < 2 ^ (8 * (encoding_of t).address)
unfolding encoding_of encoding_with one_of either
address_fits t a b =
    address_width_of-case (λ w. a ≤ arena_len_of (encoding_with w t) t → a < 2 ^ (8 * w)) (arena_len_of (encoding_with 4 t) t) t.last_value_offset
    (λ l _ h. omega arith)
    (λ h. let l = arena_len_le (encoding_with 8 t) t (encoding_with-widths 8 t refl b) b in omega arith)
