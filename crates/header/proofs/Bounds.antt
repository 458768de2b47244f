-- The places and lengths that an accepted header's numbers say, and their bounds.
-- Assumes nothing.
use mathlib.Core.Path.{◌≡◌, refl}
use mathlib.Core.Bool.{Bool, true, false}
use mathlib.Core.List.{List}
use Prim.Native.Nat.{ℕ, ◌+◌, ◌*◌, ◌-◌, ◌^◌, ◌<◌, ◌≤◌}
use native.Mathlib.Nat.{mul-le-mul, le_of_lt}
use native.Mathlib.Omega.{arith}
use lib.Dec.{eqb}
use lib.ListN.{length}
use borrow.Author.Tests.{eqb-false}
use Rattle.num.proofs.Choice.{if_case, one_of-case}
use Rattle.num.proofs.Parts.{entry_inside}
use Rattle.encoding.specs.Encoding.{trailer_len, header_len, scan_header_len}
use Rattle.header.specs.declared.Opened.{Opened}
use Rattle.header.specs.Header.{scan_flagged, arena_end_of}
use Rattle.header.specs.Facts.{Dimensions, Scan, Header, PackedHeader, IsRecord, from_plain, from_packed}
use Rattle.header.proofs.Numbers.{scan_flag_lem, no_scan_flag}

-- a product of a number of keys and a width
pub product_le : (n k b : ℕ) → n < 2 ^ 31 → k ≤ b → n * k ≤ 2 ^ 31 * b
product_le n k b h l = mul-le-mul (le_of_lt h) l

-- ---- of the counts and widths alone

module _ (o : Opened) (d : Dimensions o) where
  address_case : (P : ℕ → Type 0) → P 4 → P 8 → P o.encoding.address
  address_case P four eight = one_of-case P _ _ d.widths.address (four, (eight, tt))

  -- at least one bucket, and at most 2^30
  pub buckets_range : (1 ≤ o.buckets) × (o.buckets ≤ 2 ^ 30) × (o.count ≤ 2 * o.buckets) × (2 * o.buckets ≤ o.count + 1)
  buckets_range = let h = d.halved in let n = d.some in let f = d.few in (omega arith, omega arith, omega arith, omega arith)

  -- the addresses of all keys are less than 2^35 bytes
  pub addresses_lt : o.count * o.encoding.address < 2 ^ 35
  addresses_lt = let f = d.few in address_case (λ a. o.count * a < 2 ^ 35) (omega arith) (omega arith)

  -- so no sum of the packed arena's start wraps
  pub start_small : (o.count * o.encoding.address < 2 ^ 35) × (o.buckets ≤ 2 ^ 30)
  start_small = (addresses_lt, buckets_range.1)

-- ---- of a plain record

module _ (s : List ℕ) (o : Opened) (h : Header s o) where
  -- the arena starts behind the header, the pilots and the slots
  pub arena_start : o.arena ≡ header_len + 4 * o.buckets + o.count * (o.encoding.address + 2)
  arena_start = h.start

  -- the four bytes of a pilot lie before the arena
  pub pilot_inside : (bucket : ℕ) → bucket < o.buckets → header_len + 4 * bucket + 4 ≤ o.arena
  pilot_inside bucket l = let e = arena_start in omega arith

  -- the address and the fingerprint of a slot lie before the arena
  pub slot_inside : (slot : ℕ) → slot < o.count → header_len + 4 * o.buckets + slot * (o.encoding.address + 2) + o.encoding.address + 2 ≤ o.arena
  slot_inside slot l = omega (arith, arena_start, entry_inside slot o.count (o.encoding.address + 2) l)

  -- a record with a scan place has a scan part
  pub scan_part_lem : (o.scan ≡ 0 → ⊥) → Scan s o
  scan_part_lem n = go (scan_flagged s) refl
    where
      go : (t : Bool) → scan_flagged s ≡ t → Scan s o
      go true t = h.scanned (scan_flag_lem s h.flags t)
      go false t = absurd (n (h.unscanned (no_scan_flag s h.flags t)))

  -- the scan part, its length and the last five bytes end the section
  pub scan_end : Scan s o → o.scan + scan_header_len + o.count * o.encoding.address + 8 + trailer_len ≡ length s
  scan_end k = omega (arith, k.place)

-- ---- of a packed record

module _ (s : List ℕ) (o : Opened) (h : PackedHeader s o) where
  -- the arena starts behind the header, pilots of three bytes and addresses without fingerprints
  pub packed_start : o.arena ≡ header_len + 3 * o.buckets + o.count * o.encoding.address
  packed_start = h.start

  -- the three bytes of a pilot lie before the arena
  pub packed_pilot_inside : (bucket : ℕ) → bucket < o.buckets → header_len + 3 * bucket + 3 ≤ o.arena
  packed_pilot_inside bucket l = let e = packed_start in omega arith

-- ---- of both

-- the arena's start is before its end, and the end is not in the last five bytes
pub arena_end : (s : List ℕ) (o : Opened) → IsRecord s o → (o.arena < arena_end_of s o) × (arena_end_of s o ≤ length s - trailer_len)
unfolding arena_end_of
arena_end s o (from_plain h) =
    if_case (λ n. (o.arena < n) × (n ≤ length s - trailer_len)) (eqb o.scan 0) _ _
    (λ _. (h.below, omega arith))
    (λ f. let k = scan_part_lem s o h (eqb-false o.scan 0 f) in (k.after, omega (arith, k.place)))
arena_end s o (from_packed h) =
    if_case (λ n. (o.arena < n) × (n ≤ length s - trailer_len)) (eqb o.scan 0) _ _
    (λ _. (h.below, omega arith))
    (λ f. absurd (eqb-false o.scan 0 f h.unscanned))

pub record_dimensions : (s : List ℕ) (o : Opened) → IsRecord s o → Dimensions o
record_dimensions s o (from_plain h) = h.dimensions
record_dimensions s o (from_packed h) = h.dimensions
