-- The writers, turn by turn: what is left to write from a turn on gives the same as what was left before it.
-- Assumes nothing.
use mathlib.Core.Path.{◌≡◌, refl, sym, ap, ◌∙◌}
use mathlib.Core.List.{List, ◌++◌, append_assoc}
use Prim.Native.Nat.{ℕ, suc, ◌+◌, ◌*◌, ◌-◌, ◌<◌, ◌≤◌}
use native.Mathlib.Nat.{add-mul}
use native.Mathlib.Omega.{arith}
use lib.ListN.{length, take, drop, length-append}
use lib.Seq.{sets, take_all, length-take-le}
use Rattle.num.specs.Number.{le_bytes}
use Rattle.num.proofs.Lists.{part_length}
use Rattle.num.proofs.Number.{length_le_bytes}
use Rattle.encoding.specs.Encoding.{header_len, trailer_len}
use Rattle.header.specs.declared.Opened.{Opened}
use Rattle.header.specs.Header.{arena_end_of, packed_record}
use Rattle.header.specs.Facts.{Header}
use Rattle.packed.specs.Packed.{pilot_at, pack_pilot, packed_pilots, slot_address_of, packed_addresses, arena_bytes, packed_bytes}
use Rattle.packed.proofs.Laws.{sets_first, five_lists}
use Rattle.packed.proofs.Lengths.{length_pilots, length_address, length_addresses, slots_fit, length_last, packed_arena_lem, packed_places}

module _ (s : List ℕ) where
  pilots_next : (k n m : ℕ) → n ≡ suc m → packed_pilots s k n ≡ le_bytes 3 (pack_pilot (pilot_at s k)) ++ packed_pilots s (k + 1) m
  unfolding packed_pilots
  pilots_next k n m e = ap (packed_pilots s k) e

  pub pilots_turn : (out : List ℕ) (k n : ℕ) → k < n
      → sets (sets out (3 * k) (le_bytes 3 (pack_pilot (pilot_at s k)))) (3 * (k + 1)) (packed_pilots s (k + 1) (n - (k + 1))) ≡ sets out (3 * k) (packed_pilots s k (n - k))
  pilots_turn out k n h =
      sets_first out (le_bytes 3 (pack_pilot (pilot_at s k))) (packed_pilots s (k + 1) (n - (k + 1))) (packed_pilots s k (n - k)) (3 * k) (3 * (k + 1))
      (omega (arith, length_le_bytes 3 (pack_pilot (pilot_at s k)))) (sym (pilots_next k (n - k) (n - (k + 1)) (omega arith)))

  pub pilots_done : (out : List ℕ) (at k n : ℕ) → n ≤ k → sets out at (packed_pilots s k (n - k)) ≡ out
  unfolding packed_pilots
  pilots_done out at k n h = let e : n - k ≡ 0 = omega arith in ap (λ (m : ℕ). sets out at (packed_pilots s k m)) e

  module _ (o : Opened) where
    addresses-next : (i n m : ℕ) → n ≡ suc m → packed_addresses s o i n ≡ slot_address_of s o i ++ packed_addresses s o (i + 1) m
    unfolding packed_addresses
    addresses-next i n m e = ap (packed_addresses s o i) e

    pub addresses_turn : (out : List ℕ) (i : ℕ) → i < o.count → header_len + 4 * o.buckets + o.count * (o.encoding.address + 2) ≤ length s
        → sets (sets out (i * o.encoding.address) (slot_address_of s o i)) ((i + 1) * o.encoding.address) (packed_addresses s o (i + 1) (o.count - (i + 1)))
        ≡ sets out (i * o.encoding.address) (packed_addresses s o i (o.count - i))
    addresses_turn out i l h =
        sets_first out (slot_address_of s o i) (packed_addresses s o (i + 1) (o.count - (i + 1))) (packed_addresses s o i (o.count - i))
        (i * o.encoding.address) ((i + 1) * o.encoding.address)
        (omega (arith, length_address s o i l h, add-mul i 1 o.encoding.address)) (sym (addresses-next i (o.count - i) (o.count - (i + 1)) (omega arith)))

    pub addresses_done : (out : List ℕ) (at i : ℕ) → o.count ≤ i → sets out at (packed_addresses s o i (o.count - i)) ≡ out
    unfolding packed_addresses
    addresses_done out at i h = let e : o.count - i ≡ 0 = omega arith in ap (λ (m : ℕ). sets out at (packed_addresses s o i m)) e

-- the packed bytes, written in three runs: the tables, the arena, and the last five bytes
module _ (s : List ℕ) (o : Opened) (h : Header s o) (p : Opened) (end : ℕ) (e : p ≡ packed_record o) (f : end ≡ arena_end_of s o) where
  abbrev tables : List ℕ
  tables = take header_len s ++ (packed_pilots s 0 o.buckets ++ packed_addresses s o 0 o.count)

  abbrev arena : List ℕ
  arena = take (end - o.arena) (drop o.arena s)

  abbrev last : List ℕ
  last = drop (length s - trailer_len) s

  length_tables : length tables ≡ p.arena
  length_tables =
      let q = packed_pilots s 0 o.buckets in
      let a = packed_addresses s o 0 o.count in
      omega (
        arith,
        length-append (take header_len s) (q ++ a),
        length-append q a,
        length-take-le header_len s (omega (arith, h.begins.long)),
        length_pilots s 0 o.buckets,
        length_addresses s o 0 o.count (omega arith) (slots_fit s o h),
        packed_arena_lem s o h p e,
      )

  runs : tables ++ (arena ++ last) ≡ packed_bytes s o
  unfolding packed_bytes arena_bytes
  runs =
      ap (λ (m : ℕ). tables ++ (take (m - o.arena) (drop o.arena s) ++ last)) f
      ∙ five_lists (take header_len s) (packed_pilots s 0 o.buckets) (packed_addresses s o 0 o.count) (arena_bytes s o) last

  pub packed_written_lem : (out x l₂ l₃ : List ℕ)
      → x ≡ sets out 0 (take header_len s ++ (packed_pilots s 0 o.buckets ++ packed_addresses s o 0 o.count))
      → l₂ ≡ sets x p.arena (take (end - o.arena) (drop o.arena s))
      → l₃ ≡ sets l₂ (p.arena + (end - o.arena)) (take (length s - (length s - trailer_len)) (drop (length s - trailer_len) s))
      → l₃ ≡ sets out 0 (packed_bytes s o)
  packed_written_lem out x l₂ l₃ a b c =
      let n = packed_places s o h p end e f in
      let i = part_length s o.arena (end - o.arena) (omega arith) in
      let t = length_tables in
      c
      ∙ ap (sets l₂ (p.arena + (end - o.arena))) (take_all (length s - (length s - trailer_len)) last (omega (arith, length_last s o h)))
      ∙ ap (λ (y : List ℕ). sets y (p.arena + (end - o.arena)) last)
      (b ∙ ap (λ (y : List ℕ). sets y p.arena arena) a ∙ sets_first out tables arena (tables ++ arena) 0 p.arena (omega arith) refl)
      ∙ sets_first out (tables ++ arena) last (tables ++ (arena ++ last)) 0 (p.arena + (end - o.arena))
      (omega (arith, length-append tables arena)) (append_assoc tables arena last)
      ∙ ap (sets out 0) runs
