-- The packed bytes of a section (document 01, "From key to slot").
use Rattle.std.specs.Prelude.{ℕ, zero, suc, ◌+◌, ◌*◌, ◌-◌, ◌^◌, List, [], ◌++◌, length, take, drop}
use Rattle.num.specs.Choice.{when◌then◌else◌}
use Rattle.num.specs.Number.{le_at, le_bytes}
use Rattle.point.specs.Hash.{is_direct, direct_slot}
use Rattle.encoding.specs.Encoding.{header_len, trailer_len}
use Rattle.header.specs.declared.Opened.{Opened}
use Rattle.header.specs.Header.{arena_end_of}

-- pilot k of a plain section
unfoldable pub pilot_at : List ℕ → ℕ → ℕ
pilot_at s k = le_at s (header_len + 4 * k) 4

-- a pilot in 3 bytes: bit 31 moved to bit 23
unfoldable pub pack_pilot : ℕ → ℕ
pack_pilot p = direct_slot p + (when is_direct p then 2 ^ 23 else 0)

-- `count` pilots from pilot k on, 3 bytes each
unfoldable pub packed_pilots : List ℕ → ℕ → ℕ → List ℕ
packed_pilots s k zero = []
packed_pilots s k (suc count) = le_bytes 3 (pack_pilot (pilot_at s k)) ++ packed_pilots s (k + 1) count

-- the address in slot i, without its fingerprint
unfoldable pub slot_address_of : List ℕ → Opened → ℕ → List ℕ
slot_address_of s o i = take o.encoding.address (drop (header_len + 4 * o.buckets + i * (o.encoding.address + 2)) s)

-- `count` addresses from slot i on
unfoldable pub packed_addresses : List ℕ → Opened → ℕ → ℕ → List ℕ
packed_addresses s o i zero = []
packed_addresses s o i (suc count) = slot_address_of s o i ++ packed_addresses s o (i + 1) count

-- the arena, without a scan part behind it
unfoldable pub arena_bytes : List ℕ → Opened → List ℕ
arena_bytes s o = take (arena_end_of s o - o.arena) (drop o.arena s)

-- the packed bytes: header, pilots, addresses, arena, and the last five bytes unchanged
unfoldable pub packed_bytes : List ℕ → Opened → List ℕ
packed_bytes s o =
    take header_len s
    ++ (packed_pilots s 0 o.buckets ++ (packed_addresses s o 0 o.count ++ (arena_bytes s o ++ drop (length s - trailer_len) s)))

-- for proofs alone: `unfolding packed_defs` opens the definitions of this file
unfoldable pub packed_defs : ℕ
unfolding pilot_at pack_pilot packed_pilots slot_address_of packed_addresses arena_bytes packed_bytes
packed_defs = 0

-- and `unfolding pilot_defs` that of one pilot
unfoldable pub pilot_defs : ℕ
unfolding pack_pilot is_direct direct_slot when◌then◌else◌
pilot_defs = 0
