-- From key to slot, as point.rs defines it (document 01, "From key to slot").
use Rattle.std.specs.Prelude.{ℕ, zero, suc, ◌+◌, ◌*◌, ◌/◌, ◌%◌, ◌^◌, Bool, List, leb, length}
use Rattle.std.specs.Int.Bits.{bit_xor}
use Rattle.num.specs.Number.{le_at}
use Rattle.num.specs.Wrapping.{mul_mod, rotl}
use Rattle.num.specs.Choice.{when◌then◌else◌}

-- `STEP` of point.rs
abbrev pub hash_step : ℕ
hash_step = 0x9e3779b97f4a7c15

unfoldable pub xor_shift : ℕ → ℕ → ℕ
xor_shift h k = bit_xor h (h / 2 ^ k)

unfoldable pub mix_of : ℕ → ℕ
mix_of h = xor_shift (mul_mod (xor_shift (mul_mod (xor_shift h 30) 0xbf58476d1ce4e5b9) 27) 0x94d049bb133111eb) 31

-- the hash after one more chunk
unfoldable pub hash_chunk : ℕ → ℕ → ℕ
hash_chunk h chunk = mul_mod (rotl (bit_xor h chunk) 27) hash_step

-- the hash after `count` more chunks of eight bytes, the first of them at `at`
unfoldable pub chunks_of : ℕ → List ℕ → ℕ → ℕ → ℕ
chunks_of zero key at h = h
chunks_of (suc count) key at h = chunks_of count key (at + 8) (hash_chunk h (le_at key at 8))

-- the bytes after the last whole chunk, as a chunk filled up with zeros
unfoldable pub tail_of : List ℕ → ℕ
tail_of key = le_at key (8 * (length key / 8)) (length key % 8)

unfoldable pub hash_value : List ℕ → ℕ → ℕ
hash_value key seed = mix_of (bit_xor (chunks_of (length key / 8) key 0 (mix_of (bit_xor seed (length key)))) (tail_of key))

unfoldable pub fingerprint_of : ℕ → ℕ
fingerprint_of h = mix_of (bit_xor h 0xd6e8feb86659fd93) / 2 ^ 48

-- for a count of at least 1
unfoldable pub bucket_of : ℕ → ℕ → ℕ
bucket_of h count = h % count

-- for n of at least 1
unfoldable pub position_of : ℕ → ℕ → ℕ → ℕ
position_of h pilot n = mix_of (bit_xor h (mul_mod pilot hash_step)) % n

-- does a pilot, a number of 32 bits, have bit 31? Then it is at least 2^31.
unfoldable pub is_direct : ℕ → Bool
is_direct pilot = leb (2 ^ 31) pilot

-- the pilot without bit 31
unfoldable pub direct_slot : ℕ → ℕ
direct_slot pilot = pilot % 2 ^ 31

-- `index` of point.rs for the pilot of the bucket: a pilot with bit 31 names its slot, another gives a position
unfoldable pub slot_of : ℕ → ℕ → ℕ → ℕ
slot_of h pilot n = when is_direct pilot then direct_slot pilot else position_of h pilot n

-- for proofs alone: `unfolding hash_defs` opens the definitions of this file
unfoldable pub hash_defs : ℕ
unfolding xor_shift mix_of hash_chunk chunks_of tail_of hash_value fingerprint_of bucket_of position_of is_direct direct_slot slot_of
hash_defs = 0

-- and `unfolding slot_defs` those of a slot alone
unfoldable pub slot_defs : ℕ
unfolding is_direct direct_slot slot_of when◌then◌else◌
slot_defs = 0
