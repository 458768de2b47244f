-- Where construction keeps what in the lent scratch of 32-bit numbers, for n keys (document 01, question 38: 6n + 8 numbers).
use Rattle.std.specs.Prelude.{ℕ, ◌+◌, ◌*◌, List, take, drop}
use Rattle.encoding.specs.Encoding.{buckets_of}
use Rattle.construction.specs.Construct.{Placement}

-- for each bucket how many keys the buckets before it have, and two more places
abbrev pub starts_at : ℕ
starts_at = 0

-- the members of all buckets, one bucket behind the other
unfoldable pub members_at : ℕ → ℕ
members_at n = buckets_of n + 2

-- for each size how many buckets are larger, and three more places; later the candidates of a pilot
unfoldable pub candidates_at : ℕ → ℕ
candidates_at n = buckets_of n + 2 + n

-- the buckets in their order
unfoldable pub order_at : ℕ → ℕ
order_at n = buckets_of n + 5 + 2 * n

-- the pilots; before that the classes that the buckets are ordered by
unfoldable pub pilots_at : ℕ → ℕ
pilots_at n = 2 * buckets_of n + 5 + 2 * n

-- the slots; before that the bucket of each key
unfoldable pub slots_at : ℕ → ℕ
slots_at n = 3 * buckets_of n + 5 + 2 * n

-- for each slot which candidate it is, if it is one
unfoldable pub indices_at : ℕ → ℕ
indices_at n = 3 * buckets_of n + 5 + 3 * n

-- all together
unfoldable pub scratch_len : ℕ → ℕ
scratch_len n = 3 * buckets_of n + 5 + 4 * n

-- pilots and slots, read back
unfoldable pub placement_in : ℕ → List ℕ → Placement
placement_in n s = record { pilots = take (buckets_of n) (drop (pilots_at n) s); slots = take n (drop (slots_at n) s) }

-- for proofs alone: `unfolding scratch_defs` opens the definitions of this file
unfoldable pub scratch_defs : ℕ
unfolding members_at candidates_at order_at pilots_at slots_at indices_at scratch_len placement_in
scratch_defs = 0
