-- The builder's area: for each key a head (the key's length and its number of versions, 4 bytes each) and the key, then 25 bytes for
-- each version: sequence 8, kind 1, value length 4, value offset 8, CRC-32 of the value 4.
use Rattle.std.specs.Prelude.{ℕ, zero, suc, ◌+◌, ◌*◌, List, [], ◌∷◌, get_or, take, drop}
use Rattle.num.specs.Number.{le_at}

-- the bytes of a head, and of a version
abbrev pub head_len : ℕ
head_len = 8

abbrev pub area_version_len : ℕ
area_version_len = 25

-- of the key whose head stands at a place: its length, its number of versions, its bytes
unfoldable pub area_key_len : List ℕ → ℕ → ℕ
area_key_len area head = le_at area head 4

unfoldable pub area_versions : List ℕ → ℕ → ℕ
area_versions area head = le_at area (head + 4) 4

unfoldable pub area_key : List ℕ → ℕ → List ℕ
area_key area head = take (area_key_len area head) (drop (head + head_len) area)

-- the place of its first version, and the place behind its last one
unfoldable pub first_version_at : List ℕ → ℕ → ℕ
first_version_at area head = head + head_len + area_key_len area head

unfoldable pub next_head : List ℕ → ℕ → ℕ
next_head area head = first_version_at area head + area_version_len * area_versions area head

-- of the version at a place: its kind byte, its value length, its value offset and its value's CRC-32; its sequence stands at the place itself
unfoldable pub area_kind : List ℕ → ℕ → ℕ
area_kind area place = get_or area (place + 8) 0

unfoldable pub area_size : List ℕ → ℕ → ℕ
area_size area place = le_at area (place + 9) 4

unfoldable pub area_offset : List ℕ → ℕ → ℕ
area_offset area place = le_at area (place + 13) 8

unfoldable pub area_checksum : List ℕ → ℕ → ℕ
area_checksum area place = le_at area (place + 21) 4

-- so many keys, the first of whose heads stands at a place
unfoldable pub keys_from_of : ℕ → List ℕ → ℕ → List (List ℕ)
keys_from_of zero area head = []
keys_from_of (suc count) area head = area_key area head ∷ keys_from_of count area (next_head area head)

-- the place behind them
unfoldable pub keys_end : ℕ → List ℕ → ℕ → ℕ
keys_end zero area head = head
keys_end (suc count) area head = keys_end count area (next_head area head)

-- the first keys of the area
unfoldable pub keys_in_of : List ℕ → ℕ → List (List ℕ)
keys_in_of area count = keys_from_of count area 0

-- for proofs alone: `unfolding area_defs` opens the definitions of this file
unfoldable pub area_defs : ℕ
unfolding area_key_len area_versions area_key first_version_at next_head area_kind area_size area_offset area_checksum keys_from_of keys_end keys_in_of
area_defs = 0
