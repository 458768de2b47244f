-- Walks over the keys of an area, seen as lists of bytes.
use Rattle.std.specs.Prelude.{ℕ, List}
use Rattle.area.specs.Area.{area_key, keys_from_of}
use Rattle.area.specs.declared.Key.{Key}
use Rattle.area.specs.declared.Keys.{Keys}

abbrev pub key_of : Key → List ℕ
key_of k = area_key k.area.now k.head

-- the keys that are left
abbrev pub keys_of : Keys → List (List ℕ)
keys_of k = keys_from_of k.count k.area.now k.head
