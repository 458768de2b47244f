-- What question 37 of writing says of the area (document 01, "Building"): the totals are counted of its keys, and the size that question 39
-- asks for is the length of what is written.
use Rattle.std.specs.Prelude.{ℕ, ◌<◌, ◌≤◌, ◌≡◌, true, List, map, length}
use Rattle.num.specs.Number.{Bytes}
use Rattle.sstable.specs.Limits.{max_key_bytes}
use Rattle.encoding.specs.declared.Totals.{Totals}
use Rattle.encoding.specs.Encoding.{encoding_of, section_len_of}
use Rattle.area.specs.Area.{keys_in_of}
use Rattle.construct.specs.Keys.{KeysStand}
use Rattle.builder.specs.declared.Builder.{Builder}
use Rattle.builder.specs.Record.{sizeable}
use Rattle.builder.specs.Add.{max_keys}
use Rattle.readback.specs.ReadBack.{reads_back_of}
use Rattle.written.specs.Arena.{KeyGroup, group_key, GroupsFit}
use Rattle.written.specs.Section.{section_bytes}
use Rattle.written.specs.Internal.{Measured}
use Rattle.writer.specs.Write.{groups_in}

-- totals that were counted of the first keys of an area: the keys lie in it, they are few and short, the sums and bounds are theirs, and
-- all their numbers fit the encoding of the totals
pub record AreaMeasured (area : List ℕ) (t : Totals) : Type 0 where
  pub count : length (groups_in area t.keys) ≡ t.keys
  pub few : t.keys ≤ max_keys
  pub keys_stand : KeysStand area t.keys
  pub keys : keys_in_of area t.keys ≡ map (λ (g : KeyGroup). g.key) (groups_in area t.keys)
  pub key_limit : (i : ℕ) → i < t.keys → length (group_key (groups_in area t.keys) i) ≤ max_key_bytes
  pub measured : Measured t (groups_in area t.keys)
  pub fits : GroupsFit (encoding_of t) t.min_seq (groups_in area t.keys)
  pub size : (seed : ℕ) (pilot owner : ℕ → ℕ) (prefix : ℕ)
      → length (section_bytes (encoding_of t) seed t.min_seq (groups_in area t.keys) pilot owner prefix) ≡ section_len_of (encoding_of t) t prefix

-- every area of bytes that reads back to a record, and every such record that has a size
unfoldable pub ReadBackMeasured : Type 0
ReadBackMeasured =
    (area : List ℕ) (b : Builder) → Bytes area → sizeable b ≡ true → reads_back_of area b ≡ true → AreaMeasured area b.totals
