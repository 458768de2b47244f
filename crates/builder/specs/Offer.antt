-- What an add is given, and the bytes that it appends to the area.
use Rattle.std.specs.Prelude.{ℕ, ◌+◌, Bool, List, ◌++◌, length}
use Rattle.num.specs.Choice.{when◌then◌else◌}
use Rattle.num.specs.Number.{le_bytes}
use Rattle.crc32.specs.V42.{crc_of}
use Rattle.sstable.specs.declared.Kind.{Kind}
use Rattle.sstable.specs.Kind.{kind_number}
use Rattle.area.specs.Area.{head_len, area_version_len}

-- what one add is given, beside the area and the record
pub record Offer : Type 0 where
  pub kind : Kind
  pub key : List ℕ
  pub value : List ℕ
  pub seq : ℕ
  -- is it marked a new key?
  pub new_key : Bool
  -- where the value stands in the data
  pub offset : ℕ

-- the bytes that are appended for a new key, of one version so far
unfoldable pub head_bytes : List ℕ → List ℕ
head_bytes key = le_bytes 4 (length key) ++ (le_bytes 4 1 ++ key)

-- the bytes that are appended for a version
unfoldable pub version_bytes : Offer → List ℕ
version_bytes e =
    le_bytes 8 e.seq ++ (le_bytes 1 (kind_number e.kind) ++ (le_bytes 4 (length e.value) ++ (le_bytes 8 e.offset ++ le_bytes 4 (crc_of e.value))))

-- how many bytes an entry takes (question 34)
unfoldable pub entry_len : Offer → ℕ
entry_len e = area_version_len + (when e.new_key then head_len + length e.key else 0)

-- for proofs alone: `unfolding offer_defs` opens the definitions of this file
unfoldable pub offer_defs : ℕ
unfolding head_bytes version_bytes entry_len
offer_defs = 0
