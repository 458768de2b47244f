-- Stores, and the versions that they hold (document 01, "Lookup": "a store is an accepted section (packed: the bytes written), its
-- data, list and record; its versions are its blocks' records").
use Rattle.std.specs.Prelude.{◌≡◌, ℕ, ◌≤◌}
use mathlib.Core.List.{List, Memᴰ, map}
use Rattle.sstable.specs.declared.Kind.{Kind}
use Rattle.block.specs.Walk.{Entry}
use Rattle.header.specs.declared.Opened.{Opened}
use Rattle.std.specs.Prelude.{Ok}
use Rattle.validate.specs.Walk.{value_of}
use Rattle.opening.specs.Open.{open_of}
use Rattle.packing.specs.Packing.{packed_as, open_packed_of}
use Rattle.admission.specs.Blocks.{store_entries}

-- what a linker holds: the section (packed: the bytes written), the backing data, the block list, and the opened record
pub record LinkerStore : Type 0 where
  pub bytes : List ℕ
  pub backing : List ℕ
  pub blocks : List ℕ
  pub opened : Opened

-- an accepted store: the plain opening accepted these bytes, or the packed opening a section, which it wrote as these bytes
pub data Store (t : LinkerStore) : Type 0 where
  plain_opening : (scratch : ℕ) → open_of t.bytes t.backing t.blocks scratch ≡ Ok t.opened → Store t
  packed_opening : (section : List ℕ) (scratch room : ℕ) → open_packed_of section t.backing t.blocks scratch room ≡ packed_as t.opened t.bytes
      → Store t

-- a version, as the blocks hold it
pub record Version : Type 0 where
  pub key : List ℕ
  pub seq : ℕ
  pub kind : Kind
  pub value : List ℕ

-- the version that a record of the blocks is
unfoldable pub version_in : List ℕ → Entry → Version
version_in «data» e = record { key = e.key; seq = e.seq; kind = e.kind; value = value_of «data» e }

-- the versions of a store, read off its blocks alone
unfoldable pub store_versions : LinkerStore → List Version
store_versions t = map (version_in t.backing) (store_entries t.backing t.blocks)

-- the store holds this version
unfoldable pub Holds : LinkerStore → Version → Type 0
Holds t v = Memᴰ v (store_versions t)

-- a version of a key within a limit: its sequence is not above it
pub record Within (t : LinkerStore) (key : List ℕ) (limit : ℕ) (v : Version) : Type 0 where
  pub held : Holds t v
  pub same_key : v.key ≡ key
  pub within : v.seq ≤ limit
