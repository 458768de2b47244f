-- What the openings accept, question by question, in plain terms (document 01, "Opening, question by question").
use Rattle.std.specs.Prelude.{◌≡◌, ◌↔◌, true, List, ℕ, ◌%◌, ◌^◌, ◌<◌, ◌≤◌, Ok}
use Rattle.sstable.specs.Trailer.{SoundTrailer}
use Rattle.header.specs.declared.Opened.{Opened}
use Rattle.header.specs.Header.{packed_record}
use Rattle.header.specs.Facts.{Header}
use Rattle.opening.specs.Open.{open_of}
use Rattle.packing.specs.Packing.{packed_as, open_packed_of}
use Rattle.packed.specs.Packed.{packed_bytes}
use Rattle.agreement.specs.Agrees.{Agrees}
use Rattle.admission.specs.Blocks.{Covers, store_entries}
use Rattle.admission.specs.Layout.{pilot_number, packed_length, PackedLayout}

-- question 10: a pilot with bit 31 is direct, and the rest of it, its slot, is below n
pub record PilotsInside (s : List ℕ) (o : Opened) : Type 0 where
  pub direct : (k : ℕ) → k < o.buckets → 2 ^ 31 ≤ pilot_number s k → pilot_number s k % 2 ^ 31 < o.count

-- a section beside backing data and a block list, for a key scratch of a length, with the record that its header says
pub record Admits (s «data» blocks : List ℕ) (scratch : ℕ) (o : Opened) : Type 0 where
  -- questions 1 and 2
  pub trailer : SoundTrailer s
  -- questions 3 to 6
  pub header : Header s o
  -- question 10
  pub pilots : PilotsInside s o
  -- questions 11 to 13 of every pair, and 22 of the data
  pub covers : Covers «data» blocks
  -- questions 14 to 23 of every record, key and version
  pub agrees : Agrees s «data» scratch o (store_entries «data» blocks)

-- question 8: each pilot without bit 31 is below 2^23
pub record PilotsPack (s : List ℕ) (o : Opened) : Type 0 where
  pub below : (k : ℕ) → k < o.buckets → pilot_number s k % 2 ^ 31 < 2 ^ 23

-- the same for a packed opening with an output of a length; the record is still the one that the section's header says
pub record AdmitsPacked (s «data» blocks : List ℕ) (scratch room : ℕ) (o : Opened) : Type 0 where
  -- questions 1 to 6 and 10 to 23
  pub admits : Admits s «data» blocks scratch o
  -- question 7
  pub checksums : o.encoding.checksum ≡ true
  pub few : o.count < 2 ^ 23
  -- question 8
  pub pilots : PilotsPack s o
  -- question 9
  pub holds : packed_length s o ≤ room

-- a record and bytes are the packed form of a section that is admitted packed
pub record PackedFrom (s «data» blocks : List ℕ) (scratch room : ℕ) (p : Opened) (bytes : List ℕ) : Type 0 where
  -- the record that the section's header says
  pub plain : Opened
  pub admits : AdmitsPacked s «data» blocks scratch room plain
  pub same_record : p ≡ packed_record plain
  pub same_bytes : bytes ≡ packed_bytes s plain

-- promise P2: a plain opening accepts exactly what is admitted, and then gives the record that the header says
unfoldable pub OpensExactly : Type 0
OpensExactly = (s «data» blocks : List ℕ) (scratch : ℕ) (o : Opened) → (open_of s «data» blocks scratch ≡ Ok o) ↔ Admits s «data» blocks scratch o

-- promise P2 of the packed form: a packed opening accepts exactly what is admitted packed, and then gives the packed record and bytes
unfoldable pub PacksExactly : Type 0
PacksExactly =
    (s «data» blocks : List ℕ) (scratch room : ℕ) (p : Opened) (bytes : List ℕ)
    → (open_packed_of s «data» blocks scratch room ≡ packed_as p bytes) ↔ PackedFrom s «data» blocks scratch room p bytes

-- and those bytes have the packed layout
unfoldable pub PacksLaidOut : Type 0
PacksLaidOut =
    (s «data» blocks : List ℕ) (scratch room : ℕ) (o : Opened) → AdmitsPacked s «data» blocks scratch room o → PackedLayout s o (packed_bytes s o)
