-- Demand 1, of the numbers that the entries give: each entry has numbers of its own, a refusal gives one of them and never 0, and 0 is
-- given exactly if the entry accepted, answered a version or none, took what was added, told the size, or wrote the section.
use Rattle.std.specs.Prelude.{◌≡◌, ◌↔◌, ◌⊎◌, ℕ, ◌+◌, ◌≤◌, length, Some, None, Ok}
use mathlib.Core.List.{List, [], ◌∷◌, Memᴰ}
use Rattle.refusal.specs.Refusal.{answer_number}
use Rattle.header.specs.declared.Opened.{Opened}
use Rattle.opening.specs.Open.{open_of}
use Rattle.packing.specs.Packing.{open_packed_of, packed_as, packed_read}
use Rattle.locator.specs.declared.ValueLocator.{ValueLocator}
use Rattle.lookup.specs.Value.{value_number}
use Rattle.builder.specs.Offer.{Offer}
use Rattle.builder.specs.Record.{size_of_section}
use Rattle.builder.specs.Add.{BuilderState, add_of}
use Rattle.writer.specs.Write.{write_of}
use Rattle.numbers.specs.BuilderNumbers.{builder_in}
use Rattle.looks.specs.Looked.{lookup_of}

-- 0, or one of an entry's own numbers
unfoldable pub OwnNumber : List ℕ → ℕ → Type 0
OwnNumber own n = (n ≡ 0) ⊎ Memᴰ n own

-- the numbers of `kiban_open`
abbrev pub open_numbers : List ℕ
open_numbers = 1 ∷ 2 ∷ 3 ∷ 4 ∷ 5 ∷ 6 ∷ 10 ∷ 11 ∷ 12 ∷ 13 ∷ 14 ∷ 15 ∷ 16 ∷ 17 ∷ 18 ∷ 19 ∷ 20 ∷ 21 ∷ 22 ∷ 23 ∷ []

-- of `kiban_open_packed`
abbrev pub pack_numbers : List ℕ
pack_numbers = 7 ∷ 8 ∷ 9 ∷ open_numbers

-- of `kiban_lookup`
abbrev pub lookup_numbers : List ℕ
lookup_numbers = 24 ∷ 25 ∷ []

-- of `kiban_value`
abbrev pub value_numbers : List ℕ
value_numbers = 26 ∷ []

-- of `kiban_add`; these lists are no order of questions, and an add asks 37 before 34
abbrev pub add_numbers : List ℕ
add_numbers = 30 ∷ 31 ∷ 32 ∷ 33 ∷ 34 ∷ 37 ∷ []

-- of `kiban_size`
abbrev pub size_numbers : List ℕ
size_numbers = 37 ∷ []

-- of `kiban_write`
abbrev pub write_numbers : List ℕ
write_numbers = 35 ∷ 36 ∷ 37 ∷ 38 ∷ 39 ∷ 40 ∷ []

-- the plain opening of a section beside data and a block list, with a key scratch of a length
pub record OpenNumbered (s «data» blocks : List ℕ) (scratch : ℕ) : Type 0 where
  pub number : OwnNumber open_numbers (answer_number (open_of s «data» blocks scratch))
  pub zero : (answer_number (open_of s «data» blocks scratch) ≡ 0) ↔ ((o : Opened) × (open_of s «data» blocks scratch ≡ Ok o))

-- the packed opening, with an output of a length too
pub record PackNumbered (s «data» blocks : List ℕ) (scratch room : ℕ) : Type 0 where
  pub number : OwnNumber pack_numbers (answer_number (packed_read (open_packed_of s «data» blocks scratch room)))
  pub zero : (answer_number (packed_read (open_packed_of s «data» blocks scratch room)) ≡ 0)
      ↔ ((p : Opened) × ((bytes : List ℕ) × (open_packed_of s «data» blocks scratch room ≡ packed_as p bytes)))

-- a lookup of a key under a limit, over sixteen numbers as the record
pub record LookupNumbered (s numbers key : List ℕ) (limit : ℕ) : Type 0 where
  pub number : OwnNumber lookup_numbers (answer_number (lookup_of s numbers key limit))
  pub zero : (answer_number (lookup_of s numbers key limit) ≡ 0)
      ↔ ((lookup_of s numbers key limit ≡ Ok None) ⊎ ((l : ValueLocator) × (lookup_of s numbers key limit ≡ Ok (Some l))))

-- a value's offset and length
pub record ValueNumbered («data» : List ℕ) (offset len : ℕ) : Type 0 where
  pub number : OwnNumber value_numbers (value_number «data» offset len)
  pub zero : (value_number «data» offset len ≡ 0) ↔ (offset + len ≤ length «data»)

-- an add of an entry to an area, over sixteen numbers as the record
pub record AddNumbered (area numbers : List ℕ) (e : Offer) : Type 0 where
  pub number : OwnNumber add_numbers (answer_number (add_of area (builder_in numbers) e))
  pub zero : (answer_number (add_of area (builder_in numbers) e) ≡ 0) ↔ ((s : BuilderState) × (add_of area (builder_in numbers) e ≡ Ok s))

-- the size of what is written with a scan prefix
pub record SizeNumbered (numbers : List ℕ) (prefix : ℕ) : Type 0 where
  pub number : OwnNumber size_numbers (answer_number (size_of_section (builder_in numbers) prefix))
  pub zero : (answer_number (size_of_section (builder_in numbers) prefix) ≡ 0) ↔ ((n : ℕ) × (size_of_section (builder_in numbers) prefix ≡ Ok n))

-- writing with a scan prefix, with scratches and an output of these lengths
pub record WriteNumbered (area numbers : List ℕ) (prefix room64 room32 room : ℕ) : Type 0 where
  pub number : OwnNumber write_numbers (answer_number (write_of area (builder_in numbers) prefix room64 room32 room))
  pub zero : (answer_number (write_of area (builder_in numbers) prefix room64 room32 room) ≡ 0)
      ↔ ((s : List ℕ) × (write_of area (builder_in numbers) prefix room64 room32 room ≡ Ok s))

-- demand 1 of the numbers, entry by entry
unfoldable pub OpensNumbered : Type 0
OpensNumbered = (s «data» blocks : List ℕ) (scratch : ℕ) → OpenNumbered s «data» blocks scratch

unfoldable pub PacksNumbered : Type 0
PacksNumbered = (s «data» blocks : List ℕ) (scratch room : ℕ) → PackNumbered s «data» blocks scratch room

unfoldable pub LooksNumbered : Type 0
LooksNumbered = (s numbers key : List ℕ) (limit : ℕ) → LookupNumbered s numbers key limit

unfoldable pub ValuesNumbered : Type 0
ValuesNumbered = («data» : List ℕ) (offset len : ℕ) → ValueNumbered «data» offset len

unfoldable pub AddsNumbered : Type 0
AddsNumbered = (area numbers : List ℕ) (e : Offer) → AddNumbered area numbers e

unfoldable pub SizesNumbered : Type 0
SizesNumbered = (numbers : List ℕ) (prefix : ℕ) → SizeNumbered numbers prefix

unfoldable pub WritesNumbered : Type 0
WritesNumbered = (area numbers : List ℕ) (prefix room64 room32 room : ℕ) → WriteNumbered area numbers prefix room64 room32 room
