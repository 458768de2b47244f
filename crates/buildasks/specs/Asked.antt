-- What the entries of building ask (document 01, "Building"), in plain terms over the sixteen numbers and the area that they are lent, whatever
-- these are: forged ones too. A result is the number of the first question that is answered with no, or 0.
use Rattle.std.specs.Prelude.{◌≡◌, true, List, ◌↔◌, ◌⊎◌, ℕ, ◌+◌, ◌*◌, ◌^◌, ◌<◌, ◌≤◌, eqb, length, Ok}
use Rattle.num.specs.Choice.{when◌then◌else◌}
use Rattle.num.specs.Number.{le_at}
use Rattle.construction.specs.Promises.{Fails}
use Rattle.area.specs.Area.{keys_in_of}
use Rattle.builder.specs.Record.{size_of_section}
use Rattle.readback.specs.ReadBack.{reads_back_of}
use Rattle.numbers.specs.BuilderNumbers.{builder_in}
use Rattle.calls.specs.Calls.{place}
use Rattle.buildcalls.specs.BuildCalls.{AddLent, AddCall, SizeCall, WriteLent, WriteCall}

-- ---- question 37 of sixteen numbers

-- the last four places are 0, and the seven totals are at most 2^30
pub record TotalsSmall (numbers : List ℕ) : Type 0 where
  pub zeros : (i : ℕ) → 12 ≤ i → i < 16 → place numbers i ≡ 0
  pub keys : place numbers 0 ≤ 2 ^ 30
  pub versions : place numbers 1 ≤ 2 ^ 30
  pub suffix_bytes : place numbers 2 ≤ 2 ^ 30
  pub used : place numbers 3 ≤ 2 ^ 30
  pub longest_key : place numbers 6 ≤ 2 ^ 30
  pub longest_value : place numbers 7 ≤ 2 ^ 30
  pub most_versions : place numbers 8 ≤ 2 ^ 30

-- the key whose head stands at a place lies in the used area: 8 bytes, of which the first 4 are its length, and as many bytes as these say
unfoldable pub KeyLies : List ℕ → List ℕ → ℕ → Type 0
KeyLies area numbers head = head + 8 + le_at area head 4 ≤ place numbers 3

-- question 37 of `kiban_add`
pub record Stands (area numbers : List ℕ) : Type 0 where
  pub totals : TotalsSmall numbers
  -- the used area lies in the lent one
  pub inside : place numbers 3 ≤ length area
  -- if there is a key, the last one and the anchor lie in the used area, and the last one's number of versions is at most 2^30
  pub last_key : 0 < place numbers 0 → KeyLies area numbers (place numbers 10)
  pub anchor : 0 < place numbers 0 → KeyLies area numbers (place numbers 11)
  pub count : 0 < place numbers 0 → le_at area (place numbers 10 + 4) 4 ≤ 2 ^ 30

-- question 37 of `kiban_size`: the totals, and that the greatest sequence is not below the least
pub record Sizeable (numbers : List ℕ) : Type 0 where
  pub totals : TotalsSmall numbers
  pub sequences : place numbers 4 ≤ place numbers 5

-- ---- adding

-- question 30
pub record WithinLimits (lent : AddLent) : Type 0 where
  pub key : length lent.key ≤ 1048576
  pub value : length lent.value ≤ 16777216

-- question 31: it is marked a new key, or there is a key
unfoldable pub Follows : AddLent → Type 0
Follows lent = (lent.new_key ≡ 0 → ⊥) ⊎ (0 < place lent.numbers 0)

-- question 32: the offset is not below the last one
unfoldable pub OffsetRises : AddLent → Type 0
OffsetRises lent = place lent.numbers 9 ≤ lent.offset

-- question 33: there are at most 1,048,576 keys, this one counted if it is new
unfoldable pub FewKeys : AddLent → Type 0
FewKeys lent = place lent.numbers 0 + (when eqb lent.new_key 0 then 0 else 1) ≤ 1048576

-- how many bytes it takes: 25, and for a new key 8 and the key
unfoldable pub bytes_for : AddLent → ℕ
bytes_for lent = 25 + (when eqb lent.new_key 0 then 0 else 8 + length lent.key)

-- question 34
pub record Room (lent : AddLent) : Type 0 where
  pub lent_area : place lent.numbers 3 + bytes_for lent ≤ length lent.area
  pub most : place lent.numbers 3 + bytes_for lent ≤ 2 ^ 30

-- the result of `kiban_add`, by the questions in their order
pub data AddResult (lent : AddLent) : ℕ → Type 0 where
  asked_30 : (WithinLimits lent → ⊥) → AddResult lent 30
  asked_31 : WithinLimits lent → (Follows lent → ⊥) → AddResult lent 31
  asked_32 : WithinLimits lent → Follows lent → (OffsetRises lent → ⊥) → AddResult lent 32
  asked_33 : WithinLimits lent → Follows lent → OffsetRises lent → (FewKeys lent → ⊥) → AddResult lent 33
  asked_37 : WithinLimits lent → Follows lent → OffsetRises lent → FewKeys lent → (Stands lent.area lent.numbers → ⊥) → AddResult lent 37
  asked_34 : WithinLimits lent → Follows lent → OffsetRises lent → FewKeys lent → Stands lent.area lent.numbers → (Room lent → ⊥) → AddResult lent 34
  taken : WithinLimits lent → Follows lent → OffsetRises lent → FewKeys lent → Stands lent.area lent.numbers → Room lent → AddResult lent 0

-- a number is the result of a call of `kiban_add` exactly if the questions give it
unfoldable pub AddsExactly : Type 0
AddsExactly = (c : AddCall) (n : ℕ) → (c.result ≡ n) ↔ AddResult c.lent n

-- ---- size

-- `kiban_size` asks 37 alone, whatever the prefix is: the result is 0 exactly if the numbers are sizeable, and 37 exactly if they are not
pub record SizesExactly : Type 0 where
  pub zero : (c : SizeCall) → (c.result ≡ 0) ↔ Sizeable c.numbers
  pub refused_37 : (c : SizeCall) → (c.result ≡ 37) ↔ (Sizeable c.numbers → ⊥)

-- ---- writing

-- question 37 of `kiban_write`: size's holds, and the area reads back to the record's totals, sequence bounds and last offset
pub record Writable (lent : WriteLent) : Type 0 where
  pub sizes : Sizeable lent.numbers
  pub reads : reads_back_of lent.area (builder_in lent.numbers) ≡ true

-- question 38
pub record ScratchesHold (lent : WriteLent) : Type 0 where
  pub numbers64 : place lent.numbers 0 ≤ lent.room64
  pub numbers32 : 6 * place lent.numbers 0 + 8 ≤ lent.room32

-- question 39: the output is as long as the size that `kiban_size` tells
pub record OutputHolds (lent : WriteLent) : Type 0 where
  pub size : ℕ
  pub told : size_of_section (builder_in lent.numbers) lent.prefix ≡ Ok size
  pub holds : size ≤ length lent.output

-- question 40 is answered with no: none of the eight seeds serves the area's keys
unfoldable pub NoSeed : WriteLent → Type 0
NoSeed lent = (k : ℕ) → 1 ≤ k → k ≤ 8 → Fails (keys_in_of lent.area (place lent.numbers 0)) k

-- the result of `kiban_write`, by the questions in their order
pub data WriteResult (lent : WriteLent) : ℕ → Type 0 where
  asked_35 : 24 < lent.prefix → WriteResult lent 35
  asked_36 : lent.prefix ≤ 24 → place lent.numbers 0 ≡ 0 → WriteResult lent 36
  asked_37 : lent.prefix ≤ 24 → 0 < place lent.numbers 0 → (Writable lent → ⊥) → WriteResult lent 37
  asked_38 : lent.prefix ≤ 24 → 0 < place lent.numbers 0 → Writable lent → (ScratchesHold lent → ⊥) → WriteResult lent 38
  asked_39 : lent.prefix ≤ 24 → 0 < place lent.numbers 0 → Writable lent → ScratchesHold lent → (OutputHolds lent → ⊥) → WriteResult lent 39
  asked_40 : lent.prefix ≤ 24 → 0 < place lent.numbers 0 → Writable lent → ScratchesHold lent → OutputHolds lent → NoSeed lent → WriteResult lent 40
  written : lent.prefix ≤ 24 → 0 < place lent.numbers 0 → Writable lent → ScratchesHold lent → OutputHolds lent → (NoSeed lent → ⊥) → WriteResult lent 0

-- a number is the result of a call of `kiban_write` exactly if the questions give it
unfoldable pub WritesAsked : Type 0
WritesAsked = (c : WriteCall) (n : ℕ) → (c.result ≡ n) ↔ WriteResult c.lent n
