-- The numbers of refusals, and what a definition answers: what was asked for, or the first question that is answered with no.
use Rattle.std.specs.Prelude.{ℕ, Bool, Result, Ok, Err}
use Rattle.num.specs.Choice.{when◌then◌else◌}
use Rattle.refusal.specs.declared.Refusal.{Refusal}
use Rattle.refusal.specs.declared.Refusal.TheVariants as refusal

-- the number of a question, which C and Rust callers get
abbrev pub refusal_number : Refusal → ℕ
refusal_number refusal.Trailer = 1
refusal_number refusal.SectionCrc = 2
refusal_number refusal.Magic = 3
refusal_number refusal.Header = 4
refusal_number refusal.ScanPart = 5
refusal_number refusal.ScanSettings = 6
refusal_number refusal.NotPackable = 7
refusal_number refusal.PilotWide = 8
refusal_number refusal.PackedRoom = 9
refusal_number refusal.PilotSlot = 10
refusal_number refusal.BlockList = 11
refusal_number refusal.Block = 12
refusal_number refusal.Entry = 13
refusal_number refusal.Limits = 14
refusal_number refusal.KeyRoom = 15
refusal_number refusal.KeyRecord = 16
refusal_number refusal.KeyOrder = 17
refusal_number refusal.ScanAddress = 18
refusal_number refusal.Slot = 19
refusal_number refusal.Version = 20
refusal_number refusal.ValueCrc = 21
refusal_number refusal.Ends = 22
refusal_number refusal.PrefixCount = 23
refusal_number refusal.RecordGiven = 24
refusal_number refusal.Read = 25
refusal_number refusal.ValuePlace = 26
refusal_number refusal.NoSpans = 27
refusal_number refusal.SpanKeys = 28
refusal_number refusal.SpanRoom = 29
refusal_number refusal.AddLimits = 30
refusal_number refusal.FirstNotNew = 31
refusal_number refusal.OffsetFalls = 32
refusal_number refusal.TooManyKeys = 33
refusal_number refusal.AreaRoom = 34
refusal_number refusal.PrefixLong = 35
refusal_number refusal.NoKey = 36
refusal_number refusal.Builder = 37
refusal_number refusal.BuildScratch = 38
refusal_number refusal.SectionRoom = 39
refusal_number refusal.NoSeed = 40
refusal_number refusal.BlocksRoom = 41

-- the number of an answer: 0, or that of the question that was answered with no
unfoldable pub answer_number : {A : Type 0} → Result A Refusal → ℕ
answer_number (Ok x) = 0
answer_number (Err e) = refusal_number e

-- what stands behind an answer where a number was asked for: that number, or on a refusal what stood there
abbrev pub answer_left : Result ℕ Refusal → ℕ → ℕ
answer_left (Ok n) before = n
answer_left (Err e) before = before

-- a question: nothing, or the refusal that its "no" gives
abbrev pub ask_of : Bool → Refusal → Result (Unit {0}) Refusal
ask_of holds refusal = when holds then Ok tt else Err refusal
