-- The demands on building, said of the entries that are called (include/kiban.h): a list of `kiban_add` calls from sixteen zeros on, then
-- `kiban_size` and `kiban_write`, then the openings and lookups of crates/calls. A call is what its entry was lent, its result and what it left, in
-- the words of its contract (crates/kiban/src/lib.rt).
use Rattle.std.specs.Prelude.{◌≡◌, true, false, List, [], ◌∷◌, ◌++◌, ℕ, ◌+◌, ◌^◌, ◌<◌, ◌≤◌, eqb, length, take, drop, Result}
use Rattle.refusal.specs.declared.Refusal.{Refusal}
use Rattle.refusal.specs.Refusal.{answer_number}
use Rattle.num.specs.Choice.{when◌then◌else◌}
use Rattle.num.specs.Number.{Bytes, le_at}
use Rattle.sstable.specs.declared.Kind.TheVariants.{Put, Tombstone}
use Rattle.builder.specs.Offer.{Offer}
use Rattle.builder.specs.Record.{size_of_section}
use Rattle.builder.specs.Add.{BuilderState, add_of, added_area}
use Rattle.writer.specs.Write.{write_of, section_written}
use Rattle.building.specs.Taken.{groups_of, area_of, group_totals, builder_of}
use Rattle.building.specs.InOrder.{InOrder, HoldsJust, ScratchHolds, SameAdded}
use Rattle.building.specs.Builds.{size_for, Outcome}
use Rattle.numbers.specs.BuilderNumbers.{builder_in}
use Rattle.builds.specs.Built.{offer_from, builder_written, size_written, section_len_written}
use Rattle.calls.specs.Calls.{place, Lent, OpenCall, PackCall, Linker, opened_plain, opened_packed, holding, blocks_held, LookupCall, LinkedAlike, scan_number, packed_size}

-- ---- calls

-- what `kiban_add` is lent and given
pub record AddLent : Type 0 where
  pub area : List ℕ
  pub numbers : List ℕ
  pub sixteen : length numbers ≡ 16
  pub tombstone : ℕ
  pub key : List ℕ
  pub value : List ℕ
  pub seq : ℕ
  pub seq_fits : seq < 2 ^ 64
  pub new_key : ℕ
  pub offset : ℕ
  pub offset_fits : offset < 2 ^ 64

-- the entry that it offers: tombstone 0 is a Put, any other number a tombstone; new-key 0 is no new key, any other number one
unfoldable pub offered : AddLent → Offer
offered lent =
    record {
      kind = when eqb lent.tombstone 0 then Put else Tombstone;
      key = lent.key;
      value = lent.value;
      seq = lent.seq;
      new_key = when eqb lent.new_key 0 then false else true;
      offset = lent.offset;
    }

-- what it answers, in the words of the contract
abbrev pub adds : AddLent → Result BuilderState Refusal
adds lent =
    add_of lent.area (builder_in lent.numbers) (offer_from lent.tombstone lent.key lent.value lent.seq lent.new_key lent.offset)

-- a call of `kiban_add`
pub record AddCall : Type 0 where
  pub lent : AddLent
  pub result : ℕ
  pub area_after : List ℕ
  pub numbers_after : List ℕ
  pub returns : result ≡ answer_number (adds lent)
  pub leaves_area : area_after ≡ added_area (adds lent) lent.area
  pub leaves : numbers_after ≡ builder_written (adds lent) lent.numbers

-- a call of `kiban_size`, with any number in its place before
pub record SizeCall : Type 0 where
  pub numbers : List ℕ
  pub prefix : ℕ
  pub before : ℕ
  pub result : ℕ
  pub after : ℕ
  pub returns : result ≡ answer_number (size_of_section (builder_in numbers) prefix)
  pub leaves : after ≡ size_written (size_of_section (builder_in numbers) prefix) before

-- what `kiban_write` is lent: of both scratches their lengths alone matter
pub record WriteLent : Type 0 where
  pub area : List ℕ
  pub numbers : List ℕ
  pub prefix : ℕ
  pub room64 : ℕ
  pub room32 : ℕ
  pub output : List ℕ
  pub len : ℕ

abbrev pub writes : WriteLent → Result (List ℕ) Refusal
writes lent = write_of lent.area (builder_in lent.numbers) lent.prefix lent.room64 lent.room32 (length lent.output)

-- a call of `kiban_write`
pub record WriteCall : Type 0 where
  pub lent : WriteLent
  pub result : ℕ
  pub output_after : List ℕ
  pub len_after : ℕ
  pub returns : result ≡ answer_number (writes lent)
  pub leaves_output : output_after ≡ section_written (writes lent) lent.output
  pub leaves_len : len_after ≡ section_len_written (writes lent) lent.len

-- ---- a list of adds

-- what one call hands on to the next: the sixteen numbers, and the used bytes of the area
pub record Memory : Type 0 where
  pub numbers : List ℕ
  pub used : List ℕ

-- before the first call: sixteen zeros, and nothing used
unfoldable pub no_entries : Memory
no_entries = record { numbers = 0 ∷ 0 ∷ 0 ∷ 0 ∷ 0 ∷ 0 ∷ 0 ∷ 0 ∷ 0 ∷ 0 ∷ 0 ∷ 0 ∷ 0 ∷ 0 ∷ 0 ∷ 0 ∷ []; used = [] }

-- numbers and an area as left: the used bytes, and behind them any bytes, as many as there are
pub record AsLeft (m : Memory) (numbers area : List ℕ) : Type 0 where
  pub same : numbers ≡ m.numbers
  pub rest : List ℕ
  pub begins : area ≡ m.used ++ rest

-- what a call leaves: place 3 counts the used bytes
unfoldable pub left_by : AddCall → Memory
left_by c = record { numbers = c.numbers_after; used = take (place c.numbers_after 3) c.area_after }

-- the entries taken are those of the calls that returned 0
unfoldable pub taken_with : List Offer → AddCall → List Offer
taken_with taken c = when eqb c.result 0 then taken ++ (offered c.lent ∷ []) else taken

-- calls of `kiban_add` one behind the other, each lent what the one before left; the memory that they leave, and the entries taken
pub data AddCalls : Memory → List Offer → Type 0 where
  none : AddCalls no_entries []
  next : (m : Memory) (taken : List Offer) → AddCalls m taken → (c : AddCall) → AsLeft m c.lent.numbers c.lent.area
      → AddCalls (left_by c) (taken_with taken c)

-- the sixteen numbers of the entries taken
unfoldable pub numbers_for : List Offer → List ℕ
numbers_for taken =
    let t = group_totals (groups_of taken) in
    t.keys ∷ t.versions ∷ t.suffix_bytes ∷ length (area_of (groups_of taken)) ∷ t.min_seq ∷ t.max_seq
    ∷ t.max_key_len ∷ t.max_value_len ∷ t.max_versions ∷ t.last_value_offset
    ∷ (builder_of (groups_of taken)).last_key ∷ (builder_of (groups_of taken)).anchor ∷ 0 ∷ 0 ∷ 0 ∷ 0 ∷ []

-- what stands behind a list of adds, and that no further call of it, whatever it is given, is refused with 37; the size told is the one that
-- writing asks for (39)
pub record Kept (m : Memory) (taken : List Offer) : Type 0 where
  pub numbers : m.numbers ≡ numbers_for taken
  pub used : m.used ≡ area_of (groups_of taken)
  pub adding : (c : AddCall) → AsLeft m c.lent.numbers c.lent.area → c.result ≡ 37 → ⊥
  -- with no entry taken it is 69, or 101 with a prefix, though writing refuses the empty builder (36)
  pub sizing : (c : SizeCall) → c.numbers ≡ m.numbers → (c.result ≡ 0) × (c.after ≡ size_for taken c.prefix)
  pub writing : (c : WriteCall) → AsLeft m c.lent.numbers c.lent.area → c.result ≡ 37 → ⊥

unfoldable pub AddsKeep : Type 0
AddsKeep = (m : Memory) (taken : List Offer) → AddCalls m taken → Kept m taken

-- ---- writing

-- a call of `kiban_write` behind a list of adds has one of the outcomes of `Outcome`, each in its case alone, and returns and leaves what it says
pub record WriteOutcome (taken : List Offer) (c : WriteCall) : Type 0 where
  pub answer : Result (List ℕ) Refusal
  pub outcome : Outcome taken c.lent.prefix c.lent.room64 c.lent.room32 (length c.lent.output) answer
  pub result : c.result ≡ answer_number answer
  pub output : c.output_after ≡ section_written answer c.lent.output
  pub len : c.len_after ≡ section_len_written answer c.lent.len

unfoldable pub WriteCalls : Type 0
WriteCalls =
    (m : Memory) (taken : List Offer) → AddCalls m taken → (c : WriteCall) → AsLeft m c.lent.numbers c.lent.area → WriteOutcome taken c

-- a section that was built: a list of adds, and a call of `kiban_write` behind it that returned 0; the first `*len` bytes of its output
pub record Built (taken : List Offer) (prefix : ℕ) (s : List ℕ) : Type 0 where
  pub memory : Memory
  pub entries : AddCalls memory taken
  pub call : WriteCall
  pub left : AsLeft memory call.lent.numbers call.lent.area
  pub same_prefix : call.lent.prefix ≡ prefix
  pub zero : call.result ≡ 0
  pub bytes : s ≡ take call.len_after call.output_after

-- the prefix that was asked for is in the section: with prefix 0 there is no scan part, with another one there is, and the prefix stands in it
-- behind the magic
pub record PrefixKept : Type 0 where
  pub without : (taken : List Offer) (s : List ℕ) → Built taken 0 s → scan_number s ≡ 0
  pub within : (taken : List Offer) (prefix : ℕ) (s : List ℕ) → Built taken prefix s → 0 < prefix
      → (scan_number s ≡ 0 → ⊥) × (le_at s (scan_number s + 8) 4 ≡ prefix)

-- `kiban_size` tells its length
unfoldable pub SizeCalls : Type 0
SizeCalls =
    (taken : List Offer) (prefix : ℕ) (s : List ℕ) (b : Built taken prefix s) (c : SizeCall) → c.numbers ≡ b.memory.numbers → c.prefix ≡ prefix
    → c.after ≡ length s

-- promise P8 at the entries: whoever took the same entries and writes with the same prefix writes the same bytes, whatever was refused in between,
-- and whatever areas, scratches and outputs the calls were lent
unfoldable pub SameSectionCalls : Type 0
SameSectionCalls = (taken : List Offer) (prefix : ℕ) (s t : List ℕ) → Built taken prefix s → Built taken prefix t → s ≡ t

-- ---- opening and linking what was built

-- a section that was built from entries in order, beside data and blocks that hold just those records
pub record BuiltBeside (taken : List Offer) (prefix : ℕ) (s «data» blocks : List ℕ) : Type 0 where
  pub built : Built taken prefix s
  pub order : InOrder taken
  pub holds : HoldsJust «data» blocks taken

-- an opening is lent these
pub record LentThese (s «data» blocks : List ℕ) (lent : Lent) : Type 0 where
  pub same_section : lent.section ≡ s
  pub same_backing : lent.backing ≡ «data»
  pub same_blocks : lent.blocks ≡ blocks

-- promise P4 at the entries: both openings return 0, with a key scratch that holds every key twice (15) and an output that holds the packed
-- bytes (9)
pub record OpensBuilt (taken : List Offer) (s «data» blocks : List ℕ) : Type 0 where
  pub plain : (c : OpenCall) → LentThese s «data» blocks c.lent → ScratchHolds c.lent.scratch taken → c.result ≡ 0
  pub packed : (c : PackCall) → LentThese s «data» blocks c.lent → ScratchHolds c.lent.scratch taken → packed_size s ≤ length c.output
      → c.result ≡ 0

unfoldable pub OpenBuiltCalls : Type 0
OpenBuiltCalls = (taken : List Offer) (prefix : ℕ) (s «data» blocks : List ℕ) → BuiltBeside taken prefix s «data» blocks → OpensBuilt taken s «data» blocks

-- what a linker's opening was lent
unfoldable pub lent_to : Linker → Lent
lent_to (opened_plain c zero) = c.lent
lent_to (opened_packed c zero) = c.lent

-- promise P6 at the entries: a linker that opened what was built, plain or packed, links, of every key under every limit, as any linker whose store
-- holds the versions that were added
unfoldable pub BuiltLinkerCalls : Type 0
BuiltLinkerCalls =
    (taken : List Offer) (prefix : ℕ) (s «data» blocks : List ℕ) → BuiltBeside taken prefix s «data» blocks
    → (a : Linker) → LentThese s «data» blocks (lent_to a) → (b : Linker) (key : List ℕ) (limit : ℕ) → SameAdded taken (blocks_held (holding b)) key limit
    → (c : LookupCall (holding a) key limit) (d : LookupCall (holding b) key limit) → LinkedAlike (holding a) (holding b) key limit c d

-- ---- what is written

-- a call whose result is not 0 writes nothing
pub record BuildRefusalsWriteNothing : Type 0 where
  pub adding : (c : AddCall) → (c.result ≡ 0 → ⊥) → (c.area_after ≡ c.lent.area) × (c.numbers_after ≡ c.lent.numbers)
  pub sizing : (c : SizeCall) → (c.result ≡ 0 → ⊥) → c.after ≡ c.before
  pub writing : (c : WriteCall) → (c.result ≡ 0 → ⊥) → (c.output_after ≡ c.lent.output) × (c.len_after ≡ c.lent.len)

-- behind what is written the lent memory keeps what it held
pub record BehindKept : Type 0 where
  pub adding : (c : AddCall) → c.result ≡ 0
      → (place c.numbers_after 3 ≤ length c.lent.area) × (drop (place c.numbers_after 3) c.area_after ≡ drop (place c.numbers_after 3) c.lent.area)
  -- `Bytes`, since a lent area is a slice of bytes
  pub writing : (c : WriteCall) → Bytes c.lent.area → c.result ≡ 0
      → (c.len_after ≤ length c.lent.output) × (drop c.len_after c.output_after ≡ drop c.len_after c.lent.output)
