-- What writing gives from a list of adds (promises P4, P6 and P8).
use Rattle.std.specs.Prelude.{◌≡◌, ◌↔◌, List, ◌++◌, ℕ, ◌+◌, ◌*◌, ◌<◌, ◌≤◌, length, get_or, Result, Ok, Err}
use Rattle.refusal.specs.declared.Refusal.{Refusal}
use Rattle.refusal.specs.declared.Refusal.TheVariants as refusal
use Rattle.encoding.specs.Encoding.{encoding_of, section_len_of}
use Rattle.header.specs.declared.Opened.{Opened}
use Rattle.header.specs.Header.{packed_record}
use Rattle.packed.specs.Packed.{packed_bytes}
use Rattle.locating.specs.Store.{LinkerStore, Store}
use Rattle.linking.specs.Linkers.{LinkSame}
use Rattle.construction.specs.Construct.{Constructed, construct_of}
use Rattle.construction.specs.Promises.{Fails}
use Rattle.builder.specs.Offer.{Offer}
use Rattle.builder.specs.Record.{size_of_section}
use Rattle.written.specs.Section.{section_bytes, written_record}
use Rattle.written.specs.Opens.{OpensAs, PacksAs}
use Rattle.writer.specs.Write.{write_of}
use Rattle.building.specs.Run.{Lending, run_of}
use Rattle.building.specs.Taken.{groups_of, group_totals}
use Rattle.building.specs.InOrder.{InOrder, HoldsJust, ScratchHolds, SameAdded}
use Rattle.building.specs.State.{keys_of}

-- ---- the section of the offers taken

-- the size that is told before
unfoldable pub size_for : List Offer → ℕ → ℕ
size_for taken prefix = section_len_of (encoding_of (group_totals (groups_of taken))) (group_totals (groups_of taken)) prefix

-- the bytes, by what construction gives for their keys
unfoldable pub section_of : List Offer → ℕ → Constructed → List ℕ
section_of taken prefix c =
    section_bytes (encoding_of (group_totals (groups_of taken))) c.seed (group_totals (groups_of taken)).min_seq (groups_of taken)
    (λ x. get_or c.placement.pilots x 0) (λ m. get_or c.placement.slots m 0) prefix

-- the record that they open as
unfoldable pub section_record : List Offer → ℕ → Constructed → Opened
section_record taken prefix c =
    written_record (encoding_of (group_totals (groups_of taken))) c.seed (group_totals (groups_of taken)).min_seq (groups_of taken)
    (λ x. get_or c.placement.pilots x 0) (λ m. get_or c.placement.slots m 0) prefix

-- ---- what writing answers

-- writing behind a list of adds: it is lent the used area as left, followed by any rest, and scratches and an output of these lengths
unfoldable pub write_run : List Lending → List ℕ → ℕ → ℕ → ℕ → ℕ → Result (List ℕ) Refusal
write_run ls rest prefix room64 room32 room = write_of ((run_of ls).used ++ rest) (run_of ls).builder prefix room64 room32 room

-- scratch of n 64-bit and 6n + 8 32-bit numbers
pub record ScratchEnough (n room64 room32 : ℕ) : Type 0 where
  pub numbers64 : n ≤ room64
  pub numbers32 : 6 * n + 8 ≤ room32

-- when which answer is given; 37 is none of them
pub data Outcome (taken : List Offer) (prefix room64 room32 room : ℕ) : Result (List ℕ) Refusal → Type 0 where
  prefix_long : 24 < prefix → Outcome taken prefix room64 room32 room (Err refusal.PrefixLong)
  no_entry : prefix ≤ 24 → length taken ≡ 0 → Outcome taken prefix room64 room32 room (Err refusal.NoKey)
  scratch_short : prefix ≤ 24 → 0 < length taken → (ScratchEnough (length (keys_of taken)) room64 room32 → ⊥) → Outcome taken prefix room64 room32 room (Err refusal.BuildScratch)
  output_short : prefix ≤ 24 → 0 < length taken → ScratchEnough (length (keys_of taken)) room64 room32 → room < size_for taken prefix
      → Outcome taken prefix room64 room32 room (Err refusal.SectionRoom)
  -- none of the eight seeds serves
  no_seed : prefix ≤ 24 → 0 < length taken → ScratchEnough (length (keys_of taken)) room64 room32 → size_for taken prefix ≤ room
      → ((k : ℕ) → 1 ≤ k → k ≤ 8 → Fails (keys_of taken) k) → Outcome taken prefix room64 room32 room (Err refusal.NoSeed)
  section : prefix ≤ 24 → 0 < length taken → ScratchEnough (length (keys_of taken)) room64 room32 → size_for taken prefix ≤ room
      → (c : Constructed) → construct_of (keys_of taken) ≡ Ok c → Outcome taken prefix room64 room32 room (Ok (section_of taken prefix c))

-- each answer is given exactly then
unfoldable pub WritesExactly : Type 0
WritesExactly =
    (ls : List Lending) (rest : List ℕ) (prefix room64 room32 room : ℕ) (a : Result (List ℕ) Refusal)
    → (write_run ls rest prefix room64 room32 room ≡ a) ↔ Outcome (run_of ls).taken prefix room64 room32 room a

-- ---- sections that were built

-- a section that was written behind a list of adds, whatever area, scratches and output writing was lent
pub record BuiltSection (ls : List Lending) (prefix : ℕ) (s : List ℕ) : Type 0 where
  pub rest : List ℕ
  pub room64 : ℕ
  pub room32 : ℕ
  pub room : ℕ
  pub written : write_run ls rest prefix room64 room32 room ≡ Ok s

-- size tells the length of what is written
unfoldable pub SizeIsLength : Type 0
SizeIsLength = (ls : List Lending) (prefix : ℕ) (s : List ℕ) → BuiltSection ls prefix s → size_of_section (run_of ls).builder prefix ≡ Ok (length s)

-- promise P8: what is written is a function of the offers taken and the prefix
unfoldable pub SameSections : Type 0
SameSections =
    (ls ms : List Lending) (prefix : ℕ) (s t : List ℕ) → BuiltSection ls prefix s → BuiltSection ms prefix t → (run_of ls).taken ≡ (run_of ms).taken → s ≡ t

-- data and blocks that hold just the entries, and a key scratch that holds their keys
pub record Beside (taken : List Offer) («data» blocks : List ℕ) (scratch : ℕ) : Type 0 where
  pub holds : HoldsJust «data» blocks taken
  pub half : ScratchHolds scratch taken

-- promise P4: what is written from entries in order opens beside all blocks that hold just them, and packs
unfoldable pub BuildsAndOpens : Type 0
BuildsAndOpens =
    (ls : List Lending) (prefix : ℕ) (s : List ℕ) → BuiltSection ls prefix s → InOrder (run_of ls).taken
    → («data» blocks : List ℕ) (scratch : ℕ) → Beside (run_of ls).taken «data» blocks scratch
    → (c : Constructed) × (construct_of (keys_of (run_of ls).taken) ≡ Ok c)
    × OpensAs s «data» blocks scratch (section_record (run_of ls).taken prefix c) × PacksAs s «data» blocks scratch (section_record (run_of ls).taken prefix c)

-- the stores that a section opens as, plain and packed
unfoldable pub plain_store : List ℕ → List ℕ → List ℕ → Opened → LinkerStore
plain_store s «data» blocks o = record { bytes = s; backing = «data»; blocks = blocks; opened = o }

unfoldable pub packed_store : List ℕ → List ℕ → List ℕ → Opened → LinkerStore
packed_store s «data» blocks o = record { bytes = packed_bytes s o; backing = «data»; blocks = blocks; opened = packed_record o }

-- promise P6: it then links, plain and packed, as every accepted store that holds the versions that were added
unfoldable pub BuiltLinks : Type 0
BuiltLinks =
    (ls : List Lending) (prefix : ℕ) (s : List ℕ) → BuiltSection ls prefix s → InOrder (run_of ls).taken
    → («data» blocks : List ℕ) (scratch : ℕ) → Beside (run_of ls).taken «data» blocks scratch
    → (o : Opened) → OpensAs s «data» blocks scratch o
    → (b : LinkerStore) → Store b → (key : List ℕ) (limit : ℕ) → SameAdded (run_of ls).taken b key limit
    → LinkSame (plain_store s «data» blocks o) b key limit × LinkSame (packed_store s «data» blocks o) b key limit
