-- The kinds of a record and their numbers in blocks.
use Rattle.std.specs.Prelude.{ℕ, eqb, Result, Ok, Err}
use Rattle.num.specs.Choice.{when◌then◌else◌}
use Rattle.refusal.specs.declared.Refusal.{Refusal}
use Rattle.refusal.specs.declared.Refusal.TheVariants as refusal
use Rattle.sstable.specs.declared.Kind.{Kind}
use Rattle.sstable.specs.declared.Kind.TheVariants.{Put, Tombstone}

abbrev pub kind_number : Kind → ℕ
kind_number Put = 1
kind_number Tombstone = 2

-- the kind with this number; an entry with another one does not stand (question 13)
unfoldable pub kind_of : ℕ → Result Kind Refusal
kind_of n = when eqb n 1 then Ok Put else when eqb n 2 then Ok Tombstone else Err refusal.Entry
