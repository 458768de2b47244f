-- A record's sixteen numbers are read back as itself.
-- Assumes nothing.
use mathlib.Core.Path.{◌≡◌, refl, sym, ◌∙◌}
use mathlib.Core.Bool.{Bool, true, false}
use mathlib.Core.List.{List}
use Prim.Native.Nat.{ℕ, ◌≤◌}
use native.Mathlib.Omega.{arith}
use lib.Dec.{eqb, leb}
use lib.ListN.{length}
use lib.Seq.{sets, length-sets, take_all}
use mir.Val.{bool_byte}
use Rattle.num.specs.Choice.{when◌then◌else◌, both}
use Rattle.num.proofs.Lists.{part_sets_same}
use Rattle.header.specs.declared.Opened.{Opened}
use Rattle.numbers.specs.Numbers.{flag_number, record_numbers, opened_of, is_record_numbers}

-- a flag as code makes a number of it
pub flag_byte : (b : Bool) → bool_byte b ≡ flag_number b
unfolding flag_number when◌then◌else◌
flag_byte true = refl
flag_byte false = refl

flag_read : (b : Bool) → eqb (flag_number b) 1 ≡ b
unfolding flag_number when◌then◌else◌
flag_read true = refl
flag_read false = refl

flag_is : (b : Bool) → leb (flag_number b) 1 ≡ true
unfolding flag_number when◌then◌else◌
flag_is true = refl
flag_is false = refl

pub record_read : (o : Opened) → opened_of (record_numbers o) ≡ o
unfolding opened_of record_numbers
record_read o = rw (flag_read o.encoding.checksum, flag_read o.packed)

pub record_is : (o : Opened) → is_record_numbers (record_numbers o) ≡ true
unfolding is_record_numbers record_numbers both
record_is o = rw (flag_is o.encoding.checksum, flag_is o.packed)

-- sixteen places that a record was written to hold its numbers alone
pub record_stands : (before : List ℕ) (o : Opened) → length before ≡ 16 → sets before 0 (record_numbers o) ≡ record_numbers o
unfolding record_numbers
record_stands before o h =
    let all : length (sets before 0 (record_numbers o)) ≤ 16 = omega (arith, length-sets before 0 (record_numbers o)) in
    sym (take_all 16 (sets before 0 (record_numbers o)) all) ∙ part_sets_same (record_numbers o) before 0 (omega arith)
