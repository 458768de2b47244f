-- The value's part of the backing data, and question 26.
use Rattle.std.specs.Prelude.{ℕ, ◌+◌, List, [], Bool, leb, length, take, drop}
use Rattle.num.specs.Choice.{when◌then◌else◌, ask◌otherwise◌then◌}

-- question 26: do offset and length lie in the data?
unfoldable pub value_inside_of : List ℕ → ℕ → ℕ → Bool
value_inside_of «data» offset len = leb (offset + len) (length «data»)

-- the part itself, empty on refusal
unfoldable pub value_part : List ℕ → ℕ → ℕ → List ℕ
value_part «data» offset len =
    ask value_inside_of «data» offset len otherwise [] then
    take len (drop offset «data»)

-- 0, or 26
unfoldable pub value_number : List ℕ → ℕ → ℕ → ℕ
value_number «data» offset len =
    ask value_inside_of «data» offset len otherwise 26 then
    0

-- for proofs alone: `unfolding value_defs` opens the definitions of this file
unfoldable pub value_defs : ℕ
unfolding value_inside_of value_part value_number when◌then◌else◌
value_defs = 0
