-- The lines that the program `keys` prints (document 01, "One store, worked through"), as the bytes of their ASCII.
use Rattle.std.specs.Prelude.{ℕ, zero, suc, ◌+◌, ◌/◌, ◌%◌, List, [], ◌∷◌, ◌++◌, codes, true, false, ltb}
use Rattle.std.specs.Fmt.{digit_glyph}
use Rattle.sstable.specs.declared.Kind.{Kind}
use Rattle.sstable.specs.declared.Kind.TheVariants.{Put, Tombstone}
use Rattle.block.specs.Walk.{Entry}

-- two digits for each byte
abbrev pub hex_of : List ℕ → List ℕ
hex_of [] = []
hex_of (b ∷ bs) = digit_glyph false (b / 16) ∷ digit_glyph false (b % 16) ∷ hex_of bs

-- a key in hexadecimal; an empty one is `-`
abbrev pub key_text : List ℕ → List ℕ
key_text [] = codes "-"
key_text (b ∷ bs) = hex_of (b ∷ bs)

-- the decimal digits of a number, at most as many as the first number says
unfoldable pub decimal_from : ℕ → ℕ → List ℕ
decimal_from zero n = []
decimal_from (suc f) n = elim (ltb n 10) [ true ↦ (48 + n) ∷ [] | false ↦ decimal_from f (n / 10) ++ (48 + n % 10) ∷ [] ]

-- a number in decimal: it has no more digits than one more than itself
unfoldable pub decimal_of : ℕ → List ℕ
decimal_of n = decimal_from (suc n) n

-- a number in decimal behind a label
abbrev pub labelled : List ℕ → ℕ → List ℕ
labelled label n = label ++ decimal_of n

-- a kind's letter, P or T, behind a space
abbrev pub kind_text : Kind → List ℕ
kind_text Put = codes " P"
kind_text Tombstone = codes " T"

-- `key seq kind offset length`
unfoldable pub names_line : List ℕ
names_line = codes "key seq kind offset length\n"

-- behind a key: its sequence, its kind, and the offset and the length of its value
abbrev pub numbers_text : ℕ → Kind → ℕ → ℕ → List ℕ
numbers_text seq kind offset size =
    labelled (codes " ") seq ++ (kind_text kind ++ (labelled (codes " ") offset ++ (labelled (codes " ") size ++ codes "\n")))

-- the line of a record
unfoldable pub record_line : Entry → List ℕ
record_line e = key_text e.key ++ numbers_text e.seq e.kind e.place e.size

-- is the record's line a P line? 1 or 0
unfoldable pub live_one : Kind → ℕ
live_one Put = 1
live_one Tombstone = 0

-- the total `live`: how many lines are P lines
unfoldable pub live_of : List Entry → ℕ
live_of [] = 0
live_of (e ∷ es) = live_one e.kind + live_of es

-- the total `mean`: the section's length over the number of keys, rounded down
abbrev pub mean_of : ℕ → ℕ → ℕ
mean_of sectionLen keys = sectionLen / keys

-- the line of totals: `keys `, ` live ` and ` mean `, each before its number
unfoldable pub totals_line : ℕ → ℕ → ℕ → List ℕ
totals_line keys live mean =
    labelled (codes "keys ") keys ++ (labelled (codes " live ") live ++ (labelled (codes " mean ") mean ++ codes "\n"))

-- the line of a refusal: `refused ` and the number
unfoldable pub refused_line : ℕ → List ℕ
refused_line n = labelled (codes "refused ") n ++ codes "\n"

-- `unreadable`
unfoldable pub unreadable_line : List ℕ
unreadable_line = codes "unreadable\n"

-- for proofs alone: `unfolding line_defs` opens the definitions of this file
unfoldable pub line_defs : ℕ
unfolding decimal_from decimal_of names_line record_line live_one live_of totals_line refused_line unreadable_line
line_defs = 0
