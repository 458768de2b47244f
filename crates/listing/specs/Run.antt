-- What a whole run of the program prints.
use Rattle.std.specs.Prelude.{◌≡◌, Bool, ℕ, List, [], ◌∷◌, ◌++◌, length, Option, Some, None}
use Rattle.listing.specs.declared.text.Left.{Left}
use Rattle.listing.specs.Listing.{numbers_in, output_of}
use Rattle.listing.specs.Internal.{text_left, Continues}

-- lines one behind the other
unfoldable pub lines_joined : List (List ℕ) → List ℕ
lines_joined [] = []
lines_joined (l ∷ ls) = l ++ lines_joined ls

-- the lines of a run: each was written by a step as the contract of `next_line` says, until nothing was left
pub data Run (sectionLen : ℕ) («data» blocks : List ℕ) : Option Left → List ℕ → List (List ℕ) → Type 0 where
  ended : {keys : List ℕ} → Run sectionLen «data» blocks None keys []
  went : {left : Left} {next : Option Left} {keys after line : List ℕ} {lines : List (List ℕ)}
      → Continues sectionLen «data» blocks left keys next after line
      → Run sectionLen «data» blocks next after lines
      → Run sectionLen «data» blocks (Some left) keys (line ∷ lines)

-- the lines of every run from what the contract of `start` says, joined, are what is to be printed of the three files
unfoldable pub RunsPrint : Type 0
RunsPrint =
    (whole : Bool) (s «data» file keys : List ℕ) (left : Option Left) (lines : List (List ℕ))
    → text_left (length s) «data» (numbers_in file) left keys ≡ output_of whole s «data» file
    → Run (length s) «data» (numbers_in file) left keys lines
    → lines_joined lines ≡ output_of whole s «data» file
