-- One more byte in hexadecimal.
-- Assumes nothing.
use Rattle.std.proofs.Common.{◌≡◌, ℕ, ◌+◌, ◌<◌, ◌/◌, ◌%◌, List, [], ◌∷◌, ◌++◌, false, refl, ap, ◌∙◌, length, take, get_or}
use Rattle.std.specs.Fmt.{digit_glyph}
use Rattle.std.proofs.lemmas.List.{take_more}
use Rattle.lines.specs.Lines.{hex_of}

hex_of-append : (xs ys : List ℕ) → hex_of (xs ++ ys) ≡ hex_of xs ++ hex_of ys
hex_of-append [] ys = refl
hex_of-append (x ∷ xs) ys = ap (λ l. digit_glyph false (x / 16) ∷ digit_glyph false (x % 16) ∷ l) (hex_of-append xs ys)

pub hex_of_more : (xs : List ℕ) (i : ℕ) → i < length xs
    → hex_of (take (i + 1) xs) ≡ hex_of (take i xs) ++ (digit_glyph false (get_or xs i 0 / 16) ∷ digit_glyph false (get_or xs i 0 % 16) ∷ [])
hex_of_more xs i h = ap hex_of (take_more xs i 0 h) ∙ hex_of-append (take i xs) (get_or xs i 0 ∷ [])
