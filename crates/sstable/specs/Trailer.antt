-- The trailer of a section: a type byte and the CRC-32 of all before the CRC (questions 1 and 2).
use Rattle.std.specs.Prelude.{◌≡◌, ℕ, ◌-◌, ◌≤◌, List, Bool, leb, eqb, length, get_or, take, Result, Ok, Err}
use Rattle.num.specs.Choice.{ask◌otherwise◌then◌, both}
use Rattle.num.specs.Number.{le_at}
use Rattle.crc32.specs.V42.{crc_of}
use Rattle.refusal.specs.declared.Refusal.{Refusal}
use Rattle.refusal.specs.declared.Refusal.TheVariants as refusal

-- question 1: at least 6 bytes, and is the fifth byte from the end zero?
unfoldable pub plain_type : List ℕ → Bool
plain_type s = both (leb 6 (length s)) (eqb (get_or s (length s - 5) 0) 0)

-- question 2: are the last 4 bytes the CRC-32 of all before?
unfoldable pub sealed : List ℕ → Bool
sealed s = eqb (le_at s (length s - 4) 4) (crc_of (take (length s - 4) s))

-- the first question that is answered with no
unfoldable pub trailer_of : List ℕ → Result (Unit {0}) Refusal
trailer_of s =
    ask plain_type s otherwise Err refusal.Trailer then  -- 1
    ask sealed s otherwise Err refusal.SectionCrc then  -- 2
    Ok tt

-- questions 1 and 2 in plain terms
pub record SoundTrailer (s : List ℕ) : Type 0 where
  pub long : 6 ≤ length s
  pub plain : get_or s (length s - 5) 0 ≡ 0
  pub crc : le_at s (length s - 4) 4 ≡ crc_of (take (length s - 4) s)

-- for proofs alone: `unfolding trailer_defs` opens the definitions of this file
unfoldable pub trailer_defs : ℕ
unfolding plain_type sealed trailer_of
trailer_defs = 0
