-- Not on the reading path: what the contracts of private functions speak of.
use Rattle.std.specs.Prelude.{◌≡◌, List, [], Bool, true, false, ℕ, zero, suc, ◌+◌, ◌^◌, ◌<◌, ◌≤◌, leb, ltb, length, Option, Some, None, Result, Ok, Err}
use Rattle.refusal.specs.declared.Refusal.{Refusal}
use Rattle.refusal.specs.declared.Refusal.TheVariants as refusal
use Rattle.num.specs.Choice.{ask◌otherwise◌then◌, both}
use Rattle.encoding.specs.Encoding.{Widths, version_len_of}
use Rattle.header.specs.declared.Opened.{Opened}
use Rattle.versions.specs.Version.{stored_seq}
use Rattle.locator.specs.Locator.{readable}
use Rattle.spans.specs.Span.{Pair, value_end, value_at}

-- what reading counts on, of a record that passed 24 and 27
pub record Spannable (o : Opened) : Type 0 where
  pub widths : Widths o.encoding
  pub four : o.encoding.address ≡ 4
  pub arena : o.arena < 2 ^ 36

-- what the version at a place answers, if it is the first within the limit
abbrev pub met_at : List ℕ → Opened → ℕ → Result (List Pair) Refusal
met_at s o pos = ask readable s pos (value_end o.encoding) otherwise Err refusal.Read then Ok (value_at s o pos)

-- the place of the first of some versions within a limit, each of which is asked for some bytes of room: up to that one every version must have them, and
-- its sequence's sum must be below 2^64
unfoldable pub placed_of : ℕ → List ℕ → Opened → ℕ → ℕ → ℕ → Result (Option ℕ) Refusal
placed_of zero s o room pos limit = Ok None
placed_of (suc count) s o room pos limit =
    elim (both (readable s pos room) (ltb (stored_seq s o pos) (2 ^ 64))) [
      | false ↦ Err refusal.Read
      | true ↦ elim (leb (stored_seq s o pos) limit) [
        | true ↦ Ok (Some pos)
        | false ↦ placed_of count s o room (pos + version_len_of o.encoding) limit
      ]
    ]

-- what the place of the first version within a limit tells of an answer, where each version was asked for some bytes of
-- room; those of its sequence alone are asked for by 25
unfoldable pub PlaceTells : Result (Option ℕ) Refusal → List ℕ → Opened → ℕ → Result (List Pair) Refusal → Type 0
PlaceTells (Ok (Some pos)) s o room a = (a ≡ met_at s o pos) × (pos + room ≤ length s)
PlaceTells (Ok None) s o room a = a ≡ Ok []
PlaceTells (Err e) s o room a = room ≡ o.encoding.seq → a ≡ Err e

-- the answer of what was read of a key
unfoldable pub value_read : List ℕ → Opened → Result (Option ℕ) Refusal → Result (List Pair) Refusal
value_read s o (Ok (Some pos)) = Ok (value_at s o pos)
value_read s o (Ok None) = Ok []
value_read s o (Err e) = Err e

-- a version that was read lies in the section
unfoldable pub Inside : List ℕ → Opened → Result (Option ℕ) Refusal → Type 0
Inside s o (Ok (Some pos)) = pos + value_end o.encoding ≤ length s
Inside s o (Ok None) = Unit {0}
Inside s o (Err e) = Unit {0}

-- the refusal of an answer, or nothing
unfoldable pub refused_of : Result (List Pair) Refusal → Result (Unit {0}) Refusal
refused_of (Ok ps) = Ok tt
refused_of (Err e) = Err e

-- was nothing refused?
unfoldable pub is_given : Result (List Pair) Refusal → Bool
is_given (Ok ps) = true
is_given (Err e) = false

-- the pairs of an answer, none of a refusal
unfoldable pub pairs_of : Result (List Pair) Refusal → List Pair
pairs_of (Ok ps) = ps
pairs_of (Err e) = []

-- for proofs alone: `unfolding read_defs` opens what tells of one key
unfoldable pub read_defs : ℕ
unfolding value_read Inside pairs_of
read_defs = 0
