-- The walk over the versions of a key, one version at a time.
-- Assumes nothing.
use mathlib.Core.Path.{◌≡◌, refl, sym, ap, ap₂, ◌∙◌, subst, subst⁻¹}
use mathlib.Core.Bool.{Bool, true, false}
use mathlib.Core.List.{List, [], ◌∷◌}
use Prim.Native.Nat.{ℕ, zero, suc, ◌+◌, ◌*◌, ◌-◌, ◌^◌, ◌<◌, ◌≤◌}
use native.Mathlib.Nat.{mod-eq_of_lt}
use native.Mathlib.Numerals.{add-one}
use native.Mathlib.Omega.{arith}
use lib.Dec.{leb, ltb}
use lib.ListN.{length, set}
use lib.Seq.{sets}
use borrow.Author.Tests.{le-leb, lt-leb, lt-ltb, le-ltb, leb-true, leb-false, ltb-true}
use Rattle.std.specs.Prelude.{Result, Ok, Err, Option, Some, None}
use Rattle.refusal.specs.declared.Refusal.{Refusal}
use Rattle.refusal.specs.declared.Refusal.TheVariants as refusal
use Rattle.num.specs.Choice.{when◌then◌else◌, both}
use Rattle.num.specs.Number.{le_at}
use Rattle.num.proofs.Choice.{true_both, both_true, both_no, if_true, if_false}
use Rattle.sstable.specs.declared.Kind.{Kind}
use Rattle.encoding.specs.Encoding.{version_len_of, tombstone_of}
use Rattle.header.specs.declared.Opened.{Opened}
use Rattle.versions.specs.Version.{stored_seq, stored_value, kind_in, length_in, stored_offset}
use Rattle.locator.specs.Locator.{readable}
use Rattle.spans.specs.Internal.{met_at, placed_of, PlaceTells}
use Rattle.spans.specs.Span.{Pair, value_end, unless_tombstone, value_at, first_within, pair_numbers}

module _ (s : List ℕ) (o : Opened) (pos limit : ℕ) where
  -- is its sequence read inside the section, and its sum below 2^64?
  abbrev read_of : Bool
  read_of = both (readable s pos o.encoding.seq) (ltb (stored_seq s o pos) (2 ^ 64))

  -- the answer of the version within the limit
  abbrev pub met : Result (List Pair) Refusal
  met = when readable s pos (value_end o.encoding) then Ok (value_at s o pos) else Err refusal.Read

  -- the answer, by both tests
  abbrev answer : ℕ → Bool → Bool → Result (List Pair) Refusal
  answer k read low =
      elim read [
        | true ↦ elim low [ true ↦ met | false ↦ first_within k s o (pos + version_len_of o.encoding) limit ]
        | false ↦ Err refusal.Read
      ]

  one : (k : ℕ) (read low : Bool) → read_of ≡ read → leb (stored_seq s o pos) limit ≡ low → first_within (suc k) s o pos limit ≡ answer k read low
  unfolding first_within
  one k read low e f = ap₂ (answer k) e f

  some : (n : ℕ) → 0 < n → first_within n s o pos limit ≡ first_within (suc (n - 1)) s o pos limit
  some n h = let e : n ≡ suc (n - 1) = omega arith in ap (λ (k : ℕ). first_within k s o pos limit) e

  read_yes : pos + o.encoding.seq ≤ length s → stored_seq s o pos < 2 ^ 64 → read_of ≡ true
  unfolding readable
  read_yes l b = true_both _ _ (le-leb (pos + o.encoding.seq) (length s) l) (lt-ltb (stored_seq s o pos) (2 ^ 64) b)

  -- ---- of some versions, one is read

  -- its sequence is within the limit: it is the answer
  pub value_within : (n : ℕ) → 0 < n → pos + o.encoding.seq ≤ length s → stored_seq s o pos < 2 ^ 64 → stored_seq s o pos ≤ limit
      → first_within n s o pos limit ≡ met
  value_within n h l b w = some n h ∙ one (n - 1) true true (read_yes l b) (le-leb (stored_seq s o pos) limit w)

  -- or above it: the next one is asked
  pub value_above : (n k : ℕ) → n ≡ suc k → pos + o.encoding.seq ≤ length s → stored_seq s o pos < 2 ^ 64 → limit < stored_seq s o pos
      → first_within n s o pos limit ≡ first_within k s o (pos + version_len_of o.encoding) limit
  value_above n k h l b w = ap (λ (m : ℕ). first_within m s o pos limit) h ∙ one k true false (read_yes l b) (lt-leb (stored_seq s o pos) limit w)

  -- none is left
  pub value_none : (n : ℕ) → n ≤ 0 → first_within n s o pos limit ≡ Ok []
  unfolding first_within
  value_none n h = let e : n ≡ 0 = omega arith in ap (λ (k : ℕ). first_within k s o pos limit) e

  -- the version within the limit is given where all that a span reads of it is inside
  pub met_inside : pos + value_end o.encoding ≤ length s → met ≡ Ok (value_at s o pos)
  unfolding readable
  met_inside l = if_true _ _ _ (le-leb (pos + value_end o.encoding) (length s) l)

  pub met_outside : length s < pos + value_end o.encoding → met ≡ Err refusal.Read
  unfolding readable
  met_outside l = if_false _ _ _ (lt-leb (pos + value_end o.encoding) (length s) l)

-- ---- the value at a place, as it is stored

module _ (s : List ℕ) (o : Opened) (pos : ℕ) {top stored : ℕ} (et : top ≡ tombstone_of o.encoding)
    (ev : stored ≡ le_at s (pos + o.encoding.seq) o.encoding.value) where
  tombstone_none : top ≤ stored → value_at s o pos ≡ []
  unfolding value_at kind_in stored_value unless_tombstone
  tombstone_none l =
      ap (λ (k : Kind). unless_tombstone k (record { offset = stored_offset s o pos; len = length_in o (stored_value s o pos) }))
      (if_true _ _ _ (le-leb (tombstone_of o.encoding) (stored_value s o pos) (omega arith)))

  put_pair : stored < top → {offset : ℕ} → offset ≡ le_at s (pos + o.encoding.seq + o.encoding.value) 4 → o.encoding.address ≡ 4
      → value_at s o pos ≡ record { offset = offset; len = stored } ∷ []
  unfolding value_at kind_in stored_value unless_tombstone stored_offset length_in
  put_pair l {offset} eo four =
      let m : length_in o (stored_value s o pos) ≡ stored = mod-eq_of_lt (omega arith) ∙ sym ev in
      let p : stored_offset s o pos ≡ offset = rw (four) (sym eo) in
      ap₂ (λ (k : Kind) (q : Pair). unless_tombstone k q)
      (if_false _ _ _ (lt-leb (tombstone_of o.encoding) (stored_value s o pos) (omega arith)))
      (ap₂ (λ (a b : ℕ). record { offset = a; len = b }) p m)

  -- a tombstone leaves the output
  pub none_put : top ≤ stored → (l : List ℕ) (to : ℕ) → (to ≡ to + 2 * length (value_at s o pos)) × (l ≡ sets l to (pair_numbers (value_at s o pos)))
  unfolding pair_numbers
  none_put h l to = let e = tombstone_none h in (rw e (omega arith), rw e)

  -- another version puts its pair there
  pub pair_put : stored < top → {offset : ℕ} → offset ≡ le_at s (pos + o.encoding.seq + o.encoding.value) 4 → o.encoding.address ≡ 4
      → (l : List ℕ) (to : ℕ) → (to + 2 ≡ to + 2 * length (value_at s o pos)) × (set (set l to offset) (to + 1) stored ≡ sets l to (pair_numbers (value_at s o pos)))
  unfolding pair_numbers
  pair_put h eo four l to = let e = put_pair h eo four in (rw e (omega arith), rw (e, add-one))

-- ---- the place of the first version within a limit

module _ (s : List ℕ) (o : Opened) (room pos limit : ℕ) where
  -- has it the room, and is its sum below 2^64?
  abbrev has_room : Bool
  has_room = both (readable s pos room) (ltb (stored_seq s o pos) (2 ^ 64))

  abbrev place : ℕ → Bool → Bool → Result (Option ℕ) Refusal
  place k read low =
      elim read [
        | true ↦ elim low [ true ↦ Ok (Some pos) | false ↦ placed_of k s o room (pos + version_len_of o.encoding) limit ]
        | false ↦ Err refusal.Read
      ]

  placed_one : (k : ℕ) (read low : Bool) → has_room ≡ read → leb (stored_seq s o pos) limit ≡ low → placed_of (suc k) s o room pos limit ≡ place k read low
  unfolding placed_of
  placed_one k read low e f = ap₂ (place k) e f

  placed_more : (n : ℕ) → 0 < n → placed_of n s o room pos limit ≡ placed_of (suc (n - 1)) s o room pos limit
  placed_more n h = let e : n ≡ suc (n - 1) = omega arith in ap (λ (k : ℕ). placed_of k s o room pos limit) e

  room_yes : pos + room ≤ length s → stored_seq s o pos < 2 ^ 64 → has_room ≡ true
  unfolding readable
  room_yes l b = true_both _ _ (le-leb (pos + room) (length s) l) (lt-ltb (stored_seq s o pos) (2 ^ 64) b)

  -- it has not the room
  pub placed_outside : (n : ℕ) → 0 < n → length s < pos + room → placed_of n s o room pos limit ≡ Err refusal.Read
  unfolding readable
  placed_outside n h l = placed_more n h ∙ placed_one (n - 1) false _ (sym (both_no _ _ (lt-leb (pos + room) (length s) l))) refl

  -- its sum is beyond 64 bits
  pub placed_beyond : (n : ℕ) → 0 < n → pos + room ≤ length s → 2 ^ 64 ≤ stored_seq s o pos → placed_of n s o room pos limit ≡ Err refusal.Read
  unfolding readable both
  placed_beyond n h l b =
      placed_more n h ∙ placed_one (n - 1) false _ (rw (le-leb (pos + room) (length s) l, le-ltb (stored_seq s o pos) (2 ^ 64) b)) refl

  -- it is the one
  pub placed_here : (n : ℕ) → 0 < n → pos + room ≤ length s → stored_seq s o pos < 2 ^ 64 → stored_seq s o pos ≤ limit
      → placed_of n s o room pos limit ≡ Ok (Some pos)
  placed_here n h l b w = placed_more n h ∙ placed_one (n - 1) true true (room_yes l b) (le-leb (stored_seq s o pos) limit w)

  -- the next one is asked
  pub placed_above : (n k : ℕ) → n ≡ suc k → pos + room ≤ length s → stored_seq s o pos < 2 ^ 64 → limit < stored_seq s o pos
      → placed_of n s o room pos limit ≡ placed_of k s o room (pos + version_len_of o.encoding) limit
  placed_above n k h l b w = ap (λ (m : ℕ). placed_of m s o room pos limit) h ∙ placed_one k true false (room_yes l b) (lt-leb (stored_seq s o pos) limit w)

  -- none is left
  pub placed_last : (n : ℕ) → n ≤ 0 → placed_of n s o room pos limit ≡ Ok None
  unfolding placed_of
  placed_last n h = let e : n ≡ 0 = omega arith in ap (λ (k : ℕ). placed_of k s o room pos limit) e

-- with the room of a sequence at least, it tells of the answer
placed_all : (n : ℕ) (s : List ℕ) (o : Opened) (room pos limit : ℕ) → o.encoding.seq ≤ room
    → PlaceTells (placed_of n s o room pos limit) s o room (first_within n s o pos limit)
unfolding placed_of first_within PlaceTells readable
placed_all zero s o room pos limit h = refl
placed_all (suc n) s o room pos limit h =
    go (has_room s o room pos limit) (leb (stored_seq s o pos) limit) refl refl (placed_all n s o room (pos + version_len_of o.encoding) limit h)
  where
    of_place : (r : Result (Option ℕ) Refusal) → placed_of (suc n) s o room pos limit ≡ r → PlaceTells r s o room (first_within (suc n) s o pos limit)
        → PlaceTells (placed_of (suc n) s o room pos limit) s o room (first_within (suc n) s o pos limit)
    of_place r e t = subst⁻¹ (λ (x : Result (Option ℕ) Refusal). PlaceTells x s o room (first_within (suc n) s o pos limit)) e t

    go : (read low : Bool) → has_room s o room pos limit ≡ read → leb (stored_seq s o pos) limit ≡ low
        → PlaceTells (placed_of n s o room (pos + version_len_of o.encoding) limit) s o room (first_within n s o (pos + version_len_of o.encoding) limit)
        → PlaceTells (placed_of (suc n) s o room pos limit) s o room (first_within (suc n) s o pos limit)
    go false low e f rest =
        of_place (Err refusal.Read) (placed_one s o room pos limit n false low e f)
        (λ q. one s o pos limit n false low (subst (λ (w : ℕ). both (readable s pos w) (ltb (stored_seq s o pos) (2 ^ 64)) ≡ false) q e) f)
    go true true e f rest =
        let b = both_true _ _ e in
        let l = leb-true (pos + room) (length s) b.0 in
        of_place (Ok (Some pos)) (placed_one s o room pos limit n true true e f)
        (value_within s o pos limit (suc n) (omega arith) (omega arith) (ltb-true (stored_seq s o pos) (2 ^ 64) b.1) (leb-true (stored_seq s o pos) limit f), l)
    go true false e f rest =
        let b = both_true _ _ e in
        let l = leb-true (pos + room) (length s) b.0 in
        of_place _ (placed_one s o room pos limit n true false e f)
        (subst⁻¹ (λ (a : Result (List Pair) Refusal). PlaceTells (placed_of n s o room (pos + version_len_of o.encoding) limit) s o room a)
        (value_above s o pos limit (suc n) n refl (omega arith) (ltb-true (stored_seq s o pos) (2 ^ 64) b.1) (leb-false (stored_seq s o pos) limit f)) rest)

pub told_placed : {r : Result (Option ℕ) Refusal} (n : ℕ) (s : List ℕ) (o : Opened) (room pos limit : ℕ) → r ≡ placed_of n s o room pos limit
    → o.encoding.seq ≤ room → PlaceTells r s o room (first_within n s o pos limit)
told_placed n s o room pos limit e h =
    subst⁻¹ (λ (x : Result (Option ℕ) Refusal). PlaceTells x s o room (first_within n s o pos limit)) e (placed_all n s o room pos limit h)

-- what the place of the first version within a limit tells

module _ {r : Result (Option ℕ) Refusal} (s : List ℕ) (o : Opened) (room : ℕ) (a : Result (List Pair) Refusal) (t : PlaceTells r s o room a) where
  pub placed_some : {pos : ℕ} → r ≡ Ok (Some pos) → (a ≡ met_at s o pos) × (pos + room ≤ length s)
  unfolding PlaceTells
  placed_some e = subst (λ (x : Result (Option ℕ) Refusal). PlaceTells x s o room a) e t

  pub placed_none : r ≡ Ok None → a ≡ Ok []
  unfolding PlaceTells
  placed_none e = subst (λ (x : Result (Option ℕ) Refusal). PlaceTells x s o room a) e t

  pub placed_err : {e : Refusal} → r ≡ Err e → room ≡ o.encoding.seq → a ≡ Err e
  unfolding PlaceTells
  placed_err e = subst (λ (x : Result (Option ℕ) Refusal). PlaceTells x s o room a) e t
