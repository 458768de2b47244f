-- Filling gives exactly the records of the pairs, and the places afterwards hold them.
-- Assumes nothing.
use mathlib.Core.Path.{◌≡◌, refl, sym, ap, ◌∙◌, subst}
use mathlib.Core.List.{List, [], ◌∷◌, ◌++◌}
use Prim.Native.Nat.{ℕ, zero, suc, ◌+◌, ◌*◌, ◌-◌, ◌%◌, ◌<◌, ◌≤◌}
use native.Mathlib.Omega.{arith}
use lib.ListN.{length, drop, length-append, length-drop, get_or-append}
use lib.Seq.{get_or-append-add, get_or-drop}
use borrow.Author.Tests.{eq-eqb, le-leb}
use Rattle.std.specs.Prelude.{Result, Ok, Err}
use Rattle.refusal.specs.declared.Refusal.{Refusal}
use Rattle.refusal.proofs.Asked.{refused_ok, ok_refused, same_ok}
use Rattle.num.specs.Choice.{when◌then◌else◌}
use Rattle.block.proofs.Sound.{sound_exactly}
use Rattle.opening.specs.Open.{block_bytes}
use Rattle.blocks.specs.declared.BlockRecord.{BlockRecord}
use Rattle.blocks.specs.Blocks.{record_value, pair_record, records_from, placed_for, fill_of, filled_read, filled_places, no_record}
use Rattle.blocks.specs.Internal.{offset_at, len_at}
use Rattle.blocks.proofs.Pairs.{pair_passed, pair_passes, records_split, records_join, offset_next, len_next}
use Rattle.blocks.proofs.Writing.{fill_given}
use Rattle.blocklist.specs.Promises.{at_place, meta_in, PairRecord, PairRecords, FilledList, FillsExactly, FillsPlaces, RefusalLeaves}

-- ---- one pair in front of others

module _ («data» : List ℕ) (offset len : ℕ) (pairs : List ℕ) where
  -- the record of a pair behind the first
  pair_next : (i : ℕ) (r : BlockRecord) → PairRecord «data» pairs i r → PairRecord «data» (offset ∷ len ∷ pairs) (suc i) r
  unfolding offset_at len_at
  pair_next i r p =
      record {
        offset_is = p.offset_is ∙ sym (offset_next offset len pairs i);
        len_is = p.len_is ∙ sym (len_next offset len pairs i);
        inside = p.inside;
        sound = p.sound;
      }

  pair_before : (i : ℕ) (r : BlockRecord) → PairRecord «data» (offset ∷ len ∷ pairs) (suc i) r → PairRecord «data» pairs i r
  unfolding offset_at len_at
  pair_before i r p =
      record {
        offset_is = p.offset_is ∙ offset_next offset len pairs i;
        len_is = p.len_is ∙ len_next offset len pairs i;
        inside = p.inside;
        sound = p.sound;
      }

  module _ (at : ℕ) (r : BlockRecord) (tail : List BlockRecord) where
    records-more : PairRecord «data» (offset ∷ len ∷ pairs) 0 r → r.offset ≡ at → PairRecords «data» pairs (r.offset + r.len) tail → PairRecords «data» (offset ∷ len ∷ pairs) at (r ∷ tail)
    records-more p start q = record { paired = let n = q.paired in omega arith; each = each; first = λ l. start; follow = follow }
      where
        each : (i : ℕ) → i < length (r ∷ tail) → PairRecord «data» (offset ∷ len ∷ pairs) i (at_place (r ∷ tail) i)
        each zero l = p
        each (suc i) l = pair_next i (at_place tail i) (q.each i (omega arith))

        follow : (i : ℕ) → i + 1 < length (r ∷ tail) → (at_place (r ∷ tail) (i + 1)).offset ≡ (at_place (r ∷ tail) i).offset + (at_place (r ∷ tail) i).len
        follow zero l = q.first (omega arith)
        follow (suc i) l = let n : suc i + 1 ≡ suc (i + 1) = omega arith in ap (λ (k : ℕ). (at_place (r ∷ tail) k).offset) n ∙ q.follow i (omega arith)

    records-less : PairRecords «data» (offset ∷ len ∷ pairs) at (r ∷ tail) → PairRecords «data» pairs (r.offset + r.len) tail
    records-less q = record { paired = let n = q.paired in omega arith; each = λ i l. pair_before i (at_place tail i) (q.each (suc i) (omega arith)); first = λ l. q.follow 0 (omega arith); follow = follow }
      where
        follow : (i : ℕ) → i + 1 < length tail → (at_place tail (i + 1)).offset ≡ (at_place tail i).offset + (at_place tail i).len
        follow i l = let n : suc (i + 1) ≡ suc i + 1 = omega arith in ap (λ (k : ℕ). (at_place (r ∷ tail) k).offset) n ∙ q.follow (suc i) (omega arith)

-- ---- the definition and the plain terms

-- the record of a pair that passes, and back
first_is : («data» : List ℕ) (at offset len : ℕ) (pairs : List ℕ) (r : BlockRecord) → pair_record «data» at offset len ≡ Ok r
    → PairRecord «data» (offset ∷ len ∷ pairs) 0 r × (r.offset ≡ at) × (r.offset + r.len ≡ offset + len)
unfolding record_value meta_in
first_is «data» at offset len pairs r e =
    let p = pair_passed «data» at offset len r e in
    let s = (sound_exactly (block_bytes «data» offset len) p.2.0).0 p.2.1 in
    subst (λ (t : BlockRecord). PairRecord «data» (offset ∷ len ∷ pairs) 0 t × (t.offset ≡ at) × (t.offset + t.len ≡ offset + len)) (sym p.2.2)
    (record { offset_is = refl; len_is = refl; inside = p.1; sound = s }, p.0, refl)

first_given : («data» : List ℕ) (at offset len : ℕ) (pairs : List ℕ) (r : BlockRecord) → PairRecord «data» (offset ∷ len ∷ pairs) 0 r → r.offset ≡ at
    → pair_record «data» at offset len ≡ Ok r
unfolding record_value meta_in
first_given «data» at offset len pairs r p start =
    let same : offset ≡ r.offset = sym p.offset_is in
    let size : len ≡ r.len = sym p.len_is in
    rw (same, size) (pair_passes «data» at r.offset r.len (meta_in r) start p.inside ((sound_exactly (block_bytes «data» r.offset r.len) (meta_in r)).1 p.sound))

pub records_plain : («data» blocks : List ℕ) (at : ℕ) (rs : List BlockRecord) → records_from «data» blocks at ≡ Ok rs → PairRecords «data» blocks at rs
unfolding records_from
records_plain «data» [] at rs e =
    subst (PairRecords «data» [] at) (same_ok e) (record { paired = refl; each = λ i l. absurd (omega arith); first = λ l. absurd (omega arith); follow = λ i l. absurd (omega arith) })
records_plain «data» (offset ∷ []) at rs e = refused_ok e
records_plain «data» (offset ∷ len ∷ pairs) at rs e =
    let g = records_split «data» offset len pairs at rs e in
    let f = first_is «data» at offset len pairs g.0 g.1 in
    let t = records_plain «data» pairs (offset + len) g.2.0 g.2.1 in
    subst (PairRecords «data» (offset ∷ len ∷ pairs) at) (sym g.2.2)
    (records-more «data» offset len pairs at g.0 g.2.0 f.0 f.1 (subst (λ (k : ℕ). PairRecords «data» pairs k g.2.0) (sym f.2) t))

plain_records : («data» blocks : List ℕ) (at : ℕ) (rs : List BlockRecord) → PairRecords «data» blocks at rs → records_from «data» blocks at ≡ Ok rs
unfolding records_from
plain_records «data» [] at [] p = refl
plain_records «data» [] at (r ∷ rs) p = absurd (let n = p.paired in omega arith)
plain_records «data» (offset ∷ []) at [] p = absurd (let n = p.paired in omega arith)
plain_records «data» (offset ∷ []) at (r ∷ rs) p = absurd (let n = p.paired in omega arith)
plain_records «data» (offset ∷ len ∷ pairs) at [] p = absurd (let n = p.paired in omega arith)
plain_records «data» (offset ∷ len ∷ pairs) at (r ∷ rs) p =
    let f = p.each 0 (omega arith) in
    let same : r.offset + r.len ≡ offset + len = rw (f.offset_is, f.len_is) in
    let t = plain_records «data» pairs (r.offset + r.len) rs (records-less «data» offset len pairs at r rs p) in
    records_join «data» offset len pairs at r rs (first_given «data» at offset len pairs r f (p.first (omega arith))) (subst (λ (k : ℕ). records_from «data» pairs k ≡ Ok rs) same t)

-- an even list whose records have places is filled
given_back : («data» blocks : List ℕ) (places : ℕ) (rs : List BlockRecord) → length blocks ≡ 2 * length rs → length rs ≤ places → records_from «data» blocks 0 ≡ Ok rs
    → fill_of «data» blocks places ≡ Ok rs
unfolding fill_of placed_for when◌then◌else◌
given_back «data» blocks places rs n l e =
    let even : length blocks % 2 ≡ 0 = omega arith in
    rw (eq-eqb (length blocks % 2) 0 even, e, le-leb (length rs) places l)

pub fills_exactly : FillsExactly
unfolding FillsExactly
fills_exactly «data» blocks places rs = (λ e. plain e, λ p. back p.0 p.1)
  where
    plain : fill_of «data» blocks places ≡ Ok rs → PairRecords «data» blocks 0 rs × (length rs ≤ places)
    plain e = let g = fill_given «data» blocks places rs e in (records_plain «data» blocks 0 rs g.0, g.1)

    back : PairRecords «data» blocks 0 rs → length rs ≤ places → fill_of «data» blocks places ≡ Ok rs
    back p l = given_back «data» blocks places rs p.paired l (plain_records «data» blocks 0 rs p)

-- ---- the places afterwards

pub wrote_given : (a : Result (List BlockRecord) Refusal) (n : ℕ) → filled_read a ≡ Ok n → (rs : List BlockRecord) × (a ≡ Ok rs) × (n ≡ length rs)
unfolding filled_read
wrote_given (Ok rs) n e = (rs, refl, same_ok (sym e))
wrote_given (Err k) n e = refused_ok e

-- the places of the records, and the places behind them
pub places_first : (rs before : List BlockRecord) (i : ℕ) → i < length rs → at_place (rs ++ drop (length rs) before) i ≡ at_place rs i
places_first rs before i l = get_or-append rs (drop (length rs) before) no_record i l

places_further : (rs before : List BlockRecord) (i : ℕ) → length rs ≤ i → at_place (rs ++ drop (length rs) before) i ≡ at_place before i
places_further rs before i l =
    let n : length rs + (i - length rs) ≡ i = omega arith in
    ap (λ (k : ℕ). at_place (rs ++ drop (length rs) before) k) (sym n)
    ∙ get_or-append-add rs (drop (length rs) before) (i - length rs) no_record
    ∙ get_or-drop (length rs) before (i - length rs) no_record
    ∙ ap (at_place before) n

pub fills_places : FillsPlaces
unfolding FillsPlaces FillsExactly filled_places
fills_places «data» blocks n before e =
    let g = wrote_given (fill_of «data» blocks (length before)) n e in
    let p = (fills_exactly «data» blocks (length before) g.0).0 g.1 in
    subst (λ (a : Result (List BlockRecord) Refusal). FilledList «data» blocks n before (filled_places a before)) (sym g.1)
    (record {
      paired = let m = p.0.paired in let k = g.2 in omega arith;
      room = let m = p.1 in let k = g.2 in omega arith;
      kept = let m = p.1 in simp (length-append, length-drop) (omega arith);
      each = λ i l. let k = g.2 in let h : i < length g.0 = omega arith in subst (PairRecord «data» blocks i) (sym (places_first g.0 before i h)) (p.0.each i h);
      further = λ i l. let k = g.2 in places_further g.0 before i (omega arith);
    })

pub refusal_leaves : RefusalLeaves
unfolding RefusalLeaves filled_read filled_places
refusal_leaves «data» blocks n before e = go (fill_of «data» blocks (length before)) e
  where
    go : (a : Result (List BlockRecord) Refusal) → filled_read a ≡ Err n → filled_places a before ≡ before
    go (Ok rs) x = ok_refused x
    go (Err k) x = refl
