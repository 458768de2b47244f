-- A plain opening accepts exactly what the written rules admit.
-- Assumes nothing.
use mathlib.Core.Path.{◌≡◌, refl, ap, ◌∙◌, subst}
use mathlib.Core.Bool.{true}
use mathlib.Core.List.{List}
use Prim.Native.Nat.{ℕ, ◌+◌, ◌*◌, ◌^◌, ◌<◌}
use lib.ListN.{length}
use borrow.Author.Tests.{eqb-true, eq-eqb, leb-true, le-leb, lt-ltb, not-false}
use Rattle.num.specs.Number.{le_at}
use Rattle.num.proofs.Choice.{both_true, second_either, if_true}
use Rattle.num.proofs.Steps.{yes_each}
use Rattle.refusal.proofs.Asked.{refused_ok, same_ok, asked}
use Rattle.sstable.specs.Trailer.{trailer_of, SoundTrailer}
use Rattle.sstable.proofs.TrailerLaws.{sound_trailer, trailer_asks}
use Rattle.point.specs.Hash.{is_direct, direct_slot}
use Rattle.encoding.specs.Encoding.{header_len}
use Rattle.header.specs.declared.Opened.{Opened}
use Rattle.header.specs.Facts.{Header}
use Rattle.header.proofs.Headers.{header_facts, facts_header}
use Rattle.arena.specs.declared.Cursor.{Cursor}
use Rattle.std.specs.Prelude.{Result, Ok, Err}
use Rattle.refusal.specs.declared.Refusal.{Refusal}
use Rattle.validate.specs.Walk.{Inputs}
use Rattle.opening.specs.Open.{pilot_inside_of, pilots_inside, start_of, PairsEnd, pairs_from, ends_together, prefixes_counted, end_for, inputs_of, contents_of, contents_for, trailed_header, checked_header_of, open_of}
use Rattle.opening.proofs.Pilots.{pilots_each, pilot_slot}
use Rattle.agreement.specs.Agrees.{Agrees}
use Rattle.agreement.proofs.Walk.{accepted_exactly}
use Rattle.admission.specs.Blocks.{Covers, store_entries}
use Rattle.admission.specs.Layout.{pilot_number}
use Rattle.admission.specs.Admits.{PilotsInside, Admits, OpensExactly}
use Rattle.admission.proofs.Pairs.{pairs_exactly}

-- question 10 of one pilot
yes_pilot : (s : List ℕ) (o : Opened) (k : ℕ)
    → (is_direct (le_at s (header_len + 4 * k) 4) ≡ true → direct_slot (le_at s (header_len + 4 * k) 4) < o.count) → pilot_inside_of s o k ≡ true
unfolding pilot_inside_of
yes_pilot s o k h = second_either _ _ (λ d. lt-ltb _ _ (h (not-false _ d)))

-- question 10 of all pilots, both ways: a direct one names a slot below n
pub named_slot : (s : List ℕ) (o : Opened) → PilotsInside s o → (k : ℕ) → k < o.buckets → is_direct (le_at s (header_len + 4 * k) 4) ≡ true
    → direct_slot (le_at s (header_len + 4 * k) 4) < o.count
unfolding pilot_number is_direct direct_slot
named_slot s o p k h d = p.direct k h (leb-true (2 ^ 31) (le_at s (64 + 4 * k) 4) d)

pilots_named : (s : List ℕ) (o : Opened) → pilots_inside s o ≡ true → PilotsInside s o
unfolding pilot_number is_direct direct_slot
pilots_named s o e =
    record { direct = λ k h d. pilot_slot s o k (pilots_each s o e k h) (le-leb (2 ^ 31) (le_at s (64 + 4 * k) 4) d) }

ends_data : (t : Inputs) (at : ℕ) (c : Cursor) → ends_together t at c ≡ true → at ≡ length t.backing
unfolding ends_together
ends_data t at c e = eqb-true _ _ (both_true _ _ e).0

-- pairs that end with questions 22 and 23 answered by yes
record Finished (t : Inputs) (x : Result PairsEnd Refusal) (p : Opened) : Type 0 where
  last : PairsEnd
  through : x ≡ Ok last
  together : ends_together t last.at last.progress.cursor ≡ true
  counted : prefixes_counted t last.progress.cursor ≡ true
  same : t.opened ≡ p

finished : (t : Inputs) (x : Result PairsEnd Refusal) (p : Opened) → end_for t x ≡ Ok p → Finished t x p
unfolding end_for
finished t (Err n) p e = refused_ok e
finished t (Ok last) p e =
    let e₁ = asked _ _ _ p e in
    let e₂ = asked _ _ _ p e₁.1 in
    record { last = last; through = refl; together = e₁.0; counted = e₂.0; same = same_ok e₂.1 }

finish : (t : Inputs) (x : PairsEnd) → ends_together t x.at x.progress.cursor ≡ true → prefixes_counted t x.progress.cursor ≡ true
    → end_for t (Ok x) ≡ Ok t.opened
unfolding end_for
finish t x e c = if_true _ _ _ e ∙ if_true _ _ _ c

-- questions 10 to 23 of a record: what they accept, and what they ask
pub record Contents (s «data» blocks : List ℕ) (scratch : ℕ) (o : Opened) : Type 0 where
  pub pilots : PilotsInside s o
  pub covers : Covers «data» blocks
  pub agrees : Agrees s «data» scratch o (store_entries «data» blocks)

pub contents_asks : (s «data» blocks : List ℕ) (scratch : ℕ) (o p : Opened) → contents_of s «data» blocks scratch o ≡ Ok p
    → Contents s «data» blocks scratch o × (o ≡ p)
unfolding contents_of inputs_of
contents_asks s «data» blocks scratch o p e =
    let t = inputs_of s «data» scratch o in
    let e₁ = asked _ _ _ p e in
    let e₂ = asked _ _ _ p e₁.1 in
    let f = finished t (pairs_from t blocks 0 (start_of o)) p e₂.1 in
    let q = f.last.progress in
    let d = ends_data t f.last.at q.cursor f.together in
    let w = (pairs_exactly t blocks (start_of o) q).0 (f.through ∙ ap (λ (n : ℕ). Ok (record { at = n; progress = q })) d) in
    let g = (accepted_exactly s «data» scratch o (store_entries «data» blocks) f.last.at).0 (q, w.1, f.together, f.counted) in (
      record {
        pilots = pilots_named s o e₁.0;
        covers = w.0;
        agrees = g.1;
      },
      f.same,
    )

pub asks_contents : (s «data» blocks : List ℕ) (scratch : ℕ) (o : Opened) → Contents s «data» blocks scratch o
    → contents_of s «data» blocks scratch o ≡ Ok o
unfolding contents_of pilots_inside inputs_of
asks_contents s «data» blocks scratch o c =
    let t = inputs_of s «data» scratch o in
    let g = (accepted_exactly s «data» scratch o (store_entries «data» blocks) (length «data»)).1 (refl, c.agrees) in
    let w = (pairs_exactly t blocks (start_of o) g.0).1 (c.covers, g.1) in
    if_true _ _ _ (yes_each (pilot_inside_of s o) o.buckets (λ k h. yes_pilot s o k (named_slot s o c.pilots k h)))
    ∙ if_true _ _ _ (eq-eqb _ _ c.covers.even)
    ∙ ap (end_for t) w
    ∙ finish t (record { at = length «data»; progress = g.0 }) g.2 g.3

-- questions 1 to 6, both ways
pub checked_asks : (s : List ℕ) (o : Opened) → checked_header_of s ≡ Ok o → SoundTrailer s × Header s o
unfolding checked_header_of trailed_header
checked_asks s o = go (trailer_of s) refl
  where
    go : (r : Result (Unit {0}) Refusal) → trailer_of s ≡ r → trailed_header s r ≡ Ok o → SoundTrailer s × Header s o
    go (Err n) q e = refused_ok e
    go (Ok u) q e = (trailer_asks s q, header_facts s o e)

pub asks_checked : (s : List ℕ) (o : Opened) → SoundTrailer s → Header s o → checked_header_of s ≡ Ok o
unfolding checked_header_of trailed_header
asks_checked s o t h = ap (trailed_header s) (sound_trailer s t) ∙ facts_header s o h

open_asks : (s «data» blocks : List ℕ) (scratch : ℕ) (o : Opened) (h : Result Opened Refusal) → checked_header_of s ≡ h → contents_for s «data» blocks scratch h ≡ Ok o
    → Admits s «data» blocks scratch o
unfolding contents_for
open_asks s «data» blocks scratch o (Err n) eh e = refused_ok e
open_asks s «data» blocks scratch o (Ok p) eh e =
    let c = contents_asks s «data» blocks scratch p o e in
    let h = checked_asks s p eh in
    subst (Admits s «data» blocks scratch) c.1
    (record { trailer = h.0; header = h.1; pilots = c.0.pilots; covers = c.0.covers; agrees = c.0.agrees })

asks_open : (s «data» blocks : List ℕ) (scratch : ℕ) (o : Opened) → Admits s «data» blocks scratch o → open_of s «data» blocks scratch ≡ Ok o
unfolding open_of contents_for
asks_open s «data» blocks scratch o a =
    ap (contents_for s «data» blocks scratch) (asks_checked s o a.trailer a.header)
    ∙ asks_contents s «data» blocks scratch o (record { pilots = a.pilots; covers = a.covers; agrees = a.agrees })

-- a section is accepted beside data, a block list and a key scratch, with a record, exactly if they are admitted (P2)
pub open_exactly : OpensExactly
unfolding OpensExactly open_of
open_exactly s «data» blocks scratch o = (open_asks s «data» blocks scratch o (checked_header_of s) refl, asks_open s «data» blocks scratch o)
