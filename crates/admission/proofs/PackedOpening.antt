-- A packed opening accepts exactly what the written rules admit, and gives the packed record and the packed bytes.
-- Assumes nothing.
use mathlib.Core.Path.{◌≡◌, refl, sym, ap, ◌∙◌, subst, subst⁻¹}
use mathlib.Core.Bool.{true}
use mathlib.Core.List.{List}
use Prim.Native.Nat.{ℕ, ◌+◌, ◌*◌, ◌-◌, ◌%◌, ◌^◌, ◌<◌, ◌≤◌}
use native.Mathlib.Omega.{arith}
use borrow.Author.Tests.{ltb-true, lt-ltb, leb-true, le-leb, lt-leb}
use lib.Dec.{leb}
use lib.ListN.{length, take, drop}
use Rattle.num.specs.Number.{le_at}
use Rattle.refusal.proofs.Asked.{refused_ok, same_ok, asked}
use Rattle.num.proofs.Choice.{if_true, if_false}
use Rattle.num.proofs.Steps.{each_yes, yes_each}
use Rattle.point.specs.Hash.{is_direct, direct_slot}
use Rattle.header.specs.declared.Opened.{Opened}
use Rattle.header.specs.Header.{packed_record}
use Rattle.header.specs.Facts.{Header, from_plain}
use Rattle.header.proofs.Bounds.{arena_end}
use Rattle.header.proofs.Questions.{packed_yes, yes_packed}
use Rattle.opening.specs.Open.{contents_of, checked_header_of}
use Rattle.std.specs.Prelude.{Result, Ok, Err}
use Rattle.refusal.specs.declared.Refusal.{Refusal}
use Rattle.packing.specs.Packing.{PackedForm, packed_as, pilot_packs, pilots_pack, packed_for, pack_of, pack_for, open_packed_of}
use Rattle.packed.specs.Packed.{pilot_at, pack_pilot, packed_bytes}
use Rattle.packed.proofs.Lengths.{length_packed}
use Rattle.packed.proofs.Bytes.{packed_header, packed_pilot, packed_address, packed_part, packed_last}
use Rattle.agreement.specs.Keys.{key_records_end}
use Rattle.agreement.proofs.Same.{end_is}
use Rattle.admission.specs.Layout.{pilot_number, packed_arena, packed_length, PackedLayout}
use Rattle.admission.specs.Admits.{PilotsPack, AdmitsPacked, PackedFrom, PacksExactly, PacksLaidOut}
use Rattle.admission.proofs.Opening.{contents_asks, asks_contents, checked_asks, asks_checked}

-- question 8, both ways
pilots_asked : (s : List ℕ) (o : Opened) → pilots_pack s o ≡ true → PilotsPack s o
unfolding pilots_pack pilot_packs pilot_at pilot_number direct_slot
pilots_asked s o e = record { below = λ k h. ltb-true _ _ (each_yes (pilot_packs s) o.buckets e k h) }

-- a pilot without bit 31 has 23 bits
pub pilot_packs_lem : (s : List ℕ) (o : Opened) → PilotsPack s o → (k : ℕ) → k < o.buckets → direct_slot (pilot_at s k) < 2 ^ 23
unfolding pilot_at pilot_number direct_slot
pilot_packs_lem s o p k h = p.below k h

pilots_pass : (s : List ℕ) (o : Opened) → PilotsPack s o → pilots_pack s o ≡ true
unfolding pilots_pack pilot_packs
pilots_pass s o p = yes_each (pilot_packs s) o.buckets (λ k h. lt-ltb _ _ (pilot_packs_lem s o p k h))

-- the packed length
pub packed_size_lem : (s : List ℕ) (o : Opened) → Header s o → length (packed_bytes s o) ≡ packed_length s o
unfolding packed_length packed_arena
packed_size_lem s o h = let e = end_is s o in omega (arith, length_packed s o h)

module _ (s «data» blocks : List ℕ) (scratch room : ℕ) where
  packed_asks : (o p : Opened) (bytes : List ℕ) (r : Result Opened Refusal) → contents_of s «data» blocks scratch o ≡ r → packed_for s o r ≡ packed_as p bytes
      → (contents_of s «data» blocks scratch o ≡ Ok o) × (p ≡ packed_record o) × (bytes ≡ packed_bytes s o)
  unfolding packed_for
  packed_asks o p bytes (Err n) q e = refused_ok e
  packed_asks o p bytes (Ok x) q e =
      let c = contents_asks s «data» blocks scratch o x q in
      let z : ◌≡◌ {A = PackedForm} (record { opened = p; bytes = bytes }) (record { opened = packed_record o; bytes = packed_bytes s o }) = same_ok (sym e) in
      (q ∙ ap (λ (y : Opened). Ok y) (sym c.1), ap (λ (x : PackedForm). x.opened) z, ap (λ (x : PackedForm). x.bytes) z)

  pack_asks : (o p : Opened) (bytes : List ℕ) → checked_header_of s ≡ Ok o → pack_of s «data» blocks scratch room o ≡ packed_as p bytes → PackedFrom s «data» blocks scratch room p bytes
  unfolding pack_of
  pack_asks o p bytes h e =
      let e₁ = asked _ _ _ _ e in
      let e₂ = asked _ _ _ _ e₁.1 in
      let e₃ = asked _ _ _ _ e₂.1 in
      let w = packed_asks o p bytes (contents_of s «data» blocks scratch o) refl e₃.1 in
      let c = (contents_asks s «data» blocks scratch o o w.0).0 in
      let k = checked_asks s o h in
      let f = packed_yes o e₁.0 in
      record {
        plain = o;
        admits = record {
          admits = record { trailer = k.0; header = k.1; pilots = c.pilots; covers = c.covers; agrees = c.agrees };
          checksums = f.0;
          few = f.1;
          pilots = pilots_asked s o e₂.0;
          holds = subst (λ (n : ℕ). n ≤ room) (packed_size_lem s o k.1) (leb-true _ _ e₃.0);
        };
        same_record = w.1;
        same_bytes = w.2;
      }

  header_asks : (p : Opened) (bytes : List ℕ) (r : Result Opened Refusal) → checked_header_of s ≡ r → pack_for s «data» blocks scratch room r ≡ packed_as p bytes → PackedFrom s «data» blocks scratch room p bytes
  unfolding pack_for
  header_asks p bytes (Err n) q e = refused_ok e
  header_asks p bytes (Ok o) q e = pack_asks o p bytes q e

  asks_packed : (o : Opened) → AdmitsPacked s «data» blocks scratch room o → open_packed_of s «data» blocks scratch room ≡ packed_as (packed_record o) (packed_bytes s o)
  unfolding open_packed_of pack_for pack_of packed_for
  asks_packed o a =
      ap (pack_for s «data» blocks scratch room) (asks_checked s o a.admits.trailer a.admits.header)
      ∙ if_true _ _ _ (yes_packed o a.checksums a.few)
      ∙ if_true _ _ _ (pilots_pass s o a.pilots)
      ∙ if_true _ _ _ (le-leb _ _ (subst⁻¹ (λ (n : ℕ). n ≤ room) (packed_size_lem s o a.admits.header) a.holds))
      ∙ ap (packed_for s o)
      (asks_contents s «data» blocks scratch o (record { pilots = a.admits.pilots; covers = a.admits.covers; agrees = a.admits.agrees }))

-- a section is accepted packed, as a record and bytes, exactly if its header says a record that is admitted and whose packed form they are (P2)
pub open_packed_exactly : PacksExactly
unfolding PacksExactly open_packed_of
open_packed_exactly s «data» blocks scratch room p bytes = (
  header_asks s «data» blocks scratch room p bytes (checked_header_of s) refl,
  λ f.
      asks_packed s «data» blocks scratch room f.plain f.admits
      ∙ sym (ap (λ (x : Opened). packed_as x bytes) f.same_record ∙ ap (packed_as (packed_record f.plain)) f.same_bytes),
)

-- ---- the layout of the packed bytes

-- a pilot in 3 bytes
packed_low : (q : ℕ) → q < 2 ^ 31 → pack_pilot q ≡ q
unfolding pack_pilot is_direct direct_slot
packed_low q l = let e = if_false (leb (2 ^ 31) q) (2 ^ 23) 0 (lt-leb (2 ^ 31) q l) in omega arith

packed_direct : (q : ℕ) → 2 ^ 31 ≤ q → pack_pilot q ≡ q % 2 ^ 31 + 2 ^ 23
unfolding pack_pilot is_direct direct_slot
packed_direct q l = ap (λ (n : ℕ). q % 2 ^ 31 + n) (if_true (leb (2 ^ 31) q) (2 ^ 23) 0 (le-leb (2 ^ 31) q l))

module _ (s : List ℕ) (o : Opened) (h : Header s o) (p : PilotsPack s o) where
  pilot_stands : (k : ℕ) → k < o.buckets → le_at (packed_bytes s o) (64 + 3 * k) 3 ≡ pack_pilot (pilot_number s k)
  unfolding pilot_number pilot_at
  pilot_stands k l = packed_pilot s o h k l (pilot_packs_lem s o p k l)

  arena_stands : take (key_records_end s o - o.arena) (drop (packed_arena o) (packed_bytes s o)) ≡ take (key_records_end s o - o.arena) (drop o.arena s)
  unfolding packed_arena packed_record
  arena_stands =
      let e = end_is s o in
      let b = (arena_end s o (from_plain h)).0 in
      let z : packed_arena o + 0 ≡ packed_arena o = omega arith in
      let y : o.arena + 0 ≡ o.arena = omega arith in
      sym (ap (λ (n : ℕ). take (key_records_end s o - o.arena) (drop n (packed_bytes s o))) z)
      ∙ packed_part s o h 0 (key_records_end s o - o.arena) (omega arith)
      ∙ ap (λ (n : ℕ). take (key_records_end s o - o.arena) (drop n s)) y

  layout : PackedLayout s o (packed_bytes s o)
  layout =
      record {
        size = packed_size_lem s o h;
        header = packed_header s o h;
        pilot = λ k l b. pilot_stands k l ∙ packed_low (pilot_number s k) b;
        direct = λ k l b. pilot_stands k l ∙ packed_direct (pilot_number s k) b;
        address = packed_address s o h;
        arena = arena_stands;
        last = packed_last s o h;
      }

-- the packed bytes of what is admitted packed have the packed layout
pub packs_laid_out : PacksLaidOut
unfolding PacksLaidOut
packs_laid_out s «data» blocks scratch room o a = layout s o a.admits.header a.pilots
