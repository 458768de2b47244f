-- The demands at the entries: what the results of 0 leave, and what follows for one linker and for two.
-- Assumes nothing.
use mathlib.Core.Path.{◌≡◌, refl, sym, ap, ap₂, ◌∙◌, subst⁻¹}
use mathlib.Core.List.{List}
use mathlib.Core.Logic.{◌↔◌}
use Prim.Native.Nat.{ℕ, ◌+◌, ◌≤◌}
use native.Mathlib.Nat.{zero-add}
use native.Mathlib.Omega.{arith}
use lib.ListN.{length, take, drop}
use lib.Seq.{sets}
use Rattle.std.specs.Prelude.{Result, Ok}
use Rattle.num.proofs.Lists.{part_sets_same, standing_next, standing_sets}
use Rattle.refusal.specs.declared.Refusal.{Refusal}
use Rattle.header.specs.declared.Opened.{Opened}
use Rattle.packing.specs.Packing.{PackedForm, packed_as, packed_written}
use Rattle.header.specs.Header.{packed_record}
use Rattle.packed.specs.Packed.{packed_bytes}
use Rattle.admission.specs.Layout.{PackedLayout}
use Rattle.admission.specs.Admits.{Admits, OpensExactly, PackedFrom, PacksExactly, PacksLaidOut}
use Rattle.admission.proofs.Opening.{open_exactly}
use Rattle.admission.proofs.PackedOpening.{packed_size_lem, open_packed_exactly, packs_laid_out}
use Rattle.locating.specs.Store.{plain_opening, packed_opening}
use Rattle.locating.specs.Looks.{LooksExactly}
use Rattle.locating.proofs.Accepted.{lookup_exactly}
use Rattle.linking.specs.Linkers.{TwoLinkers}
use Rattle.linking.proofs.TwoLinkers.{two_linkers}
use Rattle.numbers.specs.Numbers.{record_numbers}
use Rattle.numbers.proofs.RecordNumbers.{record_stands}
use Rattle.opens.specs.Written.{record_written, packed_record_written, packed_len_written}
use Rattle.numbered.specs.Numbers.{OpensNumbered, PacksNumbered}
use Rattle.numbered.proofs.Numbers.{opens_numbered, packs_numbered}
use Rattle.calls.specs.Calls.{Lent, opens, packs, OpenCall, PackCall, Linker, opened_plain, opened_packed, holding, AdmittedPacked, OpenCalls, LookupCalls, LinkerCalls, RecordPlaces, OutputLeft, OutputsLeft}
use Rattle.calls.proofs.Records.{plain_record_places, packed_record_places, packed_length_lem}
use Rattle.calls.proofs.Answers.{store_held, HoldsStore, same_held, call_looked_up, calls_alike}

-- P2 of what a call was lent
open_exact : (l : Lent) (o : Opened) → (opens l ≡ Ok o) ↔ Admits l.section l.backing l.blocks l.scratch o
unfolding OpensExactly
open_exact l = open_exactly l.section l.backing l.blocks l.scratch

pack_exact : (l : Lent) (room : ℕ) (p : Opened) (bytes : List ℕ)
    → (packs l room ≡ packed_as p bytes) ↔ PackedFrom l.section l.backing l.blocks l.scratch room p bytes
unfolding PacksExactly
pack_exact l = open_packed_exactly l.section l.backing l.blocks l.scratch

-- its result is 0 exactly if it is accepted
open_zero : (c : OpenCall) → (c.result ≡ 0) ↔ ((o : Opened) × (opens c.lent ≡ Ok o))
unfolding OpensNumbered
open_zero c =
    let z = (opens_numbered c.lent.section c.lent.backing c.lent.blocks c.lent.scratch).zero in
    (λ e. z.0 (sym c.returns ∙ e), λ a. c.returns ∙ z.1 a)

pack_zero : (c : PackCall) → (c.result ≡ 0) ↔ ((p : Opened) × ((bytes : List ℕ) × (packs c.lent (length c.output) ≡ packed_as p bytes)))
unfolding PacksNumbered
pack_zero c =
    let z = (packs_numbered c.lent.section c.lent.backing c.lent.blocks c.lent.scratch (length c.output)).zero in
    (λ e. z.0 (sym c.returns ∙ e), λ a. c.returns ∙ z.1 a)

-- what a plain opening that accepted leaves
plain_left : (c : OpenCall) (o : Opened) → opens c.lent ≡ Ok o → c.after ≡ record_numbers o
unfolding record_written
plain_left c o e = c.leaves ∙ ap (λ (r : Result Opened Refusal). record_written r c.before) e ∙ record_stands c.before o c.sixteen

-- what a packed one leaves
record PackedLeft (c : PackCall) (opened : Opened) (bytes : List ℕ) : Type 0 where
  from : PackedFrom c.lent.section c.lent.backing c.lent.blocks c.lent.scratch (length c.output) opened bytes
  inside : length bytes ≤ length c.output
  numbers : c.after ≡ record_numbers opened
  output : c.output_after ≡ sets c.output 0 bytes
  len : c.len_after ≡ length bytes

packed_left : (c : PackCall) (p : Opened) (bytes : List ℕ) → packs c.lent (length c.output) ≡ packed_as p bytes → PackedLeft c p bytes
unfolding packed_written packed_record_written packed_len_written
packed_left c p bytes e =
    let f = (pack_exact c.lent (length c.output) p bytes).0 e in
    let b = f.admits.holds in
    record {
      from = f;
      inside = omega (arith, ap length f.same_bytes, packed_size_lem c.lent.section f.plain f.admits.admits.header);
      numbers = c.leaves ∙ ap (λ (x : Result PackedForm Refusal). packed_record_written x c.before) e ∙ record_stands c.before p c.sixteen;
      output = c.leaves_output ∙ ap (λ (x : Result PackedForm Refusal). packed_written x c.output) e;
      len = c.leaves_len ∙ ap (λ (x : Result PackedForm Refusal). packed_len_written x c.len) e;
    }

module _ (c : PackCall) (p : Opened) (bytes : List ℕ) (x : PackedLeft c p bytes) where
  -- the first `*len` bytes of the output are the packed bytes
  first_bytes : take c.len_after c.output_after ≡ bytes
  first_bytes =
      let b = x.inside in
      ap₂ (λ (n : ℕ) (l : List ℕ). take n l) x.len x.output ∙ part_sets_same bytes c.output 0 (omega arith)

  output_left : OutputLeft c
  output_left =
      let b = x.inside in
      let l = x.len in
      let f = x.from in
      let e = standing_sets bytes c.output 0 (omega arith) in
      record {
        len = x.len ∙ ap length f.same_bytes ∙ packed_length_lem c.lent.section f.plain f.admits.admits.header;
        inside = omega arith;
        behind =
            ap₂ (λ (n : ℕ) (l : List ℕ). drop n l) x.len x.output
            ∙ simp zero-add at (standing_next (sets c.output 0 bytes) bytes (drop (0 + length bytes) c.output) 0 e)
            ∙ ap (λ (n : ℕ). drop n c.output) (sym x.len);
      }

-- ---- P2 at the entries

-- a packed opening of what is admitted packed
module _ (c : PackCall) (o : Opened) (a : AdmittedPacked c o) where
  admitted_packs : packs c.lent (length c.output) ≡ packed_as (packed_record o) (packed_bytes c.lent.section o)
  admitted_packs =
      (pack_exact c.lent (length c.output) (packed_record o) (packed_bytes c.lent.section o)).1
      (record { plain = o; admits = a; same_record = refl; same_bytes = refl })

  admitted_left : PackedLeft c (packed_record o) (packed_bytes c.lent.section o)
  admitted_left = packed_left c (packed_record o) (packed_bytes c.lent.section o) admitted_packs

  admitted_layout : PackedLayout c.lent.section o (take c.len_after c.output_after)
  unfolding PacksLaidOut
  admitted_layout =
      subst⁻¹ (PackedLayout c.lent.section o) (first_bytes c (packed_record o) (packed_bytes c.lent.section o) admitted_left)
      (packs_laid_out c.lent.section c.lent.backing c.lent.blocks c.lent.scratch (length c.output) o a)

pub open_calls : OpenCalls
open_calls =
    record {
      plain = λ c.
          record {
            zero = (
              λ z. let x = (open_zero c).0 z in (x.0, (open_exact c.lent x.0).0 x.1),
              λ a. (open_zero c).1 (a.0, (open_exact c.lent a.0).1 a.1),
            );
            numbers = λ o a. plain_left c o ((open_exact c.lent o).1 a);
          };
      packed = λ c.
          record {
            zero = (
              λ z.
                  let x = (pack_zero c).0 z in
                  let f = (packed_left c x.0 x.1.0 x.1.1).from in
                  (f.plain, f.admits),
              λ a. (pack_zero c).1 (packed_record a.0, (packed_bytes c.lent.section a.0, admitted_packs c a.0 a.1)),
            );
            numbers = λ o a. (admitted_left c o a).numbers;
            layout = admitted_layout c;
          };
    }

-- ---- P3 and P5 at the entries

-- a linker holds an accepted store
pub linker_holds : (k : Linker) → (o : Opened) × HoldsStore (holding k) o
unfolding holding store_held
linker_holds (opened_plain c z) =
    let x = (open_zero c).0 z in (
      x.0,
      record {
        store = plain_opening c.lent.scratch x.1;
        numbers = plain_left c x.0 x.1;
      },
    )
linker_holds (opened_packed c z) =
    let x = (pack_zero c).0 z in
    let y = packed_left c x.0 x.1.0 x.1.1 in (
      x.0,
      record {
        store =
            packed_opening c.lent.section c.lent.scratch (length c.output)
            (x.1.1 ∙ ap (packed_as x.0) (sym (first_bytes c x.0 x.1.0 y)));
        numbers = y.numbers;
      },
    )

-- P3 at the entries
pub lookup_calls : LookupCalls
unfolding LookupCalls LooksExactly
lookup_calls k key limit c =
    let x = linker_holds k in
    call_looked_up (holding k) x.0 x.1 key limit c (lookup_exactly (store_held (holding k) x.0) x.1.store key limit)

-- P5 at the entries
pub linker_calls : LinkerCalls
unfolding LinkerCalls TwoLinkers
linker_calls a b key limit s =
    let x = linker_holds a in
    let y = linker_holds b in
    calls_alike (holding a) (holding b) x.0 y.0 x.1 y.1 key limit
    (two_linkers (store_held (holding a) x.0) (store_held (holding b) y.0) x.1.store y.1.store key limit
    (same_held (holding a) (holding b) x.0 y.0 key limit s))

-- ---- what the openings leave

-- the sixteen numbers
pub record_places : RecordPlaces
record_places =
    record {
      plain = λ c z.
          let x = (open_zero c).0 z in
          plain_left c x.0 x.1 ∙ plain_record_places c.lent.section x.0 ((open_exact c.lent x.0).0 x.1).header;
      packed = λ c z.
          let x = (pack_zero c).0 z in
          let y = packed_left c x.0 x.1.0 x.1.1 in
          let f = y.from in
          y.numbers ∙ ap record_numbers f.same_record ∙ packed_record_places c.lent.section f.plain f.admits.admits.header;
    }

-- the output and its length
pub outputs_left : OutputsLeft
unfolding OutputsLeft
outputs_left c z = let x = (pack_zero c).0 z in output_left c x.0 x.1.0 (packed_left c x.0 x.1.0 x.1.1)
