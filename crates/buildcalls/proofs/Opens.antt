-- What was built opens, plain and packed, and links as what was added.
-- Assumes nothing.
use mathlib.Core.Path.{◌≡◌, refl, ap, ◌∙◌, subst}
use mathlib.Core.List.{List}
use Prim.Native.Nat.{ℕ}
use native.Mathlib.Omega.{arith}
use lib.ListN.{length}
use Rattle.std.specs.Prelude.{Result}
use Rattle.refusal.specs.declared.Refusal.{Refusal}
use Rattle.refusal.specs.Refusal.{answer_number}
use Rattle.header.specs.declared.Opened.{Opened}
use Rattle.packing.specs.Packing.{PackedForm, open_packed_of, packed_read}
use Rattle.opening.specs.Open.{open_of}
use Rattle.packed.specs.Packed.{packed_bytes}
use Rattle.admission.specs.Admits.{OpensExactly}
use Rattle.admission.proofs.Opening.{open_exactly}
use Rattle.builder.specs.Offer.{Offer}
use Rattle.written.specs.Opens.{OpensAs, PacksAs}
use Rattle.building.specs.InOrder.{InOrder, HoldsJust, ScratchHolds}
use Rattle.building.specs.Builds.{BuildsAndOpens}
use Rattle.building.proofs.Promises.{builds_and_opens, same_versions}
use Rattle.calls.specs.Calls.{Lent, opens, packs, Linker, opened_plain, opened_packed, holding, blocks_held, LinkerCalls, packed_size}
use Rattle.calls.proofs.Records.{packed_length_lem}
use Rattle.calls.proofs.Calls.{linker_calls}
use Rattle.buildcalls.specs.BuildCalls.{BuiltBeside, LentThese, OpenBuiltCalls, lent_to, BuiltLinkerCalls}
use Rattle.buildcalls.proofs.Writes.{by_run}

module _ {taken : List Offer} {prefix : ℕ} {s «data» blocks : List ℕ} (b : BuiltBeside taken prefix s «data» blocks) (scratch : ℕ) (half : ScratchHolds scratch taken) where
  -- it opens as a record, and packs
  as_record : (o : Opened) × (OpensAs s «data» blocks scratch o × PacksAs s «data» blocks scratch o)
  unfolding BuildsAndOpens
  as_record =
      let r = by_run taken prefix s b.built in
      let e = r.1.leaves.entries in
      let x = builds_and_opens r.0 prefix s r.1.section (subst InOrder e b.order) «data» blocks scratch
      (record { holds = subst (HoldsJust «data» blocks) e b.holds; half = subst (ScratchHolds scratch) e half }) in
      (_, (x.2, x.3))

  packed_fits : (o : Opened) → OpensAs s «data» blocks scratch o → length (packed_bytes s o) ≡ packed_size s
  unfolding OpensAs OpensExactly
  packed_fits o q = packed_length_lem s o ((open_exactly s «data» blocks scratch o).0 q).header

module _ {s «data» blocks : List ℕ} (lent : Lent) (these : LentThese s «data» blocks lent) where
  opens_these : opens lent ≡ open_of s «data» blocks lent.scratch
  opens_these = λ i. open_of (these.same_section i) (these.same_backing i) (these.same_blocks i) lent.scratch

  packs_these : (room : ℕ) → packs lent room ≡ open_packed_of s «data» blocks lent.scratch room
  packs_these room = λ i. open_packed_of (these.same_section i) (these.same_backing i) (these.same_blocks i) lent.scratch room

-- P4 at the entries
pub open_built_calls : OpenBuiltCalls
unfolding OpenBuiltCalls OpensAs PacksAs answer_number packed_read
open_built_calls taken prefix s «data» blocks b =
    record {
      plain = λ c these half.
          let x = as_record b c.lent.scratch half in
          c.returns ∙ ap (λ (a : Result Opened Refusal). answer_number a) (opens_these c.lent these ∙ x.1.0);
      packed = λ c these half room.
          let x = as_record b c.lent.scratch half in
          let n = packed_fits b c.lent.scratch half x.0 x.1.0 in
          c.returns
          ∙ ap (λ (a : Result PackedForm Refusal). answer_number (packed_read a)) (packs_these c.lent these (length c.output) ∙ x.1.1 (length c.output) (omega arith));
    }

-- a linker holds the data and the blocks that its opening was lent
held_backing : (k : Linker) → (blocks_held (holding k)).backing ≡ (lent_to k).backing
unfolding blocks_held holding lent_to
held_backing (opened_plain c z) = refl
held_backing (opened_packed c z) = refl

held_blocks : (k : Linker) → (blocks_held (holding k)).blocks ≡ (lent_to k).blocks
unfolding blocks_held holding lent_to
held_blocks (opened_plain c z) = refl
held_blocks (opened_packed c z) = refl

-- P6 at the entries
pub built_linker_calls : BuiltLinkerCalls
unfolding BuiltLinkerCalls LinkerCalls
built_linker_calls taken prefix s «data» blocks built a these b key limit same =
    linker_calls a b key limit
    (same_versions «data» blocks taken built.holds (blocks_held (holding a)) (held_backing a ∙ these.same_backing) (held_blocks a ∙ these.same_blocks)
    (blocks_held (holding b)) key limit same)
