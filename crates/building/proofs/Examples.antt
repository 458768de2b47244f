-- The worked store of document 01 from its adds, with refused ones in between: it meets every hypothesis of the promises, which so are not
-- empty. And what is not in order.
-- Assumes nothing.
use mathlib.Core.Path.{◌≡◌, refl, sym, subst, subst⁻¹}
use mathlib.Core.Bool.{Bool, true, false}
use mathlib.Core.List.{List, [], ◌∷◌}
use Prim.Native.Nat.{ℕ, zero, suc, ◌*◌, ◌<◌, ◌≤◌}
use native.Mathlib.Omega.{arith}
use lib.ListN.{length, replicate}
use Rattle.std.specs.Prelude.{Ok}
use Rattle.num.specs.Choice.{choice_defs}
use Rattle.num.specs.Number.{le_at, le_bytes}
use Rattle.num.specs.Order.{common_prefix_len, less_than, equal_bytes}
use Rattle.num.proofs.Choice.{false_true}
use Rattle.num.proofs.Xor.{bit_ind}
use Rattle.crc32.specs.V42.{crc_defs}
use Rattle.sstable.specs.declared.Kind.{Kind}
use Rattle.sstable.specs.declared.Kind.TheVariants.{Put, Tombstone}
use Rattle.sstable.specs.Kind.{kind_of}
use Rattle.sstable.specs.Limits.{limit_defs}
use Rattle.block.specs.Verify.{verify_defs}
use Rattle.block.specs.EntryHeader.{entry_header_defs}
use Rattle.block.specs.Record.{record_at_defs}
use Rattle.block.specs.Walk.{block_walk_defs}
use Rattle.point.specs.Hash.{hash_defs}
use Rattle.encoding.specs.Encoding.{encoding_defs}
use Rattle.classes.specs.Classes.{class_defs}
use Rattle.construction.specs.Construct.{Constructed, construct_defs}
use Rattle.validate.specs.Walk.{placed, value_of}
use Rattle.admission.specs.Blocks.{block_defs}
use Rattle.area.specs.Area.{area_defs}
use Rattle.builder.specs.Offer.{Offer, offer_defs}
use Rattle.builder.specs.Record.{builder_defs}
use Rattle.builder.specs.Add.{add_defs}
use Rattle.builder.proofs.Examples.{worked_offers}
use Rattle.readback.specs.ReadBack.{read_back_defs}
use Rattle.worked.specs.Worked.{worked_data, worked_list, worked_section, worked_scan_section, worked_defs}
use Rattle.written.specs.Joined.{joined, fields_bytes}
use Rattle.written.specs.Arena.{arena_written_defs}
use Rattle.written.specs.Section.{section_defs}
use Rattle.written.specs.Opens.{OpensAs, PacksAs}
use Rattle.written.proofs.Worked.{worked_beside}
use Rattle.writer.specs.Write.{write_defs}
use Rattle.building.specs.Run.{Lending, run_of, run_defs}
use Rattle.building.specs.InOrder.{offer_at, InOrder, entry_added, in_order_defs}
use Rattle.building.specs.Builds.{section_record, write_run, BuiltSection, Beside, BuildsAndOpens}
use Rattle.building.proofs.Promises.{builds_and_opens}

-- ---- the adds

offered : Kind → List ℕ → List ℕ → ℕ → Bool → ℕ → Offer
offered kind key value seq new offset = record { kind = kind; key = key; value = value; seq = seq; new_key = new; offset = offset }

-- the three entries of the worked store, each lent an area of other bytes; before them one that is not marked new (31), between them one
-- whose offset falls (32), and one whose area is a byte too short (34), with an offset behind that of the last entry
worked_adds : List Lending
unfolding offered
worked_adds =
    record { offer = offered Put (97 ∷ 98 ∷ []) [] 9 false 90; seq_fits = omega arith; offset_fits = omega arith; rest = replicate 60 1 }
    ∷ record { offer = offered Put (97 ∷ 98 ∷ []) (120 ∷ 121 ∷ 122 ∷ []) 7 true 23; seq_fits = omega arith; offset_fits = omega arith; rest = replicate 40 2 }
    ∷ record { offer = offered Put (97 ∷ 98 ∷ []) [] 6 false 22; seq_fits = omega arith; offset_fits = omega arith; rest = replicate 60 3 }
    ∷ record { offer = offered Tombstone (97 ∷ 98 ∷ []) [] 3 false 47; seq_fits = omega arith; offset_fits = omega arith; rest = replicate 25 4 }
    ∷ record { offer = offered Put (97 ∷ 99 ∷ []) [] 5 true 99; seq_fits = omega arith; offset_fits = omega arith; rest = replicate 34 5 }
    ∷ record { offer = offered Put (97 ∷ 99 ∷ []) [] 5 true 69; seq_fits = omega arith; offset_fits = omega arith; rest = replicate 35 6 }
    ∷ []

worked_taken : (run_of worked_adds).taken ≡ worked_offers
unfolding worked_adds offered worked_offers run_defs add_defs builder_defs area_defs offer_defs choice_defs encoding_defs crc_defs limit_defs le_at le_bytes common_prefix_len
worked_taken = refl

worked_written_lem : (write_run worked_adds (7 ∷ []) 0 2 20 135 ≡ Ok worked_section) × (write_run worked_adds [] 1 3 24 200 ≡ Ok worked_scan_section)
unfolding write_run worked_adds offered run_defs worked_defs write_defs section_defs arena_written_defs joined fields_bytes read_back_defs add_defs builder_defs offer_defs area_defs construct_defs class_defs encoding_defs hash_defs limit_defs crc_defs common_prefix_len equal_bytes le_at le_bytes choice_defs
worked_written_lem = (refl, refl)

-- ---- they are in order, and the worked data hold just them

worked_in_order : InOrder worked_offers
unfolding worked_offers in_order_defs less_than choice_defs
worked_in_order =
    record {
      rising = λ i h. bit_ind (λ k. (offer_at worked_offers (suc k)).new_key ≡ true → less_than (offer_at worked_offers k).key (offer_at worked_offers (suc k)).key ≡ true)
          (λ e. false_true e) (λ e. refl) i (omega arith);
      same_key = λ i h. bit_ind (λ k. (offer_at worked_offers (suc k)).new_key ≡ false → (offer_at worked_offers (suc k)).key ≡ (offer_at worked_offers k).key)
          (λ e. refl) (λ e. false_true (sym e)) i (omega arith);
      falling = λ i h. bit_ind (λ k. (offer_at worked_offers (suc k)).new_key ≡ false → (offer_at worked_offers (suc k)).seq < (offer_at worked_offers k).seq)
          (λ e. omega arith) (λ e. false_true (sym e)) i (omega arith);
      tombstones = tombstones;
    }
  where
    tombstones : (i : ℕ) → i < 3 → (offer_at worked_offers i).kind ≡ Tombstone → (offer_at worked_offers i).value ≡ []
    tombstones zero h e = absurd (let z : ◌≡◌ {A = ℕ} 0 1 = cc in omega arith)
    tombstones (suc zero) h e = refl
    tombstones (suc (suc zero)) h e = refl
    tombstones (suc (suc (suc i))) h e = absurd (omega arith)

worked_holds : Beside worked_offers worked_data worked_list 4
unfolding worked_offers worked_defs in_order_defs value_of block_defs placed block_walk_defs record_at_defs entry_header_defs verify_defs choice_defs le_at kind_of
worked_holds =
    record {
      holds = record { covers = worked_beside.covers; just = refl; values = values };
      half = half;
    }
  where
    values : (i : ℕ) → i < 3 → value_of worked_data (entry_added (offer_at worked_offers i)) ≡ (offer_at worked_offers i).value
    values zero h = refl
    values (suc zero) h = refl
    values (suc (suc zero)) h = refl
    values (suc (suc (suc i))) h = absurd (omega arith)

    half : (i : ℕ) → i < 3 → 2 * length (offer_at worked_offers i).key ≤ 4
    half zero h = omega arith
    half (suc zero) h = omega arith
    half (suc (suc zero)) h = omega arith
    half (suc (suc (suc i))) h = absurd (omega arith)

-- so their section opens and packs by the promise
worked_built : (c : Constructed) × OpensAs worked_section worked_data worked_list 4 (section_record worked_offers 0 c) × PacksAs worked_section worked_data worked_list 4 (section_record worked_offers 0 c)
unfolding BuildsAndOpens
worked_built =
    let b : BuiltSection worked_adds 0 worked_section = record { rest = 7 ∷ []; room64 = 2; room32 = 20; room = 135; written = worked_written_lem.0 } in
    let r = builds_and_opens worked_adds 0 worked_section b (subst⁻¹ InOrder worked_taken worked_in_order) worked_data worked_list 4
    (subst⁻¹ (λ (l : List Offer). Beside l worked_data worked_list 4) worked_taken worked_holds) in (
      r.0,
      subst (λ (l : List Offer). OpensAs worked_section worked_data worked_list 4 (section_record l 0 r.0)) worked_taken r.2,
      subst (λ (l : List Offer). PacksAs worked_section worked_data worked_list 4 (section_record l 0 r.0)) worked_taken r.3,
    )

-- ---- what is not in order

-- a sequence that comes again
same_sequence : InOrder (offered Put (97 ∷ []) [] 7 true 0 ∷ offered Put (97 ∷ []) [] 7 false 0 ∷ []) → ⊥
unfolding offered in_order_defs
same_sequence o = let l = o.falling 0 (omega arith) refl in omega arith

-- a key that comes again as a new one
same_new_key : InOrder (offered Put (97 ∷ []) [] 7 true 0 ∷ offered Put (97 ∷ []) [] 6 true 0 ∷ []) → ⊥
unfolding offered in_order_defs less_than choice_defs
same_new_key o = false_true (o.rising 0 (omega arith) refl)

-- another key that is not marked new
other_key : InOrder (offered Put (97 ∷ []) [] 7 true 0 ∷ offered Put (98 ∷ []) [] 6 false 0 ∷ []) → ⊥
unfolding offered in_order_defs
other_key o = let e = o.same_key 0 (omega arith) refl in let z : ◌≡◌ {A = ℕ} 98 97 = cc in omega arith

-- a tombstone with a value
full_tombstone : InOrder (offered Tombstone (97 ∷ []) (120 ∷ []) 7 true 0 ∷ []) → ⊥
unfolding offered in_order_defs
full_tombstone o = let e = o.tombstones 0 (omega arith) refl in let z : ◌≡◌ {A = ℕ} 0 1 = cc in omega arith
