-- The promises of building.
-- Assumes nothing.
use mathlib.Core.Path.{◌≡◌, refl, sym, ap, ap₂, ◌∙◌, subst, subst⁻¹}
use mathlib.Core.Bool.{true}
use mathlib.Core.List.Memᴰ
use mathlib.Core.List.{List, Memᴰ, map}
use Prim.Native.Nat.{ℕ, ◌^◌, ◌<◌, ◌≤◌}
use native.Mathlib.Omega.{arith}
use lib.ListN.{length, get_or}
use Rattle.std.specs.Prelude.{Result, Ok, Err}
use Rattle.refusal.specs.declared.Refusal.{Refusal}
use Rattle.refusal.specs.declared.Refusal.TheVariants as refusal
use Rattle.refusal.proofs.Asked.{refused_ok, same_ok}
use Rattle.num.proofs.Choice.{if_true}
use Rattle.num.proofs.Lists.{member_index}
use Rattle.encoding.specs.Encoding.{encoding_of, encoding_defs}
use Rattle.construction.specs.Construct.{Constructed, construct_of}
use Rattle.header.specs.declared.Opened.{Opened}
use Rattle.packed.specs.Packed.{packed_bytes}
use Rattle.admission.specs.Blocks.{store_entries}
use Rattle.locating.specs.Store.{LinkerStore, plain_opening, packed_opening, Version, version_in, store_versions, Holds}
use Rattle.linking.specs.Linkers.{SameVersions, TwoLinkers}
use Rattle.linking.proofs.TwoLinkers.{two_linkers}
use Rattle.builder.specs.Offer.{Offer}
use Rattle.builder.specs.Record.{size_of_section}
use Rattle.written.specs.Arena.{KeyGroup}
use Rattle.written.specs.Opens.{Writable, OpensAs, PacksAs, WrittenOpens}
use Rattle.written.proofs.Totals.{totals_fit, section_size}
use Rattle.written.proofs.Opens.{written_opens}
use Rattle.building.specs.Run.{Lending, run_of}
use Rattle.building.specs.Taken.{groups_of, group_totals, builder_of}
use Rattle.building.specs.InOrder.{no_offer, offer_at, InOrder, entry_added, version_added, HoldsJust, SameAdded}
use Rattle.building.specs.State.{keys_of}
use Rattle.building.specs.Builds.{section_of, section_record, Outcome, prefix_long, no_entry, scratch_short, output_short, no_seed, section, WritesExactly, BuiltSection, SizeIsLength, SameSections, Beside, BuildsAndOpens, plain_store, packed_store, BuiltLinks}
use Rattle.building.specs.Internal.{Sound}
use Rattle.building.proofs.Runs.{kept}
use Rattle.building.proofs.Standing.{size_passes}
use Rattle.building.proofs.Measures.{measured}
use Rattle.building.proofs.Slots.{seed_fits, slots_owned, packable}
use Rattle.building.proofs.Ordered.{groups_in_order}
use Rattle.building.proofs.Beside.{beside_groups}
use Rattle.building.proofs.Writing.{writes_exactly, some_groups}

-- ---- what is written

-- a section that was given, by what construction gave
pub record Given (taken : List Offer) (prefix : ℕ) (s : List ℕ) : Type 0 where
  pub constructed : Constructed
  pub construction : construct_of (keys_of taken) ≡ Ok constructed
  pub is : s ≡ section_of taken prefix constructed
  pub prefix_short : prefix ≤ 24
  pub some_entry : 0 < length taken

given_by : (taken : List Offer) (prefix room64 room32 room : ℕ) (a : Result (List ℕ) Refusal) → Outcome taken prefix room64 room32 room a
    → (s : List ℕ) → a ≡ Ok s → Given taken prefix s
given_by taken prefix room64 room32 room a (section p h e l c q) s z = record { constructed = c; construction = q; is = sym (same_ok z); prefix_short = p; some_entry = h }
given_by taken prefix room64 room32 room a (prefix_long p) s z = refused_ok z
given_by taken prefix room64 room32 room a (no_entry p n) s z = refused_ok z
given_by taken prefix room64 room32 room a (scratch_short p h e) s z = refused_ok z
given_by taken prefix room64 room32 room a (output_short p h e l) s z = refused_ok z
given_by taken prefix room64 room32 room a (no_seed p h e l f) s z = refused_ok z

pub built_by : (ls : List Lending) (prefix : ℕ) (s : List ℕ) → BuiltSection ls prefix s → Given (run_of ls).taken prefix s
unfolding WritesExactly
built_by ls prefix s b =
    given_by (run_of ls).taken prefix b.room64 b.room32 b.room (Ok s)
    ((writes_exactly ls b.rest prefix b.room64 b.room32 b.room (Ok s)).0 b.written) s refl

-- size tells the length
pub size_is_length : SizeIsLength
unfolding SizeIsLength size_of_section section_of builder_of
size_is_length ls prefix s b =
    let k = kept ls in
    let gs = groups_of (run_of ls).taken in
    let w = built_by ls prefix s b in
    let c = w.constructed in
    ap (λ (x : _). size_of_section x prefix) k.builder
    ∙ if_true _ _ (Err refusal.Builder) (size_passes gs k.sound)
    ∙ ap Ok (sym (ap length w.is ∙ section_size (group_totals gs) gs (measured gs k.sound) (encoding_of (group_totals gs)) c.seed (group_totals gs).min_seq
    (λ x. get_or c.placement.pilots x 0) (λ m. get_or c.placement.slots m 0) prefix))

-- P8
pub same_sections : SameSections
unfolding SameSections
same_sections ls ms prefix s t b d e =
    let v = built_by ls prefix s b in
    let w = subst⁻¹ (λ (l : List Offer). Given l prefix t) e (built_by ms prefix t d) in
    let same : v.constructed ≡ w.constructed = same_given (sym v.construction ∙ w.construction) in
    v.is ∙ ap (section_of (run_of ls).taken prefix) same ∙ sym w.is
  where
    same_given : {c d : Constructed} → ◌≡◌ {A = Result Constructed Refusal} (Ok c) (Ok d) → c ≡ d
    same_given z = cc

-- ---- P4

module _ (ls : List Lending) (prefix : ℕ) (s : List ℕ) (b : BuiltSection ls prefix s) (order : InOrder (run_of ls).taken) where
  abbrev taken : List Offer
  taken = (run_of ls).taken

  abbrev gs : List KeyGroup
  gs = groups_of taken

  sound : Sound gs
  sound = (kept ls).sound

  written_by : Given taken prefix s
  written_by = built_by ls prefix s b

  abbrev c : Constructed
  c = written_by.constructed

  few : length gs ≤ 2 ^ 20
  few = let f = sound.few in omega arith

  seeds : construct_of (map (λ g. g.key) gs) ≡ Ok c
  unfolding keys_of
  seeds = written_by.construction

  writable : Writable (encoding_of (group_totals gs)) c.seed (group_totals gs).min_seq gs (λ x. get_or c.placement.pilots x 0) (λ m. get_or c.placement.slots m 0) prefix
  writable =
      record {
        fits = totals_fit (group_totals gs) gs (measured gs sound);
        ordered = groups_in_order taken order (kept ls).starts sound;
        slots = slots_owned gs few c seeds;
        seed_fits = seed_fits gs few c seeds;
        some = some_groups taken written_by.some_entry;
        few = let f = few in omega arith;
        prefix_short = written_by.prefix_short;
      }

  with_checksums : (encoding_of (group_totals gs)).checksum ≡ true
  unfolding encoding_defs
  with_checksums = refl

  module _ («data» blocks : List ℕ) (scratch : ℕ) (beside : Beside taken «data» blocks scratch) where
    opens-and-packs : OpensAs s «data» blocks scratch (section_record taken prefix c) × PacksAs s «data» blocks scratch (section_record taken prefix c)
    unfolding WrittenOpens section_record section_of
    opens-and-packs =
        let r = written_opens (encoding_of (group_totals gs)) c.seed (group_totals gs).min_seq gs
        (λ x. get_or c.placement.pilots x 0) (λ m. get_or c.placement.slots m 0) prefix writable «data» blocks scratch (beside_groups taken order (kept ls).starts sound «data» blocks scratch beside.holds beside.half) in
        let p = packable gs few c seeds (encoding_of (group_totals gs)) with_checksums in
        subst⁻¹
        (λ (x : List ℕ). OpensAs x «data» blocks scratch (section_record taken prefix c) × PacksAs x «data» blocks scratch (section_record taken prefix c)) written_by.is (r.0, r.1 p)

pub builds_and_opens : BuildsAndOpens
unfolding BuildsAndOpens
builds_and_opens ls prefix s b order «data» blocks scratch beside =
    let w = written_by ls prefix s b order in
    let r = opens-and-packs ls prefix s b order «data» blocks scratch beside in
    (w.constructed, w.construction, r.0, r.1)

-- ---- P6

module _ («data» blocks : List ℕ) (taken : List Offer) (h : HoldsJust «data» blocks taken) where
  version_is : (e : Offer) → Memᴰ e taken → version_in «data» (entry_added e) ≡ version_added e
  unfolding version_in version_added entry_added offer_at
  version_is e m =
      let j = member_index taken e no_offer m in
      subst⁻¹ (λ (f : Offer). version_in «data» (entry_added f) ≡ version_added f) j.2
      (let f = offer_at taken j.0 in ap (λ (v : List ℕ). record { key = f.key; seq = f.seq; kind = f.kind; value = v }) (h.values j.0 j.1))

  module _ (t : LinkerStore) (same-data : t.backing ≡ «data») (same_blocks : t.blocks ≡ blocks) where
    versions-are : store_versions t ≡ map (version_in «data») (map entry_added taken)
    unfolding store_versions
    versions-are =
        ap₂ (λ (d b : List ℕ). map (version_in d) (store_entries d b)) same-data same_blocks ∙ ap (map (version_in «data»)) h.just

    held-added : (v : Version) → Holds t v → Memᴰ v (map version_added taken)
    unfolding Holds
    held-added v m =
        let a = Memᴰ.of_map (version_in «data») (map entry_added taken) (subst (Memᴰ v) versions-are m) in
        let b = Memᴰ.of_map entry_added taken a.1 in
        let e : version_added b.0 ≡ v = sym (version_is b.0 b.1) ∙ ap (version_in «data») b.2 ∙ a.2 in
        subst (λ (u : Version). Memᴰ u (map version_added taken)) e (Memᴰ.map version_added b.1)

    added-held : (v : Version) → Memᴰ v (map version_added taken) → Holds t v
    unfolding Holds
    added-held v m =
        let b = Memᴰ.of_map version_added taken m in
        let e : version_in «data» (entry_added b.0) ≡ v = version_is b.0 b.1 ∙ b.2 in
        subst⁻¹ (Memᴰ v) versions-are
        (subst (λ (u : Version). Memᴰ u (map (version_in «data») (map entry_added taken))) e (Memᴰ.map (version_in «data») (Memᴰ.map entry_added b.1)))

    pub same_versions : (b : LinkerStore) (key : List ℕ) (limit : ℕ) → SameAdded taken b key limit → SameVersions t b key limit
    same_versions b key limit s =
        record {
          there = λ v m k l. s.there v (held-added v m) k l;
          back = λ v m k l. added-held v (s.back v m k l);
        }

same_record : {o p : Opened} → ◌≡◌ {A = Result Opened Refusal} (Ok o) (Ok p) → o ≡ p
same_record e = cc

pub built_links : BuiltLinks
unfolding BuildsAndOpens BuiltLinks TwoLinkers OpensAs PacksAs plain_store packed_store
built_links ls prefix s b order «data» blocks scratch beside o accepted t store key limit same =
    let r = builds_and_opens ls prefix s b order «data» blocks scratch beside in
    let e : section_record (run_of ls).taken prefix r.0 ≡ o = same_record (sym r.2 ∙ accepted) in
    let packs = subst (PacksAs s «data» blocks scratch) e r.3 in (
      two_linkers (plain_store s «data» blocks o) t (plain_opening scratch accepted) store key limit
          (same_versions «data» blocks (run_of ls).taken beside.holds (plain_store s «data» blocks o) refl refl t key limit same),
      two_linkers (packed_store s «data» blocks o) t (packed_opening s scratch (length (packed_bytes s o)) (packs (length (packed_bytes s o)) (omega arith))) store key limit
          (same_versions «data» blocks (run_of ls).taken beside.holds (packed_store s «data» blocks o) refl refl t key limit same),
    )
