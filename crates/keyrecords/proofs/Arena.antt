-- The walk over the keys: what is written and noted before key i, and a turn.
-- Assumes nothing.
use mathlib.Core.Path.{◌≡◌, refl, sym, ap, ap₂, ◌∙◌}
use mathlib.Core.List.{List}
use Prim.Native.Nat.{ℕ, suc, ◌+◌, ◌%◌, ◌^◌, ◌<◌, ◌≤◌}
use native.Mathlib.Nat.{zero-add}
use native.Mathlib.Numerals.{add-one}
use native.Mathlib.Omega.{arith}
use lib.Dec.{eqb}
use lib.ListN.{length, set}
use lib.Seq.{sets}
use borrow.Author.Tests.{eqb-true, eqb-false}
use Rattle.num.specs.Choice.{when◌then◌else◌}
use Rattle.num.specs.Internal.{RegionHolds, Frame}
use Rattle.num.specs.Order.{common_prefix_len}
use Rattle.num.proofs.Choice.{if_case}
use Rattle.num.proofs.Regions.{region_none, region_more, frame_none, frame_set}
use Rattle.encoding.specs.declared.Encoding.{Encoding}
use Rattle.encoding.specs.Encoding.{group, key_header_len_of}
use Rattle.area.specs.Area.{area_key_len, area_key, first_version_at, next_head, keys_end}
use Rattle.area.proofs.Heads.{keys_next}
use Rattle.num.proofs.Stores.{behind}
use Rattle.written.specs.Joined.{joined}
use Rattle.written.specs.Arena.{KeyGroup, group_anchor, group_shared, group_address, group_bytes, arena_written}
use Rattle.written.proofs.Stands.{joined_length}
use Rattle.written.proofs.Groups.{address_step, arena_length}
use Rattle.writer.specs.Write.{groups_in}
use Rattle.keyrecords.specs.Internal.{KeyVersionsStand, key_record_bytes, key_record_size, ArenaAsked}
use Rattle.keyrecords.proofs.Keys.{addresses_rise, groups_count, next_inside, first_inside, key_stands, shared_inside, group_record, address_next, group_shared_lem}

-- before key i; where it is no anchor, what is kept of one is its anchor's
pub record Writing (area : List ℕ) (count : ℕ) (e : Encoding) (least : ℕ) (addresses₀ output₀ : List ℕ) (anchor anchor-address head at i : ℕ) (addresses output : List ℕ) : Type 0 where
  pub few : i ≤ count
  pub place : head ≡ keys_end i area 0
  pub address : at ≡ group_address e (groups_in area count) i
  pub anchor_place : (i % group ≡ 0 → ⊥) → anchor ≡ keys_end (group_anchor i) area 0
  pub anchor_suffix : (i % group ≡ 0 → ⊥) → anchor-address ≡ group_address e (groups_in area count) (group_anchor i) + key_header_len_of e
  pub noted : RegionHolds addresses 0 0 i (group_address e (groups_in area count))
  pub kept : Frame count addresses₀ addresses
  pub size : length output ≡ length output₀
  pub written : output ≡ sets output₀ 0 (joined (group_bytes e least (groups_in area count)) i)

pub writing_start : (area : List ℕ) (count : ℕ) (e : Encoding) (least : ℕ) (addresses output : List ℕ) → Writing area count e least addresses output 0 0 0 0 0 addresses output
unfolding keys_end group_address joined
writing_start area count e least addresses output =
    record {
      few = omega arith;
      place = refl;
      address = refl;
      anchor_place = λ n. absurd (n refl);
      anchor_suffix = λ n. absurd (n refl);
      noted = region_none;
      kept = frame_none;
      size = refl;
      written = refl;
    }

-- what is kept of an anchor is of key i's: the new one at an anchor, else the one before
anchor_kept : (f : ℕ → ℕ) (i new before kept : ℕ) → new ≡ f i → ((i % group ≡ 0 → ⊥) → before ≡ f (group_anchor i)) → kept ≡ (when eqb (i % group) 0 then new else before)
    → kept ≡ f (group_anchor i)
unfolding group_anchor
anchor_kept f i new before kept n b e =
    e
    ∙ if_case (λ (k : ℕ). k ≡ f (group_anchor i)) (eqb (i % group) 0) new before
    (λ t. n ∙ ap f (let z = eqb-true (i % group) 0 t in let m : i ≡ group_anchor i = omega arith in m)) (λ t. b (eqb-false (i % group) 0 t))

-- the key behind has the same anchor, if it is none itself
anchor_next_lem : (i : ℕ) → ((i + 1) % group ≡ 0 → ⊥) → group_anchor i ≡ group_anchor (i + 1)
unfolding group_anchor
anchor_next_lem i n = omega arith

address_none : (e : Encoding) (gs : List KeyGroup) → group_address e gs 0 ≡ 0
unfolding group_address
address_none e gs = refl

module _ {area : List ℕ} {count : ℕ} {e : Encoding} {least : ℕ} {addresses₀ output₀ : List ℕ} (asked : ArenaAsked area count e least addresses₀ output₀)
    {anchor anchor-address head at i : ℕ} {addresses output : List ℕ} (st : Writing area count e least addresses₀ output₀ anchor anchor-address head at i addresses output) where
  -- all keys are written
  pub writing_done : i ≡ count → output ≡ sets output₀ 0 (arena_written e least (groups_in area count))
  unfolding arena_written
  writing_done p =
      st.written ∙ ap (λ (n : ℕ). sets output₀ 0 (joined (group_bytes e least (groups_in area count)) n)) (p ∙ sym (groups_count area count))

  module _ (l : i < count) where
    -- the address of key i, and the place behind its record
    pub address_small : at < 2 ^ 32
    address_small =
        let n = groups_count area count in
        omega (arith, st.address, asked.narrow, arena_length e least (groups_in area count), addresses_rise e (groups_in area count) i (length (groups_in area count)) (omega arith))

    -- what is kept of the anchor
    pub anchor_now : (k : ℕ) → k ≡ (when eqb (i % group) 0 then head else anchor) → k ≡ keys_end (group_anchor i) area 0
    anchor_now k p = anchor_kept (λ n. keys_end n area 0) i head anchor k st.place st.anchor_place p

    pub suffix_now : (k new : ℕ) → new ≡ at + key_header_len_of e → k ≡ (when eqb (i % group) 0 then new else anchor-address)
        → k ≡ group_address e (groups_in area count) (group_anchor i) + key_header_len_of e
    suffix_now k new n p =
        anchor_kept (λ n. group_address e (groups_in area count) n + key_header_len_of e) i new anchor-address k (n ∙ ap (λ (a : ℕ). a + key_header_len_of e) st.address) st.anchor_suffix p

    -- key i and its anchor lie in the area
    pub head_inside : next_head area head ≤ length area
    head_inside = rw st.place (next_inside area count i l asked.inside)

    pub first_now : first_version_at area head ≤ length area
    first_now = rw st.place (first_inside area count i l asked.inside)

    pub anchor_inside : (k : ℕ) → k ≡ keys_end (group_anchor i) area 0 → first_version_at area k ≤ length area
    unfolding group_anchor
    anchor_inside k p = rw p (first_inside area count (group_anchor i) (omega arith) asked.inside)

    pub stands_now : KeyVersionsStand area head least
    stands_now = rw st.place (key_stands area count i l asked.inside asked.fits)

    -- what it shares
    pub shared_now : (k shared : ℕ) → k ≡ keys_end (group_anchor i) area 0 → shared ≡ (when eqb (i % group) 0 then 0 else common_prefix_len (area_key area k) (area_key area head))
        → shared ≡ group_shared (groups_in area count) i
    shared_now k shared p q =
        q ∙ ap₂ (λ (a b : ℕ). when eqb (i % group) 0 then 0 else common_prefix_len (area_key area a) (area_key area b)) p st.place ∙ sym (group_shared_lem area count i l)

    module _ (shared : ℕ) (same : shared ≡ group_shared (groups_in area count) i) where
      pub shared_small : shared ≤ area_key_len area head
      shared_small = rw (same, st.place) (shared_inside area count i l asked.inside)

      behind-record : at + key_record_size e area head shared ≡ group_address e (groups_in area count) (suc i)
      behind-record = rw (same, st.place, st.address) (sym (address_next area count i l asked.inside e))

      -- there is room for its record
      pub record_room : at + key_record_size e area head shared ≤ length output
      record_room =
          let n = groups_count area count in
          omega (arith, behind-record, asked.room, arena_length e least (groups_in area count), addresses_rise e (groups_in area count) (suc i) (length (groups_in area count)) (omega arith), st.size)

      pub writing_turn : (k suffix next end : ℕ) (out : List ℕ) → k ≡ keys_end (group_anchor i) area 0
          → suffix ≡ group_address e (groups_in area count) (group_anchor i) + key_header_len_of e → end ≡ at + key_record_size e area head shared → next ≡ next_head area head
          → length out ≡ length output → out ≡ sets output at (key_record_bytes e least area head suffix shared)
          → Writing area count e least addresses₀ output₀ k suffix next end (i + 1) (set addresses i at) out
      unfolding joined
      writing_turn k suffix next end out p q f g size w =
          record {
            few = omega arith;
            place = g ∙ ap (next_head area) st.place ∙ sym (keys_next i area 0) ∙ ap (λ (n : ℕ). keys_end n area 0) (sym (add-one i));
            address = f ∙ behind-record ∙ ap (group_address e (groups_in area count)) (sym (add-one i));
            anchor_place = λ n. p ∙ ap (λ (m : ℕ). keys_end m area 0) (anchor_next_lem i n);
            anchor_suffix = λ n. q ∙ ap (λ (m : ℕ). group_address e (groups_in area count) m + key_header_len_of e) (anchor_next_lem i n);
            noted = region_more st.noted i at (sym (zero-add i)) (omega (arith, st.kept.size, asked.places)) st.address;
            kept = frame_set st.kept i at l;
            size = size ∙ st.size;
            written =
                rw (add-one i)
                (behind output₀ output out (joined (group_bytes e least (groups_in area count)) i) (group_bytes e least (groups_in area count) i) 0 at place-now st.written (w ∙ ap (sets output at) bytes-now));
          }
        where
          place-now : 0 + length (joined (group_bytes e least (groups_in area count)) i) ≡ at
          place-now = zero-add _ ∙ joined_length (group_bytes e least (groups_in area count)) (group_address e (groups_in area count)) i (address_none e (groups_in area count)) (λ j _. address_step e least (groups_in area count) j) ∙ sym st.address

          bytes-now : key_record_bytes e least area head suffix shared ≡ group_bytes e least (groups_in area count) i
          bytes-now = rw (same, st.place, q) (group_record area count i l asked.inside e least)
