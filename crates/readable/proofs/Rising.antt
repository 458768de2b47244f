-- The offsets of an area that reads back do not fall.
-- Assumes nothing.
use mathlib.Core.Path.{◌≡◌, refl, sym, ap, ◌∙◌, subst, subst⁻¹}
use mathlib.Core.Bool.{Bool, true, false}
use mathlib.Core.List.{List, [], ◌∷◌, ◌++◌}
use Rattle.std.specs.Prelude.{Some}
use Prim.Native.Nat.{ℕ, zero, suc, ◌+◌, ◌-◌, ◌<◌, ◌≤◌}
use native.Mathlib.Nat.{not-suc-le-zero}
use native.Mathlib.Numerals.{add-one}
use native.Mathlib.Omega.{arith}
use lib.ListN.{length, get_or}
use Rattle.area.specs.Area.{area_key_len, area_versions, area_offset, first_version_at, next_head}
use Rattle.builder.specs.declared.Builder.{Builder}
use Rattle.builder.specs.Record.{empty_builder, totals_after, builder_after}
use Rattle.readback.specs.ReadBack.{counted_at, version_read, versions_read, key_read, area_read}
use Rattle.readback.specs.Places.{area_version_at, head_at_of}
use Rattle.readback.specs.Internal.{Running}
use Rattle.readback.proofs.Reading.{version_stands, follows, first, further, key_parts, key_stands, empty_running, keys_kept}
use Rattle.written.specs.Arena.{StoredVersion, KeyGroup, no_stored}
use Rattle.writer.specs.Write.{stored_at, stored_from, group_at_of, groups_from, groups_in}
use Rattle.building.specs.Taken.{versions_of, gathered}
use Rattle.building.specs.Internal.{Rising}
use Rattle.building.proofs.Grows.{versions_one}
use Rattle.building.proofs.ReadsBack.{append_rising}

-- ---- by index

pub rising_at : (m : ℕ) (vs : List StoredVersion) → Rising m vs → (k : ℕ) → suc k < length vs → (get_or vs k no_stored).offset ≤ (get_or vs (suc k) no_stored).offset
unfolding Rising
rising_at m [] r k h = absurd (not-suc-le-zero h)
rising_at m (v ∷ []) r k h = absurd (omega arith)
rising_at m (v ∷ w ∷ vs) r zero h = r.1.0
rising_at m (v ∷ w ∷ vs) r (suc k) h = rising_at v.offset (w ∷ vs) r.1 k (omega arith)

pub at_rising : (m : ℕ) (vs : List StoredVersion) → (0 < length vs → m ≤ (get_or vs 0 no_stored).offset)
    → ((k : ℕ) → suc k < length vs → (get_or vs k no_stored).offset ≤ (get_or vs (suc k) no_stored).offset) → Rising m vs
unfolding Rising
at_rising m [] first each = tt
at_rising m (v ∷ vs) first each = (first (omega arith), at_rising v.offset vs (λ h. each 0 (omega arith)) (λ k h. each (suc k) (omega arith)))

-- ---- the versions of a key

-- the last offset of versions behind an offset
abbrev last_from : ℕ → List StoredVersion → ℕ
last_from m vs = gathered (λ p q. q) (λ v. v.offset) m vs

-- versions do not fall from the record before them on, and the record behind them has their last offset
record Rises (r : Builder) (vs : List StoredVersion) (q : Builder) : Type 0 where
  rising : Rising r.totals.last_value_offset vs
  last : q.totals.last_value_offset ≡ last_from r.totals.last_value_offset vs

version_rises : (area : List ℕ) (end : ℕ) (r : Builder) (head place count : ℕ) (new : Bool) (p : Builder) (vs : List StoredVersion) (q : Builder)
    → version_read area end r head place count new ≡ Some p → Rises p vs q → Rises r (stored_at area place ∷ vs) q
unfolding Rising gathered stored_at builder_after totals_after counted_at
version_rises area end r head place count new p vs q e h =
    let s = version_stands area end r head place count new p e in
    let o : p.totals.last_value_offset ≡ area_offset area place = ap (λ (b : Builder). b.totals.last_value_offset) s.after in
    record {
      rising = (s.offset, subst (λ (m : ℕ). Rising m vs) o h.rising);
      last = h.last ∙ ap (λ (m : ℕ). last_from m vs) o;
    }

further_rise : (left : ℕ) (area : List ℕ) (end : ℕ) (r : Builder) (count : ℕ) (q : Builder) → Running area end r
    → versions_read left area end r count ≡ Some q → Rises r (stored_from left area r.used) q
unfolding versions_read stored_from Rising gathered
further_rise zero area end r count q run e =
    let z : r ≡ q = cc in
    record { rising = tt; last = ap (λ (b : Builder). b.totals.last_value_offset) (sym z) }
further_rise (suc left) area end r count q run e =
    let f = follows (version_read area end r r.last_key r.used (count + 1) false) (λ p. versions_read left area end p (count + 1)) q e in
    let u = further area end r r.last_key (count + 1) f.0 run f.1 in
    version_rises area end r r.last_key r.used (count + 1) false f.0 (stored_from left area (r.used + 25)) q f.1
    (subst (λ (n : ℕ). Rises f.0 (stored_from left area n) q) u.used (further_rise left area end f.0 (count + 1) q u.running f.2))

key_rises_lem : (area : List ℕ) (end : ℕ) (r q : Builder) → end ≤ length area → Running area end r → key_read area end r ≡ Some q
    → Rises r (group_at_of area r.used).versions q
unfolding group_at_of stored_from first_version_at area_version_at
key_rises_lem area end r q l run e =
    let f = key_parts area end r q e in
    let at = r.used + 8 + area_key_len area r.used in
    let left = area_versions area r.used - 1 in
    let u = first area end r (area_key_len area r.used) 1 f.behind refl l run f.one in
    let n : suc left ≡ area_versions area r.used = omega (arith, f.some_version) in
    let p : f.behind.used ≡ at + 25 = omega (arith, u.used) in
    subst (λ (k : ℕ). Rises r (stored_from k area at) q) n
    (version_rises area end r r.used at 1 true f.behind (stored_from left area (at + 25)) q f.one
    (subst (λ (k : ℕ). Rises f.behind (stored_from left area k) q) p (further_rise left area end f.behind 1 q u.running f.more)))

-- ---- the keys

groups_more : (count : ℕ) (area : List ℕ) (k : ℕ)
    → groups_from (suc count) area (head_at_of area k) ≡ groups_from count area (head_at_of area k) ++ (group_at_of area (head_at_of area (k + count)) ∷ [])
unfolding groups_from head_at_of
groups_more zero area k =
    let e : k ≡ k + 0 = omega arith in
    ap (λ (n : ℕ). group_at_of area (head_at_of area n) ∷ []) e
groups_more (suc count) area k =
    let e : suc k + count ≡ k + suc count = omega arith in
    ap (λ (l : List KeyGroup). group_at_of area (head_at_of area k) ∷ l)
    (groups_more count area (suc k)
    ∙ ap (λ (n : ℕ). groups_from count area (head_at_of area (suc k)) ++ (group_at_of area (head_at_of area n) ∷ [])) e)

last_then : (m : ℕ) (a b : List StoredVersion) → last_from m (a ++ b) ≡ last_from (last_from m a) b
unfolding gathered
last_then m [] b = refl
last_then m (v ∷ a) b = last_then v.offset a b

-- the record of the first n keys
record KeysRise (area : List ℕ) (n : ℕ) (r : Builder) : Type 0 where
  keys : r.totals.keys ≡ n
  used : r.used ≡ head_at_of area n
  rises : Rises empty_builder (versions_of (groups_in area n)) r

module _ (area : List ℕ) (end : ℕ) (l : end ≤ length area) where
  one_more : (n : ℕ) (r q : Builder) → KeysRise area n r → Running area end r → key_read area end r ≡ Some q → KeysRise area (suc n) q
  unfolding head_at_of groups_in empty_builder
  one_more n r q k run e =
      let s = key_stands area end r q l run e in
      let z : 0 + n ≡ n = omega arith in
      let g = group_at_of area (head_at_of area n) in
      let h : Rises r g.versions q = subst (λ (p : ℕ). Rises r (group_at_of area p).versions q) k.used (key_rises_lem area end r q l run e) in
      let grown : versions_of (groups_in area (suc n)) ≡ versions_of (groups_in area n) ++ g.versions
      = ap versions_of (groups_more n area 0 ∙ ap (λ (m : ℕ). groups_in area n ++ (group_at_of area (head_at_of area m) ∷ [])) z) ∙ versions_one (groups_in area n) g in
      record {
        keys = s.keys ∙ ap (λ (m : ℕ). m + 1) k.keys ∙ add-one n;
        used = s.used ∙ ap (next_head area) k.used;
        rises = subst⁻¹ (λ (vs : List StoredVersion). Rises empty_builder vs q) grown
            (record {
              rising = append_rising 0 (versions_of (groups_in area n)) g.versions k.rises.rising
                  (subst (λ (m : ℕ). Rising m g.versions) k.rises.last h.rising);
              last = h.last ∙ ap (λ (m : ℕ). last_from m g.versions) k.rises.last ∙ sym (last_then 0 (versions_of (groups_in area n)) g.versions);
            });
      }

  -- the offsets of an area that is read rise from 0 on
  pub area_rises : (r : Builder) → area_read area end ≡ Some r → Rising 0 (versions_of (groups_in area r.totals.keys))
  unfolding area_read empty_builder head_at_of groups_in groups_from versions_of Rising gathered
  area_rises r e =
      let k = keys_kept (λ (p : Builder). Running area end p × (n : ℕ) × KeysRise area n p) (suc end) area end
      (λ p s (run, n, k) f. ((key_stands area end p s l run f).running, suc n, one_more n p s k run f))
      empty_builder r (empty_running area end, 0, record { keys = refl; used = refl; rises = record { rising = tt; last = refl } }) e in
      subst⁻¹ (λ (n : ℕ). Rising 0 (versions_of (groups_in area n))) k.0.2.keys k.0.2.rises.rising
