-- Reading back measures: the further versions of a key, a key, the keys.
-- Assumes nothing.
use mathlib.Core.Path.{◌≡◌, refl, sym, ap, ap₂, ◌∙◌, subst⁻¹}
use mathlib.Core.Bool.{Bool, true, false}
use mathlib.Core.List.{List}
use Rattle.std.specs.Prelude.{Some}
use Prim.Native.Nat.{ℕ, zero, suc, ◌+◌, ◌-◌, ◌*◌, ◌/◌, ◌%◌, ◌<◌, ◌≤◌}
use native.Mathlib.Omega.{arith}
use native.Mathlib.Numerals.{add-one}
use lib.Dec.{eqb}
use lib.ListN.{length, length-drop}
use borrow.Author.Count.{below_more}
use borrow.Author.Tests.{eqb-true, eq-eqb}
use Rattle.num.specs.Choice.{when◌then◌else◌, both}
use Rattle.num.specs.Number.{Bytes}
use Rattle.num.specs.Order.{common_prefix_len}
use Rattle.num.proofs.Choice.{false_true, if_case}
use Rattle.sstable.specs.Limits.{max_key_bytes}
use Rattle.encoding.specs.declared.Totals.{Totals}
use Rattle.encoding.specs.Encoding.{group}
use Rattle.area.specs.Area.{head_len, area_version_len, area_key_len, area_versions, area_key, first_version_at, next_head}
use Rattle.builder.specs.declared.Builder.{Builder}
use Rattle.builder.specs.Record.{empty_builder, anchor_next, shared_with, totals_after, builder_after}
use Rattle.builder.specs.Add.{max_keys}
use Rattle.readback.specs.ReadBack.{counted_at, version_read, versions_read, key_read, area_read}
use Rattle.readback.specs.Places.{area_version_at, head_at_of}
use Rattle.readback.specs.Internal.{Running}
use Rattle.readback.proofs.Reading.{version_stands, length_key, follows, first_more, key_parts, key_stands, empty_running, keys_kept}
use Rattle.written.specs.Arena.{group_key, group_anchor, group_shared, group_suffix, suffixes_before}
use Rattle.written.specs.Internal.{versions_before}
use Rattle.writer.specs.Write.{groups_in}
use Rattle.measuring.specs.Internal.{VersionWithin, KeyWithin, Wider, Whole, KeysMeasured}
use Rattle.measuring.proofs.Totals.{wider_same, wider_then, version_wider, key_wider, after_wider, after_within, after_whole}
use Rattle.measuring.proofs.Groups.{key_in, many_in}

-- ---- a version

-- the record behind a version that was read
record VersionMeasured (area : List ℕ) (r : Builder) (head place count : ℕ) (new : Bool) (q : Builder) : Type 0 where
  wider : Wider r.totals q.totals
  whole : Whole q.totals
  within : VersionWithin area q.totals place
  most : count ≤ q.totals.max_versions
  key_limit : area_key_len area head ≤ max_key_bytes
  few : r.totals.keys + (when new then 1 else 0) ≤ max_keys
  after : q ≡ builder_after area r (counted_at area head place count new)

version_measured : (area : List ℕ) (end : ℕ) (r : Builder) (head place count : ℕ) (new : Bool) (q : Builder) → Bytes area → Whole r.totals
    → version_read area end r head place count new ≡ Some q → VersionMeasured area r head place count new q
unfolding builder_after totals_after counted_at
version_measured area end r head place count new q bytes w e =
    let s = version_stands area end r head place count new q e in
    let t : q.totals ≡ totals_after area r (counted_at area head place count new) = ap (λ (b : Builder). b.totals) s.after in
    let m : q.totals.max_versions ≡ (totals_after area r (counted_at area head place count new)).max_versions = ap (λ (u : Totals). u.max_versions) t in
    record {
      wider = subst⁻¹ (Wider r.totals) t (after_wider area r head place count new s.offset);
      whole = subst⁻¹ Whole t (after_whole area r head place count new bytes w);
      within = subst⁻¹ (λ (u : Totals). VersionWithin area u place) t (after_within area r head place count new s.value_limit);
      most = omega (arith, m);
      key_limit = s.key_limit;
      few = s.few;
      after = s.after;
    }

-- ---- the further versions of a key

record FurtherMeasured (area : List ℕ) (r : Builder) (count left : ℕ) (q : Builder) : Type 0 where
  wider : Wider r.totals q.totals
  whole : Whole q.totals
  versions : q.totals.versions ≡ r.totals.versions + left
  suffixes : q.totals.suffix_bytes ≡ r.totals.suffix_bytes
  anchor : q.anchor ≡ r.anchor
  most : count + left ≤ q.totals.max_versions
  each : (j : ℕ) → j < left → VersionWithin area q.totals (r.used + area_version_len * j)

-- the fields of the record behind one that is not new
record Kept (r q : Builder) : Type 0 where
  versions : q.totals.versions ≡ r.totals.versions + 1
  suffixes : q.totals.suffix_bytes ≡ r.totals.suffix_bytes
  anchor : q.anchor ≡ r.anchor
  used : q.used ≡ r.used + area_version_len

kept : (area : List ℕ) (r : Builder) (head place count : ℕ) → Kept r (builder_after area r (counted_at area head place count false))
unfolding builder_after totals_after counted_at when◌then◌else◌ both
kept area r head place count = record { versions = refl; suffixes = omega arith; anchor = refl; used = omega arith }

further_measured : (left : ℕ) (area : List ℕ) (end : ℕ) (r : Builder) (count : ℕ) (q : Builder) → Bytes area → Whole r.totals
    → count ≤ r.totals.max_versions → versions_read left area end r count ≡ Some q → FurtherMeasured area r count left q
unfolding versions_read
further_measured zero area end r count q bytes w c e =
    let z : r ≡ q = cc in
    subst⁻¹ (FurtherMeasured area r count 0) (sym z)
    (record {
      wider = wider_same r.totals;
      whole = w;
      versions = omega arith;
      suffixes = refl;
      anchor = refl;
      most = omega arith;
      each = λ j l. absurd (omega arith);
    })
further_measured (suc left) area end r count q bytes w c e =
    let f = follows (version_read area end r r.last_key r.used (count + 1) false) (λ p. versions_read left area end p (count + 1)) q e in
    let p = f.0 in
    let m = version_measured area end r r.last_key r.used (count + 1) false p bytes w f.1 in
    let k = subst⁻¹ (Kept r) m.after (kept area r r.last_key r.used (count + 1)) in
    let v = further_measured left area end p (count + 1) q bytes m.whole m.most f.2 in
    record {
      wider = wider_then r.totals p.totals q.totals m.wider v.wider;
      whole = v.whole;
      versions = omega (arith, v.versions, k.versions);
      suffixes = v.suffixes ∙ k.suffixes;
      anchor = v.anchor ∙ k.anchor;
      most = omega (arith, v.most);
      each = first_more (VersionWithin area q.totals) r.used left (version_wider area p.totals q.totals v.wider r.used m.within)
          (λ j l. subst⁻¹ (λ (n : ℕ). VersionWithin area q.totals (n + area_version_len * j)) (sym k.used) (v.each j l));
    }

-- ---- a key

record KeyMeasured (area : List ℕ) (r q : Builder) : Type 0 where
  wider : Wider r.totals q.totals
  whole : Whole q.totals
  within : KeyWithin area q.totals r.used
  few : r.totals.keys + 1 ≤ max_keys
  versions : q.totals.versions ≡ r.totals.versions + area_versions area r.used
  suffixes : q.totals.suffix_bytes ≡ r.totals.suffix_bytes + (length (area_key area r.used) - shared_with area r (area_key area r.used))
  anchor : q.anchor ≡ (when anchor_next r then r.used else r.anchor)

-- the fields of the record behind a first version
record Begun (area : List ℕ) (r q : Builder) : Type 0 where
  versions : q.totals.versions ≡ r.totals.versions + 1
  suffixes : q.totals.suffix_bytes ≡ r.totals.suffix_bytes + (length (area_key area r.used) - shared_with area r (area_key area r.used))
  anchor : q.anchor ≡ (when anchor_next r then r.used else r.anchor)
  used : q.used ≡ r.used + head_len + length (area_key area r.used) + area_version_len
  key_len : length (area_key area r.used) ≤ q.totals.max_key_len

begun : (area : List ℕ) (r : Builder) (place count : ℕ) → Begun area r (builder_after area r (counted_at area r.used place count true))
unfolding builder_after totals_after counted_at when◌then◌else◌ both
begun area r place count = record { versions = refl; suffixes = refl; anchor = refl; used = omega arith; key_len = omega arith }

key_measured : (area : List ℕ) (end : ℕ) (r q : Builder) → Bytes area → end ≤ length area → Whole r.totals → key_read area end r ≡ Some q → KeyMeasured area r q
unfolding area_version_at first_version_at when◌then◌else◌
key_measured area end r q bytes l w e =
    let f = key_parts area end r q e in
    let p = f.behind in
    let at = r.used + head_len + area_key_len area r.used in
    let left = area_versions area r.used - 1 in
    let s = version_stands area end r r.used at 1 true p f.one in
    let m = version_measured area end r r.used at 1 true p bytes w f.one in
    let n = length_key area r.used (omega (arith, s.inside)) in
    let b = subst⁻¹ (Begun area r) m.after (begun area r at 1) in
    let v = further_measured left area end p 1 q bytes m.whole m.most f.more in
    let behind : at + area_version_len ≡ p.used = omega (arith, b.used, n) in
    record {
      wider = wider_then r.totals p.totals q.totals m.wider v.wider;
      whole = v.whole;
      within = record {
        key_len = omega (arith, b.key_len, v.wider.key_len);
        key_limit = omega (arith, n, m.key_limit);
        some_version = f.some_version;
        most = omega (arith, v.most, f.some_version);
        versions = λ j k. first_more (VersionWithin area q.totals) at left (version_wider area p.totals q.totals v.wider at m.within)
            (λ i h. subst⁻¹ (λ (x : ℕ). VersionWithin area q.totals (x + area_version_len * i)) behind (v.each i h)) j (omega (arith, f.some_version));
      };
      few = m.few;
      versions = omega (arith, v.versions, b.versions, f.some_version);
      suffixes = v.suffixes ∙ b.suffixes;
      anchor = v.anchor ∙ b.anchor;
    }

-- ---- the keys

if_second : (t : Bool) (a b c : ℕ) → (t ≡ false → b ≡ c) → (when t then a else b) ≡ (when t then a else c)
unfolding when◌then◌else◌
if_second true a b c h = refl
if_second false a b c h = h refl

module _ (area : List ℕ) (n : ℕ) (r q : Builder) (k : KeysMeasured area n r) (m : KeyMeasured area r q) where
  no_anchor : eqb (n % group) 0 ≡ false → n % group ≡ 0 → ⊥
  no_anchor f z = false_true (sym f ∙ eq-eqb _ _ z)

  -- the new key shares with the anchor as its group does
  shared_in : (all : ℕ) → n < all → shared_with area r (area_key area (head_at_of area n)) ≡ group_shared (groups_in area all) n
  unfolding shared_with anchor_next group_shared group_anchor
  shared_in all l =
      ap (λ (x : ℕ). when eqb (x % group) 0 then 0 else common_prefix_len (area_key area r.anchor) (area_key area (head_at_of area n))) k.keys
      ∙ if_second (eqb (n % group) 0) 0 _ _
      (λ f. ap₂ common_prefix_len (ap (area_key area) (k.anchor (no_anchor f)) ∙ sym (key_in area all (group * (n / group)) (omega arith))) (sym (key_in area all n l)))

  suffix_in : (all : ℕ) → n < all → length (area_key area r.used) - shared_with area r (area_key area r.used) ≡ length (group_suffix (groups_in area all) n)
  unfolding group_suffix
  suffix_in all l =
      ap (λ (x : ℕ). length (area_key area x) - shared_with area r (area_key area x)) k.used
      ∙ ap₂ ◌-◌ (ap (λ (key : List ℕ). length key) (sym (key_in area all n l))) (shared_in all l)
      ∙ sym (length-drop (group_shared (groups_in area all) n) (group_key (groups_in area all) n))

  -- the anchor of the key after it, unless that is one itself
  anchor_next_lem : (suc n % group ≡ 0 → ⊥) → q.anchor ≡ head_at_of area (group_anchor (suc n))
  unfolding anchor_next group_anchor
  anchor_next_lem h =
      let e : group * (n / group) ≡ group * (suc n / group) = omega (arith, h) in
      m.anchor
      ∙ ap (λ (x : ℕ). when eqb (x % group) 0 then r.used else r.anchor) k.keys
      ∙ if_case (λ (x : ℕ). x ≡ head_at_of area (group * (n / group))) (eqb (n % group) 0) r.used r.anchor
      (λ t. let z = eqb-true (n % group) 0 t in let f : n ≡ group * (n / group) = omega arith in k.used ∙ ap (head_at_of area) f)
      (λ f. k.anchor (no_anchor f))
      ∙ ap (head_at_of area) e

  one_more : q.totals.keys ≡ r.totals.keys + 1 → q.used ≡ next_head area r.used → KeysMeasured area (suc n) q
  unfolding head_at_of versions_before suffixes_before
  one_more keys used =
      record {
        keys = keys ∙ ap (λ (x : ℕ). x + 1) k.keys ∙ add-one n;
        few = omega (arith, m.few, k.keys);
        used = used ∙ ap (next_head area) k.used;
        anchor = anchor_next_lem;
        versions = λ all l. omega (arith, m.versions, k.versions all (omega arith), many_in area all n l, ap (area_versions area) k.used);
        suffixes = λ all l. omega (arith, m.suffixes, k.suffixes all (omega arith), suffix_in all l);
        whole = m.whole;
        each = λ i l. below_more (λ (j : ℕ). KeyWithin area q.totals (head_at_of area j)) n
            (λ j h. key_wider area r.totals q.totals m.wider (head_at_of area j) (k.each j h))
            (subst⁻¹ (KeyWithin area q.totals) (sym k.used) m.within) i (omega arith);
      }

none_measured : (area : List ℕ) → KeysMeasured area 0 empty_builder
unfolding empty_builder head_at_of versions_before suffixes_before
none_measured area =
    record {
      keys = refl;
      few = omega arith;
      used = refl;
      anchor = λ h. absurd (h refl);
      versions = λ all l. refl;
      suffixes = λ all l. refl;
      whole = record { greatest = omega arith; offset = omega arith };
      each = λ i l. absurd (omega arith);
    }

-- the record that comes out is that of all keys
pub area_measured : (area : List ℕ) (end : ℕ) (r : Builder) → Bytes area → end ≤ length area → area_read area end ≡ Some r → KeysMeasured area r.totals.keys r
unfolding area_read
area_measured area end r bytes l e =
    let k = keys_kept (λ (p : Builder). Running area end p × (n : ℕ) × KeysMeasured area n p) (suc end) area end
    (λ p s (h, n, k) f. let t = key_stands area end p s l h f in
    (t.running, suc n, one_more area n p s k (key_measured area end p s bytes l k.whole f) t.keys t.used))
    empty_builder r (empty_running area end, 0, none_measured area) e in
    subst⁻¹ (λ (n : ℕ). KeysMeasured area n r) k.0.2.keys k.0.2
