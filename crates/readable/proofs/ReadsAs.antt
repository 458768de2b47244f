-- An area reads back exactly if it holds key groups whose entries pass, and the record's totals are theirs.
-- Assumes nothing.
use mathlib.Core.Path.{◌≡◌, refl, sym, ap, ◌∙◌, subst, subst⁻¹}
use mathlib.Core.Bool.{true}
use mathlib.Core.List.{List, [], ◌∷◌, ◌++◌}
use Rattle.std.specs.Prelude.{Option, Some, None}
use Prim.Native.Nat.{ℕ, zero, suc, ◌+◌, ◌^◌, ◌<◌, ◌≤◌}
use native.Mathlib.Nat.{not-suc-le-zero}
use native.Mathlib.Omega.{arith}
use lib.Dec.{leb}
use lib.ListN.{length, get_or, take, drop, length-append, take-append-drop}
use lib.Seq.{length-take-le}
use Rattle.num.specs.Choice.{both}
use Rattle.num.specs.Number.{Bytes}
use Rattle.num.proofs.Number.{le_at-lt}
use Rattle.sstable.specs.Limits.{limit_defs}
use Rattle.encoding.specs.declared.Totals.{Totals}
use Rattle.area.specs.Area.{area_offset, area_checksum}
use Rattle.builder.specs.declared.Builder.{Builder}
use Rattle.readback.specs.ReadBack.{same_totals, reads_back_for, area_read, reads_back_of}
use Rattle.readback.proofs.Reading.{read_back}
use Rattle.written.specs.Arena.{StoredVersion, KeyGroup, no_group, group_key, group_versions, group_version}
use Rattle.written.specs.Internal.{Stands}
use Rattle.writer.specs.Write.{stored_at, groups_in}
use Rattle.measuring.specs.Internal.{KeysMeasured}
use Rattle.measuring.proofs.Groups.{count_in, key_in, many_in}
use Rattle.measuring.proofs.Reading.{area_measured}
use Rattle.measuring.proofs.Measured.{key_below, each_version}
use Rattle.building.specs.Taken.{area_of_group, area_of, versions_of, group_totals, builder_of}
use Rattle.building.specs.Internal.{GroupSmall, Sound}
use Rattle.building.proofs.Grows.{group_area_length}
use Rattle.building.proofs.AreaRead.{groups_in_lem}
use Rattle.building.proofs.ReadsBack.{reads_back}
use Rattle.readable.specs.ReadsAs.{offset_of, EntriesPass, ReadsAs, ReadsBackExactly, ReadsAsWritten}
use Rattle.readable.proofs.Held.{held}
use Rattle.readable.proofs.Rising.{rising_at, at_rising, area_rises}

-- ---- groups whose entries pass are sound

-- a key takes no more bytes than all of them
group_within : (gs : List KeyGroup) (i : ℕ) → i < length gs → length (area_of_group (get_or gs i no_group)) ≤ length (area_of gs)
unfolding area_of
group_within [] i h = absurd (not-suc-le-zero h)
group_within (g ∷ gs) zero h = let n = length-append (area_of_group g) (area_of gs) in omega arith
group_within (g ∷ gs) (suc i) h = omega (arith, length-append (area_of_group g) (area_of gs), group_within gs i (omega arith))

module _ (gs : List KeyGroup) (p : EntriesPass gs) (short : length (area_of gs) ≤ 2 ^ 30) where
  group_small : (i : ℕ) → i < length gs → GroupSmall (get_or gs i no_group)
  unfolding group_key group_versions group_version limit_defs
  group_small i h =
      record {
        key = p.key_limit i h;
        some = p.some_version i h;
        few = omega (arith, group_within gs i h, group_area_length (get_or gs i no_group));
        versions = λ j l. record { seq = p.seq i j h l; size = p.value_limit i j h l; offset = p.offset i j h l; checksum = p.checksum i j h l };
      }

  sound : Sound gs
  unfolding offset_of
  sound = record { small = group_small; rising = at_rising 0 (versions_of gs) (λ h. omega arith) p.rising; few = p.few; used = short }

-- ---- from groups to reading back

module _ (area : List ℕ) (n : ℕ) (gs : List KeyGroup) (e : take n area ≡ area_of gs) where
  used_length : n ≤ length area → length (area_of gs) ≡ n
  used_length h = ap length (sym e) ∙ length-take-le n area h

  area_stands : Stands area 0 (area_of gs)
  area_stands = record { rest = drop n area; stands = sym (take-append-drop n area) ∙ ap (λ (l : List ℕ). l ++ drop n area) e }

-- the question asks of the record its used bytes and its totals
for_totals : (b c : Builder) (o : Option Builder) → b.totals ≡ c.totals → reads_back_for b o ≡ reads_back_for c o
unfolding reads_back_for
for_totals b c None e = refl
for_totals b c (Some r) e = ap (same_totals r.totals) e

asks_same : (area : List ℕ) (b c : Builder) → b.used ≡ c.used → b.totals ≡ c.totals → reads_back_of area b ≡ reads_back_of area c
unfolding reads_back_of
asks_same area b c u t =
    ap (λ (n : ℕ). both (leb n (length area)) (reads_back_for b (area_read area n))) u
    ∙ ap (both (leb c.used (length area))) (for_totals b c (area_read area c.used) t)

from_groups : (area : List ℕ) (b : Builder) (gs : List KeyGroup) → b.used ≤ 2 ^ 30 → ReadsAs area b gs → reads_back_of area b ≡ true
unfolding builder_of
from_groups area b gs small r =
    let n = used_length area b.used gs r.used r.inside in
    asks_same area b (builder_of gs) (sym n) r.totals
    ∙ reads_back area gs (sound gs r.entries (omega arith)) (area_stands area b.used gs r.used) (omega (arith, r.inside))

-- ---- from reading back to groups

module _ (area : List ℕ) (end : ℕ) (r : Builder) (bytes : Bytes area) (inside : end ≤ length area) (e : area_read area end ≡ Some r) where
  abbrev gs : List KeyGroup
  gs = groups_in area r.totals.keys

  measured : KeysMeasured area r.totals.keys r
  measured = area_measured area end r bytes inside e

  entries_pass : EntriesPass gs
  unfolding stored_at area_offset area_checksum offset_of limit_defs
  entries_pass =
      record {
        key_limit = λ i h. let b = key_below area r bytes measured i h in
            subst⁻¹ (λ (key : List ℕ). length key ≤ 1048576) (key_in area r.totals.keys i b) (measured.each i b).key_limit;
        value_limit = each_version area r bytes measured (λ (v : StoredVersion). v.size ≤ 16777216) (λ place w. w.size_limit);
        some_version = λ i h. let b = key_below area r bytes measured i h in omega (arith, many_in area r.totals.keys i b, (measured.each i b).some_version);
        rising = rising_at 0 (versions_of gs) (area_rises area end inside r e);
        few = omega (arith, count_in area r.totals.keys, measured.few);
        seq = each_version area r bytes measured (λ (v : StoredVersion). v.seq < 2 ^ 64) (λ place w. le_at-lt area bytes 8 place);
        offset = each_version area r bytes measured (λ (v : StoredVersion). v.offset < 2 ^ 64) (λ place w. le_at-lt area bytes 8 (place + 13));
        checksum = each_version area r bytes measured (λ (v : StoredVersion). v.checksum < 2 ^ 32) (λ place w. le_at-lt area bytes 4 (place + 21));
      }

to_groups : (area : List ℕ) (b : Builder) → Bytes area → b.used ≤ 2 ^ 30 → reads_back_of area b ≡ true → ReadsAs area b (groups_in area b.totals.keys)
unfolding builder_of
to_groups area b bytes small e =
    let f = read_back area b e in
    let gs = groups_in area b.totals.keys in
    let used = held area bytes b.used f.inside b.totals.keys f.keys_stand in
    let n = used_length area b.used gs used f.inside in
    let entries = subst (λ (t : Totals). EntriesPass (groups_in area t.keys)) f.totals (entries_pass area b.used f.record_of bytes f.inside f.read) in
    let g = read_back area (builder_of gs) (reads_back area gs (sound gs entries (omega arith)) (area_stands area b.used gs used) (omega (arith, f.inside))) in
    let same : f.record_of ≡ g.record_of = cc (f.read, g.read) in
    record { inside = f.inside; used = used; entries = entries; totals = sym f.totals ∙ ap (λ (q : Builder). q.totals) same ∙ g.totals }

pub reads_back_exactly : ReadsBackExactly
unfolding ReadsBackExactly
reads_back_exactly area b bytes small =
    ((λ e. (groups_in area b.totals.keys, to_groups area b bytes small e)), λ (gs, r). from_groups area b gs small r)

-- ---- the groups that writing takes

pub reads_as_written : ReadsAsWritten
unfolding ReadsAsWritten group_totals
reads_as_written area b gs small r =
    let n = used_length area b.used gs r.used r.inside in
    ap (λ (t : Totals). groups_in area t.keys) r.totals ∙ groups_in_lem gs (group_small gs r.entries (omega arith)) (area_stands area b.used gs r.used)
