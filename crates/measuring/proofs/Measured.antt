-- An area that reads back is measured.
-- Assumes nothing.
use mathlib.Core.Path.{◌≡◌, sym, ap, ◌∙◌, subst⁻¹}
use mathlib.Core.List.{List}
use Prim.Native.Nat.{ℕ, ◌+◌, ◌^◌, ◌<◌, ◌≤◌}
use native.Mathlib.Omega.{arith}
use lib.ListN.{length}
use Rattle.num.specs.Number.{Bytes}
use Rattle.num.proofs.Number.{le_at-lt}
use Rattle.sstable.specs.Limits.{max_key_bytes, max_value_bytes}
use Rattle.encoding.specs.declared.Totals.{Totals}
use Rattle.encoding.specs.Encoding.{Bounded, encoding_of}
use Rattle.area.specs.Area.{area_versions, area_checksum}
use Rattle.builder.specs.declared.Builder.{Builder}
use Rattle.builder.proofs.Standing.{sizeable_bounded}
use Rattle.readback.specs.Places.{area_version_at, head_at_of}
use Rattle.readback.proofs.Reading.{read_back}
use Rattle.written.specs.Arena.{StoredVersion, group_versions, group_version, suffixes_before}
use Rattle.written.specs.Internal.{versions_before, Measured}
use Rattle.written.proofs.Totals.{totals_fit, section_size}
use Rattle.writer.specs.Write.{stored_at, groups_in}
use Rattle.measuring.specs.Measured.{AreaMeasured, ReadBackMeasured}
use Rattle.measuring.specs.Internal.{VersionWithin, KeysMeasured}
use Rattle.measuring.proofs.Groups.{count_in, keys_in, end_in, key_in, many_in, version_in_lem}
use Rattle.measuring.proofs.Reading.{area_measured}

module _ (area : List ℕ) (r : Builder) (bytes : Bytes area) (k : KeysMeasured area r.totals.keys r) where
  pub key_below : (i : ℕ) → i < length (groups_in area r.totals.keys) → i < r.totals.keys
  key_below i h = omega (arith, count_in area r.totals.keys)

  -- what holds of the version at each place holds of the groups' versions
  pub each_version : (P : StoredVersion → Type 0)
      → ((place : ℕ) → VersionWithin area r.totals place → P (stored_at area place))
      → (i j : ℕ) → i < length (groups_in area r.totals.keys) → j < length (group_versions (groups_in area r.totals.keys) i)
      → P (group_version (groups_in area r.totals.keys) i j)
  each_version P f i j h l =
      let b = key_below i h in
      let c : j < area_versions area (head_at_of area i) = omega (arith, many_in area r.totals.keys i b) in
      subst⁻¹ P (version_in_lem area r.totals.keys i b j c) (f (area_version_at area (head_at_of area i) j) ((k.each i b).versions j c))

  totals_measured : Bounded r.totals → Measured r.totals (groups_in area r.totals.keys)
  unfolding stored_at area_checksum
  totals_measured bounded =
      let c = count_in area r.totals.keys in
      record {
        bounded = bounded;
        keys = sym c;
        versions = k.versions r.totals.keys (omega arith) ∙ ap (versions_before (groups_in area r.totals.keys)) (sym c);
        suffixes = k.suffixes r.totals.keys (omega arith) ∙ ap (suffixes_before (groups_in area r.totals.keys)) (sym c);
        greatest_fits = k.whole.greatest;
        last_fits = k.whole.offset;
        key_len = λ i h. let b = key_below i h in
            subst⁻¹ (λ (key : List ℕ). length key ≤ r.totals.max_key_len) (key_in area r.totals.keys i b) (k.each i b).key_len;
        most = λ i h. let b = key_below i h in omega (arith, many_in area r.totals.keys i b, (k.each i b).most);
        some_version = λ i h. let b = key_below i h in omega (arith, many_in area r.totals.keys i b, (k.each i b).some_version);
        least = each_version (λ (v : StoredVersion). r.totals.min_seq ≤ v.seq) (λ place w. w.least);
        greatest = each_version (λ (v : StoredVersion). v.seq ≤ r.totals.max_seq) (λ place w. w.greatest);
        size = each_version (λ (v : StoredVersion). v.size ≤ r.totals.max_value_len) (λ place w. w.size);
        size_limit = each_version (λ (v : StoredVersion). v.size ≤ max_value_bytes) (λ place w. w.size_limit);
        offset = each_version (λ (v : StoredVersion). v.offset ≤ r.totals.last_value_offset) (λ place w. w.offset);
        checksum = each_version (λ (v : StoredVersion). v.checksum < 2 ^ 32) (λ place w. le_at-lt area bytes 4 (place + 21));
      }

  all_measured : Bounded r.totals → head_at_of area r.totals.keys ≤ length area → AreaMeasured area r.totals
  all_measured bounded inside =
      let m = totals_measured bounded in
      record {
        count = count_in area r.totals.keys;
        few = k.few;
        keys_stand = record { inside = omega (arith, end_in area r.totals.keys) };
        keys = keys_in area r.totals.keys;
        key_limit = λ i h. subst⁻¹ (λ (key : List ℕ). length key ≤ max_key_bytes) (key_in area r.totals.keys i h) (k.each i h).key_limit;
        measured = m;
        fits = totals_fit r.totals (groups_in area r.totals.keys) m;
        size = λ seed. section_size r.totals (groups_in area r.totals.keys) m (encoding_of r.totals) seed r.totals.min_seq;
      }

pub read_back_measured : ReadBackMeasured
unfolding ReadBackMeasured
read_back_measured area b bytes s e =
    let f = read_back area b e in
    let r = f.record_of in
    let t : r.totals ≡ b.totals = f.totals in
    subst⁻¹ (AreaMeasured area) (sym t)
    (all_measured area r bytes (area_measured area b.used r bytes f.inside f.read) (subst⁻¹ Bounded t (sizeable_bounded b s))
    (omega (arith, ap (λ (u : Totals). head_at_of area u.keys) t, f.keys_stand.to_the_end, f.inside)))
