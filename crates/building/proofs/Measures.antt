-- The totals of sound groups are what the writer's sizes and widths go by.
-- Assumes nothing.
use mathlib.Core.Path.{◌≡◌, refl, sym, ap, ◌∙◌}
use mathlib.Core.List.{List, [], ◌∷◌, ◌++◌}
use Prim.Native.Nat.{ℕ, zero, suc, ◌+◌, ◌-◌, ◌^◌, ◌<◌, ◌≤◌}
use native.Mathlib.Nat.{not-suc-le-zero}
use native.Mathlib.Omega.{arith}
use lib.ListN.{length, get_or, length-append}
use Rattle.builder.proofs.Standing.{sizeable_bounded}
use Rattle.written.specs.Arena.{StoredVersion, KeyGroup, no_stored, no_group, group_key, group_versions, group_version}
use Rattle.written.specs.Internal.{versions_before, Measured}
use Rattle.building.specs.Taken.{versions_of, gathered, greatest_of, least_of, last_of, group_totals, builder_of}
use Rattle.building.specs.Internal.{VersionSmall, Rising, Sound}
use Rattle.building.proofs.Lists.{grown, part_either, greatest_each, greatest_below, least_each, last_below}
use Rattle.building.proofs.Grows.{versions_one, versions_before_lem}
use Rattle.building.proofs.Standing.{every, size_passes}

-- what holds of all versions holds of each key's
pub each_of : (gs : List KeyGroup) (P : StoredVersion → Type 0) → ((k : ℕ) → k < length (versions_of gs) → P (get_or (versions_of gs) k no_stored))
    → (i j : ℕ) → i < length gs → j < length (group_versions gs i) → P (group_version gs i j)
unfolding versions_of group_versions group_version no_group
each_of [] P all i j h l = absurd (not-suc-le-zero h)
each_of (g ∷ gs) P all zero j h l = (part_either P g.versions (versions_of gs) no_stored all).0 j l
each_of (g ∷ gs) P all (suc i) j h l = each_of gs P (part_either P g.versions (versions_of gs) no_stored all).1 i j (omega arith) l

no_versions : length (versions_of []) ≡ versions_before [] 0
unfolding versions_of versions_before
no_versions = refl

versions_count : (gs : List KeyGroup) → length (versions_of gs) ≡ versions_before gs (length gs)
versions_count = grown (λ gs. length (versions_of gs) ≡ versions_before gs (length gs)) no_versions more
  where
    more : (gs : List KeyGroup) (g : KeyGroup) → length (versions_of gs) ≡ versions_before gs (length gs)
        → length (versions_of (gs ++ (g ∷ []))) ≡ versions_before (gs ++ (g ∷ [])) (length (gs ++ (g ∷ [])))
    more gs g h = ap length (versions_one gs g) ∙ length-append (versions_of gs) g.versions ∙ ap (λ (n : ℕ). n + length g.versions) h ∙ sym (versions_before_lem gs g)

-- offsets that do not fall are at most the last
from_first : (m : ℕ) (vs : List StoredVersion) → Rising m vs → m ≤ gathered (λ p q. q) (λ v. v.offset) m vs
unfolding Rising gathered
from_first m [] r = omega arith
from_first m (v ∷ vs) r = let h = from_first v.offset vs r.1 in let l = r.0 in omega arith

to_last : (m : ℕ) (vs : List StoredVersion) → Rising m vs → (k : ℕ) → k < length vs → (get_or vs k no_stored).offset ≤ gathered (λ p q. q) (λ v. v.offset) m vs
unfolding Rising gathered
to_last m [] r k h = absurd (not-suc-le-zero h)
to_last m (v ∷ vs) r zero h = from_first v.offset vs r.1
to_last m (v ∷ vs) r (suc k) h = to_last v.offset vs r.1 k (omega arith)

module _ (gs : List KeyGroup) (sound : Sound gs) where
  all_small : (k : ℕ) → k < length (versions_of gs) → VersionSmall (get_or (versions_of gs) k no_stored)
  all_small = every gs VersionSmall (λ i j h l. (sound.small i h).versions j l)

  version_small : (i j : ℕ) → i < length gs → j < length (group_versions gs i) → VersionSmall (group_version gs i j)
  version_small = each_of gs VersionSmall all_small

  pub measured : Measured (group_totals gs) gs
  unfolding group_totals group_key group_versions last_of builder_of
  measured =
      record {
        bounded = sizeable_bounded (builder_of gs) (size_passes gs sound);
        keys = refl;
        versions = versions_count gs;
        suffixes = refl;
        greatest_fits = let b = greatest_below (λ v. v.seq) (2 ^ 64 - 1) (versions_of gs) no_stored (λ k h. let z = (all_small k h).seq in omega arith) in omega arith;
        last_fits = last_below (λ v. v.offset) (2 ^ 64) (versions_of gs) no_stored (omega arith) (λ k h. (all_small k h).offset);
        key_len = λ i h. greatest_each (λ g. length g.key) gs no_group i h;
        most = λ i h. greatest_each (λ g. length g.versions) gs no_group i h;
        some_version = λ i h. (sound.small i h).some;
        least = each_of gs (λ v. least_of (λ w. w.seq) (versions_of gs) ≤ v.seq) (least_each (λ w. w.seq) (versions_of gs) no_stored);
        greatest = each_of gs (λ v. v.seq ≤ greatest_of (λ w. w.seq) (versions_of gs)) (greatest_each (λ w. w.seq) (versions_of gs) no_stored);
        size = each_of gs (λ v. v.size ≤ greatest_of (λ w. w.size) (versions_of gs)) (greatest_each (λ w. w.size) (versions_of gs) no_stored);
        size_limit = λ i j h l. (version_small i j h l).size;
        offset = each_of gs (λ v. v.offset ≤ gathered (λ p q. q) (λ w. w.offset) 0 (versions_of gs)) (to_last 0 (versions_of gs) sound.rising);
        checksum = λ i j h l. (version_small i j h l).checksum;
      }
