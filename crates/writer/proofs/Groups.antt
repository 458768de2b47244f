-- The versions of a key and the groups of an area, counted and by index.
-- Assumes nothing.
use mathlib.Core.Path.{◌≡◌, refl, ap, ◌∙◌}
use mathlib.Core.List.{List}
use Prim.Native.Nat.{ℕ, zero, suc, ◌+◌, ◌*◌, ◌<◌}
use native.Mathlib.Nat.{not-suc-le-zero}
use native.Mathlib.Omega.{arith}
use lib.ListN.{length, get_or}
use Rattle.area.specs.Area.{area_version_len, next_head}
use Rattle.written.specs.Arena.{no_stored}
use Rattle.writer.specs.Write.{stored_at, stored_from, groups_from}

pub stored_length : (n : ℕ) (area : List ℕ) (place : ℕ) → length (stored_from n area place) ≡ n
unfolding stored_from
stored_length zero area place = refl
stored_length (suc n) area place = ap suc (stored_length n area (place + area_version_len))

pub stored_index : (n : ℕ) (area : List ℕ) (place j : ℕ) → j < n → get_or (stored_from n area place) j no_stored ≡ stored_at area (place + area_version_len * j)
unfolding stored_from
stored_index zero area place j h = absurd (not-suc-le-zero h)
stored_index (suc n) area place zero h = let e : place ≡ place + area_version_len * 0 = omega arith in ap (stored_at area) e
stored_index (suc n) area place (suc j) h =
    let e : place + area_version_len + area_version_len * j ≡ place + area_version_len * suc j = omega arith in
    stored_index n area (place + area_version_len) j (omega arith) ∙ ap (stored_at area) e

pub groups_length : (n : ℕ) (area : List ℕ) (head : ℕ) → length (groups_from n area head) ≡ n
unfolding groups_from
groups_length zero area head = refl
groups_length (suc n) area head = ap suc (groups_length n area (next_head area head))
