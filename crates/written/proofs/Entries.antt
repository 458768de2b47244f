-- The records of the groups by index.
-- Assumes nothing.
use mathlib.Core.Path.{◌≡◌, refl, ◌∙◌}
use mathlib.Core.List.{List, [], ◌∷◌}
use Prim.Native.Nat.{ℕ, zero, suc, ◌+◌, ◌*◌, ◌<◌}
use native.Mathlib.Nat.{mul-one}
use native.Mathlib.Omega.{arith}
use lib.ListN.{length, get_or}
use Rattle.block.specs.Walk.{Entry}
use Rattle.agreement.specs.Agrees.{no_entry_of, entry_at}
use Rattle.written.specs.Joined.{joined}
use Rattle.written.specs.Arena.{KeyGroup, group_key, group_versions, group_version}
use Rattle.written.specs.Opens.{group_entry, group_entries, entries_of_groups}
use Rattle.written.specs.Internal.{versions_before}
use Rattle.written.proofs.Stands.{stands_whole, stands_one, stands_at, joined_length, joined_stands, even_length, even_stands, joined_each}

module _ (gs : List KeyGroup) where
  group_entries_length : (i : ℕ) → length (group_entries gs i) ≡ length (group_versions gs i)
  unfolding group_entries
  group_entries_length i =
      even_length (λ j. group_entry (group_key gs i) (group_version gs i j) ∷ []) 1 (length (group_versions gs i)) (λ j _. refl) ∙ mul-one (length (group_versions gs i))

  before_step : (i : ℕ) → versions_before gs (suc i) ≡ versions_before gs i + length (group_entries gs i)
  unfolding versions_before
  before_step i = let n = group_entries_length i in omega arith

  before_start : versions_before gs 0 ≡ 0
  unfolding versions_before
  before_start = refl

  pub entries_length : length (entries_of_groups gs) ≡ versions_before gs (length gs)
  unfolding entries_of_groups
  entries_length = joined_length (group_entries gs) (versions_before gs) (length gs) before_start (λ i _. before_step i)

  -- version j of key i is the record behind those of the keys before it and the j before it
  pub entry_found : (i j : ℕ) → i < length gs → j < length (group_versions gs i) → entry_at (entries_of_groups gs) (versions_before gs i + j) ≡ group_entry (group_key gs i) (group_version gs i j)
  unfolding entries_of_groups group_entries entry_at
  entry_found i j h l =
      let p : 0 + versions_before gs i + j * 1 ≡ versions_before gs i + j = omega arith in
      stands_one (group_entry (group_key gs i) (group_version gs i j)) no_entry_of
      (stands_at p
      (even_stands (λ k. group_entry (group_key gs i) (group_version gs i k) ∷ []) 1 (length (group_versions gs i)) j (λ k _. refl) l
      (joined_stands (group_entries gs) (versions_before gs) (length gs) i before_start (λ k _. before_step k) h (stands_whole (joined (group_entries gs) (length gs))))))

  -- what holds of each version's record holds of all
  pub entries_each : (P : Entry → Type 0) → ((i j : ℕ) → i < length gs → j < length (group_versions gs i) → P (group_entry (group_key gs i) (group_version gs i j)))
      → (r : ℕ) → r < length (entries_of_groups gs) → P (entry_at (entries_of_groups gs) r)
  unfolding entries_of_groups group_entries entry_at
  entries_each P each =
      joined_each (group_entries gs) P no_entry_of (length gs)
      (λ i h. joined_each (λ j. group_entry (group_key gs i) (group_version gs i j) ∷ []) P no_entry_of (length (group_versions gs i)) (λ j l. only (group_entry (group_key gs i) (group_version gs i j)) (each i j h l)))
    where
      only : (e : Entry) → P e → (r : ℕ) → r < 1 → P (get_or (e ∷ []) r no_entry_of)
      only e p zero h = p
      only e p (suc r) h = absurd (let z : ◌≡◌ {A = ℕ} 0 1 = omega arith in omega arith)
