-- The bytes of an area whose keys stand are those of the groups that are read from it.
-- Assumes nothing.
use mathlib.Core.Path.{◌≡◌, refl, sym, ap, ◌∙◌, subst}
use mathlib.Core.Bool.{true}
use mathlib.Core.List.{List, [], ◌∷◌, ◌++◌, append_assoc}
use Prim.Native.Nat.{ℕ, zero, suc, ◌+◌, ◌*◌, ◌<◌, ◌≤◌}
use native.Mathlib.Nat.{add-zero}
use native.Mathlib.Omega.{arith}
use lib.Dec.{eqb}
use lib.ListN.{length, take, drop, length-append, length-drop, take-append-drop}
use lib.Seq.{drop-drop, take_at}
use Rattle.num.specs.Choice.{when◌then◌else◌, one_of}
use Rattle.num.specs.Number.{Bytes, le_at, le_bytes}
use Rattle.num.proofs.Choice.{one_of-case}
use Rattle.num.proofs.Number.{le_bytes-le_at, le_at-one}
use Rattle.sstable.specs.declared.Kind.TheVariants.{Put, Tombstone}
use Rattle.sstable.specs.Kind.{kind_number}
use Rattle.area.specs.Area.{area_key_len, area_versions, area_key, first_version_at, next_head, area_kind, area_size, area_offset, area_checksum}
use Rattle.readback.specs.Places.{area_version_at, head_at_of, AreaKeyStands, AreaStands}
use Rattle.readback.proofs.Reading.{length_key}
use Rattle.written.specs.Joined.{Field, fields_bytes}
use Rattle.written.specs.Joined.Field.{field}
use Rattle.written.specs.Internal.{fields_len, FieldsRead}
use Rattle.writer.specs.Write.{stored_at, stored_from, group_at_of, groups_from, groups_in}
use Rattle.writer.proofs.Groups.{stored_length}
use Rattle.building.specs.Taken.{area_fields, area_of_versions, area_of_group, area_of}

-- what stands at a place is a part, and the rest behind it
part_first : (s : List ℕ) (at n : ℕ) → drop at s ≡ take n (drop at s) ++ drop (at + n) s
part_first s at n = sym (take-append-drop n (drop at s)) ∙ ap (λ (l : List ℕ). take n (drop at s) ++ l) (drop-drop n at s)

-- a kind byte is the number of the kind that is read from it
kind_byte : (n : ℕ) → one_of (1 ∷ 2 ∷ []) n ≡ true → n ≡ kind_number (when eqb n 2 then Tombstone else Put)
unfolding when◌then◌else◌
kind_byte n e = one_of-case (λ (k : ℕ). k ≡ kind_number (when eqb k 2 then Tombstone else Put)) (1 ∷ 2 ∷ []) n e (refl, (refl, tt))

module _ (s : List ℕ) (bytes : Bytes s) where
  -- ---- numbers

  number_first : (w at v : ℕ) → at + w ≤ length s → le_at s at w ≡ v → drop at s ≡ le_bytes w v ++ drop (at + w) s
  number_first w at v h e =
      part_first s at w ∙ ap (λ (l : List ℕ). l ++ drop (at + w) s) (sym (le_bytes-le_at s bytes w at h) ∙ ap (le_bytes w) e)

  fields_first : (fs : List Field) (at : ℕ) → at + fields_len fs ≤ length s → FieldsRead s at fs → drop at s ≡ fields_bytes fs ++ drop (at + fields_len fs) s
  unfolding fields_bytes
  fields_first [] at h r = ap (λ (n : ℕ). drop n s) (sym (add-zero at))
  fields_first (field w v ∷ fs) at h r =
      let n : at + w + fields_len fs ≡ at + (w + fields_len fs) = omega arith in
      number_first w at v (omega arith) r.0
      ∙ ap (λ (l : List ℕ). le_bytes w v ++ l) (fields_first fs (at + w) (omega arith) r.1 ∙ ap (λ (k : ℕ). fields_bytes fs ++ drop k s) n)
      ∙ sym (append_assoc (le_bytes w v) (fields_bytes fs) (drop (at + (w + fields_len fs)) s))

  -- ---- a version

  version_first : (place : ℕ) → place + 25 ≤ length s → one_of (1 ∷ 2 ∷ []) (area_kind s place) ≡ true
      → drop place s ≡ fields_bytes (area_fields (stored_at s place)) ++ drop (place + 25) s
  unfolding area_fields stored_at area_kind area_size area_offset area_checksum
  version_first place h k =
      let p₁ : place + 8 + 1 ≡ place + 9 = omega arith in
      let p₂ : place + 8 + 1 + 4 ≡ place + 13 = omega arith in
      let p₃ : place + 8 + 1 + 4 + 8 ≡ place + 21 = omega arith in
      fields_first (area_fields (stored_at s place)) place h (
        refl,
        (
          le_at-one s (place + 8) ∙ kind_byte (area_kind s place) k,
          (ap (λ (p : ℕ). le_at s p 4) p₁, (ap (λ (p : ℕ). le_at s p 8) p₂, (ap (λ (p : ℕ). le_at s p 4) p₃, tt))),
        ),
      )

  versions_first : (count place : ℕ) → place + 25 * count ≤ length s → ((j : ℕ) → j < count → one_of (1 ∷ 2 ∷ []) (area_kind s (place + 25 * j)) ≡ true)
      → drop place s ≡ area_of_versions (stored_from count s place) ++ drop (place + 25 * count) s
  unfolding stored_from area_of_versions
  versions_first zero place h k = let e : place ≡ place + 25 * 0 = omega arith in ap (λ (n : ℕ). drop n s) e
  versions_first (suc count) place h k =
      let e : place + 25 + 25 * count ≡ place + 25 * suc count = omega arith in
      let z : place + 25 * 0 ≡ place = omega arith in
      version_first place (omega arith) (ap (λ (n : ℕ). one_of (1 ∷ 2 ∷ []) (area_kind s n)) (sym z) ∙ k 0 (omega arith))
      ∙ ap (λ (l : List ℕ). fields_bytes (area_fields (stored_at s place)) ++ l)
      (versions_first count (place + 25) (omega arith)
      (λ j l.
      let m : place + 25 + 25 * j ≡ place + 25 * suc j = omega arith in
      ap (λ (n : ℕ). one_of (1 ∷ 2 ∷ []) (area_kind s n)) m ∙ k (suc j) (omega arith))
      ∙ ap (λ (n : ℕ). area_of_versions (stored_from count s (place + 25)) ++ drop n s) e)
      ∙ sym (append_assoc (fields_bytes (area_fields (stored_at s place))) (area_of_versions (stored_from count s (place + 25))) (drop (place + 25 * suc count) s))

  -- ---- a key

  module _ (end : ℕ) (inside : end ≤ length s) where
    group-first : (head : ℕ) → AreaKeyStands s end head → drop head s ≡ area_of_group (group_at_of s head) ++ drop (next_head s head) s
    unfolding area_of_group group_at_of next_head first_version_at area_version_at area_key_len area_versions area_key
    group-first head k =
        let i : head + 8 + area_key_len s head + 25 * area_versions s head ≤ end = k.inside in
        let first = head + 8 + area_key_len s head in
        let p : head + 4 + 4 ≡ head + 8 = omega arith in
        let versions = area_of_versions (stored_from (area_versions s head) s first) in
        let rest = drop (first + 25 * area_versions s head) s in
        number_first 4 head (length (area_key s head)) (omega arith) (sym (length_key s head (omega arith)))
        ∙ ap (λ (l : List ℕ). le_bytes 4 (length (area_key s head)) ++ l)
        (number_first 4 (head + 4) (length (stored_from (area_versions s head) s first)) (omega arith) (sym (stored_length (area_versions s head) s first))
        ∙ ap (λ (l : List ℕ). le_bytes 4 (length (stored_from (area_versions s head) s first)) ++ l)
        (ap (λ (n : ℕ). drop n s) p
        ∙ part_first s (head + 8) (area_key_len s head)
        ∙ ap (λ (l : List ℕ). area_key s head ++ l) (versions_first (area_versions s head) first (omega arith) k.kinds)
        ∙ sym (append_assoc (area_key s head) versions rest))
        ∙ sym (append_assoc (le_bytes 4 (length (stored_from (area_versions s head) s first))) (area_key s head ++ versions) rest))
        ∙ sym (append_assoc (le_bytes 4 (length (area_key s head))) (le_bytes 4 (length (stored_from (area_versions s head) s first)) ++ (area_key s head ++ versions)) rest)

    -- ---- all keys

    groups-first : (count k : ℕ) → ((i : ℕ) → i < count → AreaKeyStands s end (head_at_of s (k + i)))
        → drop (head_at_of s k) s ≡ area_of (groups_from count s (head_at_of s k)) ++ drop (head_at_of s (k + count)) s
    unfolding groups_from area_of head_at_of
    groups-first zero k each = let e : k ≡ k + 0 = omega arith in ap (λ (n : ℕ). drop (head_at_of s n) s) e
    groups-first (suc count) k each =
        let z : k + 0 ≡ k = omega arith in
        let e : suc k + count ≡ k + suc count = omega arith in
        let g = group_at_of s (head_at_of s k) in
        group-first (head_at_of s k) (subst (λ (n : ℕ). AreaKeyStands s end (head_at_of s n)) z (each 0 (omega arith)))
        ∙ ap (λ (l : List ℕ). area_of_group g ++ l)
        (groups-first count (suc k)
        (λ i h.
        let m : k + suc i ≡ suc k + i = omega arith in
        subst (λ (n : ℕ). AreaKeyStands s end (head_at_of s n)) m (each (suc i) (omega arith)))
        ∙ ap (λ (n : ℕ). area_of (groups_from count s (head_at_of s (suc k))) ++ drop (head_at_of s n) s) e)
        ∙ sym (append_assoc (area_of_group g) (area_of (groups_from count s (head_at_of s (suc k)))) (drop (head_at_of s (k + suc count)) s))

    -- the used bytes are those of the groups
    pub held : (n : ℕ) → AreaStands s end n → take end s ≡ area_of (groups_in s n)
    unfolding groups_in head_at_of
    held n stands =
        let z : 0 + n ≡ n = omega arith in
        let whole : s ≡ area_of (groups_in s n) ++ drop end s
        = groups-first n 0 (λ i h. let m : i ≡ 0 + i = omega arith in subst (λ (k : ℕ). AreaKeyStands s end (head_at_of s k)) m (stands.each i h))
        ∙ ap (λ (k : ℕ). area_of (groups_in s n) ++ drop k s) (ap (head_at_of s) z ∙ stands.to_the_end) in
        let len : length (area_of (groups_in s n)) ≡ end = omega (arith, ap length whole, length-append (area_of (groups_in s n)) (drop end s), length-drop end s) in
        ap (take end) whole ∙ take_at (area_of (groups_in s n)) (drop end s) end len
