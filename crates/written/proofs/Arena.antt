-- Where an arena stands as it was written, the definitions that read it by index give back the groups.
-- Assumes nothing.
use mathlib.Core.Path.{◌≡◌, refl, ap, ap₂, ◌∙◌, subst}
use mathlib.Core.List.{List, ◌++◌}
use Prim.Native.Nat.{ℕ, zero, suc, ◌+◌, ◌%◌, ◌<◌, ◌≤◌}
use native.Mathlib.Omega.{arith}
use lib.Dec.{eqb}
use lib.ListN.{length, take, drop, length-drop, take-append-drop}
use borrow.Author.Tests.{eq-eqb}
use Rattle.num.specs.Order.{common_prefix_len}
use Rattle.num.proofs.Choice.{if_case, if_true}
use Rattle.num.proofs.Order.{common_prefix_len-left, common_prefix_len-right, common_prefix_len-take}
use Rattle.encoding.specs.Encoding.{group, key_header_len_of, version_len_of}
use Rattle.header.specs.declared.Opened.{Opened}
use Rattle.arena.specs.declared.KeyHeader.{KeyHeader}
use Rattle.agreement.specs.Keys.{key_header_size, version_size, key_header_in, key_record_len, address_of, key_header_of, version_count, suffix_place, anchor_index, key_at, first_version}
use Rattle.written.specs.Joined.{fields_bytes}
use Rattle.written.specs.Arena.{KeyGroup, group_key, group_versions, group_anchor, group_shared, group_suffix, group_address, group_header, key_header_fields, stored_bytes, group_bytes, arena_written, GroupsFit}
use Rattle.written.specs.Internal.{Stands, FieldsFit, versions_before}
use Rattle.written.proofs.Stands.{stands_left, stands_right, stands_part, stands_take, stands_at}
use Rattle.written.proofs.Groups.{key_header_length, group_stands, key_header_read}

-- ---- anchors

-- an anchor comes no later than its keys
group_anchor_le : (i : ℕ) → group_anchor i ≤ i
unfolding group_anchor
group_anchor_le i = omega arith

-- an anchor shares nothing
pub anchor_shares_none : (gs : List KeyGroup) (i : ℕ) → group_shared gs (group_anchor i) ≡ 0
unfolding group_shared group_anchor
anchor_shares_none gs i =
    let r : group_anchor i % group ≡ 0 = omega arith in
    if_true (eqb (group_anchor i % group) 0) 0 (common_prefix_len (group_key gs (group_anchor (group_anchor i))) (group_key gs (group_anchor i))) (eq-eqb (group_anchor i % group) 0 r)

-- so its suffix is its key
pub anchor_suffix : (gs : List KeyGroup) (i : ℕ) → group_suffix gs (group_anchor i) ≡ group_key gs (group_anchor i)
unfolding group_suffix
anchor_suffix gs i = ap (λ (n : ℕ). drop n (group_key gs (group_anchor i))) (anchor_shares_none gs i)

-- what a key shares is a part of its anchor, and its own beginning
pub shared_part_lem : (gs : List KeyGroup) (i : ℕ)
    → (group_shared gs i ≤ length (group_key gs (group_anchor i))) × (take (group_shared gs i) (group_key gs (group_anchor i)) ≡ take (group_shared gs i) (group_key gs i))
unfolding group_shared
shared_part_lem gs i =
    if_case (λ (n : ℕ). (n ≤ length (group_key gs (group_anchor i))) × (take n (group_key gs (group_anchor i)) ≡ take n (group_key gs i)))
    (eqb (i % group) 0) 0 (common_prefix_len (group_key gs (group_anchor i)) (group_key gs i))
    (λ _. (omega arith, refl))
    (λ _. (common_prefix_len-left (group_key gs (group_anchor i)) (group_key gs i), common_prefix_len-take (group_key gs (group_anchor i)) (group_key gs i)))

-- and no longer than itself
shared_le : (gs : List KeyGroup) (i : ℕ) → group_shared gs i ≤ length (group_key gs i)
unfolding group_shared
shared_le gs i =
    if_case (λ (n : ℕ). n ≤ length (group_key gs i)) (eqb (i % group) 0) 0 (common_prefix_len (group_key gs (group_anchor i)) (group_key gs i))
    (λ _. omega arith) (λ _. common_prefix_len-right (group_key gs (group_anchor i)) (group_key gs i))

pub suffix_length : (gs : List KeyGroup) (i : ℕ) → group_shared gs i + length (group_suffix gs i) ≡ length (group_key gs i)
unfolding group_suffix
suffix_length gs i = let l = shared_le gs i in let d = length-drop (group_shared gs i) (group_key gs i) in omega arith

module _ (s : List ℕ) (o : Opened) (gs : List KeyGroup) (fits : GroupsFit o.encoding o.min_seq gs)
    (at : Stands s o.arena (arena_written o.encoding o.min_seq gs)) where
  -- ---- addresses

  group_at : (i : ℕ) → i < length gs → Stands s (o.arena + group_address o.encoding gs i) (group_bytes o.encoding o.min_seq gs i)
  group_at i h = group_stands o.encoding o.min_seq gs i h at

  header_fits : (i : ℕ) → i < length gs → FieldsFit (key_header_fields o.encoding (group_header o.encoding gs i))
  unfolding key_header_fields group_header
  header_fits i h =
      let a = group_anchor_le i in
      let n = suffix_length gs i in
      let k = fits.keys i h in
      (fits.addresses (group_anchor i) (omega arith), (omega arith, (omega arith, (fits.counts i h, tt))))

  header_at : (i : ℕ) → i < length gs → key_header_in s o.encoding (o.arena + group_address o.encoding gs i) ≡ group_header o.encoding gs i
  unfolding group_bytes
  header_at i h =
      key_header_read o.encoding (group_header o.encoding gs i) (header_fits i h)
      (stands_left (fields_bytes (key_header_fields o.encoding (group_header o.encoding gs i))) (group_suffix gs i ++ stored_bytes o.encoding o.min_seq (group_versions gs i)) (group_at i h))

  -- the reader's address of a key is the one that the writer counted
  pub addresses : (i : ℕ) → i ≤ length gs → address_of s o i ≡ group_address o.encoding gs i
  unfolding address_of group_address key_record_len group_header key_header_len_of key_header_size version_len_of version_size
  addresses zero h = refl
  addresses (suc i) h =
      ap (λ (a : ℕ). a + key_record_len o.encoding (key_header_in s o.encoding (o.arena + a))) (addresses i (omega arith))
      ∙ ap (λ (k : KeyHeader). group_address o.encoding gs i + key_record_len o.encoding k) (header_at i h)

  -- ---- key headers and keys

  pub headers : (i : ℕ) → i < length gs → key_header_of s o i ≡ group_header o.encoding gs i
  unfolding key_header_of
  headers i h = ap (λ (a : ℕ). key_header_in s o.encoding (o.arena + a)) (addresses i (omega arith)) ∙ header_at i h

  -- suffix and versions stand behind the key header
  pub behind_header : (i : ℕ) → i < length gs → Stands s (suffix_place s o i) (group_suffix gs i ++ stored_bytes o.encoding o.min_seq (group_versions gs i))
  unfolding suffix_place group_bytes key_header_len_of key_header_size
  behind_header i h =
      let p = addresses i (omega arith) in
      stands_at (omega arith)
      (stands_right (fields_bytes (key_header_fields o.encoding (group_header o.encoding gs i))) (group_suffix gs i ++ stored_bytes o.encoding o.min_seq (group_versions gs i))
      (key_header_len_of o.encoding) (key_header_length o.encoding (group_header o.encoding gs i)) (group_at i h))

  suffix_at : (i : ℕ) → i < length gs → Stands s (suffix_place s o i) (group_suffix gs i)
  suffix_at i h = stands_left (group_suffix gs i) (stored_bytes o.encoding o.min_seq (group_versions gs i)) (behind_header i h)

  pub keys : (i : ℕ) → i < length gs → key_at s o i ≡ group_key gs i
  unfolding key_at anchor_index group_anchor group_header group_suffix
  keys i h =
      let le = group_anchor_le i in
      let whole : Stands s (suffix_place s o (group_anchor i)) (group_key gs (group_anchor i))
      = subst (λ (t : List ℕ). Stands s (suffix_place s o (group_anchor i)) t) (anchor_suffix gs i) (suffix_at (group_anchor i) (omega arith)) in
      let part = shared_part_lem gs i in
      ap (λ (k : KeyHeader). take k.shared (drop (suffix_place s o (group_anchor i)) s) ++ take k.suffix_len (drop (suffix_place s o i) s)) (headers i h)
      ∙ ap₂ (λ (a b : List ℕ). a ++ b) (stands_take (group_key gs (group_anchor i)) (group_shared gs i) part.0 whole ∙ part.1) (stands_part (group_suffix gs i) (suffix_at i h))
      ∙ take-append-drop (group_shared gs i) (group_key gs i)

  -- ---- the number of versions of a key, and of those before it

  pub version_counts : (i : ℕ) → i < length gs → version_count s o i ≡ length (group_versions gs i)
  unfolding version_count group_header
  version_counts i h = ap (λ (k : KeyHeader). k.versions) (headers i h)

  pub first_versions : (i : ℕ) → i ≤ length gs → first_version s o i ≡ versions_before gs i
  unfolding first_version versions_before
  first_versions zero h = refl
  first_versions (suc i) h = ap₂ ◌+◌ (first_versions i (omega arith)) (version_counts i h)
