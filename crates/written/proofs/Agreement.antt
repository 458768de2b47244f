-- The records of the groups agree with the section that was written from them: questions 14 to 23.
-- Assumes nothing.
use mathlib.Core.Path.{◌≡◌, refl, sym, ap, ap₂, ◌∙◌, subst, subst⁻¹}
use mathlib.Core.List.{List}
use mathlib.Core.Bool.{Bool, not}
use Prim.Native.Nat.{ℕ, zero, suc, ◌+◌, ◌*◌, ◌<◌, ◌≤◌, ◌^◌}
use native.Mathlib.Omega.{arith}
use lib.Dec.{lit<}
use lib.ListN.{length, take}
use Rattle.num.specs.Choice.{when◌then◌else◌}
use Rattle.num.proofs.Choice.{if_case}
use Rattle.num.specs.Number.{le_at}
use Rattle.num.specs.Order.{less_than, equal_bytes}
use Rattle.crc32.specs.V42.{crc_of}
use Rattle.sstable.specs.Limits.{max_key_bytes, max_value_bytes, limit_defs}
use Rattle.block.specs.Walk.{Entry}
use Rattle.point.specs.Hash.{hash_value, fingerprint_of}
use Rattle.encoding.specs.Encoding.{key_header_len_of}
use Rattle.header.specs.declared.Opened.{Opened}
use Rattle.arena.specs.declared.KeyHeader.{KeyHeader}
use Rattle.arena.specs.Key.{slot_place}
use Rattle.validate.specs.Walk.{value_of}
use Rattle.agreement.specs.Keys.{key_records_end, key_header_size, address_of, key_header_of, version_count, suffix_place, anchor_index, key_hash, key_slot, first_version, prefix_at, prefix_new, prefix_count}
use Rattle.agreement.specs.Agrees.{entry_at, KeyStands, SameVersion, Agrees}
use Rattle.agreement.proofs.Indices.{anchor_self, anchor_le, address_next, address_le}
use Rattle.agreement.proofs.Same.{slot_is}
use Rattle.written.specs.Arena.{KeyGroup, group_key, group_versions, group_version, group_anchor, group_shared, group_suffix, group_address, group_header, arena_written, GroupsFit}
use Rattle.written.specs.Section.{group_hash, group_prefix_new, group_prefixes, scan_fields_of}
use Rattle.written.specs.Opens.{group_entry, entries_of_groups, GroupsInOrder, SlotsOwned}
use Rattle.written.specs.Internal.{Stands, FieldsRead, PartsStand}
use Rattle.written.proofs.Stands.{fields_read}
use Rattle.written.proofs.Arena.{anchor_shares_none, anchor_suffix, shared_part_lem, suffix_length, addresses, headers, keys, version_counts, first_versions}
use Rattle.written.proofs.Versions.{seqs, kinds, sizes, offsets, checksums}
use Rattle.written.proofs.Entries.{entries_length, entry_found, entries_each}
use Rattle.written.proofs.Tables.{scan_read, slot_address, slot_fingerprint}

module _ (s : List ℕ) (o : Opened) (gs : List KeyGroup) (fits : GroupsFit o.encoding o.min_seq gs)
    (at : Stands s o.arena (arena_written o.encoding o.min_seq gs)) where
  header_shared : (i : ℕ) → i < length gs → (key_header_of s o i).shared ≡ group_shared gs i
  unfolding group_header
  header_shared i h = ap (λ (k : KeyHeader). k.shared) (headers s o gs fits at i h)

  header_suffix : (i : ℕ) → i < length gs → (key_header_of s o i).suffix_len ≡ length (group_suffix gs i)
  unfolding group_header
  header_suffix i h = ap (λ (k : KeyHeader). k.suffix_len) (headers s o gs fits at i h)

  header_anchor : (i : ℕ) → i < length gs → (key_header_of s o i).anchor ≡ group_address o.encoding gs (group_anchor i) + key_header_len_of o.encoding
  unfolding group_header
  header_anchor i h = ap (λ (k : KeyHeader). k.anchor) (headers s o gs fits at i h)

  -- question 16 of key i, in an arena that ends behind the last group
  key_stands : (end i : ℕ) → end ≡ o.arena + group_address o.encoding gs (length gs) → i < length gs → length (group_key gs i) ≤ max_key_bytes → KeyStands s o end i
  unfolding suffix_place anchor_index group_anchor limit_defs key_header_len_of key_header_size
  key_stands end i e h limit =
      let a = anchor_le i in
      let last : address_of s o (length gs) ≡ group_address o.encoding gs (length gs) = addresses s o gs fits at (length gs) (omega arith) in
      let next = address_next s o i in
      let below = address_le s o (suc i) (length gs) h in
      let count = version_counts s o gs fits at i h in
      let some = fits.some_version i h in
      let shared = header_shared i h in
      let suffix = header_suffix i h in
      let whole = suffix_length gs i in
      let part = (shared_part_lem gs i).0 in
      let anchor = header_anchor i h in
      let there : address_of s o (group_anchor i) ≡ group_address o.encoding gs (group_anchor i) = addresses s o gs fits at (group_anchor i) (omega arith) in
      let long : (key_header_of s o (group_anchor i)).suffix_len ≡ length (group_key gs (group_anchor i)) = header_suffix (group_anchor i) (omega arith) ∙ ap length (anchor_suffix gs i) in
      record {
        header_inside = omega arith;
        anchor_whole = λ z. shared ∙ sym (ap (group_shared gs) (anchor_self i z)) ∙ anchor_shares_none gs i;
        anchor = omega arith;
        shared = omega arith;
        suffix_inside = omega arith;
        some_version = omega arith;
        versions_inside = omega arith;
        short = omega arith;
      }

  -- question 20 of version j of key i
  version_read_lem : (i j : ℕ) → i < length gs → j < length (group_versions gs i) → SameVersion s o i j (group_entry (group_key gs i) (group_version gs i j))
  unfolding group_entry
  version_read_lem i j h l =
      record {
        key = sym (keys s o gs fits at i h);
        seq = sym (seqs s o gs fits at i j h l);
        sum = let e = seqs s o gs fits at i j h l in let f = (fits.versions i j h l).whole_seq in omega arith;
        kind = sym (kinds s o gs fits at i j h l);
        size = sym (sizes s o gs fits at i j h l);
        place = sym (offsets s o gs fits at i j h l);
      }

  -- question 23
  prefix_new_lem : (n i : ℕ) → le_at s (o.scan + 8) 4 ≡ n → i < length gs → prefix_new s o i ≡ group_prefix_new n gs i
  unfolding prefix_new group_prefix_new prefix_at
  prefix_new_lem n zero e h = refl
  prefix_new_lem n (suc i) e h =
      ap₂ (λ (a b : List ℕ). not (equal_bytes a b))
      (ap₂ (λ (m : ℕ) (t : List ℕ). take m t) e (keys s o gs fits at (suc i) h))
      (ap₂ (λ (m : ℕ) (t : List ℕ). take m t) e (keys s o gs fits at i (omega arith)))

  prefix_count_lem : (n i : ℕ) → le_at s (o.scan + 8) 4 ≡ n → i ≤ length gs → prefix_count s o i ≡ group_prefixes n gs i
  unfolding prefix_count group_prefixes
  prefix_count_lem n zero e h = refl
  prefix_count_lem n (suc i) e h =
      ap₂ (λ (b : Bool) (m : ℕ). when b then m + 1 else m) (prefix_new_lem n i e h) (prefix_count_lem n i e (omega arith))

pub prefixes_le : (n : ℕ) (gs : List KeyGroup) (i : ℕ) → group_prefixes n gs i ≤ i
unfolding group_prefixes
prefixes_le n gs zero = omega arith
prefixes_le n gs (suc i) =
    let l = prefixes_le n gs i in
    if_case (λ (m : ℕ). m ≤ suc i) (group_prefix_new n gs i) (group_prefixes n gs i + 1) (group_prefixes n gs i) (λ _. omega arith) (λ _. omega arith)

-- a section with its parts at their places, and an arena that ends behind the last group
module _ (s «data» : List ℕ) (scratch : ℕ) (o : Opened) (gs : List KeyGroup) (pilot owner : ℕ → ℕ) (prefix : ℕ)
    (fits : GroupsFit o.encoding o.min_seq gs) (w : PartsStand s o gs pilot owner prefix)
    (made : SlotsOwned o.seed o.buckets gs pilot owner) (ordered : GroupsInOrder gs) where
  below : {k : ℕ} → k < o.count → k < length gs
  below {k} h = subst (λ (n : ℕ). k < n) w.count h

  -- a version that the reader counts is one of the group's
  version_below : (k j : ℕ) → k < length gs → j < version_count s o k → j < length (group_versions gs k)
  version_below k j h l = subst (λ (n : ℕ). j < n) (version_counts s o gs fits w.arena k h) l

  entry_at_lem : (k j : ℕ) → k < length gs → j < length (group_versions gs k)
      → entry_at (entries_of_groups gs) (first_version s o k + j) ≡ group_entry (group_key gs k) (group_version gs k j)
  entry_at_lem k j h l =
      ap (λ (n : ℕ). entry_at (entries_of_groups gs) (n + j)) (first_versions s o gs fits w.arena k (omega arith)) ∙ entry_found gs k j h l

  -- the hash and the slot of a key
  hash_read_lem : (k : ℕ) → k < length gs → key_hash s o k ≡ group_hash o.seed gs k
  unfolding key_hash group_hash
  hash_read_lem k h = ap (λ (key : List ℕ). hash_value key o.seed) (keys s o gs fits w.arena k h)

  slot_read : (k : ℕ) → k < length gs → key_slot s o k ≡ slot_place s o (group_hash o.seed gs k)
  slot_read k h = slot_is s o k ∙ ap (slot_place s o) (hash_read_lem k h)

  scan_numbers : prefix < 2 ^ 32 → length gs < 2 ^ 31 → (o.scan ≡ 0 → ⊥) → FieldsRead s (o.scan + 8) (scan_fields_of prefix gs)
  unfolding scan_fields_of
  scan_numbers short few z =
      let n = prefixes_le prefix gs (length gs) in
      fields_read (scan_fields_of prefix gs) (short, (lit< tt, (omega arith, tt))) (w.scan_fields z)

  pub written_agrees : key_records_end s o ≡ o.arena + group_address o.encoding gs (length gs) → prefix < 2 ^ 32 → length gs < 2 ^ 31
      → ((i : ℕ) → i < length gs → 2 * length (group_key gs i) ≤ scratch)
      → ((i j : ℕ) → i < length gs → j < length (group_versions gs i)
      → (group_version gs i j).checksum ≡ crc_of (value_of «data» (group_entry (group_key gs i) (group_version gs i j))))
      → Agrees s «data» scratch o (entries_of_groups gs)
  unfolding scan_fields_of group_entry limit_defs
  written_agrees ends short few half sums =
      record {
        key_limit = entries_each gs (λ e. length e.key ≤ max_key_bytes) (λ i j h _. ordered.key_limit i h);
        value_limit = entries_each gs (λ e. e.size ≤ max_value_bytes) (λ i j h l. ordered.value_limit i j h l);
        scratch_half = entries_each gs (λ e. 2 * length e.key ≤ scratch) (λ i j h _. half i h);
        keys = λ k h. key_stands s o gs fits w.arena (key_records_end s o) k ends (below h) (ordered.key_limit k (below h));
        rising = λ k h.
            let r = ordered.rising k (below h) in
            ap₂ less_than (keys s o gs fits w.arena k (let l = below h in omega arith)) (keys s o gs fits w.arena (suc k) (below h)) ∙ r;
        scanned = λ z k h. scan_read s o gs pilot owner prefix fits w made z k (below h) ∙ sym (addresses s o gs fits w.arena k (let l = below h in omega arith));
        slot_address = λ k h.
            ap (λ (p : ℕ). le_at s p o.encoding.address) (slot_read k (below h))
            ∙ slot_address s o gs pilot owner prefix fits w made k (below h)
            ∙ sym (addresses s o gs fits w.arena k (let l = below h in omega arith));
        slot_fingerprint = λ k h.
            ap (λ (p : ℕ). le_at s (p + o.encoding.address) 2) (slot_read k (below h))
            ∙ slot_fingerprint s o gs pilot owner prefix fits w made k (below h)
            ∙ ap fingerprint_of (sym (hash_read_lem k (below h)));
        versions = λ k j h l.
            let m = version_below k j (below h) l in
            subst⁻¹ (SameVersion s o k j) (entry_at_lem k j (below h) m) (version_read_lem s o gs fits w.arena k j (below h) m);
        falling = λ k j h l.
            let m = version_below k (suc j) (below h) l in
            let f = ordered.falling k j (below h) m in
            let a = seqs s o gs fits w.arena k j (below h) (omega arith) in
            let b = seqs s o gs fits w.arena k (suc j) (below h) m in
            omega arith;
        checksums = λ c k j h l.
            let m = version_below k j (below h) l in
            checksums s o gs fits w.arena k j (below h) m c ∙ sums k j (below h) m
            ∙ ap (λ (e : Entry). crc_of (value_of «data» e)) (sym (entry_at_lem k j (below h) m));
        arena_end =
            ap (λ (n : ℕ). o.arena + address_of s o n) w.count
            ∙ ap (λ (n : ℕ). o.arena + n) (addresses s o gs fits w.arena (length gs) (omega arith)) ∙ sym ends;
        records_end = ap (first_version s o) w.count ∙ first_versions s o gs fits w.arena (length gs) (omega arith) ∙ sym (entries_length gs);
        prefixes = λ z.
            let r = scan_numbers short few z in
            let p : o.scan + 16 ≡ o.scan + 8 + 4 + 4 = omega arith in
            ap (λ (n : ℕ). le_at s n 8) p ∙ r.1.1.0
            ∙ sym (ap (prefix_count s o) w.count ∙ prefix_count_lem s o gs fits w.arena prefix (length gs) r.0 (omega arith));
      }
