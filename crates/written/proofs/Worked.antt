-- The worked store of document 01, written from its two key groups: the very bytes of both its sections. It meets every hypothesis of
-- the promise, which so is not empty.
-- Assumes nothing.
use mathlib.Core.Path.{◌≡◌, refl}
use mathlib.Core.List.{List, [], ◌∷◌}
use mathlib.Core.Bool.{true}
use Prim.Native.Nat.{ℕ, zero, suc, ◌*◌, ◌-◌, ◌<◌, ◌≤◌, ◌^◌}
use native.Mathlib.Omega.{arith}
use lib.Dec.{lit<}
use lib.ListN.{length}
use Rattle.num.specs.Choice.{choice_defs}
use Rattle.num.specs.Number.{le_at, le_bytes}
use Rattle.num.specs.Order.{common_prefix_len, less_than, equal_bytes}
use Rattle.num.proofs.Xor.{bit_ind}
use Rattle.crc32.specs.V42.{crc_of, crc_defs}
use Rattle.sstable.specs.declared.Kind.TheVariants.{Put, Tombstone}
use Rattle.sstable.specs.Kind.{kind_of}
use Rattle.sstable.specs.Limits.{limit_defs}
use Rattle.block.specs.Verify.{verify_defs}
use Rattle.block.specs.EntryHeader.{entry_header_defs}
use Rattle.block.specs.Record.{record_at_defs}
use Rattle.block.specs.Walk.{block_walk_defs}
use Rattle.point.specs.Hash.{hash_defs}
use Rattle.encoding.specs.declared.Totals.{Totals}
use Rattle.encoding.specs.declared.Encoding.{Encoding}
use Rattle.encoding.specs.Encoding.{encoding_defs, buckets_of}
use Rattle.validate.specs.Walk.{value_of}
use Rattle.admission.specs.Admits.{OpensExactly}
use Rattle.admission.specs.Blocks.{Covers, store_entries, block_defs}
use Rattle.admission.proofs.Opening.{open_exactly}
use Rattle.worked.specs.Worked.{worked_defs, ab, ac, worked_data, worked_list, worked_section, worked_scan_section, worked_opened}
use Rattle.worked.proofs.Openings.{opened}
use Rattle.written.specs.Joined.{joined_defs}
use Rattle.written.specs.Arena.{KeyGroup, group_key, group_versions, group_version, group_suffix, GroupsFit, arena_written_defs, suffixes_before}
use Rattle.written.specs.Section.{section_bytes, written_record, section_defs}
use Rattle.written.specs.Opens.{GroupsInOrder, group_slot, SlotsOwned, Writable, Packable, group_entry, entries_of_groups, BesideGroups, OpensAs, PacksAs, WrittenOpens, opens_defs}
use Rattle.written.specs.Internal.{versions_before, Measured}
use Rattle.written.proofs.Totals.{totals_fit}
use Rattle.written.proofs.Opens.{written_opens}

-- `ab` with 7 Put `xyz` and 3 Tombstone; `ac` with 5 Put, empty
abbrev pub worked_groups : List KeyGroup
worked_groups =
    record {
      key = ab;
      versions =
          record { seq = 7; kind = Put; size = 3; offset = 23; checksum = 0xeb8eba67 }
          ∷ record { seq = 3; kind = Tombstone; size = 0; offset = 47; checksum = 0 } ∷ [];
    }
    ∷ record { key = ac; versions = record { seq = 5; kind = Put; size = 0; offset = 69; checksum = 0 } ∷ [] }
    ∷ []

abbrev pub worked_encoding : Encoding
worked_encoding = record { address = 4; key = 1; count = 1; seq = 1; value = 2; checksum = true }

-- its one pilot is 0, and each of its slots has the other's key
abbrev pub worked_written : ℕ → List ℕ
worked_written prefix = section_bytes worked_encoding 0xe220a8397b1dcdaf 3 worked_groups (λ b. 0) (λ m. 1 - m) prefix

-- ---- the bytes

pub worked_plain : worked_written 0 ≡ worked_section
unfolding worked_defs section_defs arena_written_defs joined_defs le_bytes common_prefix_len equal_bytes choice_defs crc_defs hash_defs encoding_defs le_at
worked_plain = refl

pub worked_scan_lem : worked_written 1 ≡ worked_scan_section
unfolding worked_defs section_defs arena_written_defs joined_defs le_bytes common_prefix_len equal_bytes choice_defs crc_defs hash_defs encoding_defs le_at
worked_scan_lem = refl

-- of `ab`, `ac` and `acd` the third shares one byte with its anchor, `ab`, and is written without it alone
pub worked_shared : group_suffix (record { key = ab; versions = [] } ∷ record { key = ac; versions = [] } ∷ record { key = 97 ∷ 99 ∷ 100 ∷ []; versions = [] } ∷ []) 2 ≡ 99 ∷ 100 ∷ []
unfolding worked_defs arena_written_defs common_prefix_len choice_defs
worked_shared = refl

-- ---- the hypotheses

one_below : (P : ℕ → Type 0) → P 0 → (x : ℕ) → x < 1 → P x
one_below P p zero h = p
one_below P p (suc x) h = absurd (let z : ◌≡◌ {A = ℕ} 0 1 = omega arith in omega arith)

-- what holds of the three versions
each_version : (P : ℕ → ℕ → Type 0) → P 0 0 → P 0 1 → P 1 0 → (i j : ℕ) → i < 2 → j < length (group_versions worked_groups i) → P i j
unfolding worked_defs arena_written_defs
each_version P a b c i j h = bit_ind (λ i. j < length (group_versions worked_groups i) → P i j) (bit_ind (P 0) a b j) (one_below (P 1) c j) i h

abbrev pub worked_totals : Totals
worked_totals =
    record {
      keys = 2;
      versions = 3;
      suffix_bytes = 3;
      min_seq = 3;
      max_seq = 7;
      max_key_len = 2;
      max_value_len = 3;
      max_versions = 2;
      last_value_offset = 69;
    }

pub worked_measured : Measured worked_totals worked_groups
unfolding worked_defs arena_written_defs versions_before suffixes_before limit_defs common_prefix_len choice_defs
worked_measured =
    record {
      bounded = record {
        keys = omega arith;
        versions = omega arith;
        suffix_bytes = omega arith;
        max_key_len = omega arith;
        max_value_len = omega arith;
        max_versions = omega arith;
        seqs = omega arith;
      };
      keys = refl;
      versions = refl;
      suffixes = refl;
      greatest_fits = lit< tt;
      last_fits = lit< tt;
      key_len = bit_ind (λ i. length (group_key worked_groups i) ≤ 2) (omega arith) (omega arith);
      most = bit_ind (λ i. length (group_versions worked_groups i) ≤ 2) (omega arith) (omega arith);
      some_version = bit_ind (λ i. 0 < length (group_versions worked_groups i)) (omega arith) (omega arith);
      least = each_version (λ i j. 3 ≤ (group_version worked_groups i j).seq) (omega arith) (omega arith) (omega arith);
      greatest = each_version (λ i j. (group_version worked_groups i j).seq ≤ 7) (omega arith) (omega arith) (omega arith);
      size = each_version (λ i j. (group_version worked_groups i j).size ≤ 3) (omega arith) (omega arith) (omega arith);
      size_limit = each_version (λ i j. (group_version worked_groups i j).size ≤ 16777216) (omega arith) (omega arith) (omega arith);
      offset = each_version (λ i j. (group_version worked_groups i j).offset ≤ 69) (omega arith) (omega arith) (omega arith);
      checksum = each_version (λ i j. (group_version worked_groups i j).checksum < 2 ^ 32) (lit< tt) (lit< tt) (lit< tt);
    }

-- the encoding is that of the totals
worked_fits : GroupsFit worked_encoding 3 worked_groups
unfolding encoding_defs
worked_fits = totals_fit worked_totals worked_groups worked_measured

worked_order : GroupsInOrder worked_groups
unfolding worked_defs arena_written_defs limit_defs less_than choice_defs
worked_order =
    record {
      rising = λ i h. one_below (λ i. less_than (group_key worked_groups i) (group_key worked_groups (suc i)) ≡ true) refl i (omega arith);
      falling = λ i j h. bit_ind (λ i. suc j < length (group_versions worked_groups i) → (group_version worked_groups i (suc j)).seq < (group_version worked_groups i j).seq)
          (λ l. one_below (λ j. (group_version worked_groups 0 (suc j)).seq < (group_version worked_groups 0 j).seq) (lit< tt) j (omega arith))
          (λ l. absurd (let z : ◌≡◌ {A = ℕ} 0 1 = omega arith in omega arith)) i h;
      key_limit = bit_ind (λ i. length (group_key worked_groups i) ≤ 1048576) (omega arith) (omega arith);
      value_limit = each_version (λ i j. (group_version worked_groups i j).size ≤ 16777216) (omega arith) (omega arith) (omega arith);
    }

worked_slots : SlotsOwned 0xe220a8397b1dcdaf 1 worked_groups (λ b. 0) (λ m. 1 - m)
unfolding worked_defs arena_written_defs section_defs opens_defs hash_defs choice_defs le_at
worked_slots =
    record {
      narrow = λ b h. lit< tt;
      direct = λ b h d. lit< tt;
      owned = bit_ind (λ i. 1 - group_slot 0xe220a8397b1dcdaf 1 worked_groups (λ b. 0) i ≡ i) refl refl;
    }

pub worked_writable : (prefix : ℕ) → prefix ≤ 24 → Writable worked_encoding 0xe220a8397b1dcdaf 3 worked_groups (λ b. 0) (λ m. 1 - m) prefix
unfolding buckets_of
worked_writable prefix h =
    record {
      fits = worked_fits;
      ordered = worked_order;
      slots = worked_slots;
      seed_fits = lit< tt;
      some = omega arith;
      few = lit< tt;
      prefix_short = h;
    }

pub worked_packable : Packable worked_encoding worked_groups (λ b. 0)
unfolding hash_defs
worked_packable = record { checksums = refl; few = lit< tt; pilots = λ b h. lit< tt }

worked_covers : Covers worked_data worked_list
unfolding OpensExactly
worked_covers = ((open_exactly worked_section worked_data worked_list 4 worked_opened).0 opened.0).covers

worked_just : store_entries worked_data worked_list ≡ entries_of_groups worked_groups
unfolding worked_defs arena_written_defs joined_defs opens_defs block_defs block_walk_defs record_at_defs entry_header_defs verify_defs choice_defs le_at kind_of
worked_just = refl

pub worked_beside : BesideGroups worked_data worked_list 4 worked_groups
unfolding worked_defs arena_written_defs opens_defs choice_defs crc_defs value_of
worked_beside =
    record {
      covers = worked_covers;
      just = worked_just;
      checksums = each_version
          (λ i j. (group_version worked_groups i j).checksum ≡ crc_of (value_of worked_data (group_entry (group_key worked_groups i) (group_version worked_groups i j)))) refl refl refl;
      scratch_half = bit_ind (λ i. 2 * length (group_key worked_groups i) ≤ 4) (omega arith) (omega arith);
    }

-- ---- so it opens and packs by the promise, with every scan prefix

pub worked_opens : (prefix : ℕ) → prefix ≤ 24
    → OpensAs (worked_written prefix) worked_data worked_list 4 (written_record worked_encoding 0xe220a8397b1dcdaf 3 worked_groups (λ b. 0) (λ m. 1 - m) prefix)
    × PacksAs (worked_written prefix) worked_data worked_list 4 (written_record worked_encoding 0xe220a8397b1dcdaf 3 worked_groups (λ b. 0) (λ m. 1 - m) prefix)
unfolding WrittenOpens
worked_opens prefix h =
    let r = written_opens worked_encoding 0xe220a8397b1dcdaf 3 worked_groups (λ b. 0) (λ m. 1 - m) prefix (worked_writable prefix h) worked_data worked_list 4 worked_beside in
    (r.0, r.1 worked_packable)
