-- The encoding of a builder's totals fits every number of its groups, and the size is the length written.
-- Assumes nothing.
use mathlib.Core.Path.{◌≡◌, refl, sym, ap, ap₂, ◌∙◌}
use mathlib.Core.List.{List}
use Prim.Native.Nat.{ℕ, zero, suc, ◌+◌, ◌*◌, ◌<◌, ◌≤◌}
use native.Mathlib.Nat.{suc-mul, add-mul}
use native.Mathlib.Omega.{arith}
use lib.Dec.{ltb}
use lib.ListN.{length}
use borrow.Author.Tests.{lt-ltb}
use Rattle.num.specs.Choice.{when◌then◌else◌}
use Rattle.num.proofs.Choice.{if_true}
use Rattle.num.proofs.Steps.{steps_le}
use Rattle.sstable.specs.Limits.{limit_defs}
use Rattle.encoding.specs.declared.Totals.{Totals}
use Rattle.encoding.specs.declared.Encoding.{Encoding}
use Rattle.encoding.specs.Encoding.{key_header_len_of, version_len_of, arena_len_of, encoding_of, scan_header_len, arena_start_of, scan_len_of, section_len_of}
use Rattle.encoding.proofs.Widths.{encoding_of-widths, key_fits, count_fits, seq_fits, offset_fits, value_below_tombstone}
use Rattle.encoding.proofs.Lengths.{address_fits}
use Rattle.written.specs.Arena.{KeyGroup, group_key, group_versions, group_version, group_address, GroupsFit, suffixes_before}
use Rattle.written.specs.Section.{section_bytes}
use Rattle.written.specs.Internal.{scan_len_for, versions_before, Measured}
use Rattle.written.proofs.Section.{section_length}

-- the writer's address of key n by counts
address_counts : (e : Encoding) (gs : List KeyGroup) (n : ℕ) → group_address e gs n ≡ n * key_header_len_of e + suffixes_before gs n + versions_before gs n * version_len_of e
unfolding group_address suffixes_before versions_before
address_counts e gs zero = omega arith
address_counts e gs (suc n) =
    omega (arith, address_counts e gs n, suc-mul n (key_header_len_of e), add-mul (versions_before gs n) (length (group_versions gs n)) (version_len_of e))

module _ (t : Totals) (gs : List KeyGroup) (m : Measured t gs) where
  -- the arena's length is the one that its totals say
  arena_total : (e : Encoding) → group_address e gs (length gs) ≡ arena_len_of e t
  unfolding arena_len_of
  arena_total e =
      address_counts e gs (length gs)
      ∙ ap₂ (λ (a b : ℕ). a * key_header_len_of e + b + versions_before gs (length gs) * version_len_of e) (sym m.keys) (sym m.suffixes)
      ∙ ap (λ (c : ℕ). t.keys * key_header_len_of e + t.suffix_bytes + c * version_len_of e) (sym m.versions)

  -- a key header at a key's address ends in the arena
  header_below : (e : Encoding) (i : ℕ) → i < length gs → group_address e gs i + key_header_len_of e ≤ arena_len_of e t
  unfolding group_address
  header_below e i h =
      let n = steps_le (group_address e gs) (λ k. omega arith) (suc i) (length gs) h in
      let l = arena_total e in
      omega arith

  -- so all numbers fit the encoding of the totals
  pub totals_fit : GroupsFit (encoding_of t) t.min_seq gs
  unfolding limit_defs
  totals_fit =
      record {
        widths = encoding_of-widths t m.bounded;
        addresses = λ i h. address_fits t (group_address (encoding_of t) gs i + key_header_len_of (encoding_of t)) m.bounded (header_below (encoding_of t) i h);
        keys = λ i h. key_fits t (length (group_key gs i)) m.bounded (m.key_len i h);
        counts = λ i h. count_fits t (length (group_versions gs i)) m.bounded (m.most i h);
        some_version = m.some_version;
        versions = λ i j h l.
            record {
              least_first = m.least i j h l;
              whole_seq = let g = m.greatest i j h l in let f = m.greatest_fits in omega arith;
              seq = seq_fits t (group_version gs i j).seq m.greatest_fits (m.greatest i j h l);
              size = value_below_tombstone t (group_version gs i j).size (m.size i j h l) (m.size_limit i j h l);
              offset = offset_fits t (group_version gs i j).offset m.last_fits (m.offset i j h l);
              checksum = λ _. m.checksum i j h l;
            };
      }

  scan_total : (e : Encoding) (prefix : ℕ) → scan_len_for e gs prefix ≡ scan_len_of e t prefix
  unfolding scan_len_for scan_len_of when◌then◌else◌
  scan_total e zero = refl
  scan_total e (suc p) =
      ap (λ (n : ℕ). scan_header_len + n * e.address + 8) (sym m.keys)
      ∙ sym (if_true (ltb 0 (suc p)) (scan_header_len + t.keys * e.address + 8) 0 (lt-ltb 0 (suc p) (omega arith)))

  -- the size that the totals say is the length of what is written
  pub section_size : (e : Encoding) (seed least : ℕ) (pilot owner : ℕ → ℕ) (prefix : ℕ) → length (section_bytes e seed least gs pilot owner prefix) ≡ section_len_of e t prefix
  unfolding section_len_of
  section_size e seed least pilot owner prefix =
      let start : arena_start_of (length gs) e.address ≡ arena_start_of t.keys e.address = ap (λ (n : ℕ). arena_start_of n e.address) (sym m.keys) in
      omega (arith, section_length e seed least gs pilot owner prefix, arena_total e, scan_total e prefix, start)
