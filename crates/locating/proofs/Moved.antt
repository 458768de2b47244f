-- The arena in the packed bytes: its keys and versions are those of the section, only their places move with its start.
-- Assumes nothing.
use mathlib.Core.Path.{◌≡◌, refl, ap, ap₂, ◌∙◌}
use mathlib.Core.List.{List, ◌++◌}
use mathlib.Core.Bool.{true}
use Prim.Native.Nat.{ℕ, zero, suc, ◌+◌, ◌*◌, ◌-◌, ◌%◌, ◌<◌, ◌≤◌}
use native.Mathlib.Omega.{arith}
use lib.Dec.{leb}
use lib.ListN.{take, drop}
use Rattle.num.specs.Choice.{when◌then◌else◌}
use Rattle.num.specs.Number.{le_at}
use Rattle.num.proofs.Choice.{if_true}
use Rattle.sstable.specs.declared.Kind.TheVariants.{Put, Tombstone}
use Rattle.block.specs.Walk.{Entry}
use Rattle.header.specs.declared.Opened.{Opened}
use Rattle.header.specs.Header.{packed_record}
use Rattle.arena.specs.declared.KeyHeader.{KeyHeader}
use Rattle.num.proofs.Pieces.{le_at-parts}
use Rattle.agreement.specs.Keys.{key_header_size, version_size, key_header_in, key_records_end, key_record_len, address_of, key_header_of, version_count, suffix_place, anchor_index, key_at, first_version, version_place, version_seq, top_bit, marked_length, version_kind, version_length, version_offset, version_checksum}
use Rattle.agreement.specs.Agrees.{Agrees}
use Rattle.agreement.proofs.Indices.{anchor_le}
use Rattle.agreement.proofs.Laws.{shared_inside, version_inside}

-- every part of the arena of a section stands in w too, from the packed record's start on
pub record ArenaKept (s : List ℕ) (o : Opened) (w : List ℕ) : Type 0 where
  pub part : (a n : ℕ) → o.arena + a + n ≤ key_records_end s o → take n (drop ((packed_record o).arena + a) w) ≡ take n (drop (o.arena + a) s)

module _ {s : List ℕ} {o : Opened} {w : List ℕ} (kept : ArenaKept s o w) where
  -- ---- at a place x of w and a place y of the section, as far from the two starts of the arena

  -- stand the same parts
  part_same : (x y n : ℕ) → x + o.arena ≡ y + (packed_record o).arena → o.arena ≤ y → y + n ≤ key_records_end s o → take n (drop x w) ≡ take n (drop y s)
  part_same x y n e l b =
      let p : x ≡ (packed_record o).arena + (y - o.arena) = omega arith in
      let q : o.arena + (y - o.arena) ≡ y = omega arith in
      ap (λ (k : ℕ). take n (drop k w)) p ∙ kept.part (y - o.arena) n (omega arith) ∙ ap (λ (k : ℕ). take n (drop k s)) q

  -- and the same numbers
  number_same : (x y n : ℕ) → x + o.arena ≡ y + (packed_record o).arena → o.arena ≤ y → y + n ≤ key_records_end s o → le_at w x n ≡ le_at s y n
  number_same x y n e l b = le_at-parts w s x y n (part_same x y n e l b)

  -- and key headers
  header_same : (x y : ℕ) → x + o.arena ≡ y + (packed_record o).arena → o.arena ≤ y → y + key_header_size o.encoding ≤ key_records_end s o
      → key_header_in w o.encoding x ≡ key_header_in s o.encoding y
  unfolding key_header_in key_header_size
  header_same x y e l b =
      let address = o.encoding.address in
      let key = o.encoding.key in
      λ i. record {
        anchor = number_same x y address e l (omega arith) i;
        shared = number_same (x + address) (y + address) key (omega arith) (omega arith) (omega arith) i;
        suffix_len = number_same (x + address + key) (y + address + key) key (omega arith) (omega arith) (omega arith) i;
        versions = number_same (x + address + 2 * key) (y + address + 2 * key) o.encoding.count (omega arith) (omega arith) (omega arith) i;
      }

  -- and versions
  module _ (x y : ℕ) (e : x + o.arena ≡ y + (packed_record o).arena) (l : o.arena ≤ y) (b : y + version_size o.encoding ≤ key_records_end s o) where
    -- the sequence
    seq-number : le_at w x o.encoding.seq ≡ le_at s y o.encoding.seq
    unfolding version_size
    seq-number = number_same x y o.encoding.seq e l (omega arith)

    -- the value length, with its top bit
    length-number : le_at w (x + o.encoding.seq) o.encoding.value ≡ le_at s (y + o.encoding.seq) o.encoding.value
    unfolding version_size
    length-number = number_same (x + o.encoding.seq) (y + o.encoding.seq) o.encoding.value (omega arith) (omega arith) (omega arith)

    -- the value offset
    offset-number : le_at w (x + o.encoding.seq + o.encoding.value) o.encoding.address ≡ le_at s (y + o.encoding.seq + o.encoding.value) o.encoding.address
    unfolding version_size
    offset-number =
        number_same (x + o.encoding.seq + o.encoding.value) (y + o.encoding.seq + o.encoding.value) o.encoding.address
        (omega arith) (omega arith) (omega arith)

    -- the checksum, in an encoding with checksums
    checksum-number : o.encoding.checksum ≡ true
        → le_at w (x + o.encoding.seq + o.encoding.value + o.encoding.address) 4 ≡ le_at s (y + o.encoding.seq + o.encoding.value + o.encoding.address) 4
    unfolding version_size
    checksum-number c =
        let f = if_true {A = ℕ} o.encoding.checksum 4 0 c in
        number_same (x + o.encoding.seq + o.encoding.value + o.encoding.address) (y + o.encoding.seq + o.encoding.value + o.encoding.address) 4
        (omega arith) (omega arith) (omega arith)

  -- ---- by index: w has what the section has

  module _ {«data» : List ℕ} {scratch : ℕ} {es : List Entry} (a : Agrees s «data» scratch o es) where
    -- the key header at an address
    record_same : (k : ℕ) → k < o.count
        → key_header_in w o.encoding ((packed_record o).arena + address_of s o k) ≡ key_header_in s o.encoding (o.arena + address_of s o k)
    record_same k l =
        header_same ((packed_record o).arena + address_of s o k) (o.arena + address_of s o k) (omega arith) (omega arith) (a.keys k l).header_inside

    -- the addresses, up to that behind the last key
    pub address_same : (k : ℕ) → k ≤ o.count → address_of w (packed_record o) k ≡ address_of s o k
    unfolding address_of packed_record
    address_same zero l = refl
    address_same (suc k) l =
        ap (λ (n : ℕ). n + key_record_len o.encoding (key_header_in w o.encoding ((packed_record o).arena + n))) (address_same k (omega arith))
        ∙ ap (λ (h : KeyHeader). address_of s o k + key_record_len o.encoding h) (record_same k l)

    -- the key headers
    pub key_header_same : (k : ℕ) → k < o.count → key_header_of w (packed_record o) k ≡ key_header_of s o k
    unfolding key_header_of packed_record
    key_header_same k l =
        ap (λ (n : ℕ). key_header_in w o.encoding ((packed_record o).arena + n)) (address_same k (omega arith))
        ∙ record_same k l

    -- the numbers of versions
    pub versions_same : (k : ℕ) → k < o.count → version_count w (packed_record o) k ≡ version_count s o k
    unfolding version_count
    versions_same k l = ap (λ (h : KeyHeader). h.versions) (key_header_same k l)

    -- the versions before a key
    pub first_same : (k : ℕ) → k ≤ o.count → first_version w (packed_record o) k ≡ first_version s o k
    unfolding first_version
    first_same zero l = refl
    first_same (suc k) l = ap₂ (λ (x y : ℕ). x + y) (first_same k (omega arith)) (versions_same k l)

    -- suffixes are as far from the arena's start
    pub suffix_moved : (k : ℕ) → k < o.count → suffix_place w (packed_record o) k + o.arena ≡ suffix_place s o k + (packed_record o).arena
    unfolding suffix_place packed_record
    suffix_moved k l = omega (arith, address_same k (omega arith))

    -- and so are versions
    pub version_moved : (k j : ℕ) → k < o.count → version_place w (packed_record o) k j + o.arena ≡ version_place s o k j + (packed_record o).arena
    unfolding version_place packed_record
    version_moved k j l =
        let p = suffix_moved k l in
        let q = ap (λ (h : KeyHeader). h.suffix_len) (key_header_same k l) in
        omega arith

    -- a suffix lies behind the arena's start
    suffix-behind : (k : ℕ) → o.arena ≤ suffix_place s o k
    unfolding suffix_place
    suffix-behind k = omega arith

    -- and so does a version
    version_behind : (k j : ℕ) → o.arena ≤ version_place s o k j
    unfolding version_place
    version_behind k j = let p = suffix-behind k in omega arith

    -- the keys
    pub key_same : (k : ℕ) → k < o.count → key_at w (packed_record o) k ≡ key_at s o k
    unfolding key_at
    key_same k l =
        let m = anchor_le k in
        let n : anchor_index k < o.count = omega arith in
        let e = key_header_same k l in
        ap (λ (h : KeyHeader). take h.shared (drop (suffix_place w (packed_record o) (anchor_index k)) w) ++ take h.suffix_len (drop (suffix_place w (packed_record o) k) w)) e
        ∙ ap₂ (λ (u v : List ℕ). u ++ v)
        (part_same _ _ (key_header_of s o k).shared (suffix_moved (anchor_index k) n) (suffix-behind (anchor_index k)) (shared_inside a k l))
        (part_same _ _ (key_header_of s o k).suffix_len (suffix_moved k l) (suffix-behind k) (a.keys k l).suffix_inside)

    -- what is stored of a version
    module _ (k j : ℕ) (l : k < o.count) (b : j < version_count s o k) where
      pub seq_same : version_seq w (packed_record o) k j ≡ version_seq s o k j
      unfolding version_seq packed_record
      seq_same = ap (λ (n : ℕ). o.min_seq + n) (seq-number _ _ (version_moved k j l) (version_behind k j) (version_inside a k j l b))

      marked-same : marked_length w (packed_record o) k j ≡ marked_length s o k j
      unfolding marked_length packed_record
      marked-same = length-number _ _ (version_moved k j l) (version_behind k j) (version_inside a k j l b)

      pub kind_same : version_kind w (packed_record o) k j ≡ version_kind s o k j
      unfolding version_kind top_bit packed_record
      kind_same = ap (λ (n : ℕ). when leb (top_bit o) n then Tombstone else Put) marked-same

      pub length_same : version_length w (packed_record o) k j ≡ version_length s o k j
      unfolding version_length top_bit packed_record
      length_same = ap (λ (n : ℕ). n % top_bit o) marked-same

      pub offset_same : version_offset w (packed_record o) k j ≡ version_offset s o k j
      unfolding version_offset packed_record
      offset_same = offset-number _ _ (version_moved k j l) (version_behind k j) (version_inside a k j l b)

      pub checksum_same : o.encoding.checksum ≡ true → version_checksum w (packed_record o) k j ≡ version_checksum s o k j
      unfolding version_checksum packed_record
      checksum_same = checksum-number _ _ (version_moved k j l) (version_behind k j) (version_inside a k j l b)
