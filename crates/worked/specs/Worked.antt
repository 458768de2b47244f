-- The worked store of document 01 ("One store, worked through"): its data and block list, its records, its section with scan prefix 0
-- and with scan prefix 1, the packed bytes of both, the opened records, and a section with a least sequence below every sequence.
use Rattle.std.specs.Prelude.{List, [], ◌∷◌, ◌++◌, true, false, ℕ, ◌-◌}
use Rattle.sstable.specs.declared.Kind.TheVariants.{Put, Tombstone}
use Rattle.block.specs.Walk.{Entry}
use Rattle.header.specs.declared.Opened.{Opened}

-- the data, one block of 82 bytes: entries of 26, 21 and 22 bytes, one restart offset, their number, the type byte, the CRC-32
unfoldable pub worked_data : List ℕ
worked_data =
    1 ∷ 0 ∷ 0 ∷ 0 ∷ 0 ∷ 2 ∷ 0 ∷ 0 ∷ 0 ∷ 3 ∷ 0 ∷ 0 ∷ 0 ∷
    7 ∷ 0 ∷ 0 ∷ 0 ∷ 0 ∷ 0 ∷ 0 ∷ 0 ∷ 97 ∷ 98 ∷ 120 ∷ 121 ∷ 122 ∷
    2 ∷ 2 ∷ 0 ∷ 0 ∷ 0 ∷ 0 ∷ 0 ∷ 0 ∷ 0 ∷ 0 ∷ 0 ∷ 0 ∷ 0 ∷
    3 ∷ 0 ∷ 0 ∷ 0 ∷ 0 ∷ 0 ∷ 0 ∷ 0 ∷
    1 ∷ 1 ∷ 0 ∷ 0 ∷ 0 ∷ 1 ∷ 0 ∷ 0 ∷ 0 ∷ 0 ∷ 0 ∷ 0 ∷ 0 ∷
    5 ∷ 0 ∷ 0 ∷ 0 ∷ 0 ∷ 0 ∷ 0 ∷ 0 ∷ 99 ∷
    0 ∷ 0 ∷ 0 ∷ 0 ∷ 1 ∷ 0 ∷ 0 ∷ 0 ∷ 0 ∷
    169 ∷ 146 ∷ 60 ∷ 65 ∷ []

-- the block list: one pair
unfoldable pub worked_list : List ℕ
worked_list = 0 ∷ 82 ∷ []

-- the keys `ab` and `ac`
unfoldable pub ab : List ℕ
ab = 97 ∷ 98 ∷ []

unfoldable pub ac : List ℕ
ac = 97 ∷ 99 ∷ []

-- `ab` 7 Put `xyz`; `ab` 3 Tombstone; `ac` 5 Put, empty
unfoldable pub worked_entries : List Entry
worked_entries =
    record { key = ab; seq = 7; kind = Put; place = 23; size = 3 }
    ∷ record { key = ab; seq = 3; kind = Tombstone; place = 47; size = 0 }
    ∷ record { key = ac; seq = 5; kind = Put; place = 69; size = 0 }
    ∷ []

-- the header, with its flags and least sequence: magic, seed, n and b, arena start, address and key width, count and sequence width,
-- value width and flags, least sequence
unfoldable pub worked_head : ℕ → ℕ → List ℕ
worked_head flags least =
    75 ∷ 73 ∷ 66 ∷ 65 ∷ 78 ∷ 80 ∷ 72 ∷ 51 ∷
    175 ∷ 205 ∷ 29 ∷ 123 ∷ 57 ∷ 168 ∷ 32 ∷ 226 ∷
    2 ∷ 0 ∷ 0 ∷ 0 ∷ 1 ∷ 0 ∷ 0 ∷ 0 ∷
    80 ∷ 0 ∷ 0 ∷ 0 ∷ 0 ∷ 0 ∷ 0 ∷ 0 ∷
    4 ∷ 0 ∷ 0 ∷ 0 ∷ 1 ∷ 0 ∷ 0 ∷ 0 ∷
    1 ∷ 0 ∷ 0 ∷ 0 ∷ 1 ∷ 0 ∷ 0 ∷ 0 ∷
    2 ∷ 0 ∷ 0 ∷ 0 ∷ flags ∷ 0 ∷ 0 ∷ 0 ∷
    least ∷ 0 ∷ 0 ∷ 0 ∷ 0 ∷ 0 ∷ 0 ∷ 0 ∷ []

-- the pilot, and the address and fingerprint of each slot
unfoldable pub worked_tables : List ℕ
worked_tables =
    0 ∷ 0 ∷ 0 ∷ 0 ∷
    31 ∷ 0 ∷ 0 ∷ 0 ∷ 105 ∷ 179 ∷
    0 ∷ 0 ∷ 0 ∷ 0 ∷ 122 ∷ 240 ∷ []

-- the same packed
unfoldable pub worked_packed_tables : List ℕ
worked_packed_tables =
    0 ∷ 0 ∷ 0 ∷
    31 ∷ 0 ∷ 0 ∷ 0 ∷
    0 ∷ 0 ∷ 0 ∷ 0 ∷ []

-- the key record of `ab` with its two versions, and that of `ac` with its one; each stored sequence less the least
unfoldable pub worked_arena : ℕ → List ℕ
worked_arena least =
    7 ∷ 0 ∷ 0 ∷ 0 ∷ 0 ∷ 2 ∷ 2 ∷ 97 ∷ 98 ∷
    (7 - least) ∷ 3 ∷ 0 ∷ 23 ∷ 0 ∷ 0 ∷ 0 ∷ 103 ∷ 186 ∷ 142 ∷ 235 ∷
    (3 - least) ∷ 0 ∷ 128 ∷ 47 ∷ 0 ∷ 0 ∷ 0 ∷ 0 ∷ 0 ∷ 0 ∷ 0 ∷
    7 ∷ 0 ∷ 0 ∷ 0 ∷ 1 ∷ 1 ∷ 1 ∷ 99 ∷
    (5 - least) ∷ 0 ∷ 0 ∷ 69 ∷ 0 ∷ 0 ∷ 0 ∷ 0 ∷ 0 ∷ 0 ∷ 0 ∷ []

-- the scan part of prefix 1 and its length: magic, prefix length, stride, prefix count, addresses
unfoldable pub worked_scan : List ℕ
worked_scan =
    75 ∷ 73 ∷ 66 ∷ 65 ∷ 78 ∷ 83 ∷ 67 ∷ 49 ∷
    1 ∷ 0 ∷ 0 ∷ 0 ∷ 32 ∷ 0 ∷ 0 ∷ 0 ∷
    1 ∷ 0 ∷ 0 ∷ 0 ∷ 0 ∷ 0 ∷ 0 ∷ 0 ∷
    0 ∷ 0 ∷ 0 ∷ 0 ∷ 31 ∷ 0 ∷ 0 ∷ 0 ∷
    32 ∷ 0 ∷ 0 ∷ 0 ∷ 0 ∷ 0 ∷ 0 ∷ 0 ∷ []

-- the last five bytes, of scan prefix 0 and of scan prefix 1
unfoldable pub worked_end : List ℕ
worked_end = 0 ∷ 85 ∷ 101 ∷ 206 ∷ 210 ∷ []

unfoldable pub worked_scan_end : List ℕ
worked_scan_end = 0 ∷ 64 ∷ 21 ∷ 160 ∷ 245 ∷ []

-- scan prefix 0
unfoldable pub worked_section : List ℕ
worked_section = worked_head 1 3 ++ worked_tables ++ worked_arena 3 ++ worked_end

-- scan prefix 1
unfoldable pub worked_scan_section : List ℕ
worked_scan_section = worked_head 3 3 ++ worked_tables ++ worked_arena 3 ++ worked_scan ++ worked_scan_end

-- packed from either
unfoldable pub worked_packed : List ℕ
worked_packed = worked_head 1 3 ++ worked_packed_tables ++ worked_arena 3 ++ worked_end

unfoldable pub worked_scan_packed : List ℕ
worked_scan_packed = worked_head 3 3 ++ worked_packed_tables ++ worked_arena 3 ++ worked_scan_end

-- scan prefix 0 with a least sequence of 2, which no version has
unfoldable pub low_section : List ℕ
low_section = worked_head 1 2 ++ worked_tables ++ worked_arena 2 ++ 0 ∷ 152 ∷ 130 ∷ 235 ∷ 26 ∷ []

-- the opened record of a section with this least sequence and scan place
unfoldable pub opened_with : ℕ → ℕ → Opened
opened_with least scan =
    record {
      seed = 16294208416658607535;
      min_seq = least;
      count = 2;
      buckets = 1;
      arena = 80;
      encoding = record { address = 4; key = 1; count = 1; seq = 1; value = 2; checksum = true };
      scan = scan;
      packed = false;
    }

-- of scan prefix 0 and of scan prefix 1
unfoldable pub worked_opened : Opened
worked_opened = opened_with 3 0

unfoldable pub worked_scan_opened : Opened
worked_scan_opened = opened_with 3 130

-- for proofs alone: `unfolding worked_defs` opens the definitions of this file
unfoldable pub worked_defs : ℕ
unfolding worked_data worked_list ab ac worked_entries worked_head worked_tables worked_packed_tables worked_arena worked_scan worked_end worked_scan_end worked_section worked_scan_section worked_packed worked_scan_packed low_section opened_with worked_opened worked_scan_opened
worked_defs = 0
