-- An opened record as sixteen numbers, and an answer as six.
use Rattle.std.specs.Prelude.{ℕ, List, [], ◌∷◌, Bool, eqb, leb, get_or}
use Rattle.num.specs.Choice.{when◌then◌else◌, both}
use Rattle.sstable.specs.Kind.{kind_number}
use Rattle.header.specs.declared.Opened.{Opened}
use Rattle.locator.specs.declared.ValueLocator.{ValueLocator}

-- 1 for yes, 0 for no
unfoldable pub flag_number : Bool → ℕ
flag_number b = when b then 1 else 0

-- seed, least sequence, n, b, arena; the widths of address, key, count, sequence, value; checksums, scan, packed; then zeros
unfoldable pub record_numbers : Opened → List ℕ
record_numbers o =
    o.seed ∷ o.min_seq ∷ o.count ∷ o.buckets ∷ o.arena ∷ o.encoding.address ∷ o.encoding.key ∷ o.encoding.count ∷ o.encoding.seq
    ∷ o.encoding.value ∷ flag_number o.encoding.checksum ∷ o.scan ∷ flag_number o.packed ∷ 0 ∷ 0 ∷ 0 ∷ []

-- the record whose numbers these sixteen are: the places are those of recordNumbers
unfoldable pub opened_of : List ℕ → Opened
opened_of numbers =
    record {
      seed = get_or numbers 0 0;
      min_seq = get_or numbers 1 0;
      count = get_or numbers 2 0;
      buckets = get_or numbers 3 0;
      arena = get_or numbers 4 0;
      encoding =
          record {
            address = get_or numbers 5 0;
            key = get_or numbers 6 0;
            count = get_or numbers 7 0;
            seq = get_or numbers 8 0;
            value = get_or numbers 9 0;
            checksum = eqb (get_or numbers 10 0) 1;
          };
      scan = get_or numbers 11 0;
      packed = eqb (get_or numbers 12 0) 1;
    }

-- are these numbers a record? checksums and packed are 0 or 1, and the last three places are 0
unfoldable pub is_record_numbers : List ℕ → Bool
is_record_numbers numbers =
    both (leb (get_or numbers 10 0) 1)
    (both (leb (get_or numbers 12 0) 1)
    (both (eqb (get_or numbers 13 0) 0) (both (eqb (get_or numbers 14 0) 0) (eqb (get_or numbers 15 0) 0))))

-- found, kind (1 Put, 2 Tombstone), sequence, offset, length, checksum
unfoldable pub answer_numbers : ValueLocator → List ℕ
answer_numbers l = 1 ∷ kind_number l.kind ∷ l.seq ∷ l.offset ∷ l.len ∷ l.checksum ∷ []

-- six zeros: none
abbrev pub none_numbers : List ℕ
none_numbers = 0 ∷ 0 ∷ 0 ∷ 0 ∷ 0 ∷ 0 ∷ []
