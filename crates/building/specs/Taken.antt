-- What a builder holds is a function of the offers that it has taken: their key groups, the area and the record.
use Rattle.std.specs.Prelude.{ℕ, ◌-◌, min, max, List, [], ◌∷◌, ◌++◌, length, get_or, take}
use Rattle.num.specs.Choice.{when◌then◌else◌}
use Rattle.num.specs.Number.{le_bytes}
use Rattle.crc32.specs.V42.{crc_of}
use Rattle.sstable.specs.Kind.{kind_number}
use Rattle.encoding.specs.declared.Totals.{Totals}
use Rattle.builder.specs.declared.Builder.{Builder}
use Rattle.builder.specs.Offer.{Offer}
use Rattle.written.specs.Arena.{StoredVersion, KeyGroup, no_group, group_anchor, suffixes_before}
use Rattle.written.specs.Joined.{Field, fields_bytes}
use Rattle.written.specs.Joined.Field.{field}

-- ---- the key groups

-- the version that an offer adds
unfoldable pub stored_of : Offer → StoredVersion
stored_of e = record { seq = e.seq; kind = e.kind; size = length e.value; offset = e.offset; checksum = crc_of e.value }

-- a key with one version
unfoldable pub new_group : List ℕ → StoredVersion → KeyGroup
new_group key v = record { key = key; versions = v ∷ [] }

-- a key with one version more
unfoldable pub more_group : KeyGroup → StoredVersion → KeyGroup
more_group g v = record { key = g.key; versions = g.versions ++ (v ∷ []) }

-- the last key's group, and the groups before it
unfoldable pub last_group : List KeyGroup → KeyGroup
last_group gs = get_or gs (length gs - 1) no_group

unfoldable pub groups_before : List KeyGroup → List KeyGroup
groups_before gs = take (length gs - 1) gs

-- the groups with an offer: one that is marked a new key starts a group, another joins the last one
unfoldable pub groups_with : List KeyGroup → Offer → List KeyGroup
groups_with gs e =
    when e.new_key then gs ++ (new_group e.key (stored_of e) ∷ [])
    else groups_before gs ++ (more_group (last_group gs) (stored_of e) ∷ [])

-- with further offers
unfoldable pub groups_after : List KeyGroup → List Offer → List KeyGroup
groups_after gs [] = gs
groups_after gs (e ∷ es) = groups_after (groups_with gs e) es

-- the groups of all offers taken
unfoldable pub groups_of : List Offer → List KeyGroup
groups_of taken = groups_after [] taken

-- ---- the area: heads, keys and versions one behind the other

-- a version in the area
unfoldable pub area_fields : StoredVersion → List Field
area_fields v =
    field 8 v.seq ∷ field 1 (kind_number v.kind) ∷ field 4 v.size ∷ field 8 v.offset ∷ field 4 v.checksum ∷ []

unfoldable pub area_of_versions : List StoredVersion → List ℕ
area_of_versions [] = []
area_of_versions (v ∷ vs) = fields_bytes (area_fields v) ++ area_of_versions vs

-- a key's length, its number of versions, its bytes, its versions
unfoldable pub area_of_group : KeyGroup → List ℕ
area_of_group g = le_bytes 4 (length g.key) ++ (le_bytes 4 (length g.versions) ++ (g.key ++ area_of_versions g.versions))

unfoldable pub area_of : List KeyGroup → List ℕ
area_of [] = []
area_of (g ∷ gs) = area_of_group g ++ area_of gs

-- where the head of key i stands
unfoldable pub head_place : List KeyGroup → ℕ → ℕ
head_place gs i = length (area_of (take i gs))

-- ---- the record

-- all versions, one key behind the other
unfoldable pub versions_of : List KeyGroup → List StoredVersion
versions_of [] = []
versions_of (g ∷ gs) = g.versions ++ versions_of gs

-- a number for each element, taken together from the first on
unfoldable pub gathered : {A : Type 0} → (ℕ → ℕ → ℕ) → (A → ℕ) → ℕ → List A → ℕ
gathered op f m [] = m
gathered op f m (x ∷ xs) = gathered op f (op m (f x)) xs

unfoldable pub greatest_of : {A : Type 0} → (A → ℕ) → List A → ℕ
greatest_of f xs = gathered max f 0 xs

-- 0 of none
unfoldable pub least_of : {A : Type 0} → (A → ℕ) → List A → ℕ
least_of f [] = 0
least_of f (x ∷ xs) = gathered min f (f x) xs

unfoldable pub last_of : {A : Type 0} → (A → ℕ) → List A → ℕ
last_of f xs = gathered (λ m n. n) f 0 xs

unfoldable pub group_totals : List KeyGroup → Totals
group_totals gs =
    record {
      keys = length gs;
      versions = length (versions_of gs);
      suffix_bytes = suffixes_before gs (length gs);
      min_seq = least_of (λ v. v.seq) (versions_of gs);
      max_seq = greatest_of (λ v. v.seq) (versions_of gs);
      max_key_len = greatest_of (λ g. length g.key) gs;
      max_value_len = greatest_of (λ v. v.size) (versions_of gs);
      max_versions = greatest_of (λ g. length g.versions) gs;
      last_value_offset = last_of (λ v. v.offset) (versions_of gs);
    }

-- the places are those of the last key and of its anchor
unfoldable pub builder_of : List KeyGroup → Builder
builder_of gs =
    record {
      totals = group_totals gs;
      used = length (area_of gs);
      last_key = head_place gs (length gs - 1);
      anchor = head_place gs (group_anchor (length gs - 1));
    }

-- for proofs alone: `unfolding taken_defs` opens the definitions of this file
unfoldable pub taken_defs : ℕ
unfolding stored_of new_group more_group last_group groups_before groups_with groups_after groups_of area_fields area_of_versions area_of_group area_of head_place versions_of gathered greatest_of least_of last_of group_totals builder_of
taken_defs = 0
