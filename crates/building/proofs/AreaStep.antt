-- The area behind an add that is taken is that of the groups with its version.
-- Assumes nothing.
use mathlib.Core.Path.{◌≡◌, sym, ap, ap₂, ◌∙◌}
use mathlib.Core.List.{List, [], ◌∷◌, ◌++◌, append_assoc, append-nil}
use Prim.Native.Nat.{ℕ, ◌+◌, ◌≤◌}
use native.Mathlib.Omega.{arith}
use lib.ListN.{length, take, length-append}
use lib.Seq.{sets, sets-eq, take-append_seam, drop-append-add, drop_at}
use Rattle.num.specs.Number.{le_bytes}
use Rattle.num.proofs.Copy.{take_sets}
use Rattle.num.proofs.Number.{length_le_bytes}
use Rattle.crc32.specs.V42.{crc_of}
use Rattle.sstable.specs.Kind.{kind_number}
use Rattle.builder.specs.Offer.{Offer, head_bytes, version_bytes}
use Rattle.written.specs.Joined.{fields_bytes}
use Rattle.written.specs.Arena.{StoredVersion, KeyGroup}
use Rattle.building.specs.Taken.{stored_of, new_group, more_group, area_fields, area_of_versions, area_of_group, area_of}
use Rattle.building.proofs.Grows.{area_more}

-- ---- lists

-- behind a first part, a list is stored into what follows
behind : (p q vs : List ℕ) → length vs ≤ length q → take (length p + length vs) (sets (p ++ q) (length p) vs) ≡ p ++ vs
behind p q vs h =
    let n = length-append p q in
    take_sets (p ++ q) vs (length p) (omega arith) ∙ ap (λ (l : List ℕ). l ++ vs) (take-append_seam p q)

-- between two parts, a list is stored over one of its length
between : (p old q new : List ℕ) → length old ≡ length new → sets (p ++ (old ++ q)) (length p) new ≡ p ++ (new ++ q)
between p old q new e =
    let n = length-append p (old ++ q) in
    let m = length-append old q in
    sets-eq new (p ++ (old ++ q)) (length p) (omega arith)
    ∙ ap₂ (λ (a b : List ℕ). (a ++ new) ++ b) (take-append_seam p (old ++ q)) (drop-append-add p (old ++ q) (length new) ∙ drop_at old q (length new) e)
    ∙ append_assoc p new q

-- ---- bytes

version_bytes_lem : (e : Offer) → version_bytes e ≡ fields_bytes (area_fields (stored_of e))
unfolding version_bytes fields_bytes area_fields stored_of
version_bytes_lem e =
    ap (λ (l : List ℕ). le_bytes 8 e.seq ++ (le_bytes 1 (kind_number e.kind) ++ (le_bytes 4 (length e.value) ++ (le_bytes 8 e.offset ++ l))))
    (sym (append-nil (le_bytes 4 (crc_of e.value))))

versions_area_more : (vs : List StoredVersion) (v : StoredVersion) → area_of_versions (vs ++ (v ∷ [])) ≡ area_of_versions vs ++ fields_bytes (area_fields v)
unfolding area_of_versions
versions_area_more [] v = append-nil (fields_bytes (area_fields v))
versions_area_more (w ∷ vs) v =
    ap (λ (l : List ℕ). fields_bytes (area_fields w) ++ l) (versions_area_more vs v)
    ∙ sym (append_assoc (fields_bytes (area_fields w)) (area_of_versions vs) (fields_bytes (area_fields v)))

-- ---- a new key

new_bytes : (key : List ℕ) (e : Offer) → head_bytes key ++ version_bytes e ≡ area_of_group (new_group key (stored_of e))
unfolding head_bytes area_of_group new_group area_of_versions
new_bytes key e =
    ap (λ (l : List ℕ). (le_bytes 4 (length key) ++ (le_bytes 4 1 ++ key)) ++ l) (version_bytes_lem e ∙ sym (append-nil (fields_bytes (area_fields (stored_of e)))))
    ∙ append_assoc (le_bytes 4 (length key)) (le_bytes 4 1 ++ key) (fields_bytes (area_fields (stored_of e)) ++ [])
    ∙ ap (λ (l : List ℕ). le_bytes 4 (length key) ++ l) (append_assoc (le_bytes 4 1) key (fields_bytes (area_fields (stored_of e)) ++ []))

pub area_new : (gs : List KeyGroup) (rest key : List ℕ) (e : Offer) → length (area_of (gs ++ (new_group key (stored_of e) ∷ []))) ≤ length (area_of gs ++ rest)
    → take (length (area_of (gs ++ (new_group key (stored_of e) ∷ [])))) (sets (area_of gs ++ rest) (length (area_of gs)) (head_bytes key ++ version_bytes e))
    ≡ area_of (gs ++ (new_group key (stored_of e) ∷ []))
area_new gs rest key e room =
    let bytes = head_bytes key ++ version_bytes e in
    let same : area_of (gs ++ (new_group key (stored_of e) ∷ [])) ≡ area_of gs ++ bytes
    = area_more gs (new_group key (stored_of e)) ∙ ap (λ (l : List ℕ). area_of gs ++ l) (sym (new_bytes key e)) in
    let n : length (area_of (gs ++ (new_group key (stored_of e) ∷ []))) ≡ length (area_of gs) + length bytes = ap length same ∙ length-append (area_of gs) bytes in
    let m = length-append (area_of gs) rest in
    ap (λ (k : ℕ). take k (sets (area_of gs ++ rest) (length (area_of gs)) bytes)) n ∙ behind (area_of gs) rest bytes (omega arith) ∙ sym same

-- ---- one version more

module _ (gs : List KeyGroup) (g : KeyGroup) (rest : List ℕ) (e : Offer) where
  abbrev head : List ℕ
  head = area_of gs ++ le_bytes 4 (length g.key)

  abbrev tail : List ℕ
  tail = g.key ++ area_of_versions g.versions

  abbrev counted : ℕ → List ℕ
  counted n = head ++ (le_bytes 4 n ++ tail)

  regroup : (n : ℕ) → area_of gs ++ (le_bytes 4 (length g.key) ++ (le_bytes 4 n ++ tail)) ≡ counted n
  regroup n = sym (append_assoc (area_of gs) (le_bytes 4 (length g.key)) (le_bytes 4 n ++ tail))

  area_last : area_of (gs ++ (g ∷ [])) ≡ counted (length g.versions)
  unfolding area_of_group
  area_last = area_more gs g ∙ regroup (length g.versions)

  area_next : area_of (gs ++ (more_group g (stored_of e) ∷ [])) ≡ counted (length g.versions + 1) ++ version_bytes e
  unfolding area_of_group more_group
  area_next =
      area_more gs (more_group g (stored_of e))
      ∙ ap₂ (λ (n : ℕ) (l : List ℕ). area_of gs ++ (le_bytes 4 (length g.key) ++ (le_bytes 4 n ++ (g.key ++ l)))) (length-append g.versions (stored_of e ∷ []))
      (versions_area_more g.versions (stored_of e) ∙ ap (λ (l : List ℕ). area_of_versions g.versions ++ l) (sym (version_bytes_lem e)))
      ∙ ap (λ (l : List ℕ). area_of gs ++ (le_bytes 4 (length g.key) ++ (le_bytes 4 (length g.versions + 1) ++ l)))
      (sym (append_assoc g.key (area_of_versions g.versions) (version_bytes e)))
      ∙ ap (λ (l : List ℕ). area_of gs ++ (le_bytes 4 (length g.key) ++ l)) (sym (append_assoc (le_bytes 4 (length g.versions + 1)) tail (version_bytes e)))
      ∙ ap (λ (l : List ℕ). area_of gs ++ l) (sym (append_assoc (le_bytes 4 (length g.key)) (le_bytes 4 (length g.versions + 1) ++ tail) (version_bytes e)))
      ∙ sym (append_assoc (area_of gs) (le_bytes 4 (length g.key) ++ (le_bytes 4 (length g.versions + 1) ++ tail)) (version_bytes e))
      ∙ ap (λ (l : List ℕ). l ++ version_bytes e) (regroup (length g.versions + 1))

  counted_length : (n m : ℕ) → length (counted n) ≡ length (counted m)
  counted_length n m =
      omega (
        arith,
        length-append head (le_bytes 4 n ++ tail),
        length-append head (le_bytes 4 m ++ tail),
        length-append (le_bytes 4 n) tail,
        length-append (le_bytes 4 m) tail,
        length_le_bytes 4 n,
        length_le_bytes 4 m,
      )

  head_counted : sets (area_of (gs ++ (g ∷ [])) ++ rest) (length (area_of gs) + 4) (le_bytes 4 (length g.versions + 1)) ≡ counted (length g.versions + 1) ++ rest
  head_counted =
      let new = le_bytes 4 (length g.versions + 1) in
      let old = le_bytes 4 (length g.versions) in
      let at : length (area_of gs) + 4 ≡ length head = let n = length-append (area_of gs) (le_bytes 4 (length g.key)) in let m = length_le_bytes 4 (length g.key) in omega arith in
      let open-old : area_of (gs ++ (g ∷ [])) ++ rest ≡ head ++ (old ++ (tail ++ rest))
      = ap (λ (l : List ℕ). l ++ rest) area_last ∙ append_assoc head (old ++ tail) rest ∙ ap (λ (l : List ℕ). head ++ l) (append_assoc old tail rest) in
      ap₂ (λ (l : List ℕ) (k : ℕ). sets l k new) open-old at
      ∙ between head old (tail ++ rest) new (length_le_bytes 4 (length g.versions) ∙ sym (length_le_bytes 4 (length g.versions + 1)))
      ∙ ap (λ (l : List ℕ). head ++ l) (sym (append_assoc new tail rest))
      ∙ sym (append_assoc head (new ++ tail) rest)

  pub area_more_version : length (area_of (gs ++ (more_group g (stored_of e) ∷ []))) ≤ length (area_of (gs ++ (g ∷ [])) ++ rest)
      → take (length (area_of (gs ++ (more_group g (stored_of e) ∷ []))))
      (sets (sets (area_of (gs ++ (g ∷ [])) ++ rest) (length (area_of gs) + 4) (le_bytes 4 (length g.versions + 1))) (length (area_of (gs ++ (g ∷ [])))) (version_bytes e))
      ≡ area_of (gs ++ (more_group g (stored_of e) ∷ []))
  area_more_version room =
      let c = length g.versions in
      let used : length (area_of (gs ++ (g ∷ []))) ≡ length (counted (c + 1)) = ap length area_last ∙ counted_length c (c + 1) in
      let n : length (area_of (gs ++ (more_group g (stored_of e) ∷ []))) ≡ length (counted (c + 1)) + length (version_bytes e)
      = ap length area_next ∙ length-append (counted (c + 1)) (version_bytes e) in
      let m = length-append (area_of (gs ++ (g ∷ []))) rest in
      ap (λ (k : ℕ). take k (sets (sets (area_of (gs ++ (g ∷ [])) ++ rest) (length (area_of gs) + 4) (le_bytes 4 (c + 1))) (length (area_of (gs ++ (g ∷ [])))) (version_bytes e))) n
      ∙ ap₂ (λ (l : List ℕ) (k : ℕ). take (length (counted (c + 1)) + length (version_bytes e)) (sets l k (version_bytes e))) head_counted used
      ∙ behind (counted (c + 1)) rest (version_bytes e) (omega arith)
      ∙ sym area_next
