-- What reading back says of the area and of the record that comes out: a version, the further versions of a key, a key, the keys.
-- Assumes nothing.
use mathlib.Core.Path.{◌≡◌, refl, sym, ap, ◌∙◌, subst⁻¹}
use mathlib.Core.Bool.{Bool, true, false}
use mathlib.Core.List.{List, [], ◌∷◌}
use Rattle.std.specs.Prelude.{Option, Some, None}
use Rattle.std.proofs.lemmas.Option.{none-some}
use Prim.Native.Nat.{ℕ, zero, suc, ◌+◌, ◌-◌, ◌*◌, ◌≤◌, ◌<◌}
use native.Mathlib.Omega.{arith}
use native.Mathlib.Numerals.{add-one}
use lib.Dec.{eqb, leb}
use lib.ListN.{length, length-take, length-drop}
use borrow.Author.Count.{below_more}
use borrow.Author.Tests.{leb-true, ltb-true, eqb-true, eq-eqb}
use Rattle.num.specs.Choice.{when◌then◌else◌, both, one_of}
use Rattle.num.proofs.Choice.{false_true, both_true, if_first, if_case}
use Rattle.sstable.specs.Limits.{max_key_bytes, max_value_bytes, within_limits}
use Rattle.encoding.specs.declared.Totals.{Totals}
use Rattle.builder.specs.declared.Builder.{Builder}
use Rattle.area.specs.Area.{head_len, area_version_len, area_key_len, area_versions, area_key, area_kind, area_size, area_offset, first_version_at, next_head}
use Rattle.builder.specs.Record.{empty_builder, anchor_next, totals_after, builder_after}
use Rattle.builder.specs.Add.{max_keys}
use Rattle.builder.proofs.Standing.{some_key}
use Rattle.readback.specs.ReadBack.{counted_at, version_read, versions_read, versions_read_for, key_read, keys_read, area_read, same_totals, reads_back_for, reads_back_of}
use Rattle.readback.specs.Places.{area_version_at, head_at_of, AreaKeyStands, AreaStands}
use Rattle.readback.specs.Internal.{Running}

-- ---- a version

-- what its questions say of a version that was read
pub record VersionStands (area : List ℕ) (end : ℕ) (r : Builder) (head place count : ℕ) (new : Bool) (q : Builder) : Type 0 where
  pub inside : place + area_version_len ≤ end
  pub kind : one_of (1 ∷ 2 ∷ []) (area_kind area place) ≡ true
  pub key_limit : area_key_len area head ≤ max_key_bytes
  pub value_limit : area_size area place ≤ max_value_bytes
  pub offset : r.totals.last_value_offset ≤ area_offset area place
  pub few : r.totals.keys + (when new then 1 else 0) ≤ max_keys
  pub after : q ≡ builder_after area r (counted_at area head place count new)

pub version_stands : (area : List ℕ) (end : ℕ) (r : Builder) (head place count : ℕ) (new : Bool) (q : Builder)
    → version_read area end r head place count new ≡ Some q → VersionStands area end r head place count new q
unfolding version_read within_limits
version_stands area end r head place count new q e =
    let p₀ = if_first _ _ _ _ (none-some q) e in
    let p₁ = if_first _ _ _ _ (none-some q) p₀.1 in
    let p₂ = if_first _ _ _ _ (none-some q) p₁.1 in
    let p₃ = if_first _ _ _ _ (none-some q) p₂.1 in
    let p₄ = if_first _ _ _ _ (none-some q) p₃.1 in
    let l = both_true _ _ p₂.0 in
    record {
      inside = leb-true _ _ p₀.0;
      kind = p₁.0;
      key_limit = leb-true _ _ l.0;
      value_limit = leb-true _ _ l.1;
      offset = leb-true _ _ p₃.0;
      few = leb-true _ _ p₄.0;
      after = cc p₄.1;
    }

-- a key that lies in the area has its bytes
pub length_key : (area : List ℕ) (head : ℕ) → head + head_len + area_key_len area head ≤ length area → length (area_key area head) ≡ area_key_len area head
unfolding area_key
length_key area head i = simp (length-take, length-drop) (omega arith)

-- the record with it
module _ (area : List ℕ) (end : ℕ) (r : Builder) (h : Running area end r) where
  -- a further version of the last key
  after_old : (head place count : ℕ) → r.used + area_version_len ≤ end → Running area end (builder_after area r (counted_at area head place count false))
  unfolding builder_after totals_after counted_at when◌then◌else◌ both
  after_old head place count i =
      record {
        inside = omega arith;
        keys = omega arith;
        versions = omega arith;
        suffix_bytes = omega arith;
        last = λ k. omega (arith, h.last (omega arith));
        anchor = λ k. omega (arith, h.anchor (omega arith));
      }

  -- the anchor, if the key behind the used bytes is read
  anchored : (new : ℕ) → r.used + head_len + area_key_len area r.used ≤ new
      → (when anchor_next r then r.used else r.anchor) + head_len + area_key_len area (when anchor_next r then r.used else r.anchor) ≤ new
  unfolding anchor_next
  anchored new i =
      if_case (λ (a : ℕ). a + head_len + area_key_len area a ≤ new) (anchor_next r) r.used r.anchor (λ _. i)
      (λ f. omega (arith, h.anchor (some_key _ (λ z. false_true (sym f ∙ eq-eqb _ _ z)))))

  -- the first version of a new key
  after_new : (place count : ℕ) → end ≤ length area → r.used + head_len + area_key_len area r.used + area_version_len ≤ end
      → Running area end (builder_after area r (counted_at area r.used place count true))
  unfolding builder_after totals_after counted_at when◌then◌else◌ both
  after_new place count l i =
      let n = length_key area r.used (omega arith) in
      record {
        inside = omega arith;
        keys = omega arith;
        versions = omega arith;
        suffix_bytes = omega arith;
        last = λ k. omega arith;
        anchor = λ k. anchored _ (omega arith);
      }

-- ---- the further versions of a key

-- what goes on after a reading that gave a record
pub follows : (o : Option Builder) (next : Builder → Option Builder) (q : Builder) → elim o [ Some p ↦ next p | None ↦ None ] ≡ Some q
    → (p : Builder) × (o ≡ Some p) × (next p ≡ Some q)
follows None next q e = absurd (none-some q e)
follows (Some p) next q e = (p, refl, e)

-- one of them
pub record Further (area : List ℕ) (end : ℕ) (r q : Builder) : Type 0 where
  pub running : Running area end q
  pub used : q.used ≡ r.used + area_version_len
  pub keys : q.totals.keys ≡ r.totals.keys

pub further : (area : List ℕ) (end : ℕ) (r : Builder) (head count : ℕ) (q : Builder) → Running area end r
    → version_read area end r head r.used count false ≡ Some q → Further area end r q
unfolding builder_after totals_after counted_at when◌then◌else◌
further area end r head count q h e =
    let s = version_stands area end r head r.used count false q e in
    record {
      running = subst⁻¹ (λ (b : Builder). Running area end b) s.after (after_old area end r h head r.used count s.inside);
      used = ap (λ (b : Builder). b.used) s.after ∙ omega arith;
      keys = ap (λ (b : Builder). b.totals.keys) s.after ∙ omega arith;
    }

-- all of them
record VersionsStand (area : List ℕ) (end : ℕ) (r : Builder) (left : ℕ) (q : Builder) : Type 0 where
  running : Running area end q
  used : q.used ≡ r.used + area_version_len * left
  keys : q.totals.keys ≡ r.totals.keys
  kinds : (j : ℕ) → j < left → one_of (1 ∷ 2 ∷ []) (area_kind area (r.used + area_version_len * j)) ≡ true

-- what holds of the first version and of those behind it holds of each
pub first_more : (P : ℕ → Type 0) (at left : ℕ) → P at → ((j : ℕ) → j < left → P (at + area_version_len + area_version_len * j))
    → (j : ℕ) → j < suc left → P (at + area_version_len * j)
first_more P at left k ks zero l =
    let e : at + area_version_len * 0 ≡ at = omega arith in
    subst⁻¹ P e k
first_more P at left k ks (suc j) l =
    let e : at + area_version_len * suc j ≡ at + area_version_len + area_version_len * j = omega arith in
    subst⁻¹ P e (ks j (omega arith))

versions_stand : (left : ℕ) (area : List ℕ) (end : ℕ) (r : Builder) (count : ℕ) (q : Builder) → Running area end r
    → versions_read left area end r count ≡ Some q → VersionsStand area end r left q
unfolding versions_read
versions_stand zero area end r count q h e =
    let z : r ≡ q = cc in
    record {
      running = subst⁻¹ (λ (b : Builder). Running area end b) (sym z) h;
      used = ap (λ (b : Builder). b.used) (sym z) ∙ omega arith;
      keys = ap (λ (b : Builder). b.totals.keys) (sym z);
      kinds = λ j l. absurd (omega arith);
    }
versions_stand (suc left) area end r count q h e =
    let f = follows (version_read area end r r.last_key r.used (count + 1) false) (λ p. versions_read left area end p (count + 1)) q e in
    let p = f.0 in
    let s = version_stands area end r r.last_key r.used (count + 1) false p f.1 in
    let u = further area end r r.last_key (count + 1) p h f.1 in
    let v = versions_stand left area end p (count + 1) q u.running f.2 in
    record {
      running = v.running;
      used = omega (arith, u.used, v.used);
      keys = v.keys ∙ u.keys;
      kinds = first_more (λ (n : ℕ). one_of (1 ∷ 2 ∷ []) (area_kind area n) ≡ true) r.used left s.kind
          (λ j l. subst⁻¹ (λ (n : ℕ). one_of (1 ∷ 2 ∷ []) (area_kind area (n + area_version_len * j)) ≡ true) (sym u.used) (v.kinds j l));
    }

-- ---- a key

pub record KeyReadStands (area : List ℕ) (end : ℕ) (r q : Builder) : Type 0 where
  pub running : Running area end q
  pub used : q.used ≡ next_head area r.used
  pub keys : q.totals.keys ≡ r.totals.keys + 1
  pub stands : AreaKeyStands area end r.used

-- its first version
pub record First (area : List ℕ) (end : ℕ) (r q : Builder) : Type 0 where
  pub running : Running area end q
  pub used : q.used ≡ area_version_at area r.used 1
  pub keys : q.totals.keys ≡ r.totals.keys + 1

pub first : (area : List ℕ) (end : ℕ) (r : Builder) (len count : ℕ) (q : Builder) → len ≡ area_key_len area r.used → end ≤ length area → Running area end r
    → version_read area end r r.used (r.used + head_len + len) count true ≡ Some q → First area end r q
unfolding builder_after totals_after counted_at when◌then◌else◌ area_version_at first_version_at
first area end r len count q z l h e =
    let at = r.used + head_len + len in
    let s = version_stands area end r r.used at count true q e in
    let n = length_key area r.used (omega (arith, s.inside)) in
    record {
      running = subst⁻¹ (λ (b : Builder). Running area end b) s.after (after_new area end r h at count l (omega (arith, s.inside)));
      used = ap (λ (b : Builder). b.used) s.after ∙ omega arith;
      keys = ap (λ (b : Builder). b.totals.keys) s.after;
    }

versions_follow : (left : ℕ) (area : List ℕ) (end : ℕ) (o : Option Builder) (q : Builder) → versions_read_for left area end o ≡ Some q
    → (p : Builder) × (o ≡ Some p) × (versions_read left area end p 1 ≡ Some q)
unfolding versions_read_for
versions_follow left area end None q e = absurd (none-some q e)
versions_follow left area end (Some p) q e = (p, refl, e)

-- its first version gave a record, and its further ones behind that gave what came out
pub record KeyParts (area : List ℕ) (end : ℕ) (r q : Builder) : Type 0 where
  pub some_version : 0 < area_versions area r.used
  pub behind : Builder
  pub one : version_read area end r r.used (r.used + head_len + area_key_len area r.used) 1 true ≡ Some behind
  pub more : versions_read (area_versions area r.used - 1) area end behind 1 ≡ Some q

pub key_parts : (area : List ℕ) (end : ℕ) (r q : Builder) → key_read area end r ≡ Some q → KeyParts area end r q
unfolding key_read
key_parts area end r q e =
    let p₀ = if_first _ _ _ _ (none-some q) e in
    let p₁ = if_first _ _ _ _ (none-some q) p₀.1 in
    let p₂ = if_first _ _ _ _ (none-some q) p₁.1 in
    let f = versions_follow (area_versions area r.used - 1) area end (version_read area end r r.used (r.used + head_len + area_key_len area r.used) 1 true) q p₂.1 in
    record { some_version = ltb-true 0 (area_versions area r.used) p₂.0; behind = f.0; one = f.1; more = f.2 }

pub key_stands : (area : List ℕ) (end : ℕ) (r q : Builder) → end ≤ length area → Running area end r → key_read area end r ≡ Some q → KeyReadStands area end r q
unfolding next_head first_version_at area_version_at
key_stands area end r q l h e =
    let f = key_parts area end r q e in
    let at = r.used + head_len + area_key_len area r.used in
    let left = area_versions area r.used - 1 in
    let n = f.some_version in
    let s = version_stands area end r r.used at 1 true f.behind f.one in
    let u = first area end r (area_key_len area r.used) 1 f.behind refl l h f.one in
    let v = versions_stand left area end f.behind 1 q u.running f.more in
    let behind : at + area_version_len ≡ f.behind.used = omega (arith, u.used) in
    record {
      running = v.running;
      used = omega (arith, u.used, v.used);
      keys = v.keys ∙ u.keys;
      stands = record {
        inside = omega (arith, u.used, v.used, v.running.inside);
        some_version = n;
        kinds = λ j k. first_more (λ (m : ℕ). one_of (1 ∷ 2 ∷ []) (area_kind area m) ≡ true) at left s.kind
            (λ i m. subst⁻¹ (λ (x : ℕ). one_of (1 ∷ 2 ∷ []) (area_kind area (x + area_version_len * i)) ≡ true) behind (v.kinds i m)) j (omega arith);
      };
    }

-- ---- the keys

pub empty_running : (area : List ℕ) (end : ℕ) → Running area end empty_builder
unfolding empty_builder
empty_running area end =
    record { inside = omega arith; keys = omega arith; versions = omega arith; suffix_bytes = omega arith; last = λ k. omega arith; anchor = λ k. omega arith }

-- the keys up to a record, and up to the end
KeysBefore : List ℕ → ℕ → Builder → Type 0
KeysBefore area end r = (head_at_of area r.totals.keys ≡ r.used) × ((i : ℕ) → i < r.totals.keys → AreaKeyStands area end (head_at_of area i))

one_more : (area : List ℕ) (end : ℕ) (r q : Builder) → KeyReadStands area end r q → KeysBefore area end r → KeysBefore area end q
unfolding KeysBefore head_at_of
one_more area end r q s (u, ks) =
    let n : q.totals.keys ≡ suc r.totals.keys = s.keys ∙ add-one _ in (
      ap (head_at_of area) n ∙ ap (next_head area) u ∙ sym s.used,
      λ i l. below_more (λ (j : ℕ). AreaKeyStands area end (head_at_of area j)) r.totals.keys ks (subst⁻¹ (AreaKeyStands area end) u s.stands) i (omega arith),
    )

-- what each key keeps holds of the record that comes out, behind the end
pub keys_kept : (P : Builder → Type 0) (most : ℕ) (area : List ℕ) (end : ℕ) → ((p s : Builder) → P p → key_read area end p ≡ Some s → P s)
    → (r q : Builder) → P r → keys_read most area end r ≡ Some q → P q × (end ≤ q.used)
unfolding keys_read
keys_kept P zero area end step r q h e = absurd (none-some q e)
keys_kept P (suc most) area end step r q h e = go (leb end r.used) refl e (λ p. keys_kept P most area end step p q)
  where
    go : (t : Bool) → leb end r.used ≡ t → elim t [ true ↦ Some r | false ↦ elim (key_read area end r) [ Some q ↦ keys_read most area end q | None ↦ None ] ] ≡ Some q
        → ((p : Builder) → P p → keys_read most area end p ≡ Some q → P q × (end ≤ q.used)) → P q × (end ≤ q.used)
    go true f g rest =
        let z : r ≡ q = cc in
        subst⁻¹ (λ (x : Builder). P x × (end ≤ x.used)) (sym z) (h, leb-true end r.used f)
    go false f g rest =
        let p = follows (key_read area end r) (λ p. keys_read most area end p) q g in
        rest p.0 (step r p.0 h p.1) p.2

-- an area that reads back: it is used up to the end, and the keys stand one behind the other
pub area_stands : (area : List ℕ) (end : ℕ) (r : Builder) → end ≤ length area → area_read area end ≡ Some r
    → (r.used ≡ end) × AreaStands area end r.totals.keys
unfolding area_read KeysBefore head_at_of empty_builder
area_stands area end r l e =
    let k = keys_kept (λ (p : Builder). Running area end p × KeysBefore area end p) (suc end) area end
    (λ p s (h, b) f. let t = key_stands area end p s l h f in (t.running, one_more area end p s t b))
    empty_builder r (empty_running area end, (refl, λ i k. absurd (omega arith))) e in
    let u : r.used ≡ end = omega (arith, k.0.0.inside, k.1) in
    (u, record { each = k.0.1.1; to_the_end = k.0.1.0 ∙ u })

-- ---- the record

same : (m n : ℕ) (rest : Bool) → both (eqb m n) rest ≡ true → (m ≡ n) × (rest ≡ true)
same m n rest e = let p = both_true (eqb m n) rest e in (eqb-true m n p.0, p.1)

pub same_totals_lem : (a b : Totals) → same_totals a b ≡ true → a ≡ b
unfolding same_totals
same_totals_lem a b e =
    let e₁ = same a.keys b.keys _ e in
    let e₂ = same a.versions b.versions _ e₁.1 in
    let e₃ = same a.suffix_bytes b.suffix_bytes _ e₂.1 in
    let e₄ = same a.min_seq b.min_seq _ e₃.1 in
    let e₅ = same a.max_seq b.max_seq _ e₄.1 in
    let e₆ = same a.max_key_len b.max_key_len _ e₅.1 in
    let e₇ = same a.max_value_len b.max_value_len _ e₆.1 in
    let e₈ = same a.max_versions b.max_versions _ e₇.1 in
    let e₉ = eqb-true a.last_value_offset b.last_value_offset e₈.1 in
    λ i. record {
      keys = e₁.0 i;
      versions = e₂.0 i;
      suffix_bytes = e₃.0 i;
      min_seq = e₄.0 i;
      max_seq = e₅.0 i;
      max_key_len = e₆.0 i;
      max_value_len = e₇.0 i;
      max_versions = e₈.0 i;
      last_value_offset = e₉ i;
    }

record_read : (b : Builder) (o : Option Builder) → reads_back_for b o ≡ true → (r : Builder) × (o ≡ Some r) × (r.totals ≡ b.totals)
unfolding reads_back_for
record_read b None e = false_true e
record_read b (Some r) e = (r, refl, same_totals_lem r.totals b.totals e)

-- what an area that reads back to a record gives, the keys that stand in it among it
pub record ReadBack (area : List ℕ) (b : Builder) : Type 0 where
  pub inside : b.used ≤ length area
  pub record_of : Builder
  pub read : area_read area b.used ≡ Some record_of
  pub totals : record_of.totals ≡ b.totals
  pub keys_stand : AreaStands area b.used b.totals.keys

pub read_back : (area : List ℕ) (b : Builder) → reads_back_of area b ≡ true → ReadBack area b
unfolding reads_back_of
read_back area b e =
    let p = both_true _ _ e in
    let i = leb-true b.used (length area) p.0 in
    let f = record_read b (area_read area b.used) p.1 in
    record {
      inside = i;
      record_of = f.0;
      read = f.1;
      totals = f.2;
      keys_stand = subst⁻¹ (λ (t : Totals). AreaStands area b.used t.keys) (sym f.2) (area_stands area b.used f.0 i f.1).1;
    }
