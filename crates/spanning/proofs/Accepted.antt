-- What a span gives of an accepted store.
-- Assumes nothing.
use mathlib.Core.Path.{◌≡◌, refl, sym, ap, ap₂, ◌∙◌, subst}
use mathlib.Core.Logic.{◌⊎◌, inl, inr}
use mathlib.Core.Bool.{Bool, true, false, not}
use mathlib.Core.List.Memᴰ
use mathlib.Core.List.{List, [], ◌∷◌, Memᴰ}
use Prim.Native.Nat.{ℕ, suc, ◌+◌, ◌*◌, ◌-◌, ◌<◌, ◌≤◌}
use native.Mathlib.Nat.{zero-add}
use native.Mathlib.Omega.{arith}
use lib.Dec.{leb}
use lib.ListN.{length, get_or, take, drop}
use lib.Seq.{take_all}
use borrow.Author.Tests.{le-leb, lt-leb, leb-true, leb-false, eq-eqb, ne_eqb}
use Rattle.std.specs.Prelude.{Some, None, Ok, Err}
use Rattle.num.specs.Number.{Bytes}
use Rattle.num.specs.Order.{less_than}
use Rattle.num.proofs.Choice.{false_true, never_true, true_both, if_true, if_false}
use Rattle.num.proofs.Lists.{index_member}
use Rattle.refusal.specs.declared.Refusal.{Refusal}
use Rattle.refusal.specs.declared.Refusal.TheVariants as refusal
use Rattle.sstable.specs.declared.Kind.{Kind}
use Rattle.sstable.specs.declared.Kind.TheVariants.{Put, Tombstone}
use Rattle.block.specs.Walk.{Entry}
use Rattle.header.specs.declared.Opened.{Opened}
use Rattle.header.specs.Header.{packed_record}
use Rattle.opened.specs.Opened.{is_record_of}
use Rattle.agreement.specs.Keys.{key_at}
use Rattle.agreement.specs.Agrees.{Agrees}
use Rattle.agreement.proofs.Laws.{member_index, record_version}
use Rattle.admission.specs.Blocks.{store_entries}
use Rattle.admission.specs.Admits.{Admits, OpensExactly, PacksExactly}
use Rattle.admission.proofs.Opening.{open_exactly}
use Rattle.admission.proofs.PackedOpening.{open_packed_exactly}
use Rattle.locator.specs.declared.ValueLocator.{ValueLocator}
use Rattle.locator.specs.Locator.{Located}
use Rattle.locating.specs.Store.{LinkerStore, Store, plain_opening, packed_opening, Version, version_in, store_versions, Holds}
use Rattle.locating.specs.Looks.{lookup, Greatest, Answers, Looks, LooksExactly}
use Rattle.locating.proofs.Plain.{plain_indexed}
use Rattle.locating.proofs.Accepted.{store_indexed, lookup_exactly}
use Rattle.spans.specs.Span.{Pair, scannable, unless_tombstone, span_of}
use Rattle.scans.proofs.Asked.{scanned}
use Rattle.spanning.specs.Spans.{store_keys, StoreKeysRise, keys_spanned, span, KeyGives, value, tombstone, none, SpanGives, no_key, next_key, Scans, Spans, SpansExactly, located_pairs, lookup_pairs, SpanIsLookups, SpanOfAll}
use Rattle.spanning.proofs.Keys.{arena_keys, keys_length, keys_at, keys_part, keys_in}
use Rattle.spanning.proofs.Chain.{scanned_found}
use Rattle.spanning.proofs.Places.{found_lies, record_one}

-- ---- what the lookups of some keys find is what those keys give

module _ (t : LinkerStore) (st : Store t) (limit : ℕ) where
  found_gives : (key : List ℕ) (v : Version) (l : ValueLocator) → lookup t key limit ≡ Ok (Some l) → Greatest t key limit v → Answers t v l
      → (k : Kind) → l.kind ≡ k → KeyGives t limit key (unless_tombstone k (record { offset = l.offset; len = l.len }))
  unfolding unless_tombstone
  found_gives key v l f g a Put e = value v _ g (sym a.kind ∙ e) (found_lies t (store_indexed t st) key limit v l f g a)
  found_gives key v l f g a Tombstone e = tombstone v g (sym a.kind ∙ e)

  key_gives : (key : List ℕ) → Looks t key limit → (r : Located) → lookup t key limit ≡ r → KeyGives t limit key (located_pairs r)
  unfolding located_pairs
  key_gives key p (Ok None) e = none (p.none.0 e)
  key_gives key p (Ok (Some l)) e = let f = p.found l e in found_gives key f.0 l e f.1 f.2 l.kind refl
  key_gives key p (Err n) e = absurd (p.never n e)

  lookups_give : (keys : List (List ℕ)) → SpanGives t limit keys (lookup_pairs t limit keys)
  unfolding lookup_pairs LooksExactly
  lookups_give [] = no_key
  lookups_give (key ∷ keys) = next_key (key_gives key (lookup_exactly t st key limit) (lookup t key limit) refl) (lookups_give keys)

-- ---- the keys of an accepted store

-- an accepted store agrees with the arena of a section of as many keys
record Arena (t : LinkerStore) : Type 0 where
  section : List ℕ
  opened : Opened
  scratch : ℕ
  agrees : Agrees section t.backing scratch opened (store_entries t.backing t.blocks)
  some : 1 ≤ opened.count
  count : opened.count ≡ t.opened.count

arena : (t : LinkerStore) → Store t → Arena t
unfolding OpensExactly PacksExactly packed_record
arena t (plain_opening scratch e) =
    let a = (open_exactly t.bytes t.backing t.blocks scratch t.opened).0 e in
    record { section = t.bytes; opened = t.opened; scratch = scratch; agrees = a.agrees; some = a.header.dimensions.some; count = refl }
arena t (packed_opening section scratch room e) =
    let f = (open_packed_exactly section t.backing t.blocks scratch room t.opened t.bytes).0 e in
    let a = f.admits.admits in
    record {
      section = section;
      opened = f.plain;
      scratch = scratch;
      agrees = a.agrees;
      some = a.header.dimensions.some;
      count = sym (ap (λ (o : Opened). o.count) f.same_record);
    }

module _ (t : LinkerStore) (a : Arena t) where
  store_keys_lem : store_keys t ≡ arena_keys a.section a.opened a.opened.count 0
  unfolding store_keys
  store_keys_lem =
      let l = a.some in
      let e : suc (a.opened.count - 1) ≡ a.opened.count = omega arith in
      keys_in a.agrees (a.opened.count - 1) e ∙ ap (λ (n : ℕ). arena_keys a.section a.opened n 0) e

  keys_count : length (store_keys t) ≡ t.opened.count
  keys_count = ap length store_keys_lem ∙ keys_length a.section a.opened a.opened.count 0 ∙ a.count

  key_at_lem : (i : ℕ) → i < a.opened.count → get_or (store_keys t) i [] ≡ key_at a.section a.opened i
  key_at_lem i h =
      ap (λ (l : List (List ℕ)). get_or l i []) store_keys_lem
      ∙ keys_at a.section a.opened a.opened.count 0 i h
      ∙ ap (key_at a.section a.opened) (zero-add i)

  keys_rising : (i : ℕ) → suc i < length (store_keys t) → less_than (get_or (store_keys t) i []) (get_or (store_keys t) (suc i) []) ≡ true
  keys_rising i h =
      let n = keys_count in
      let c = a.count in
      ap₂ less_than (key_at_lem i (omega arith)) (key_at_lem (suc i) (omega arith)) ∙ a.agrees.rising i (omega arith)

  -- the key of a version is one of them
  key_held : (v : Version) → Holds t v → Memᴰ v.key (store_keys t)
  unfolding Holds store_versions version_in
  key_held v m =
      let es = store_entries t.backing t.blocks in
      let w = Memᴰ.of_map (version_in t.backing) es m in
      let i = member_index es w.0 w.1 in
      let r = record_version a.agrees i.0 i.1 in
      let n = keys_count in
      let c = a.count in
      let l = r.key_below in
      let e : get_or (store_keys t) r.key [] ≡ v.key =
      key_at_lem r.key l ∙ sym r.same.key ∙ sym (ap (λ (x : Entry). x.key) i.2) ∙ ap (λ (u : Version). u.key) w.2 in
      subst (λ (k : List ℕ). Memᴰ k (store_keys t)) e (index_member (store_keys t) r.key [] (omega arith))

-- in an accepted store the keys of the blocks rise, and are as many as the record says
pub store_keys_rise : StoreKeysRise
unfolding StoreKeysRise
store_keys_rise t st = let a = arena t st in record { count = keys_count t a; ordered = record { rising = keys_rising t a; held = key_held t a; one = record_one t (store_indexed t st) } }

-- ---- the questions of a span

-- a plain store is admitted
record Plain (t : LinkerStore) : Type 0 where
  scratch : ℕ
  admits : Admits t.bytes t.backing t.blocks scratch t.opened

plain : (t : LinkerStore) → Store t → t.opened.packed ≡ false → Plain t
unfolding OpensExactly PacksExactly packed_record
plain t (plain_opening scratch e) p =
    record { scratch = scratch; admits = (open_exactly t.bytes t.backing t.blocks scratch t.opened).0 e }
plain t (packed_opening section scratch room e) p =
    let f = (open_packed_exactly section t.backing t.blocks scratch room t.opened t.bytes).0 e in
    false_true (sym p ∙ ap (λ (o : Opened). o.packed) f.same_record)

scans_yes : (t : LinkerStore) → Scans t → scannable t.opened ≡ true
unfolding scannable
scans_yes t c = true_both _ _ (ap not c.plain) (true_both _ _ (ap not (ne_eqb _ _ c.scan)) (eq-eqb _ _ c.four))

pub yes_scans : (t : LinkerStore) → scannable t.opened ≡ true → Scans t
yes_scans t e = let c = scanned t.opened e in record { plain = c.plain; scan = c.scan; four = c.four }

module _ (t : LinkerStore) (st : Store t) (first count limit places : ℕ) where
  open t use {bytes as s, opened as o}

  is_record : is_record_of s o ≡ true
  is_record = (store_indexed t st).is_record

  span_27 : (Scans t → ⊥) → span t first count limit places ≡ Err refusal.NoSpans
  unfolding span span_of
  span_27 n = if_true _ _ _ is_record ∙ if_false _ _ _ (never_true _ (λ e. n (yes_scans t e)))

  module _ (c : Scans t) where
    span-28 : o.count < first + count → span t first count limit places ≡ Err refusal.SpanKeys
    unfolding span span_of
    span-28 h = if_true _ _ _ is_record ∙ if_true _ _ _ (scans_yes t c) ∙ if_false _ _ _ (lt-leb (first + count) o.count h)

    module _ (k : first + count ≤ o.count) where
      span-29 : places < 2 * count → span t first count limit places ≡ Err refusal.SpanRoom
      unfolding span span_of
      span-29 h =
          if_true _ _ _ is_record ∙ if_true _ _ _ (scans_yes t c) ∙ if_true _ _ _ (le-leb (first + count) o.count k)
          ∙ if_false _ _ _ (lt-leb (2 * count) places h)

      -- the keys spanned are looked up
      span-given : Bytes s → 2 * count ≤ places → span t first count limit places ≡ Ok (lookup_pairs t limit (keys_spanned t first count))
      unfolding span span_of keys_spanned
      span-given b h =
          let p = plain t st c.plain in
          let x = plain_indexed s t.backing t.blocks p.scratch o p.admits in
          let a : Arena t = record { section = s; opened = o; scratch = p.scratch; agrees = p.admits.agrees; some = p.admits.header.dimensions.some; count = refl } in
          let e : first + (count + (o.count - (first + count))) ≡ o.count = omega arith in
          if_true _ _ _ is_record ∙ if_true _ _ _ (scans_yes t c) ∙ if_true _ _ _ (le-leb (first + count) o.count k)
          ∙ if_true _ _ _ (le-leb (2 * count) places h)
          ∙ scanned_found t b c p.admits.agrees x first count limit k
          ∙ ap (λ (l : List (List ℕ)). Ok (lookup_pairs t limit l))
          (sym (ap (λ (l : List (List ℕ)). take count (drop first l)) (store_keys_lem t a) ∙ keys_part s o o.count first count (o.count - (first + count)) e))

-- the answers of a span
data Outcome (t : LinkerStore) (first count limit places : ℕ) : Type 0 where
  accepted : Scans t → first + count ≤ length (store_keys t) → 2 * count ≤ places → Outcome t first count limit places
  declined : (n : Refusal) → (n ≡ refusal.NoSpans) ⊎ (n ≡ refusal.SpanKeys) ⊎ (n ≡ refusal.SpanRoom) → span t first count limit places ≡ Err n → Outcome t first count limit places

module _ (t : LinkerStore) (st : Store t) (first count limit places : ℕ) where
  open t use {opened as o}

  span_outcome : Outcome t first count limit places
  span_outcome = scans (scannable o) refl
    where
      l : length (store_keys t) ≡ o.count
      l = keys_count t (arena t st)

      places_asked : Scans t → first + count ≤ o.count → (y : Bool) → leb (2 * count) places ≡ y → Outcome t first count limit places
      places_asked c k true p = accepted c (omega (arith, l)) (leb-true _ _ p)
      places_asked c k false p = declined refusal.SpanRoom (inr (inr refl)) (span-29 t st first count limit places c k (leb-false _ _ p))

      keys_asked : Scans t → (y : Bool) → leb (first + count) o.count ≡ y → Outcome t first count limit places
      keys_asked c true p = places_asked c (leb-true _ _ p) (leb (2 * count) places) refl
      keys_asked c false p = declined refusal.SpanKeys (inr (inl refl)) (span-28 t st first count limit places c (leb-false _ _ p))

      scans : (y : Bool) → scannable o ≡ y → Outcome t first count limit places
      scans true p = keys_asked (yes_scans t p) (leb (first + count) o.count) refl
      scans false p = declined refusal.NoSpans (inl refl) (span_27 t st first count limit places (λ c. false_true (sym p ∙ scans_yes t c)))

  module _ (b : Bytes t.bytes) where
    span-gives : Scans t → first + count ≤ length (store_keys t) → 2 * count ≤ places
        → (ps : List Pair) × (span t first count limit places ≡ Ok ps) × SpanGives t limit (keys_spanned t first count) ps
    span-gives c k h =
        let l = keys_count t (arena t st) in
        (_, span-given t st first count limit places c (omega arith) b h, lookups_give t st limit (keys_spanned t first count))

    own-number : (n : Refusal) → span t first count limit places ≡ Err n → Outcome t first count limit places → (n ≡ refusal.NoSpans) ⊎ (n ≡ refusal.SpanKeys) ⊎ (n ≡ refusal.SpanRoom)
    own-number n e (accepted c k h) = let g = (span-gives c k h).1 in absurd (let z : ◌≡◌ {A = ℕ} 0 1 = cc in omega arith)
    own-number n e (declined m w f) = let same : m ≡ n = cc in subst (λ (i : Refusal). (i ≡ refusal.NoSpans) ⊎ (i ≡ refusal.SpanKeys) ⊎ (i ≡ refusal.SpanRoom)) same w

    spans : Spans t first count limit places
    spans =
        let l = keys_count t (arena t st) in
        record {
          gives = span-gives;
          no_scan = span_27 t st first count limit places;
          no_keys = λ c k. span-28 t st first count limit places c (omega arith);
          no_places = λ c k h. span-29 t st first count limit places c (omega arith) h;
          never = λ n e. own-number n e span_outcome;
        }

-- every span of an accepted store gives the values of its keys, in their order
pub spans_exactly : SpansExactly
unfolding SpansExactly
spans_exactly t st b first count limit places = spans t st first count limit places b

-- a span lists what the lookups of its keys find
pub span_is_lookups : SpanIsLookups
unfolding SpanIsLookups
span_is_lookups t st b c first count limit places k h =
    let l = keys_count t (arena t st) in span-given t st first count limit places c (omega arith) b h

-- and the span of all keys what n lookups find
pub span_of_all : SpanOfAll
unfolding SpanOfAll SpanIsLookups keys_spanned
span_of_all t st b c limit places h =
    let l = keys_count t (arena t st) in
    span_is_lookups t st b c 0 t.opened.count limit places (omega arith) h
    ∙ ap (λ (keys : List (List ℕ)). Ok (lookup_pairs t limit keys)) (take_all t.opened.count (store_keys t) (omega arith))
