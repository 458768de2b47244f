-- The walk over the records goes through, and ends with the arena, exactly if the records agree with it.
-- Assumes nothing.
use mathlib.Core.Path.{◌≡◌, refl, sym, ap, ◌∙◌, subst, subst⁻¹, subst₂}
use mathlib.Core.List.{List, [], ◌∷◌}
use mathlib.Core.Bool.{Bool, true, false}
use mathlib.Core.Logic.{◌↔◌}
use Prim.Native.Nat.{ℕ, suc, ◌+◌, ◌/◌, ◌<◌, ◌≤◌}
use native.Mathlib.Omega.{arith}
use lib.Dec.{eqb}
use lib.ListN.{length, drop}
use lib.Seq.{drop-cons}
use borrow.Author.Tests.{eqb-true, eqb-false, eq-eqb, ne_eqb}
use Rattle.num.specs.Number.{le_at}
use Rattle.num.specs.Order.{less_than}
use Rattle.num.proofs.Choice.{if_true, if_false}
use Rattle.num.proofs.Steps.{first_or_later}
use Rattle.block.specs.Walk.{Entry}
use Rattle.header.specs.declared.Opened.{Opened}
use Rattle.arena.specs.declared.Cursor.{Cursor}
use Rattle.arena.specs.Key.{slot_place}
use Rattle.versions.specs.Version.{advanced, visit_of}
use Rattle.std.specs.Prelude.{Ok}
use Rattle.validate.specs.Walk.{Inputs, value_of, Progress, entry_asked, entries_from}
use Rattle.opening.specs.Open.{start_of, ends_together, prefixes_counted, inputs_of}
use Rattle.validate.proofs.Entries.{entries_passed, passed_entries}
use Rattle.agreement.specs.Keys.{address_of, version_count, key_at, key_hash, key_slot, first_version, version_seq, prefix_count}
use Rattle.agreement.specs.Agrees.{no_entry_of, entry_at, KeyStands, Agrees}
use Rattle.agreement.specs.Internal.{Walked}
use Rattle.agreement.proofs.Indices.{version_before, same_version}
use Rattle.agreement.proofs.Same.{end_is, slot_is}
use Rattle.agreement.proofs.Visit.{Before, Within, Counted, KeyAsked, VersionAsked, behind_first, key_visit, visit_key, key_behind, version_visit, visit_version, version_behind}
use Rattle.agreement.proofs.Progress.{behind, Limited, record_passed, passed_record, Stands, before, within, settled, start_stands, start_counted, ends_exactly, prefixes_exactly}

-- the first of the records that are left is the one of that index
entry_is : (es rest : List Entry) (r : ℕ) (e : Entry) → drop r es ≡ e ∷ rest → r < length es → (e ≡ entry_at es r) × (drop (suc r) es ≡ rest)
unfolding entry_at
entry_is es rest r e d h = let f = drop-cons es r no_entry_of h in (cc, cc)

cursor_of : {p q : Progress} → p ≡ q → p.cursor ≡ q.cursor
cursor_of u = ap (λ (x : Progress). x.cursor) u

previous_of : {p q : Progress} → p ≡ q → p.previous ≡ q.previous
previous_of u = ap (λ (x : Progress). x.previous) u

module _ (t : Inputs) (es : List Entry) where
  open t use {section as s, backing as «data», opened as o, end}

  -- the end of the walk, as questions 22 and 23 ask it
  record Ended (q : Progress) : Type 0 where
    at_end : q.cursor.pos ≡ end
    none_left : q.cursor.remaining ≡ 0
    all_keys : q.cursor.groups ≡ o.count
    counted : prefixes_counted t q.cursor ≡ true

  -- questions 20 and 21 of a record beside version j of key k
  abbrev Beside : ℕ → ℕ → Entry → Type 0
  Beside k j e = VersionAsked s o k j e (value_of «data» e)

  -- and of the record of that version's index
  abbrev Met : ℕ → ℕ → Type 0
  Met k j = Beside k j (entry_at es (first_version s o k + j))

  -- what is left to hold where k keys were entered and r records visited
  record Left (k r : ℕ) : Type 0 where
    limits : (x : ℕ) → r ≤ x → x < length es → Limited t (entry_at es x)
    keys : (i : ℕ) → k ≤ i → i < o.count → KeyAsked s o end i (key_at s o i)
    versions : (i j : ℕ) → i < o.count → j < version_count s o i → r ≤ first_version s o i + j → Met i j
    arena_end : o.arena + address_of s o o.count ≡ end
    records_end : first_version s o o.count ≡ length es
    prefixes : (o.scan ≡ 0 → ⊥) → le_at s (o.scan + 16) 8 ≡ prefix_count s o o.count

  -- ---- from the walk to the facts: what is left before a record are its facts and what is left behind it

  more_limits : (r : ℕ) → Limited t (entry_at es r) → ((x : ℕ) → suc r ≤ x → x < length es → Limited t (entry_at es x))
      → (x : ℕ) → r ≤ x → x < length es → Limited t (entry_at es x)
  more_limits r l f x h n = first_or_later (λ (y : ℕ). Limited t (entry_at es y)) r x h l (λ m. f x m n)

  more_versions : (r i j : ℕ) → j < version_count s o i → r ≡ first_version s o i + j → Met i j
      → ((x y : ℕ) → x < o.count → y < version_count s o x → suc r ≤ first_version s o x + y → Met x y)
      → (x y : ℕ) → x < o.count → y < version_count s o x → r ≤ first_version s o x + y → Met x y
  more_versions r i j h q v f x y n l m = go (eqb r (first_version s o x + y)) refl
    where
      go : (b : Bool) → eqb r (first_version s o x + y) ≡ b → Met x y
      go true e =
          let z : r ≡ first_version s o x + y = eqb-true _ _ e in
          let same = same_version s o i j x y h l (sym q ∙ z) in
          subst₂ (λ (a b : ℕ). Met a b) same.0 same.1 v
      go false e = let z = eqb-false r (first_version s o x + y) e in f x y n l (omega arith)

  ended_left : (r k : ℕ) (p : Progress) → r ≡ length es → Stands t k r p.cursor → Counted s o k p.previous p.cursor → Ended p → Left k r
  ended_left r k p l (before b f) m w =
      let n : k ≡ o.count = sym b.groups ∙ w.all_keys in
      let a = ap (address_of s o) n in
      let v = ap (first_version s o) n in
      let x = b.pos in
      let y = w.at_end in
      record {
        limits = λ i h j. absurd (omega arith);
        keys = λ i h j. absurd (omega arith);
        versions = λ i j h q u. absurd (let z = version_before s o i j o.count q h in omega arith);
        arena_end = omega arith;
        records_end = omega arith;
        prefixes = λ z. (prefixes_exactly t k p.previous p.cursor m).0 w.counted z ∙ ap (prefix_count s o) n;
      }
  ended_left r k p l (within i j q v h f) m w = absurd (let x = v.remaining in let y = w.none_left in omega arith)

  module _ (r k : ℕ) (p q : Progress) (e : Entry) (d : Cursor) (x : e ≡ entry_at es r) (m : Counted s o k p.previous p.cursor)
      (l : Limited t e) (v : visit_of s o end p.cursor p.previous e (value_of «data» e) ≡ Ok d) (u : behind p e d ≡ q)
    where
      key_left : Before s o k p.cursor → r ≡ first_version s o k
          → (Stands t (suc k) (suc r) q.cursor → Counted s o (suc k) q.previous q.cursor → Left (suc k) (suc r)) → Left k r
      key_left b f rest =
          let a = key_visit s o end k p.cursor p.previous e (value_of «data» e) b m d v in
          let z = key_behind s o end k p.cursor p.previous e (value_of «data» e) b m a.0.stands.some_version a.1 in
          let g : r ≡ first_version s o k + 0 = omega arith in
          let c = a.2 ∙ cursor_of u in
          let last = sym (if_true (eqb p.cursor.remaining 0) e.key p.previous (eq-eqb p.cursor.remaining 0 b.remaining)) ∙ previous_of u in
          let n = rest (settled t k 0 r q.cursor (subst (Within s o k 1) c z.0) g) (subst₂ (Counted s o (suc k)) last c z.1) in
          record {
            limits = more_limits r (subst (Limited t) x l) n.limits;
            keys = λ i h j.
                first_or_later (λ (y : ℕ). KeyAsked s o end y (key_at s o y)) k i h
                (subst (KeyAsked s o end k) a.1.same.key a.0) (λ y. n.keys i y j);
            versions = more_versions r k 0 a.0.stands.some_version g (subst (λ (y : Entry). Beside k 0 y) (x ∙ ap (entry_at es) g) a.1) n.versions;
            arena_end = n.arena_end;
            records_end = n.records_end;
            prefixes = n.prefixes;
          }

      version-left : (i j : ℕ) → k ≡ suc i → Within s o i j p.cursor → j < version_count s o i → r ≡ first_version s o i + j
          → (Stands t k (suc r) q.cursor → Counted s o k q.previous q.cursor → Left k (suc r)) → Left k r
      version-left i j y w h f rest =
          let a = version_visit s o end i j p.cursor p.previous e (value_of «data» e) w h d v in
          let z = version_behind s o end i j p.cursor p.previous e (value_of «data» e) w h k m a.0 in
          let g = w.remaining in
          let c = a.1 ∙ cursor_of u in
          let last =
          sym (if_false (eqb p.cursor.remaining 0) e.key p.previous (ne_eqb p.cursor.remaining 0 (λ n. omega arith))) ∙ previous_of u in
          let st = settled t i j r q.cursor (subst (Within s o i (suc j)) c z.0) f in
          let n = rest (subst (λ (b : ℕ). Stands t b (suc r) q.cursor) (sym y) st) (subst₂ (Counted s o k) last c z.1) in
          record {
            limits = more_limits r (subst (Limited t) x l) n.limits;
            keys = n.keys;
            versions = more_versions r i j h f (subst (λ (y : Entry). Beside i j y) (x ∙ ap (entry_at es) f) a.0) n.versions;
            arena_end = n.arena_end;
            records_end = n.records_end;
            prefixes = n.prefixes;
          }

  record_left : (r k : ℕ) (p q : Progress) (e : Entry) → e ≡ entry_at es r → Stands t k r p.cursor → Counted s o k p.previous p.cursor
      → entry_asked t p e ≡ Ok q
      → ((i : ℕ) → Stands t i (suc r) q.cursor → Counted s o i q.previous q.cursor → Left i (suc r))
      → Left k r
  record_left r k p q e x (before b f) m a rest =
      let w = record_passed t p q e a in
      key_left r k p q e w.1.0 x m w.0 w.1.1 w.1.2 b f (rest (suc k))
  record_left r k p q e x (within i j y v h f) m a rest =
      let w = record_passed t p q e a in
      version-left r k p q e w.1.0 x m w.0 w.1.1 w.1.2 i j y v h f (rest k)

  forward : (rest : List Entry) (r k : ℕ) (p q : Progress) → drop r es ≡ rest → r + length rest ≡ length es → Stands t k r p.cursor
      → Counted s o k p.previous p.cursor → entries_from t p rest ≡ Ok q → Ended q → Left k r
  unfolding entries_from
  forward [] r k p q d l st m w z = let e : q ≡ p = cc in ended_left r k p (omega arith) st m (subst Ended e z)
  forward (e ∷ rest) r k p q d l st m w z =
      let a = entries_passed t p q e rest w in
      let n = entry_is es rest r e d (omega arith) in
      record_left r k p a.0 e n.0 st m a.1 (λ i st' m'. forward rest (suc r) i a.0 q n.1 (omega arith) st' m' a.2 z)

  -- ---- from the facts to the walk

  -- behind a record: how many keys are entered, and the progress
  record Next (r : ℕ) (p : Progress) (e : Entry) : Type 0 where
    keys : ℕ
    progress : Progress
    few : keys ≤ o.count
    asked : entry_asked t p e ≡ Ok progress
    stands : Stands t keys (suc r) progress.cursor
    counted : Counted s o keys progress.previous progress.cursor

  module _ (f : Left 0 0) where
    -- a key is left to enter where a record is left to visit
    key-remains : (k : ℕ) → k ≤ o.count → first_version s o k < length es → k < o.count
    key-remains k h l =
        let n : k ≡ o.count → ⊥ = λ q. let v = ap (first_version s o) q in let e = f.records_end in omega arith in
        omega arith

    -- and none where none is
    none-remains : (k : ℕ) → k ≤ o.count → length es ≤ first_version s o k → k ≡ o.count
    none-remains k h l =
        let n : k < o.count → ⊥ = λ m.
        let v = version_before s o k 0 o.count (f.keys k (omega arith) m).stands.some_version m in let e = f.records_end in omega arith in
        omega arith

    left_ended : (r k : ℕ) (p : Progress) → r ≡ length es → k ≤ o.count → Stands t k r p.cursor → Counted s o k p.previous p.cursor → Ended p
    left_ended r k p l h (before b g) m =
        let n = none-remains k h (omega arith) in
        let a = ap (address_of s o) n in
        let x = b.pos in
        let y = f.arena_end in
        record {
          at_end = omega arith;
          none_left = b.remaining;
          all_keys = b.groups ∙ n;
          counted = (prefixes_exactly t k p.previous p.cursor m).1 (λ z. f.prefixes z ∙ ap (prefix_count s o) (sym n));
        }
    left_ended r k p l h (within i j y v u g) m =
        absurd (let z = version_before s o i j o.count u (omega arith) in let x = f.records_end in omega arith)

    module _ (r k : ℕ) (p : Progress) (e : Entry) (x : e ≡ entry_at es r) (l : r < length es) (h : k ≤ o.count) (m : Counted s o k p.previous p.cursor) where
      limited : Limited t e
      limited = subst (Limited t) (sym x) (f.limits r (omega arith) l)

      left_key : Before s o k p.cursor → r ≡ first_version s o k → Next r p e
      left_key b g =
          let n = key-remains k h (omega arith) in
          let z : r ≡ first_version s o k + 0 = omega arith in
          let a = f.keys k (omega arith) n in
          let v = subst (λ (y : Entry). Beside k 0 y) (sym (x ∙ ap (entry_at es) z)) (f.versions k 0 n a.stands.some_version (omega arith)) in
          let c = key_behind s o end k p.cursor p.previous e (value_of «data» e) b m a.stands.some_version v in
          record {
            keys = suc k;
            progress = behind p e (behind_first s o k p.cursor p.previous e);
            few = n;
            asked =
                passed_record t p e _ limited
                (visit_key s o end k p.cursor p.previous e (value_of «data» e) b m (subst (KeyAsked s o end k) (sym v.same.key) a) v);
            stands = settled t k 0 r _ c.0 z;
            counted =
                subst (λ (last : List ℕ). Counted s o (suc k) last (behind_first s o k p.cursor p.previous e))
                (sym (if_true (eqb p.cursor.remaining 0) e.key p.previous (eq-eqb p.cursor.remaining 0 b.remaining))) c.1;
          }

      left-version : (i j : ℕ) → k ≡ suc i → Within s o i j p.cursor → j < version_count s o i → r ≡ first_version s o i + j → Next r p e
      left-version i j y w u g =
          let n : i < o.count = omega arith in
          let z = w.remaining in
          let v = subst (λ (a : Entry). Beside i j a) (sym (x ∙ ap (entry_at es) g)) (f.versions i j n u (omega arith)) in
          let c = version_behind s o end i j p.cursor p.previous e (value_of «data» e) w u k m v in
          record {
            keys = k;
            progress = behind p e (advanced o p.cursor e.seq);
            few = h;
            asked = passed_record t p e _ limited (visit_version s o end i j p.cursor p.previous e (value_of «data» e) w u v);
            stands = subst (λ (q : ℕ). Stands t q (suc r) (advanced o p.cursor e.seq)) (sym y) (settled t i j r _ c.0 g);
            counted =
                subst (λ (last : List ℕ). Counted s o k last (advanced o p.cursor e.seq))
                (sym (if_false (eqb p.cursor.remaining 0) e.key p.previous (ne_eqb p.cursor.remaining 0 (λ q. omega arith)))) c.1;
          }

      left-record : Stands t k r p.cursor → Next r p e
      left-record (before b g) = left_key b g
      left-record (within i j y w u g) = left-version i j y w u g

    backward : (rest : List Entry) (r k : ℕ) (p : Progress) → drop r es ≡ rest → r + length rest ≡ length es → k ≤ o.count → Stands t k r p.cursor
        → Counted s o k p.previous p.cursor → (q : Progress) × (entries_from t p rest ≡ Ok q) × Ended q
    unfolding entries_from
    backward [] r k p d l h st m = (p, refl, left_ended r k p (omega arith) h st m)
    backward (e ∷ rest) r k p d l h st m =
        let i = entry_is es rest r e d (omega arith) in
        let n = left-record r k p e i.0 (omega arith) h m st in
        let z = backward rest (suc r) n.keys n.progress i.1 (omega arith) n.few n.stands n.counted in
        (z.0, passed_entries t p n.progress z.0 e rest n.asked z.1, z.2)

-- ---- all facts, by question

module _ (s «data» : List ℕ) (scratch : ℕ) (o : Opened) (es : List Entry) where
  t : Inputs
  t = inputs_of s «data» scratch o

  -- the address and the fingerprint in a key's slot
  slot_holds : (k : ℕ) → le_at s (key_slot s o k) o.encoding.address ≡ le_at s (slot_place s o (key_hash s o k)) o.encoding.address
  slot_holds k = ap (λ (p : ℕ). le_at s p o.encoding.address) (slot_is s o k)

  slot_marks : (k : ℕ) → le_at s (key_slot s o k + o.encoding.address) 2 ≡ le_at s (slot_place s o (key_hash s o k) + o.encoding.address) 2
  slot_marks k = ap (λ (p : ℕ). le_at s (p + o.encoding.address) 2) (slot_is s o k)

  left_agrees : Left t es 0 0 → Agrees s «data» scratch o es
  unfolding t inputs_of key_hash
  left_agrees f =
      record {
        key_limit = λ r h. (f.limits r (omega arith) h).key;
        value_limit = λ r h. (f.limits r (omega arith) h).value;
        scratch_half = λ r h. let l : length (entry_at es r).key ≤ scratch / 2 = (f.limits r (omega arith) h).scratch in omega arith;
        keys = λ k h. subst⁻¹ (λ (end : ℕ). KeyStands s o end k) (end_is s o) (f.keys k (omega arith) h).stands;
        rising = λ k h. (f.keys (suc k) (omega arith) h).rises k refl;
        scanned = λ n k h. (f.keys k (omega arith) h).scanned n;
        slot_address = λ k h. slot_holds k ∙ (f.keys k (omega arith) h).slot_address;
        slot_fingerprint = λ k h. slot_marks k ∙ (f.keys k (omega arith) h).slot_fingerprint;
        versions = λ k j h l. (f.versions k j h l (omega arith)).same;
        falling = λ k j h l.
            let v = f.versions k (suc j) h l (omega arith) in
            let e = v.same.seq in
            let g = v.falls j refl in omega arith;
        checksums = λ c k j h l. (f.versions k j h l (omega arith)).checksum c;
        arena_end = f.arena_end ∙ sym (end_is s o);
        records_end = f.records_end;
        prefixes = f.prefixes;
      }

  agrees_left : Agrees s «data» scratch o es → Left t es 0 0
  unfolding t inputs_of key_hash
  agrees_left a =
      record {
        limits = λ r _ h.
            let l = a.scratch_half r h in
            let m : length (entry_at es r).key ≤ scratch / 2 = omega arith in
            record { key = a.key_limit r h; value = a.value_limit r h; scratch = m };
        keys = λ k _ h.
            record {
              below = h;
              stands = subst (λ (end : ℕ). KeyStands s o end k) (end_is s o) (a.keys k h);
              rises = λ i q. subst (λ (x : ℕ). less_than (key_at s o i) (key_at s o x) ≡ true) (sym q) (a.rising i (subst (λ (x : ℕ). x < o.count) q h));
              scanned = λ n. a.scanned n k h;
              slot_address = sym (slot_holds k) ∙ a.slot_address k h;
              slot_fingerprint = sym (slot_marks k) ∙ a.slot_fingerprint k h;
            };
        versions = λ k j h l _.
            record {
              same = a.versions k j h l;
              falls = λ i q.
                  let g = a.falling k i h (subst (λ (x : ℕ). x < version_count s o k) q l) in
                  let e = (a.versions k j h l).seq in
                  let z = ap (version_seq s o k) q in omega arith;
              checksum = λ c. a.checksums c k j h l;
            };
        arena_end = a.arena_end ∙ end_is s o;
        records_end = a.records_end;
        prefixes = a.prefixes;
      }

  walked_agrees : Walked t es → Agrees s «data» scratch o es
  unfolding t inputs_of
  walked_agrees w =
      left_agrees
      (forward t es es 0 0 (start_of o) w.last refl (omega arith) (start_stands t) (start_counted t) w.through
      (record { at_end = w.at_end; none_left = w.none_left; all_keys = w.all_keys; counted = w.counted }))

  agrees_walked : Agrees s «data» scratch o es → Walked t es
  unfolding t inputs_of
  agrees_walked a =
      let z = backward t es (agrees_left a) es 0 0 (start_of o) refl (omega arith) (omega arith) (start_stands t) (start_counted t) in
      record { last = z.0; through = z.1; at_end = z.2.at_end; none_left = z.2.none_left; all_keys = z.2.all_keys; counted = z.2.counted }

  -- the walk over the records goes through, and ends with the arena and its keys, exactly if the records agree with the arena
  pub walked_exactly : Walked (inputs_of s «data» scratch o) es ↔ Agrees s «data» scratch o es
  unfolding t
  walked_exactly = (walked_agrees, agrees_walked)

  -- the same with the tests of questions 22 and 23, where the pairs end at a place of the data
  pub accepted_exactly : (at : ℕ)
      → ((q : Progress) × (entries_from (inputs_of s «data» scratch o) (start_of o) es ≡ Ok q)
      × (ends_together (inputs_of s «data» scratch o) at q.cursor ≡ true) × (prefixes_counted (inputs_of s «data» scratch o) q.cursor ≡ true))
      ↔ ((at ≡ length «data») × Agrees s «data» scratch o es)
  unfolding t inputs_of
  accepted_exactly at = (to, from)
    where
      to : (q : Progress) × (entries_from t (start_of o) es ≡ Ok q) × (ends_together t at q.cursor ≡ true) × (prefixes_counted t q.cursor ≡ true)
          → (at ≡ length «data») × Agrees s «data» scratch o es
      to w =
          let e = (ends_exactly t at w.0.cursor).0 w.2 in
          (e.0, walked_agrees (record { last = w.0; through = w.1; at_end = e.1; none_left = e.2; all_keys = e.3; counted = w.3 }))

      from : (at ≡ length «data») × Agrees s «data» scratch o es
          → (q : Progress) × (entries_from t (start_of o) es ≡ Ok q) × (ends_together t at q.cursor ≡ true) × (prefixes_counted t q.cursor ≡ true)
      from h =
          let w = agrees_walked h.1 in
          (w.last, w.through, (ends_exactly t at w.last.cursor).1 (h.0, w.at_end, w.none_left, w.all_keys), w.counted)
