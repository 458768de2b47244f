-- One record: the keys in the scratch, and the answer for each way through questions 13 to 21.
-- Assumes nothing.
use mathlib.Core.Path.{◌≡◌, refl, sym, ap, ◌∙◌}
use mathlib.Core.List.{List, ◌++◌}
use mathlib.Core.Bool.{Bool, true, false}
use Prim.Native.Nat.{ℕ, ◌+◌, ◌-◌, ◌≤◌}
use native.Mathlib.Omega.{arith}
use lib.Dec.{eqb, leb}
use lib.ListN.{length, get_or, take, drop, length-append, length-drop}
use lib.Seq.{sets, sets-eq, length-take-le, take-take}
use borrow.Author.Tests.{le-leb, eq-eqb, ne_eqb}
use Rattle.num.specs.Choice.{when◌then◌else◌}
use Rattle.num.proofs.Copy.{copied}
use Rattle.num.proofs.Lists.{part_length, part_sets_before, part_sets_same, drop_sets_behind}
use Rattle.sstable.specs.declared.Kind.{Kind}
use Rattle.sstable.specs.declared.Kind.TheVariants.{Put, Tombstone}
use Rattle.sstable.specs.Kind.{kind_of}
use Rattle.sstable.specs.Limits.{within_limits}
use Rattle.block.specs.declared.Record.{Record}
use Rattle.block.specs.declared.EntryHeader.{EntryHeader}
use Rattle.block.specs.EntryHeader.{entry_header_of, entry_header_for, entry_header_kind}
use Rattle.block.specs.Record.{record_at, record_at_for}
use Rattle.refusal.specs.Refusal.{ask_of}
use Rattle.std.specs.Result.{IsErrAnd}
use Rattle.std.proofs.lemmas.Result.{err_from_is_err_and}
use Rattle.refusal.proofs.Asked.{refused_ok, same_refusal}
use Rattle.block.specs.Walk.{Entry, entry_of}
use Rattle.block.proofs.Step.{record_inside, step_met, step_stop, key_copied}
use Rattle.header.specs.declared.Opened.{Opened}
use Rattle.std.specs.Prelude.{Result, Ok, Err}
use Rattle.refusal.specs.declared.Refusal.{Refusal}
use Rattle.refusal.specs.declared.Refusal.TheVariants as refusal
use Rattle.arena.specs.declared.Cursor.{Cursor}
use Rattle.versions.specs.Version.{visit_of}
use Rattle.validate.specs.declared.Carried.{Carried}
use Rattle.validate.specs.Walk.{Inputs, placed, value_of, progress_for, entry_asked}
use Rattle.validate.specs.Internal.{State, progress_of, asked_from, record_asked, step_asked, asked_at, inputs_with, state_in, Held, Lies, entry_in}

-- ---- question 13

-- what a `?` hands on
pub handed_on : {A : Type 0} (r : Result A Refusal) (x : Refusal) → IsErrAnd r (λ y. y ≡ x) → r ≡ Err x
handed_on r x is =
    let p = err_from_is_err_and r is in
    p.1 ∙ ap (λ (z : Refusal). Err z) p.2

-- a question that is answered with no
pub answered_no : (b : Bool) (e x : Refusal) → Err x ≡ ask_of b e → (b ≡ false) × (x ≡ e)
unfolding when◌then◌else◌
answered_no true e x q = refused_ok q
answered_no false e x q = (refl, same_refusal q)

-- a question of 13 in front of an answer that only 13 refuses
only_13 : {A : Type 0} (b : Bool) (r : Result A Refusal) (x : Refusal) → (when b then r else Err refusal.Entry) ≡ Err x
    → (r ≡ Err x → x ≡ refusal.Entry) → x ≡ refusal.Entry
unfolding when◌then◌else◌
only_13 true r x e h = h e
only_13 false r x e h = sym (same_refusal e)

kind_refused : (n : ℕ) (x : Refusal) → kind_of n ≡ Err x → x ≡ refusal.Entry
unfolding kind_of when◌then◌else◌
kind_refused n x e = go (eqb n 1) (eqb n 2) e
  where
    go : (a b : Bool) → (when a then Ok Put else when b then Ok Tombstone else Err refusal.Entry) ≡ Err x → x ≡ refusal.Entry
    go true b q = refused_ok (sym q)
    go false true q = refused_ok (sym q)
    go false false q = sym (same_refusal q)

header_refused : (s : List ℕ) (end pos : ℕ) (x : Refusal) → entry_header_of s end pos ≡ Err x → x ≡ refusal.Entry
unfolding entry_header_of entry_header_kind entry_header_for
header_refused s end pos x e = only_13 _ _ x e (go (kind_of (get_or s pos 0)) (kind_refused (get_or s pos 0) x))
  where
    go : (k : Result Kind Refusal) → (k ≡ Err x → x ≡ refusal.Entry) → entry_header_kind s end pos k ≡ Err x → x ≡ refusal.Entry
    go (Ok k) h q = only_13 _ _ x q (λ p. only_13 _ _ x p (λ r. refused_ok (sym r)))
    go (Err y) h q = h (ap (λ (z : Refusal). Err z) (same_refusal q))

-- an entry that does not stand is refused by 13
record_refused : (s : List ℕ) (end pos keyLen : ℕ) (x : Refusal) → record_at s end pos keyLen ≡ Err x → x ≡ refusal.Entry
unfolding record_at record_at_for
record_refused s end pos keyLen x e = go (entry_header_of s end pos) (header_refused s end pos x) e
  where
    go : (h : Result EntryHeader Refusal) → (h ≡ Err x → x ≡ refusal.Entry) → record_at_for pos keyLen h ≡ Err x → x ≡ refusal.Entry
    go (Ok h) f q = only_13 _ _ x q (λ p. refused_ok (sym p))
    go (Err y) f q = f (ap (λ (z : Refusal). Err z) (same_refusal q))

-- behind a record that was visited
visited_at : ℕ → State → Entry → Result Cursor Refusal → Result (ℕ × State) Refusal
visited_at next st e v = asked_from next e.key (progress_for (progress_of st) e v)

-- ---- the keys in the scratch

-- parts cut by their ends
pub visit_parts : (s «data» : List ℕ) (o : Opened) (end : ℕ) (c : Cursor) (scratch : List ℕ) (half p k seq : ℕ) (kind : Kind) (place size : ℕ)
    → place + size ≤ length «data»
    → visit_of s o end c (take (half + p - half) (drop half scratch))
    (record { key = take k scratch; seq = seq; kind = kind; place = place; size = length (take (place + size - place) (drop place «data»)) })
    (take (place + size - place) (drop place «data»))
    ≡ visit_of s o end c (take p (drop half scratch)) (record { key = take k scratch; seq = seq; kind = kind; place = place; size = size }) (take size (drop place «data»))
visit_parts s «data» o end c scratch half p k seq kind place size h =
    let n : half + p - half ≡ p = omega arith in
    let m : place + size - place ≡ size = omega arith in
    let l : length (take (place + size - place) (drop place «data»)) ≡ size =
    ap (λ (j : ℕ). length (take j (drop place «data»))) m ∙ part_length «data» place size h in
    λ i. visit_of s o end c (take (n i) (drop half scratch)) (record { key = take k scratch; seq = seq; kind = kind; place = place; size = l i }) (take (m i) (drop place «data»))

-- the key that is copied behind its half
pub key_kept : (s front back last : List ℕ) (half count : ℕ) → count ≤ half → half + half ≤ length s → front ≡ take half s → back ≡ drop half s
    → last ≡ sets back 0 (take count front) → front ++ last ≡ sets s half (take count s)
key_kept s front back last half count h l f b e =
    let p : take count front ≡ take count s = ap (take count) f ∙ take-take count half s h in
    let n : length (take count s) ≡ count = length-take-le count s (omega arith) in
    let behind : 0 + length (take count s) ≡ count = omega (arith, n) in
    let set : sets (drop half s) 0 (take count s) ≡ take count s ++ drop count (drop half s) =
    sets-eq (take count s) (drop half s) 0 (omega (arith, n, length-drop half s)) ∙ ap (λ (k : ℕ). take count s ++ drop k (drop half s)) behind in
    rw (e, p, f, b) (ap (λ (r : List ℕ). take half s ++ r) set ∙ copied s (take count s) half count (omega arith) n)

module _ (half : ℕ) (scratch : List ℕ) (w : Carried) (n : ℕ) (c : Cursor) (h : n ≤ half) (l : half + half ≤ length scratch) where
  -- a key's first record leaves its key as the last one
  pub moved_first : (kept : List ℕ) → kept ≡ sets scratch half (take n scratch) → w.cursor.remaining ≡ 0
      → state_in half kept (record { key_len = n; previous_len = n; cursor = c })
      ≡ record { key = take n scratch; previous = when◌then◌else◌ (eqb w.cursor.remaining 0) (take n scratch) (take w.previous_len (drop half scratch)); cursor = c }
  unfolding state_in when◌then◌else◌
  moved_first kept k z =
      let m : length (take n scratch) ≡ n = length-take-le n scratch (omega arith) in
      let front : take n kept ≡ take n scratch = ap (take n) k ∙ part_sets_before (take n scratch) scratch half 0 n (omega arith) in
      let behind : take n (drop half kept) ≡ take n scratch =
      ap (λ (j : ℕ). take j (drop half kept)) (sym m) ∙ ap (λ (l : List ℕ). take (length (take n scratch)) (drop half l)) k ∙ part_sets_same (take n scratch) scratch half (omega arith) in
      rw (eq-eqb w.cursor.remaining 0 z) (λ i. record { key = front i; previous = behind i; cursor = c })

  -- another leaves the last key
  pub moved_later : (w.cursor.remaining ≡ 0 → ⊥)
      → state_in half scratch (record { key_len = n; previous_len = w.previous_len; cursor = c })
      ≡ record { key = take n scratch; previous = when◌then◌else◌ (eqb w.cursor.remaining 0) (take n scratch) (take w.previous_len (drop half scratch)); cursor = c }
  unfolding state_in when◌then◌else◌
  moved_later z = rw (ne_eqb w.cursor.remaining 0 z)

-- a key that is held is as long as it says
pub held_length : (half : ℕ) (scratch : List ℕ) (w : Carried) → half + half ≤ length scratch → Held half w → length (take w.key_len scratch) ≡ w.key_len
held_length half scratch w l h = let k = h.key in length-take-le w.key_len scratch (omega arith)

-- ---- the answers

module _ (s «data» : List ℕ) (o : Opened) (end half offset : ℕ) (raw scratch : List ℕ) (w : Carried) (r : Record)
    (i : Lies (length raw) w.key_len r) (l : half + half ≤ length scratch) (h : Held half w) where
  own_length : length (take (r.key_len - r.shared) (drop (r.place - (r.key_len - r.shared)) raw)) ≡ r.key_len - r.shared
  own_length =
      part_length raw (r.place - (r.key_len - r.shared)) (r.key_len - r.shared) (omega (arith, i.longer, i.own, i.inside))

  key_len : length (take w.key_len scratch) ≡ w.key_len
  key_len = held_length half scratch w l h

  -- the record, its value's place counted in the data
  entry : Entry
  entry = placed offset (entry_in raw (take w.key_len scratch) r)

  entry_length : length entry.key ≡ r.key_len
  unfolding entry placed entry_in
  entry_length =
      let a = i.shared in
      let b = i.longer in
      let k = key_len in
      length-append (take r.shared (take w.key_len scratch)) (take (r.key_len - r.shared) (drop (r.place - (r.key_len - r.shared)) raw))
      ∙ (λ x. length-take-le r.shared (take w.key_len scratch) (omega arith) x + own_length x)
      ∙ omega arith

  limits : (t : Bool) → within_limits r.key_len r.size ≡ t → within_limits (length entry.key) entry.size ≡ t
  unfolding entry placed entry_in
  limits t q = ap (λ (n : ℕ). within_limits n r.size) entry_length ∙ q

  -- question 14 fails
  pub asked_14 : (n : Refusal) → Err n ≡ ask_of (within_limits r.key_len r.size) refusal.Limits
      → Err n ≡ record_asked (inputs_with s «data» o end half) (state_in half scratch w) r.next (placed offset (entry_in raw (take w.key_len scratch) r))
  unfolding record_asked entry_asked asked_from when◌then◌else◌ entry
  asked_14 n x =
      let q = answered_no _ _ _ x in
      rw (q.1, limits false q.0)

  -- question 15 fails
  pub asked_15 : (n : Refusal) → within_limits r.key_len r.size ≡ true → Err n ≡ ask_of (leb r.key_len half) refusal.KeyRoom
      → Err n ≡ record_asked (inputs_with s «data» o end half) (state_in half scratch w) r.next (placed offset (entry_in raw (take w.key_len scratch) r))
  unfolding record_asked entry_asked asked_from when◌then◌else◌ entry
  asked_15 n q x =
      let m = answered_no _ _ _ x in
      rw (m.1, limits true q, ap (λ (k : ℕ). leb k half) entry_length ∙ m.0)

  module _ (q : within_limits r.key_len r.size ≡ true) (m : r.key_len ≤ half) (copied : List ℕ)
      (z : copied ≡ sets scratch r.shared (take (r.key_len - r.shared) (drop (r.place - (r.key_len - r.shared)) raw)))
    where
      asked-visit : record_asked (inputs_with s «data» o end half) (state_in half scratch w) r.next entry
          ≡ visited_at r.next (state_in half scratch w) entry
          (visit_of s o end w.cursor (take w.previous_len (drop half scratch)) entry (value_of «data» entry))
      unfolding record_asked entry_asked visited_at progress_of when◌then◌else◌ state_in
      asked-visit = rw (limits true q, le-leb (length entry.key) half (rw entry_length m))

      -- the scratch with the key's own bytes copied holds the key at its front, and the last key
      front : take r.key_len copied ≡ entry.key
      unfolding entry placed entry_in
      front =
          let own = take (r.key_len - r.shared) (drop (r.place - (r.key_len - r.shared)) raw) in
          let a = i.longer in
          let n : r.shared + length own ≡ r.key_len = omega (arith, own_length) in
          ap (take r.key_len) z
          ∙ ap (λ (k : ℕ). take k (sets scratch r.shared own)) (sym n)
          ∙ key_copied scratch (take w.key_len scratch) own r.shared (ap (λ (k : ℕ). take k scratch) key_len) (omega (arith, key_len, i.shared)) (omega arith)

      behind : take w.previous_len (drop half copied) ≡ take w.previous_len (drop half scratch)
      behind =
          let own = take (r.key_len - r.shared) (drop (r.place - (r.key_len - r.shared)) raw) in
          ap (take w.previous_len) (ap (drop half) z ∙ drop_sets_behind own scratch r.shared half (omega (arith, own_length, i.longer)))

      module _ (v : Result Cursor Refusal)
          (g : v ≡ visit_of s o end w.cursor (take w.previous_len (drop half copied))
          (record { key = take r.key_len copied; seq = r.seq; kind = r.kind; place = offset + r.place; size = r.size })
          (take r.size (drop (offset + r.place) «data»)))
        where
          visited-entry : v ≡ visit_of s o end w.cursor (take w.previous_len (drop half scratch)) entry (value_of «data» entry)
          unfolding entry placed entry_in value_of
          visited-entry =
              g
              ∙ (λ x. visit_of s o end w.cursor (behind x)
              (record { key = front x; seq = r.seq; kind = r.kind; place = offset + r.place; size = r.size })
              (take r.size (drop (offset + r.place) «data»)))

          asked-visited : visited_at r.next (state_in half scratch w) entry v
              ≡ record_asked (inputs_with s «data» o end half) (state_in half scratch w) r.next entry
          asked-visited = ap (visited_at r.next (state_in half scratch w) entry) visited-entry ∙ sym asked-visit

          -- the visit refuses
          pub asked_refused : (n : Refusal) → v ≡ Err n
              → Err n ≡ record_asked (inputs_with s «data» o end half) (state_in half scratch w) r.next (placed offset (entry_in raw (take w.key_len scratch) r))
          unfolding visited_at progress_for asked_from entry
          asked_refused n x = sym (ap (visited_at r.next (state_in half scratch w) entry) x) ∙ asked-visited

          -- the visit goes on
          pub asked_went : (d : Cursor) → v ≡ Ok d
              → Ok (
                r.next,
                record {
                  key = take r.key_len copied;
                  previous = when◌then◌else◌ (eqb w.cursor.remaining 0) (take r.key_len copied) (take w.previous_len (drop half copied));
                  cursor = d;
                },
              )
              ≡ record_asked (inputs_with s «data» o end half) (state_in half scratch w) r.next (placed offset (entry_in raw (take w.key_len scratch) r))
          unfolding visited_at progress_for progress_of asked_from state_in entry
          asked_went d x =
              (λ y. Ok (r.next, record { key = front y; previous = when◌then◌else◌ (eqb w.cursor.remaining 0) (front y) (behind y); cursor = d }))
              ∙ sym (ap (visited_at r.next (state_in half scratch w) entry) x)
              ∙ asked-visited

module _ (t : Inputs) (offset : ℕ) (raw : List ℕ) (entriesEnd pos half : ℕ) (scratch : List ℕ) (w : Carried) (k : length (take w.key_len scratch) ≡ w.key_len) where
  -- question 13 fails
  pub asked_13 : (n : Refusal) → record_at raw entriesEnd pos w.key_len ≡ Err n → Err n ≡ asked_at t offset raw entriesEnd pos (state_in half scratch w)
  unfolding asked_at step_asked state_in
  asked_13 n e =
      ap (λ (x : Refusal). Err x) (record_refused raw entriesEnd pos w.key_len n e)
      ∙ sym (ap (step_asked t offset (state_in half scratch w)) (step_stop raw entriesEnd pos (take w.key_len scratch) n (ap (record_at raw entriesEnd pos) k ∙ e)))

  -- a record that is met lies in the block
  pub met_lies : (r : Record) → entriesEnd ≤ length raw → record_at raw entriesEnd pos w.key_len ≡ Ok r → Lies (length raw) w.key_len r
  met_lies r l e =
      let i = record_inside raw entriesEnd pos w.key_len r e in
      record { shared = i.shared; longer = i.longer; own = omega (arith, i.place); inside = omega (arith, i.next, i.inside) }

  -- and goes on to question 14
  pub asked_met : (r : Record) → record_at raw entriesEnd pos w.key_len ≡ Ok r
      → record_asked t (state_in half scratch w) r.next (placed offset (entry_in raw (take w.key_len scratch) r))
      ≡ asked_at t offset raw entriesEnd pos (state_in half scratch w)
  unfolding asked_at step_asked state_in entry_in entry_of
  asked_met r e =
      let i = record_inside raw entriesEnd pos w.key_len r e in
      let n : r.place - (r.key_len - r.shared) ≡ pos + 21 = omega (arith, i.place) in
      let same : entry_in raw (take w.key_len scratch) r ≡ entry_of raw pos (take w.key_len scratch) r =
      λ x. record {
        key = take r.shared (take w.key_len scratch) ++ take (r.key_len - r.shared) (drop (n x) raw);
        seq = r.seq;
        kind = r.kind;
        place = r.place;
        size = r.size;
      } in
      ap (λ (y : Entry). record_asked t (state_in half scratch w) r.next (placed offset y)) same
      ∙ sym (ap (step_asked t offset (state_in half scratch w)) (step_met raw entriesEnd pos (take w.key_len scratch) r (ap (record_at raw entriesEnd pos) k ∙ e)))
