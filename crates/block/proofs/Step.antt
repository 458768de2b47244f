-- One step of the walk: what `record_at` answers with the key, and where the record met lies.
-- Assumes nothing.
use mathlib.Core.Path.{◌≡◌, refl, sym, ap, ap₂, ◌∙◌, subst}
use mathlib.Core.List.{List, ◌++◌}
use Prim.Native.Nat.{ℕ, ◌+◌, ◌-◌, ◌<◌, ◌≤◌}
use native.Mathlib.Omega.{arith}
use lib.ListN.{length, get_or, take, drop, length-append, length-drop}
use lib.Seq.{sets, length-take-le, take-take}
use borrow.Author.Tests.{leb-true}
use Rattle.num.specs.Number.{le_at, Bytes}
use Rattle.num.proofs.Lists.{bytes_take, bytes_drop, bytes_append}
use Rattle.num.proofs.Copy.{take_sets}
use Rattle.sstable.specs.Kind.{kind_of}
use Rattle.sstable.specs.declared.Kind.TheVariants.{Tombstone}
use Rattle.refusal.specs.declared.Refusal.{Refusal}
use Rattle.std.specs.Prelude.{Result, Ok, Err}
use Rattle.refusal.proofs.Asked.{refused_ok, same_ok, asked}
use Rattle.block.specs.declared.EntryHeader.{EntryHeader}
use Rattle.block.specs.declared.Record.{Record}
use Rattle.block.specs.EntryHeader.{entry_header_of, SoundEntry}
use Rattle.block.specs.Record.{record_from, record_at_for, record_at}
use Rattle.block.specs.Walk.{Entry, met, stop, step_for, step_of, entry_of}
use Rattle.block.proofs.Header.{entry_exactly}

-- ---- the record that is answered

-- what a record that is answered was made of
record Answered (s : List ℕ) (end pos keyLen : ℕ) (r : Record) : Type 0 where
  header : EntryHeader
  passes : entry_header_of s end pos ≡ Ok header
  shared : header.shared ≤ keyLen
  made : record_from pos header ≡ r

answered_for : (s : List ℕ) (end pos keyLen : ℕ) (r : Record) (q : Result EntryHeader Refusal) → entry_header_of s end pos ≡ q → record_at_for pos keyLen q ≡ Ok r → Answered s end pos keyLen r
unfolding record_at_for
answered_for s end pos keyLen r (Ok h) p e =
    let k = asked _ _ _ r e in
    record { header = h; passes = p; shared = leb-true _ _ k.0; made = same_ok k.1 }
answered_for s end pos keyLen r (Err x) p e = refused_ok e

answered : (s : List ℕ) (end pos keyLen : ℕ) (r : Record) → record_at s end pos keyLen ≡ Ok r → Answered s end pos keyLen r
unfolding record_at
answered s end pos keyLen r e = answered_for s end pos keyLen r (entry_header_of s end pos) refl e

-- what a view of the bytes answers
pub record_in : (pos keyLen : ℕ) {s t : List ℕ} {m n : ℕ} {q : Result Record Refusal} → t ≡ s → n ≡ m → q ≡ record_at t n pos keyLen → record_at s m pos keyLen ≡ q
record_in pos keyLen e f h = sym (h ∙ ap₂ (λ (u : List ℕ) (k : ℕ). record_at u k pos keyLen) e f)

-- where a record that is answered lies
pub record RecordInside (end pos keyLen : ℕ) (r : Record) : Type 0 where
  pub shared : r.shared ≤ keyLen
  pub longer : r.shared ≤ r.key_len
  pub place : pos + 21 + (r.key_len - r.shared) ≡ r.place
  pub next : r.place + r.size ≡ r.next
  pub inside : r.next ≤ end

pub record_inside : (s : List ℕ) (end pos keyLen : ℕ) (r : Record) → record_at s end pos keyLen ≡ Ok r → RecordInside end pos keyLen r
unfolding record_from
record_inside s end pos keyLen r e =
    let a = answered s end pos keyLen r e in
    let h = a.header in
    let l = a.shared in
    let f = ((entry_exactly s end pos h).0 a.passes).inside in
    subst (RecordInside end pos keyLen) a.made
    (record { shared = l; longer = omega arith; place = omega arith; next = refl; inside = f })

-- ---- the record with its key

-- a step behind a key of that length meets what `record_at` answers, with the key
pub step_met : (s : List ℕ) (end pos : ℕ) (prev : List ℕ) (r : Record) → record_at s end pos (length prev) ≡ Ok r
    → step_of s end pos prev ≡ met (entry_of s pos prev r) r.next
unfolding step_of step_for
step_met s end pos prev r e = ap (step_for s pos prev) e

-- and stops where `record_at` stops
pub step_stop : (s : List ℕ) (end pos : ℕ) (prev : List ℕ) (x : Refusal) → record_at s end pos (length prev) ≡ Err x → step_of s end pos prev ≡ stop
unfolding step_of step_for
step_stop s end pos prev x e = ap (step_for s pos prev) e

-- ---- a step that meets an entry

-- what stands there, and where it lies
pub record Moved (s : List ℕ) (end pos : ℕ) (prev : List ℕ) (e : Entry) (next : ℕ) : Type 0 where
  pub kind : kind_of (get_or s pos 0) ≡ Ok e.kind
  pub seq : le_at s (pos + 13) 8 ≡ e.seq
  pub size : le_at s (pos + 9) 4 ≡ e.size
  pub tombstone_empty : e.kind ≡ Tombstone → e.size ≡ 0
  pub shared : le_at s (pos + 1) 4 ≤ length prev
  pub key : e.key ≡ take (le_at s (pos + 1) 4) prev ++ take (le_at s (pos + 5) 4) (drop (pos + 21) s)
  pub place : e.place ≡ pos + 21 + le_at s (pos + 5) 4
  pub behind : pos + 21 ≤ e.place
  pub value_inside : e.place + e.size ≤ end
  pub next_place : next ≡ e.place + e.size
  pub forward : pos < next
  pub within : next ≤ end

made_moved : (s : List ℕ) (end pos : ℕ) (prev : List ℕ) (h : EntryHeader) → SoundEntry s end pos h → h.shared ≤ length prev
    → Moved s end pos prev (entry_of s pos prev (record_from pos h)) (record_from pos h).next
unfolding entry_of record_from
made_moved s end pos prev h f l =
    let n = f.non_shared in
    let i = f.inside in
    let m = f.shared in
    let own : h.shared + h.non_shared - h.shared ≡ le_at s (pos + 5) 4 = omega arith in
    record {
      kind = f.kind;
      seq = f.seq;
      size = f.value_len;
      tombstone_empty = f.tombstone_empty;
      shared = omega arith;
      key = λ j. take (sym m j) prev ++ take (own j) (drop (pos + 21) s);
      place = omega arith;
      behind = omega arith;
      value_inside = i;
      next_place = refl;
      forward = omega arith;
      within = i;
    }

moved_for : (s : List ℕ) (end pos : ℕ) (prev : List ℕ) (e : Entry) (next : ℕ) (q : Result Record Refusal)
    → record_at s end pos (length prev) ≡ q → step_for s pos prev q ≡ met e next → Moved s end pos prev e next
unfolding step_for
moved_for s end pos prev e next (Ok r) p t =
    let a = answered s end pos (length prev) r p in
    let x : entry_of s pos prev r ≡ e = cc in
    let y : r.next ≡ next = cc in
    subst (λ (z : Entry). Moved s end pos prev z next) x
    (subst (Moved s end pos prev (entry_of s pos prev r)) y
    (subst (λ (z : Record). Moved s end pos prev (entry_of s pos prev z) z.next) a.made
    (made_moved s end pos prev a.header ((entry_exactly s end pos a.header).0 a.passes) a.shared)))
moved_for s end pos prev e next (Err x) p t = absurd (let z : ◌≡◌ {A = ℕ} 0 1 = cc in omega arith)

pub step_moved : (s : List ℕ) (end pos : ℕ) (prev : List ℕ) (e : Entry) (next : ℕ) → step_of s end pos prev ≡ met e next → Moved s end pos prev e next
unfolding step_of
step_moved s end pos prev e next t = moved_for s end pos prev e next (record_at s end pos (length prev)) refl t

-- the key is as long as its two lengths say, in data that reach to the end of the entries
pub key_length : (s : List ℕ) (end pos : ℕ) (prev : List ℕ) (e : Entry) (next : ℕ) → end ≤ length s → step_of s end pos prev ≡ met e next
    → length e.key ≡ le_at s (pos + 1) 4 + le_at s (pos + 5) 4
key_length s end pos prev e next h t =
    let m = step_moved s end pos prev e next t in
    let p = m.place in
    let v = m.value_inside in
    let d : le_at s (pos + 5) 4 ≤ length (drop (pos + 21) s) = rw length-drop (omega arith) in
    ap length m.key
    ∙ length-append (take (le_at s (pos + 1) 4) prev) (take (le_at s (pos + 5) 4) (drop (pos + 21) s))
    ∙ (λ i. length-take-le (le_at s (pos + 1) 4) prev m.shared i + length-take-le (le_at s (pos + 5) 4) (drop (pos + 21) s) d i)

-- keys of bytes are met in data of bytes
pub key_bytes : (s : List ℕ) (end pos : ℕ) (prev : List ℕ) (e : Entry) (next : ℕ) → Bytes s → Bytes prev → step_of s end pos prev ≡ met e next → Bytes e.key
key_bytes s end pos prev e next b p t =
    let m = le_at s (pos + 1) 4 in
    let n = le_at s (pos + 5) 4 in
    subst Bytes (sym (step_moved s end pos prev e next t).key)
    (bytes_append (take m prev) (take n (drop (pos + 21) s)) (bytes_take m prev p) (bytes_take n (drop (pos + 21) s) (bytes_drop (pos + 21) s b)))

-- ---- the key in the scratch

-- if the front of the scratch holds the previous key, it holds the new one once the bytes not shared are copied behind the shared ones
pub key_copied : (scratch prev new : List ℕ) (shared : ℕ) → take (length prev) scratch ≡ prev → shared ≤ length prev → shared + length new ≤ length scratch
    → take (shared + length new) (sets scratch shared new) ≡ take shared prev ++ new
key_copied scratch prev new shared e h l =
    take_sets scratch new shared l
    ∙ ap (λ (x : List ℕ). x ++ new) (sym (take-take shared (length prev) scratch h) ∙ ap (take shared) e)
