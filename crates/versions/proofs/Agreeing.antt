-- Question 20 in plain terms.
-- Assumes nothing.
use mathlib.Core.Path.{◌≡◌, refl, sym, ap, ◌∙◌}
use mathlib.Core.List.{List}
use mathlib.Core.Bool.{true, false}
use Prim.Native.Nat.{ℕ, ◌^◌, ◌<◌}
use native.Mathlib.Omega.{arith}
use borrow.Author.Tests.{ltb-true, lt-ltb, eqb-true, eq-eqb}
use Rattle.num.proofs.Choice.{both_true, true_both, either_second, second_either}
use Rattle.num.proofs.Order.{equal_bytes-true, equal_bytes-same}
use Rattle.sstable.specs.declared.Kind.{Kind}
use Rattle.sstable.specs.declared.Kind.TheVariants.{Put, Tombstone}
use Rattle.block.specs.Walk.{Entry}
use Rattle.header.specs.declared.Opened.{Opened}
use Rattle.arena.specs.declared.Cursor.{Cursor}
use Rattle.versions.specs.Version.{stored_key, stored_seq, stored_value, kind_in, length_in, stored_offset, same_kind, seq_agrees, version_agrees}

-- the test of kinds says yes of the same kind alone
pub same_kind-true : (a b : Kind) → same_kind a b ≡ true → a ≡ b
unfolding same_kind
same_kind-true Put Put e = refl
same_kind-true Put Tombstone e = absurd (let z : ◌≡◌ {A = ℕ} 0 1 = cc in omega arith)
same_kind-true Tombstone Put e = absurd (let z : ◌≡◌ {A = ℕ} 0 1 = cc in omega arith)
same_kind-true Tombstone Tombstone e = refl

pub same_kind-same : (a b : Kind) → a ≡ b → same_kind a b ≡ true
unfolding same_kind
same_kind-same a b e = ap (same_kind a) (sym e) ∙ itself a
  where
    itself : (a : Kind) → same_kind a a ≡ true
    itself Put = refl
    itself Tombstone = refl

-- what question 20 asks of a record at the cursor's version
pub record Agreeing (s : List ℕ) (o : Opened) (c : Cursor) (e : Entry) : Type 0 where
  pub key : e.key ≡ stored_key s o c
  pub falls : c.first ≡ false → e.seq < c.last_seq
  pub seq : stored_seq s o c.pos ≡ e.seq
  pub sum : stored_seq s o c.pos < 2 ^ 64
  pub kind : kind_in o (stored_value s o c.pos) ≡ e.kind
  pub size : length_in o (stored_value s o c.pos) ≡ e.size
  pub place : stored_offset s o c.pos ≡ e.place

pub agreeing : (s : List ℕ) (o : Opened) (c : Cursor) (e : Entry) → version_agrees s o c e ≡ true → Agreeing s o c e
unfolding version_agrees seq_agrees
agreeing s o c e t =
    let a = both_true _ _ t in
    let b = both_true _ _ a.1 in
    let d = both_true _ _ b.1 in
    let q = both_true _ _ d.0 in
    let f = both_true _ _ d.1 in
    let g = both_true _ _ f.1 in
    record {
      key = equal_bytes-true _ _ a.0;
      falls = λ f. ltb-true _ _ (either_second _ _ b.0 f);
      seq = eqb-true _ _ q.1;
      sum = ltb-true _ _ q.0;
      kind = same_kind-true _ _ f.0;
      size = eqb-true _ _ g.0;
      place = eqb-true _ _ g.1;
    }

pub agrees : (s : List ℕ) (o : Opened) (c : Cursor) (e : Entry) → Agreeing s o c e → version_agrees s o c e ≡ true
unfolding version_agrees seq_agrees
agrees s o c e a =
    true_both _ _ (equal_bytes-same _ _ a.key)
    (true_both _ _ (second_either _ _ (λ f. lt-ltb _ _ (a.falls f)))
    (true_both _ _ (true_both _ _ (lt-ltb _ _ a.sum) (eq-eqb _ _ a.seq))
    (true_both _ _ (same_kind-same _ _ a.kind)
    (true_both _ _ (eq-eqb _ _ a.size) (eq-eqb _ _ a.place)))))
