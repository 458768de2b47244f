-- Records that agree in all their numbers are the same.
-- Assumes nothing.
use mathlib.Core.Path.{◌≡◌, refl, sym, ap, ◌∙◌}
use mathlib.Core.Bool.{Bool, true, false, beq}
use Prim.Native.Nat.{ℕ}
use lib.Dec.{eqb}
use borrow.Author.Tests.{eqb-true, eq-eqb}
use Rattle.num.proofs.Choice.{both_true, true_both, false_true}
use Rattle.encoding.specs.declared.Encoding.{Encoding}
use Rattle.header.specs.declared.Opened.{Opened}
use Rattle.std.specs.Prelude.{◌&&◌, Result, Ok, Err}
use Rattle.std.specs.Result.{result_eq}
use Rattle.num.specs.Choice.{both}
use Rattle.refusal.specs.declared.Refusal.{Refusal}
use Rattle.refusal.specs.contracts.RefusalPartialEq.TheImpl.{eq-value as refusal_eq}
use Rattle.encoding.specs.contracts.EncodingPartialEq.TheImpl.{eq-value as encoding_eq}
use Rattle.header.specs.contracts.OpenedPartialEq.TheImpl.{eq-value}
use Rattle.opened.specs.Opened.{same_encoding, same_counts, same_record_of, plain_for}

beq_true : (a b : Bool) → beq a b ≡ true → a ≡ b
beq_true true true e = refl
beq_true true false e = false_true e
beq_true false true e = false_true e
beq_true false false e = refl

beq_same : (a : Bool) → beq a a ≡ true
beq_same true = refl
beq_same false = refl

same : (n : ℕ) → eqb n n ≡ true
same n = eq-eqb n n refl

encoding_same : (a b : Encoding) → same_encoding a b ≡ true → a ≡ b
unfolding same_encoding
encoding_same a b t =
    let p = both_true _ _ t in
    let q = both_true _ _ p.1 in
    let r = both_true _ _ q.1 in
    let u = both_true _ _ r.1 in
    let v = both_true _ _ u.1 in
    λ i. record {
      address = eqb-true a.address b.address p.0 i;
      key = eqb-true a.key b.key q.0 i;
      count = eqb-true a.count b.count r.0 i;
      seq = eqb-true a.seq b.seq u.0 i;
      value = eqb-true a.value b.value v.0 i;
      checksum = beq_true a.checksum b.checksum v.1 i;
    }

same_encoding_lem : (a : Encoding) → same_encoding a a ≡ true
unfolding same_encoding
same_encoding_lem a =
    true_both _ _ (same a.address)
    (true_both _ _ (same a.key)
    (true_both _ _ (same a.count)
    (true_both _ _ (same a.seq)
    (true_both _ _ (same a.value)
    (beq_same a.checksum)))))

-- records that agree in all their numbers are the same
pub record_same : (a b : Opened) → same_record_of a b ≡ true → a ≡ b
unfolding same_record_of same_counts
record_same a b t =
    let c = both_true _ _ t in
    let p = both_true _ _ c.0 in
    let q = both_true _ _ p.1 in
    let r = both_true _ _ q.1 in
    let e = both_true _ _ c.1 in
    let u = both_true _ _ e.1 in
    let v = both_true _ _ u.1 in
    λ i. record {
      seed = eqb-true a.seed b.seed p.0 i;
      min_seq = eqb-true a.min_seq b.min_seq q.0 i;
      count = eqb-true a.count b.count r.0 i;
      buckets = eqb-true a.buckets b.buckets r.1 i;
      arena = eqb-true a.arena b.arena u.0 i;
      encoding = encoding_same a.encoding b.encoding e.0 i;
      scan = eqb-true a.scan b.scan v.0 i;
      packed = beq_true a.packed b.packed v.1 i;
    }

pub same_record : (a b : Opened) → a ≡ b → same_record_of a b ≡ true
unfolding same_record_of same_counts
same_record a b e = ap (same_record_of a) (sym e) ∙ itself
  where
    itself : same_record_of a a ≡ true
    itself =
        true_both _ _ (true_both _ _ (same a.seed) (true_both _ _ (same a.min_seq) (true_both _ _ (same a.count) (same a.buckets))))
        (true_both _ _ (same_encoding_lem a.encoding)
        (true_both _ _ (same a.arena)
        (true_both _ _ (same a.scan)
        (beq_same a.packed))))

-- ---- the derived comparison is that of all numbers

in_order : (a b c d e f : Bool) → (a && (b && (c && (d && (e && f))))) ≡ both a (both b (both c (both d (both e f))))
unfolding both
in_order false b c d e f = refl
in_order true false c d e f = refl
in_order true true false d e f = refl
in_order true true true false e f = refl
in_order true true true true false f = refl
in_order true true true true true f = refl

grouped : (a b c d e f g h : Bool)
    → (a && (b && (c && (d && (e && (f && (g && h))))))) ≡ both (both a (both b (both c d))) (both f (both e (both g h)))
unfolding both
grouped false b c d e f g h = refl
grouped true false c d e f g h = refl
grouped true true false d e f g h = refl
grouped true true true false e f g h = refl
grouped true true true true false false g h = refl
grouped true true true true false true g h = refl
grouped true true true true true false g h = refl
grouped true true true true true true false h = refl
grouped true true true true true true true h = refl

pub eq_same : (a b : Opened) → eq-value.it a b ≡ same_record_of a b
unfolding same_record_of same_counts same_encoding
eq_same a b =
    grouped (eqb a.seed b.seed) (eqb a.min_seq b.min_seq) (eqb a.count b.count) (eqb a.buckets b.buckets)
    (eqb a.arena b.arena) (encoding_eq.it a.encoding b.encoding) (eqb a.scan b.scan) (beq a.packed b.packed)
    ∙ ap (λ (e : Bool). both (same_counts a b) (both e (both (eqb a.arena b.arena) (both (eqb a.scan b.scan) (beq a.packed b.packed)))))
    (in_order (eqb a.encoding.address b.encoding.address) (eqb a.encoding.key b.encoding.key) (eqb a.encoding.count b.encoding.count)
    (eqb a.encoding.seq b.encoding.seq) (eqb a.encoding.value b.encoding.value) (beq a.encoding.checksum b.encoding.checksum))

pub is_ok : (r : Result Opened Refusal) (o : Opened) → result_eq eq-value.it refusal_eq.it r (Ok o) ≡ plain_for r o
unfolding plain_for
is_ok (Ok found) o = eq_same found o
is_ok (Err e) o = refl
