-- Where the numbers of a version lie, and how large they are.
-- Assumes nothing.
use mathlib.Core.Path.{◌≡◌, ap, subst⁻¹}
use mathlib.Core.List.{List}
use mathlib.Core.Bool.{Bool, false, not}
use Prim.Native.Nat.{ℕ, ◌+◌, ◌*◌, ◌-◌, ◌^◌, ◌<◌, ◌≤◌}
use native.Mathlib.Omega.{arith}
use lib.Dec.{eqb, ltb}
use lib.ListN.{length}
use borrow.Author.Tests.{eqb-true, eq-eqb, lt-ltb, not-false}
use Rattle.num.specs.Choice.{when◌then◌else◌, both}
use Rattle.num.specs.Number.{Bytes, le_at}
use Rattle.num.proofs.Choice.{never_true, same_truth, both_true, true_both}
use Rattle.num.proofs.Number.{le_at-lt}
use Rattle.encoding.specs.declared.Encoding.{Encoding}
use Rattle.encoding.specs.Encoding.{Widths, version_len_of, tombstone_of}
use Rattle.encoding.proofs.Widths.{tombstone_double}
use Rattle.header.specs.declared.Opened.{Opened}
use Rattle.arena.specs.declared.Cursor.{Cursor}
use Rattle.arena.specs.Internal.{Standing}
use Rattle.versions.specs.Version.{stored_seq, seq_agrees}

-- a sequence below the least never agrees
pub seq_below : (s : List ℕ) (o : Opened) (pos seq : ℕ) → seq < o.min_seq → seq_agrees s o pos seq ≡ false
unfolding seq_agrees stored_seq
seq_below s o pos seq h =
    never_true _ (λ t. let l = eqb-true (o.min_seq + le_at s pos o.encoding.seq) seq (both_true _ _ t).1 in
    absurd {A = ⊥} (omega arith))

-- another, below 2^64, agrees if the stored number is what it is above the least
pub seq_less : (s : List ℕ) (o : Opened) (pos seq : ℕ) {n : ℕ} → o.min_seq ≤ seq → seq < 2 ^ 64 → n ≡ le_at s pos o.encoding.seq
    → eqb n (seq - o.min_seq) ≡ seq_agrees s o pos seq
unfolding seq_agrees stored_seq
seq_less s o pos seq {n} h b e =
    let sum = o.min_seq + le_at s pos o.encoding.seq in
    same_truth (eqb n (seq - o.min_seq)) (both (ltb sum (2 ^ 64)) (eqb sum seq))
    (λ t. let l = eqb-true n (seq - o.min_seq) t in
    let m : o.min_seq + le_at s pos o.encoding.seq ≡ seq = omega arith in
    true_both _ _ (lt-ltb sum (2 ^ 64) (omega arith)) (eq-eqb sum seq m))
    (λ t. let l = eqb-true (o.min_seq + le_at s pos o.encoding.seq) seq (both_true _ _ t).1 in eq-eqb n (seq - o.min_seq) (omega arith))

-- with checksums, the CRC-32 of a version lies in the section
pub checksum_inside : (s : List ℕ) (o : Opened) (c : Cursor) → Standing s o c → not o.encoding.checksum ≡ false
    → c.pos + o.encoding.seq + o.encoding.value + o.encoding.address + 4 ≤ length s
unfolding version_len_of when◌then◌else◌
checksum_inside s o c g t =
    let v = g.version in
    let e : ◌≡◌ {A = ℕ} (when◌then◌else◌ o.encoding.checksum 4 0) 4 = ap (λ (b : Bool). when◌then◌else◌ {A = ℕ} b 4 0) (not-false _ t) in
    omega arith

-- without them too, the numbers before it do
pub version_inside : (s : List ℕ) (o : Opened) (c : Cursor) → Standing s o c
    → c.pos + o.encoding.seq + o.encoding.value + o.encoding.address ≤ length s
unfolding version_len_of
version_inside s o c g = let v = g.version in omega arith

-- a stored value length has no bit above the tombstone's
pub value_lt : (s : List ℕ) (e : Encoding) (at : ℕ) → Bytes s → Widths e → le_at s at e.value < 2 * tombstone_of e
value_lt s e at b w = subst⁻¹ (λ (n : ℕ). le_at s at e.value < n) (tombstone_double e w) (le_at-lt s b e.value at)
