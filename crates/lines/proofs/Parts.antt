-- Parts of a line, written one behind the other.
-- Assumes nothing.
use Rattle.std.proofs.Common.{◌≡◌, ℕ, ◌+◌, ◌≤◌, List, [], ◌++◌, refl, sym, ap, ◌∙◌, subst, length, take, drop, arith, add-zero, add_assoc, append_assoc, length-append}
use Rattle.std.proofs.lemmas.List.Edits.{sets, sets-eq, paste_all}
use Rattle.std.proofs.lemmas.Slice.{put_mid-paste}
use borrow.Rule.Slice.PartMut.{put_mid}
use lib.Seq.{length-sets}
use Rattle.num.proofs.Lists.{sets_append, part_sets_same}
use Rattle.lines.specs.Wrote.{Wrote}

-- bytes that were copied to a place
pub wrote_copied : (out part bytes : List ℕ) (at n : ℕ) → at + length bytes ≤ length out → part ≡ bytes → n ≡ length bytes
    → Wrote out (put_mid at n out part) at bytes (at + length bytes)
wrote_copied out part bytes at n h e k =
    let s =
    put_mid-paste at n out part bytes (length bytes) e (sym k) refl
    ∙ paste_all out at bytes (length bytes) refl
    ∙ sym (append_assoc (take at out) bytes (drop (at + length bytes) out))
    ∙ sym (sets-eq bytes out at h) in
    let kept = ap length s ∙ length-sets out at bytes in
    record { stored = s; behind = refl; kept = kept; inside = omega arith }

pub wrote_nothing : (before : List ℕ) (at : ℕ) → at ≤ length before → Wrote before before at [] at
wrote_nothing before at h = record { stored = refl; behind = sym (add-zero at); kept = refl; inside = h }

-- a part and the part behind it; the lines' answers name it, since a search that is given it does not find the order of their parts
pub wrote_then : {a b c : List ℕ} {at m end : ℕ} {x y : List ℕ} → Wrote a b at x m → Wrote b c m y end → Wrote a c at (x ++ y) end
wrote_then {a} {b} {c} {at} {m} {end} {x} {y} p q =
    record {
      stored = q.stored ∙ (λ i. sets (p.stored i) (p.behind i) y) ∙ sets_append x y a at;
      behind = q.behind ∙ ap (λ (k : ℕ). k + length y) p.behind ∙ add_assoc at (length x) (length y) ∙ ap (λ (k : ℕ). at + k) (sym (length-append x y));
      kept = q.kept ∙ p.kept;
      inside = q.inside;
    }

pub wrote_both : {a b c : List ℕ} {at m end : ℕ} {x y text : List ℕ} → Wrote a b at x m → Wrote b c m y end → text ≡ x ++ y → Wrote a c at text end
wrote_both {a} {c = c} {at} {end = end} p q e = subst (λ (t : List ℕ). Wrote a c at t end) (sym e) (wrote_then p q)

-- a line that was written at the front stands there
pub put_line : (before after bytes : List ℕ) (end : ℕ) → Wrote before after 0 bytes end → take end after ≡ bytes
put_line before after bytes end p =
    let b = p.behind in
    let k = p.kept in
    let i = p.inside in
    let e : end ≡ length bytes = omega arith in
    (λ j. take (e j) (p.stored j)) ∙ part_sets_same bytes before 0 (omega arith)
