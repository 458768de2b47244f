-- Stores into a tail that was lent on, and the parts of a section written at their places.
-- Assumes nothing.
use mathlib.Core.Path.{◌≡◌, sym, ap, ◌∙◌}
use mathlib.Core.List.{List, [], ◌∷◌, ◌++◌, append_assoc}
use Prim.Native.Nat.{ℕ, ◌+◌, ◌-◌, ◌≤◌}
use native.Mathlib.Nat.{zero-add}
use native.Mathlib.Omega.{arith}
use lib.ListN.{length, get_or, take, drop, length-append}
use lib.Seq.{sets, sets-eq, drop_at, length-sets, length-take-le}
use borrow.Rule.Slice.PartMut.{post_of, same_len_mid, take_put}
use Rattle.num.specs.Number.{le_bytes}
use Rattle.num.specs.Internal.{RegionHolds, Frame}
use Rattle.num.proofs.Lists.{standing_at, standing_sets, part_sets_same}
use Rattle.crc32.specs.V42.{crc_of}
use Rattle.num.proofs.Stores.{behind, tail_of, tail_put, tail_all, sets_tail}
use Rattle.encoding.specs.declared.Encoding.{Encoding}
use Rattle.keyrecords.specs.Internal.{ArenaAsked}
use Rattle.sections.specs.Internal.{ArenaLent, Noted}

-- ---- a tail

-- numbers at the front of a tail are numbers at its place in the whole
pub noted_tail : (xs ys : List ℕ) (a n : ℕ) (f : ℕ → ℕ) → a ≤ length xs → n ≤ length (drop a xs) → RegionHolds ys 0 0 n f → Frame n (tail_of a xs) ys → Noted a n f xs (tail_put a xs ys)
noted_tail xs ys a n f h l r q =
    record {
      size = same_len_mid a (length xs - a) xs ys q.size;
      numbers =
          record {
            value = λ k _ b.
                standing_at (tail_put a xs ys) ys (post_of a (length xs - a) xs) a k 0 (drop_at (take a xs) (ys ++ post_of a (length xs - a) xs) a (length-take-le a xs h)) (omega (arith, q.size, ap length (tail_all a xs)))
                ∙ ap (λ (j : ℕ). get_or ys j 0) (sym (zero-add k)) ∙ r.value k (omega arith) b;
          };
      kept = take_put a (length xs - a) xs ys h;
    }

-- what the arena's writer is lent
pub arena_lent : {area : List ℕ} {count : ℕ} {e : Encoding} {least indices : ℕ} {scratch : List ℕ} {arena : ℕ} {output : List ℕ}
    → ArenaLent area count e least indices scratch arena output → ArenaAsked area count e least (tail_of indices scratch) (tail_of arena output)
arena_lent {indices = indices} {scratch = scratch} {arena = arena} {output = output} l =
    let a = l.asked in
    record {
      inside = a.inside;
      fits = a.fits;
      room = omega (arith, a.room, ap length (tail_all arena output));
      narrow = a.narrow;
      places = omega (arith, a.places, ap length (tail_all indices scratch));
    }

-- ---- parts at their places

-- a run of stores, and one before it that ends where it begins, are one
before : (x₀ x₁ x₂ w v : List ℕ) (a : ℕ) → length v ≡ a → a + length w ≤ length x₀ → x₁ ≡ sets x₀ a w → x₂ ≡ sets x₁ 0 v → x₂ ≡ sets x₀ 0 (v ++ w)
before x₀ x₁ x₂ w v a n h e f =
    let m : length (sets x₀ a w) ≡ length x₀ = length-sets x₀ a w in
    let k : 0 + length v ≡ a = omega arith in
    let j : 0 + length (v ++ w) ≡ a + length w = omega (arith, length-append v w) in
    f ∙ ap (λ (x : List ℕ). sets x 0 v) e
    ∙ sets-eq v (sets x₀ a w) 0 (omega arith)
    ∙ ap (λ (i : ℕ). v ++ drop i (sets x₀ a w)) k
    ∙ ap (λ (l : List ℕ). v ++ l) (standing_sets w x₀ a h)
    ∙ sym (append_assoc v w (drop (a + length w) x₀))
    ∙ ap (λ (i : ℕ). (v ++ w) ++ drop i x₀) (sym j)
    ∙ sym (sets-eq (v ++ w) x₀ 0 (omega arith))

-- the arena, the tables before it, the scan part behind it, and the end with the CRC-32 of all
pub section_sealed : (x₀ x₁ x₂ y x₄ tables arena scan : List ℕ) (a s body : ℕ) → length tables ≡ a → a + length arena ≡ s → s + length scan ≡ body → body + 5 ≤ length x₀
    → x₁ ≡ sets x₀ a arena → x₂ ≡ sets x₁ 0 tables → y ≡ sets (tail_of s x₂) 0 scan
    → x₄ ≡ sets (tail_put s x₂ y) body (0 ∷ le_bytes 4 (crc_of (take body (tail_put s x₂ y) ++ (0 ∷ []))))
    → x₄ ≡ sets x₀ 0 ((tables ++ (arena ++ (scan ++ (0 ∷ [])))) ++ le_bytes 4 (crc_of (tables ++ (arena ++ (scan ++ (0 ∷ []))))))
section_sealed x₀ x₁ x₂ y x₄ tables arena scan a s body p q r h e f g k =
    let w = (tables ++ arena) ++ scan in
    let l : length w ≡ body = omega (arith, length-append (tables ++ arena) scan, length-append tables arena) in
    let e₂ = before x₀ x₁ x₂ arena tables a p (omega arith) e f in
    let m : length x₂ ≡ length x₀ = ap length e₂ ∙ length-sets x₀ 0 (tables ++ arena) in
    let e₃ = behind x₀ x₂ (tail_put s x₂ y) (tables ++ arena) scan 0 s (omega (arith, length-append tables arena)) e₂ (sets_tail x₂ y scan s (omega arith) g) in
    let t : take body (tail_put s x₂ y) ≡ w = ap (take body) e₃ ∙ ap (λ (n : ℕ). take n (sets x₀ 0 w)) (sym l) ∙ part_sets_same w x₀ 0 (omega arith) in
    let j : w ++ (0 ∷ []) ≡ tables ++ (arena ++ (scan ++ (0 ∷ []))) = simp append_assoc in
    let c = le_bytes 4 (crc_of (w ++ (0 ∷ []))) in
    behind x₀ (tail_put s x₂ y) x₄ w (0 ∷ le_bytes 4 (crc_of (take body (tail_put s x₂ y) ++ (0 ∷ [])))) 0 body (omega arith) e₃ k
    ∙ ap (sets x₀ 0)
    (ap (λ (u : List ℕ). w ++ (0 ∷ le_bytes 4 (crc_of (u ++ (0 ∷ []))))) t
    ∙ sym (append_assoc w (0 ∷ []) c)
    ∙ ap (λ (u : List ℕ). u ++ le_bytes 4 (crc_of u)) j)
