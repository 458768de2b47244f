-- Stores into one region of a slice: what the region then holds, and that all else stays.
-- `RegionHolds` and `Frame` are records, so antt finds the slice, the region and the values from the state that is handed over.
-- Places of the slice are given by an equation to the place in the region, which `omega arith` proves: `0 + k`, `b + 1 + x` and the like never meet.
-- Assumes nothing.
use Rattle.std.proofs.Common.{◌≡◌, ℕ, ◌+◌, ◌<◌, ◌≤◌, Bool, true, false, eqb, List, length, get_or, take, drop, set, sym, refl, ap, ◌∙◌, arith, length-set, get_or-set_other, get_or-set_same, drop-set-lt, ext_get_or, eqb-true}
use borrow.Author.Tests.{eqb-false}
use Rattle.num.proofs.Lists.{part_length, part_at}
use Rattle.num.specs.Internal.{RegionHolds, Frame}

-- ---- reading

-- what stands at a place of the slice
pub region_at : {s : List ℕ} {at lo hi : ℕ} {f : ℕ → ℕ} → RegionHolds s at lo hi f → (q k : ℕ) → q ≡ at + k → lo ≤ k → k < hi → get_or s q 0 ≡ f k
region_at {s} held q k e l h = ap (λ (j : ℕ). get_or s j 0) e ∙ held.value k l h

-- an empty region holds any values
pub region_none : {s : List ℕ} {at lo : ℕ} {f : ℕ → ℕ} → RegionHolds s at lo lo f
region_none = record { value = λ k l h. absurd (omega arith) }

-- fewer places
pub region_fewer : {s : List ℕ} {at lo hi : ℕ} {f : ℕ → ℕ} → RegionHolds s at lo hi f → (lo₂ hi₂ : ℕ) → lo ≤ lo₂ → hi₂ ≤ hi → RegionHolds s at lo₂ hi₂ f
region_fewer held lo₂ hi₂ l h = record { value = λ k p q. held.value k (omega arith) (omega arith) }

-- other values that are the same
pub region_same : {s : List ℕ} {at lo hi : ℕ} {f g : ℕ → ℕ} → RegionHolds s at lo hi f → ((k : ℕ) → lo ≤ k → k < hi → f k ≡ g k) → RegionHolds s at lo hi g
region_same held same = record { value = λ k l h. held.value k l h ∙ same k l h }

-- a region that holds the elements of a list is that list
pub region_part : {s : List ℕ} {at : ℕ} (l : List ℕ) → RegionHolds s at 0 (length l) (λ j. get_or l j 0) → at + length l ≤ length s → take (length l) (drop at s) ≡ l
region_part {s} {at} l held h =
    let n = part_length s at (length l) h in
    ext_get_or 0 (take (length l) (drop at s)) l n
    (λ i q. let r : i < length l = omega arith in part_at s at (length l) i 0 r ∙ held.value i (omega arith) r)

-- ---- storing

-- a store elsewhere leaves a region
pub region_other : {s : List ℕ} {at lo hi : ℕ} {f : ℕ → ℕ} → RegionHolds s at lo hi f → (q v : ℕ) → ((k : ℕ) → lo ≤ k → k < hi → at + k ≡ q → ⊥) → RegionHolds (set s q v) at lo hi f
region_other {s} {at} held q v apart = record { value = λ k l h. get_or-set_other s q (at + k) v 0 (apart k l h) ∙ held.value k l h }

-- a store to a place p of the region: where the other places hold g's values already, all do
pub region_set : {s : List ℕ} {at lo hi : ℕ} {f : ℕ → ℕ} → RegionHolds s at lo hi f → (hi₂ q p v : ℕ) (g : ℕ → ℕ) → q ≡ at + p → q < length s → v ≡ g p
    → ((k : ℕ) → lo ≤ k → k < hi₂ → (k ≡ p → ⊥) → (k < hi) × (f k ≡ g k)) → RegionHolds (set s q v) at lo hi₂ g
region_set {s} {at} {lo} held hi₂ q p v g place inside e others = record { value = λ k l h. go k l h (eqb k p) refl }
  where
    go : (k : ℕ) → lo ≤ k → k < hi₂ → (t : Bool) → eqb k p ≡ t → get_or (set s q v) (at + k) 0 ≡ g k
    go k l h true t =
        let z : at + k ≡ q = omega (arith, eqb-true k p t) in
        ap (λ (j : ℕ). get_or (set s q v) j 0) z ∙ get_or-set_same s q v 0 inside ∙ e ∙ ap g (sym (eqb-true k p t))
    go k l h false t =
        let n = eqb-false k p t in
        let r = others k l h n in
        get_or-set_other s q (at + k) v 0 (λ z. n (omega arith)) ∙ held.value k l r.0 ∙ r.1

-- a store behind the last place
pub region_more : {s : List ℕ} {at lo hi : ℕ} {f : ℕ → ℕ} → RegionHolds s at lo hi f → (q v : ℕ) → q ≡ at + hi → q < length s → v ≡ f hi → RegionHolds (set s q v) at lo (hi + 1) f
region_more {s} {at} {lo} {hi} {f} held q v place inside e = region_set held (hi + 1) q hi v f place inside e (λ k l h n. (omega arith, refl))

-- ---- what lies behind the first m places

pub frame_none : {m : ℕ} {s : List ℕ} → Frame m s s
frame_none = record { size = refl; behind = refl }

pub frame_set : {m : ℕ} {s₀ s : List ℕ} → Frame m s₀ s → (i v : ℕ) → i < m → Frame m s₀ (set s i v)
frame_set {m} {s₀} {s} f i v h = record { size = length-set s i v ∙ f.size; behind = drop-set-lt m s i v h ∙ f.behind }
