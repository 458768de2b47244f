-- What stands at a position of a list, parts of parts, stores into regions, and lists of bytes.
-- A part of n elements from a place is `take n (drop place l)`; a run of stores is `sets`.
-- Assumes nothing.
use Rattle.std.proofs.Common.{◌≡◌, ℕ, zero, suc, ◌+◌, ◌-◌, ◌<◌, ◌≤◌, List, [], ◌∷◌, ◌++◌, map, length, get_or, take, drop, set, replicate, sym, refl, ap, ◌∙◌, append_assoc, not-suc-le-zero, add-zero, arith, lit<, length-drop, length-take-le, get_or-drop, get_or-take, take-take, drop-drop, take_at, drop-set-lt, take-add, drop_at}
use mathlib.Core.List.Memᴰ
use mathlib.Core.List.{Memᴰ}
use lib.ListN.{get_or-append}
use lib.Seq.{sets, sets-eq, take-set-le, drop-set-add}
use Rattle.num.specs.Number.{Bytes}

module _ {ℓ} {A : Type ℓ} where
  -- ---- what stands at a position: `drop place l ≡ t ++ rest`

  -- behind what stands at a place stands the rest
  pub standing_next : (l t rest : List A) (place : ℕ) → drop place l ≡ t ++ rest → drop (place + length t) l ≡ rest
  standing_next l t rest place e = sym (drop-drop (length t) place l) ∙ ap (drop (length t)) e ∙ drop_at t rest (length t) refl

  -- the part at the place is what stands there
  pub standing_part : (l t rest : List A) (place : ℕ) → drop place l ≡ t ++ rest → take (length t) (drop place l) ≡ t
  standing_part l t rest place e = ap (take (length t)) e ∙ take_at t rest (length t) refl

  -- the elements from the place on are those of what stands there
  pub standing_at : (l t rest : List A) (place k : ℕ) (d : A) → drop place l ≡ t ++ rest → k < length t → get_or l (place + k) d ≡ get_or t k d
  standing_at l t rest place k d e h = sym (get_or-drop place l k d) ∙ ap (λ (m : List A). get_or m k d) e ∙ get_or-append t rest d k h

  -- ---- the members of a list are its elements by index

  pub member_index : (l : List A) (x d : A) → Memᴰ x l → (j : ℕ) × (j < length l) × (x ≡ get_or l j d)
  member_index [] x d m = absurd (Memᴰ.not-nil m)
  member_index (y ∷ l) x d (Memᴰ.head e) = (0, omega arith, e)
  member_index (y ∷ l) x d (Memᴰ.tail m) = let r = member_index l x d m in let h = r.1 in (suc r.0, omega arith, r.2)

  pub index_member : (l : List A) (j : ℕ) (d : A) → j < length l → Memᴰ (get_or l j d) l
  index_member [] j d h = absurd (not-suc-le-zero h)
  index_member (x ∷ l) zero d h = Memᴰ.head refl
  index_member (x ∷ l) (suc j) d h = Memᴰ.tail (index_member l j d (omega arith))

  -- ---- parts of parts

  pub part_length : (l : List A) (place n : ℕ) → place + n ≤ length l → length (take n (drop place l)) ≡ n
  part_length l place n h = length-take-le n (drop place l) (omega (arith, length-drop place l))

  pub part_at : (l : List A) (place n k : ℕ) (d : A) → k < n → get_or (take n (drop place l)) k d ≡ get_or l (place + k) d
  part_at l place n k d h = get_or-take n (drop place l) k d h ∙ get_or-drop place l k d

  -- a part is followed by the part behind it
  pub part_append : (l : List A) (place n m : ℕ) → take (n + m) (drop place l) ≡ take n (drop place l) ++ take m (drop (place + n) l)
  part_append l place n m = take-add n m (drop place l) ∙ ap (λ (r : List A). take n (drop place l) ++ take m r) (drop-drop n place l)

  take_drop_take : (at m n : ℕ) (l : List A) → at + m ≤ n → take m (drop at (take n l)) ≡ take m (drop at l)
  take_drop_take zero m n l h = take-take m n l (omega arith)
  take_drop_take (suc at) m zero l h = absurd (let z : ◌≡◌ {A = ℕ} 0 1 = omega arith in omega arith)
  take_drop_take (suc at) m (suc n) [] h = refl
  take_drop_take (suc at) m (suc n) (x ∷ l) h = take_drop_take at m n l (omega arith)

  -- a part of a part is a part
  pub part_part : (l : List A) (place n at m : ℕ) → at + m ≤ n → take m (drop at (take n (drop place l))) ≡ take m (drop (place + at) l)
  part_part l place n at m h = take_drop_take at m n (drop place l) h ∙ ap (take m) (drop-drop at place l)

  -- ---- stores

  pub sets_append : (w v l : List A) (i : ℕ) → sets (sets l i w) (i + length w) v ≡ sets l i (w ++ v)
  sets_append [] v l i = ap (λ (n : ℕ). sets l n v) (add-zero i)
  sets_append (a ∷ w) v l i =
      let e : i + suc (length w) ≡ suc i + length w = omega arith in
      ap (λ (n : ℕ). sets (sets (set l i a) (suc i) w) n v) e ∙ sets_append w v (set l i a) (suc i)

  -- a run of stores stands where it was stored, before what stood behind it
  pub standing_sets : (vs l : List A) (i : ℕ) → i + length vs ≤ length l → drop i (sets l i vs) ≡ vs ++ drop (i + length vs) l
  standing_sets vs l i h =
      ap (drop i) (sets-eq vs l i h ∙ append_assoc (take i l) vs (drop (i + length vs) l))
      ∙ drop_at (take i l) (vs ++ drop (i + length vs) l) i (length-take-le i l (omega arith))

  -- the region itself holds what was stored
  pub part_sets_same : (vs l : List A) (i : ℕ) → i + length vs ≤ length l → take (length vs) (drop i (sets l i vs)) ≡ vs
  part_sets_same vs l i h = standing_part (sets l i vs) vs (drop (i + length vs) l) i (standing_sets vs l i h)

  -- an element in a run of stores is what was stored
  pub get_d-sets_inside : (vs l : List A) (i k : ℕ) (d : A) → k < length vs → i + length vs ≤ length l → get_or (sets l i vs) (i + k) d ≡ get_or vs k d
  get_d-sets_inside vs l i k d h b = standing_at (sets l i vs) vs (drop (i + length vs) l) i k d (standing_sets vs l i b) h

  part_set_before : (l : List A) (i place n : ℕ) (a : A) → place + n ≤ i → take n (drop place (set l i a)) ≡ take n (drop place l)
  part_set_before l i place n a h =
      let e : i ≡ place + (i - place) = omega arith in
      ap (λ (k : ℕ). take n (drop place (set l k a))) e
      ∙ ap (take n) (drop-set-add place l (i - place) a)
      ∙ take-set-le n (drop place l) (i - place) a (omega arith)

  -- a run of stores into one region leaves a region before it
  pub part_sets_before : (vs l : List A) (i place n : ℕ) → place + n ≤ i → take n (drop place (sets l i vs)) ≡ take n (drop place l)
  part_sets_before [] l i place n h = refl
  part_sets_before (a ∷ vs) l i place n h = part_sets_before vs (set l i a) (suc i) place n (omega arith) ∙ part_set_before l i place n a h

  -- a run of stores into one region leaves all behind it
  pub drop_sets_behind : (vs l : List A) (i place : ℕ) → i + length vs ≤ place → drop place (sets l i vs) ≡ drop place l
  drop_sets_behind [] l i place h = refl
  drop_sets_behind (a ∷ vs) l i place h = drop_sets_behind vs (set l i a) (suc i) place (omega arith) ∙ drop-set-lt place l i a (omega arith)

-- ---- lists mapped

pub map_at : {A B : Type 0} (f : A → B) (l : List A) (i : ℕ) (d : A) (z : B) → i < length l → get_or (map f l) i z ≡ f (get_or l i d)
map_at f [] i d z h = absurd (not-suc-le-zero h)
map_at f (x ∷ l) zero d z h = refl
map_at f (x ∷ l) (suc i) d z h = map_at f l i d z (omega arith)

-- ---- lists of bytes

pub bytes_nil : Bytes []
bytes_nil k = lit< tt

pub bytes_take : (n : ℕ) (s : List ℕ) → Bytes s → Bytes (take n s)
bytes_take zero s h k = lit< tt
bytes_take (suc n) [] h k = lit< tt
bytes_take (suc n) (x ∷ s) h zero = h zero
bytes_take (suc n) (x ∷ s) h (suc k) = bytes_take n s (λ j. h (suc j)) k

pub bytes_drop : (n : ℕ) (s : List ℕ) → Bytes s → Bytes (drop n s)
bytes_drop n s h k = rw get_or-drop (h (n + k))

pub bytes_append : (s t : List ℕ) → Bytes s → Bytes t → Bytes (s ++ t)
bytes_append [] t hs ht k = ht k
bytes_append (x ∷ s) t hs ht zero = hs zero
bytes_append (x ∷ s) t hs ht (suc k) = bytes_append s t (λ j. hs (suc j)) ht k

pub bytes_one : (b : ℕ) → b < 256 → Bytes (b ∷ [])
bytes_one b h zero = h
bytes_one b h (suc k) = lit< tt

pub bytes_zeros : (n : ℕ) → Bytes (replicate n 0)
bytes_zeros zero k = lit< tt
bytes_zeros (suc n) zero = lit< tt
bytes_zeros (suc n) (suc k) = bytes_zeros n k
