-- The pairs of the block list one after another: what is asked of them, and their records.
-- Assumes nothing.
use mathlib.Core.Path.{◌≡◌, refl, sym, ap, ◌∙◌, subst}
use mathlib.Core.List.{List, [], ◌∷◌}
use mathlib.Core.Bool.{Bool, true, false}
use Prim.Native.Nat.{ℕ, zero, suc, ◌+◌, ◌*◌, ◌-◌, ◌%◌, ◌<◌, ◌≤◌}
use native.Mathlib.Nat.{add_assoc}
use native.Mathlib.Omega.{arith}
use lib.Dec.{eqb, leb}
use lib.ListN.{length, get_or, take, drop, drop_of_length-le}
use borrow.Author.Tests.{eqb-true, leb-true, eq-eqb, le-leb}
use Rattle.std.specs.Prelude.{Result, Ok, Err}
use Rattle.refusal.specs.declared.Refusal.{Refusal}
use Rattle.refusal.specs.declared.Refusal.TheVariants as refusal
use Rattle.refusal.specs.Refusal.{refusal_number}
use Rattle.refusal.proofs.Asked.{refused_ok, ok_refused, same_ok, same_refusal}
use Rattle.num.specs.Choice.{when◌then◌else◌, ask◌otherwise◌then◌, either, one_of}
use Rattle.num.specs.Number.{le_at}
use Rattle.num.proofs.Choice.{both_true, true_both}
use Rattle.num.proofs.Lists.{part_length, part_at}
use Rattle.num.proofs.Number.{le_at-same}
use Rattle.block.specs.declared.BlockMeta.{BlockMeta}
use Rattle.block.specs.Verify.{verify_of, restarts_verified, meta_of, restarts_in, entries_end_in, SoundBlock}
use Rattle.block.proofs.Sound.{sound_exactly, sound_end}
use Rattle.opening.specs.Open.{block_bytes, pair_fits}
use Rattle.opening.proofs.Pairs.{part_cut}
use Rattle.blocks.specs.declared.BlockRecord.{BlockRecord}
use Rattle.blocks.specs.Blocks.{record_value, record_for, pair_record, with_record, records_from, no_record}
use Rattle.blocks.specs.Internal.{verdict_of, offset_at, len_at, bytes_at, record_at, Passed}

-- ---- the numbers of refusals

-- a question of 12 in front of an answer that only 12 refuses
only_12 : {A : Type 0} (b : Bool) (r : Result A Refusal) (x : Refusal) → (when b then r else Err refusal.Block) ≡ Err x
    → (r ≡ Err x → x ≡ refusal.Block) → x ≡ refusal.Block
unfolding when◌then◌else◌
only_12 true r x e h = h e
only_12 false r x e h = sym (same_refusal e)

-- a block that is not sound is refused with 12
pub verify_refused : (raw : List ℕ) (x : Refusal) → verify_of raw ≡ Err x → x ≡ refusal.Block
unfolding verify_of restarts_verified
verify_refused raw x e =
    only_12 _ _ x e (λ a. only_12 _ _ x a (λ b. only_12 _ _ x b (λ c. only_12 _ _ x c (λ d. only_12 _ _ x d (λ f. only_12 _ _ x f (λ g. only_12 _ _ x g (λ h. only_12 _ _ x h (λ i. ok_refused i))))))))

-- what is asked of pairs is refused with 11 or 12
pub Refuses : {A : Type 0} → Result A Refusal → Type 0
Refuses (Ok a) = Unit {0}
Refuses (Err n) = one_of (11 ∷ 12 ∷ []) (refusal_number n) ≡ true

pub refuses_one : {A : Type 0} (x : Result A Refusal) → Refuses x → (n : Refusal) → x ≡ Err n → one_of (11 ∷ 12 ∷ []) (refusal_number n) ≡ true
unfolding Refuses
refuses_one (Ok a) p n e = ok_refused e
refuses_one (Err k) p n e = subst (λ (m : Refusal). one_of (11 ∷ 12 ∷ []) (refusal_number m) ≡ true) (same_refusal e) p

-- what was not refused is given
pub asked_ok : {A : Type 0} (x : Result A Refusal) (u : Unit {0}) → Ok u ≡ verdict_of x → (a : A) × (x ≡ Ok a)
unfolding verdict_of
asked_ok (Ok a) u e = (a, refl)
asked_ok (Err n) u e = ok_refused e

-- ---- one pair

module _ (offset len : ℕ) where
  judged : Bool → Result BlockMeta Refusal → Result BlockRecord Refusal
  judged b v = ask b otherwise Err refusal.BlockList then record_for offset len v

  judged_given : (b : Bool) (v : Result BlockMeta Refusal) (r : BlockRecord) → judged b v ≡ Ok r → (b ≡ true) × ((m : BlockMeta) × (v ≡ Ok m) × (r ≡ record_value offset len m))
  unfolding judged record_for when◌then◌else◌
  judged_given true (Ok m) r e = (refl, (m, refl, same_ok (sym e)))
  judged_given true (Err n) r e = refused_ok e
  judged_given false v r e = refused_ok e

  judged_refuses : (b : Bool) (v : Result BlockMeta Refusal) → ((n : Refusal) → v ≡ Err n → n ≡ refusal.Block) → Refuses (judged b v)
  unfolding judged record_for Refuses one_of either when◌then◌else◌
  judged_refuses true (Ok m) h = tt
  judged_refuses true (Err n) h = rw (h n refl)
  judged_refuses false v h = refl

module _ («data» : List ℕ) (at offset len : ℕ) where
  -- a pair that passes begins at the last one's end, lies in the data and has a sound block
  pub pair_passed : (r : BlockRecord) → pair_record «data» at offset len ≡ Ok r
      → (offset ≡ at) × (offset + len ≤ length «data») × ((m : BlockMeta) × (verify_of (block_bytes «data» offset len) ≡ Ok m) × (r ≡ record_value offset len m))
  unfolding pair_record judged pair_fits
  pair_passed r e =
      let j = judged_given offset len (pair_fits (length «data») at offset len) (verify_of (block_bytes «data» offset len)) r e in
      let b = both_true (eqb offset at) (leb (offset + len) (length «data»)) j.0 in
      (eqb-true offset at b.0, leb-true (offset + len) (length «data») b.1, j.1)

  pub pair_passes : (m : BlockMeta) → offset ≡ at → offset + len ≤ length «data» → verify_of (block_bytes «data» offset len) ≡ Ok m
      → pair_record «data» at offset len ≡ Ok (record_value offset len m)
  unfolding pair_record pair_fits record_for when◌then◌else◌
  pair_passes m e h v = rw (true_both (eqb offset at) (leb (offset + len) (length «data»)) (eq-eqb offset at e) (le-leb (offset + len) (length «data») h), v)

  pair_refuses : Refuses (pair_record «data» at offset len)
  unfolding pair_record judged
  pair_refuses =
      judged_refuses offset len (pair_fits (length «data») at offset len) (verify_of (block_bytes «data» offset len)) (verify_refused (block_bytes «data» offset len))

  -- question 11 fails
  pub asked_11 : pair_fits (length «data») at offset len ≡ false → pair_record «data» at offset len ≡ Err refusal.BlockList
  unfolding pair_record when◌then◌else◌
  asked_11 e = rw e

  -- question 12 of the part of the data
  pub asked_12 : pair_fits (length «data») at offset len ≡ true → (v : Result BlockMeta Refusal) → v ≡ verify_of (take (offset + len - offset) (drop offset «data»))
      → verdict_of v ≡ verdict_of (pair_record «data» at offset len)
  unfolding pair_record record_for verdict_of when◌then◌else◌
  asked_12 fits v e = rw (fits, ← part_cut «data» offset len, ← e) (go v)
    where
      go : (v : Result BlockMeta Refusal) → verdict_of v ≡ verdict_of (record_for offset len v)
      go (Ok m) = refl
      go (Err n) = refl

-- ---- the pairs from a place on

with_number : (r : BlockRecord) (a : Result (List BlockRecord) Refusal) → verdict_of (with_record r a) ≡ verdict_of a
unfolding verdict_of with_record
with_number r (Ok rs) = refl
with_number r (Err n) = refl

with_refuses : (r : BlockRecord) (a : Result (List BlockRecord) Refusal) → Refuses a → Refuses (with_record r a)
unfolding Refuses with_record
with_refuses r (Ok rs) p = tt
with_refuses r (Err n) p = p

with_given : (r : BlockRecord) (a : Result (List BlockRecord) Refusal) (rs : List BlockRecord) → with_record r a ≡ Ok rs
    → (tail : List BlockRecord) × (a ≡ Ok tail) × (rs ≡ r ∷ tail)
unfolding with_record
with_given r (Ok ts) rs e = (ts, refl, same_ok (sym e))
with_given r (Err n) rs e = refused_ok e

with_more : (r : BlockRecord) (a : Result (List BlockRecord) Refusal) (rs : List BlockRecord) → a ≡ Ok rs → with_record r a ≡ Ok (r ∷ rs)
unfolding with_record
with_more r a rs e = rw e

module _ («data» : List ℕ) where
  -- what follows the questions of a pair
  behind : List ℕ → ℕ → Result BlockRecord Refusal → Result (List BlockRecord) Refusal
  behind pairs at a = elim a [ Ok r ↦ with_record r (records_from «data» pairs at) | Err n ↦ Err n ]

  records_step : (offset len : ℕ) (pairs : List ℕ) (at : ℕ) → records_from «data» (offset ∷ len ∷ pairs) at ≡ behind pairs (offset + len) (pair_record «data» at offset len)
  unfolding records_from behind
  records_step offset len pairs at = refl

  behind_given : (pairs : List ℕ) (at : ℕ) (a : Result BlockRecord Refusal) (rs : List BlockRecord) → behind pairs at a ≡ Ok rs
      → (r : BlockRecord) × (a ≡ Ok r) × ((tail : List BlockRecord) × (records_from «data» pairs at ≡ Ok tail) × (rs ≡ r ∷ tail))
  unfolding behind
  behind_given pairs at (Ok r) rs e = (r, refl, with_given r (records_from «data» pairs at) rs e)
  behind_given pairs at (Err n) rs e = refused_ok e

  behind_number : (pairs : List ℕ) (at : ℕ) (a : Result BlockRecord Refusal) (r : BlockRecord) → a ≡ Ok r
      → verdict_of (behind pairs at a) ≡ verdict_of (records_from «data» pairs at)
  unfolding behind
  behind_number pairs at a r e = rw e (with_number r (records_from «data» pairs at))

  behind_failed : (pairs : List ℕ) (at : ℕ) (a : Result BlockRecord Refusal) (n : Refusal) → Err n ≡ verdict_of a → verdict_of (behind pairs at a) ≡ Err n
  unfolding behind verdict_of
  behind_failed pairs at (Ok r) n h = refused_ok h
  behind_failed pairs at (Err k) n h = sym h

  -- the records of a list are those of its first pair and of the others
  pub records_split : (offset len : ℕ) (pairs : List ℕ) (at : ℕ) (rs : List BlockRecord) → records_from «data» (offset ∷ len ∷ pairs) at ≡ Ok rs
      → (r : BlockRecord) × (pair_record «data» at offset len ≡ Ok r) × ((tail : List BlockRecord) × (records_from «data» pairs (offset + len) ≡ Ok tail) × (rs ≡ r ∷ tail))
  records_split offset len pairs at rs e = behind_given pairs (offset + len) (pair_record «data» at offset len) rs (sym (records_step offset len pairs at) ∙ e)

  pub records_join : (offset len : ℕ) (pairs : List ℕ) (at : ℕ) (r : BlockRecord) (tail : List BlockRecord) → pair_record «data» at offset len ≡ Ok r
      → records_from «data» pairs (offset + len) ≡ Ok tail → records_from «data» (offset ∷ len ∷ pairs) at ≡ Ok (r ∷ tail)
  unfolding behind
  records_join offset len pairs at r tail e f = records_step offset len pairs at ∙ ap (behind pairs (offset + len)) e ∙ with_more r (records_from «data» pairs (offset + len)) tail f

  -- a list whose records are given has two numbers for each of them
  pub records_length : (blocks : List ℕ) (at : ℕ) (rs : List BlockRecord) → records_from «data» blocks at ≡ Ok rs → length blocks ≡ 2 * length rs
  unfolding records_from
  records_length [] at rs e = let z : [] ≡ rs = same_ok e in subst (λ (l : List BlockRecord). 0 ≡ 2 * length l) z refl
  records_length (offset ∷ []) at rs e = refused_ok e
  records_length (offset ∷ len ∷ pairs) at rs e =
      let g = records_split offset len pairs at rs e in
      let n = records_length pairs (offset + len) g.2.0 g.2.1 in
      let m = ap length g.2.2 in
      omega arith

  pub records_refuse : (blocks : List ℕ) (at : ℕ) → Refuses (records_from «data» blocks at)
  unfolding records_from Refuses behind one_of either
  records_refuse [] at = tt
  records_refuse (offset ∷ []) at = refl
  records_refuse (offset ∷ len ∷ pairs) at = go (pair_record «data» at offset len) (pair_refuses «data» at offset len) (records_refuse pairs (offset + len))
    where
      go : (a : Result BlockRecord Refusal) → Refuses a → Refuses (records_from «data» pairs (offset + len)) → Refuses (behind pairs (offset + len) a)
      go (Ok r) p rest = with_refuses r (records_from «data» pairs (offset + len)) rest
      go (Err n) p rest = p

-- ---- the questions of all pairs, a pair at a time

-- from a pair on the same is answered
pub record Asking («data» blocks : List ℕ) (i at : ℕ) : Type 0 where
  pub even : i % 2 ≡ 0
  pub within : at ≤ length «data»
  pub same : verdict_of (records_from «data» (drop i blocks) at) ≡ verdict_of (records_from «data» blocks 0)

module _ («data» blocks : List ℕ) where
  pub asking_start : Asking «data» blocks 0 0
  asking_start = record { even = refl; within = omega arith; same = refl }

  module _ (i at : ℕ) (p : Asking «data» blocks i at) where
    pub asking_done : length blocks ≤ i → Ok tt ≡ verdict_of (records_from «data» blocks 0)
    unfolding records_from verdict_of
    asking_done h = sym (ap (λ (l : List ℕ). verdict_of (records_from «data» l at)) (drop_of_length-le blocks {i = i} h)) ∙ p.same

    module _ (offset len : ℕ) (h : drop i blocks ≡ offset ∷ len ∷ drop (i + 2) blocks) where
      abbrev asked : Result BlockRecord Refusal
      asked = pair_record «data» at offset len

      from-pair : verdict_of (behind «data» (drop (i + 2) blocks) (offset + len) asked) ≡ verdict_of (records_from «data» blocks 0)
      from-pair =
          sym (ap verdict_of (ap (λ (l : List ℕ). records_from «data» l at) h ∙ records_step «data» offset len (drop (i + 2) blocks) at))
          ∙ p.same

      pub asking_failed : (n : Refusal) → Err n ≡ verdict_of asked → Err n ≡ verdict_of (records_from «data» blocks 0)
      asking_failed n e = sym (behind_failed «data» (drop (i + 2) blocks) (offset + len) asked n e) ∙ from-pair

      pub asking_inside : (u : Unit {0}) → Ok u ≡ verdict_of asked → offset + len ≤ length «data»
      asking_inside u z =
          let g = asked_ok asked u z in
          (pair_passed «data» at offset len g.0 g.1).1

      pub asking_more : (next : ℕ) (u : Unit {0}) → i + 2 ≡ next → Ok u ≡ verdict_of asked → Asking «data» blocks next (offset + len)
      asking_more next u n z =
          let g = asked_ok asked u z in
          record {
            even = omega (arith, p.even);
            within = asking_inside u z;
            same = ap (λ (j : ℕ). verdict_of (records_from «data» (drop j blocks) (offset + len))) (sym n) ∙ sym (behind_number «data» (drop (i + 2) blocks) (offset + len) asked g.0 g.1) ∙ from-pair;
          }

-- ---- the records of the pairs

same_meta : (a b c x y z : ℕ) → a ≡ x → b ≡ y → c ≡ z
    → ◌≡◌ {A = BlockMeta} (record { entries_end = a; restart_start = b; num_restarts = c }) (record { entries_end = x; restart_start = y; num_restarts = z })
same_meta a b c x y z p q r = cc

-- the numbers of a sound block are those read from its end
sound_meta : (raw : List ℕ) (m : BlockMeta) → SoundBlock raw m → m ≡ meta_of raw
unfolding meta_of restarts_in
sound_meta raw m s =
    let e = sym (sound_end raw m s) in
    same_meta _ _ _ _ _ _ e (s.start ∙ e) (sym s.restarts)

-- a pair behind another stands two numbers further
pub offset_next : (offset len : ℕ) (pairs : List ℕ) (i : ℕ) → offset_at (offset ∷ len ∷ pairs) (suc i) ≡ offset_at pairs i
unfolding offset_at
offset_next offset len pairs i = let n : 2 * suc i ≡ suc (suc (2 * i)) = omega arith in ap (λ (k : ℕ). get_or (offset ∷ len ∷ pairs) k 0) n

pub len_next : (offset len : ℕ) (pairs : List ℕ) (i : ℕ) → len_at (offset ∷ len ∷ pairs) (suc i) ≡ len_at pairs i
unfolding len_at
len_next offset len pairs i = let n : 2 * suc i + 1 ≡ suc (suc (2 * i + 1)) = omega arith in ap (λ (k : ℕ). get_or (offset ∷ len ∷ pairs) k 0) n

bytes_next : («data» : List ℕ) (offset len : ℕ) (pairs : List ℕ) (i : ℕ) → bytes_at «data» (offset ∷ len ∷ pairs) (suc i) ≡ bytes_at «data» pairs i
unfolding bytes_at
bytes_next «data» offset len pairs i = rw (offset_next offset len pairs i, len_next offset len pairs i)

passed_next : («data» : List ℕ) (offset len : ℕ) (pairs : List ℕ) (i : ℕ) → Passed «data» pairs i → Passed «data» (offset ∷ len ∷ pairs) (suc i)
passed_next «data» offset len pairs i p =
    record {
      listed = let l = p.listed in omega arith;
      inside = rw (offset_next offset len pairs i, len_next offset len pairs i) p.inside;
      sound = rw (bytes_next «data» offset len pairs i) p.sound;
    }

record_next : («data» : List ℕ) (offset len : ℕ) (pairs : List ℕ) (i : ℕ) → record_at «data» (offset ∷ len ∷ pairs) (suc i) ≡ record_at «data» pairs i
unfolding record_at
record_next «data» offset len pairs i = rw (offset_next offset len pairs i, len_next offset len pairs i, bytes_next «data» offset len pairs i)

-- the first pair, if it passes
module _ («data» : List ℕ) (at offset len : ℕ) (pairs : List ℕ) (r : BlockRecord) (e : pair_record «data» at offset len ≡ Ok r) where
  first_sound : (m : BlockMeta) × SoundBlock (block_bytes «data» offset len) m × (r ≡ record_value offset len m)
  first_sound =
      let p = pair_passed «data» at offset len r e in
      (p.2.0, (sound_exactly (block_bytes «data» offset len) p.2.0).0 p.2.1, p.2.2)

  first_passed : Passed «data» (offset ∷ len ∷ pairs) 0
  unfolding offset_at len_at bytes_at
  first_passed =
      let f = first_sound in
      record {
        listed = omega arith;
        inside = (pair_passed «data» at offset len r e).1;
        sound = subst (SoundBlock (block_bytes «data» offset len)) (sound_meta (block_bytes «data» offset len) f.0 f.1) f.1;
      }

  first_record : record_at «data» (offset ∷ len ∷ pairs) 0 ≡ r
  unfolding offset_at len_at bytes_at record_at
  first_record =
      let f = first_sound in
      sym (f.2 ∙ ap (record_value offset len) (sound_meta (block_bytes «data» offset len) f.0 f.1))

-- each pair of a list whose records are given has passed, and its record is given
pub records_each : («data» blocks : List ℕ) (at : ℕ) (rs : List BlockRecord) → records_from «data» blocks at ≡ Ok rs → (i : ℕ) → i < length rs
    → Passed «data» blocks i × (record_at «data» blocks i ≡ get_or rs i no_record)
unfolding records_from
records_each «data» [] at rs e i l = absurd (let z = ap length (same_ok e) in omega arith)
records_each «data» (offset ∷ []) at rs e i l = refused_ok e
records_each «data» (offset ∷ len ∷ pairs) at rs e zero l =
    let g = records_split «data» offset len pairs at rs e in
    (first_passed «data» at offset len pairs g.0 g.1, first_record «data» at offset len pairs g.0 g.1 ∙ sym (ap (λ (l : List BlockRecord). get_or l 0 no_record) g.2.2))
records_each «data» (offset ∷ len ∷ pairs) at rs e (suc i) l =
    let g = records_split «data» offset len pairs at rs e in
    let n = ap length g.2.2 in
    let r = records_each «data» pairs (offset + len) g.2.0 g.2.1 i (omega arith) in
    (passed_next «data» offset len pairs i r.0, record_next «data» offset len pairs i ∙ r.1 ∙ sym (ap (λ (l : List BlockRecord). get_or l (suc i) no_record) g.2.2))

-- ---- the numbers of a pair that passed

module _ («data» blocks : List ℕ) (i : ℕ) (p : Passed «data» blocks i) where
  passed_length : length (bytes_at «data» blocks i) ≡ len_at blocks i
  unfolding bytes_at
  passed_length = part_length «data» (offset_at blocks i) (len_at blocks i) p.inside

  pub passed_long : 34 ≤ len_at blocks i
  passed_long = let n = passed_length in let l = p.sound.long in omega arith

  -- the number of restarts stands nine bytes before the block's end
  passed_restarts : le_at «data» (offset_at blocks i + (len_at blocks i - 9)) 4 ≡ restarts_in (bytes_at «data» blocks i)
  unfolding restarts_in bytes_at
  passed_restarts =
      let n = passed_length in
      let l = passed_long in
      sym (ap (λ (k : ℕ). le_at (bytes_at «data» blocks i) (k - 9) 4) n
      ∙ le_at-same (bytes_at «data» blocks i) «data» 4 (len_at blocks i - 9) (offset_at blocks i + (len_at blocks i - 9)) (λ k h.
      part_at «data» (offset_at blocks i) (len_at blocks i) (len_at blocks i - 9 + k) 0 (omega arith)
      ∙ ap (λ (j : ℕ). get_or «data» j 0) (sym (add_assoc (offset_at blocks i) (len_at blocks i - 9) k))))

  pub passed_fitting : (n : ℕ) → n ≡ le_at «data» (offset_at blocks i + (len_at blocks i - 9)) 4 → 4 * n ≤ len_at blocks i - 9
  unfolding meta_of
  passed_fitting n e =
      let r = e ∙ passed_restarts in
      let l = passed_length in
      let f = p.sound.fitting in
      omega arith

  pub passed_record : (n : ℕ) → n ≡ le_at «data» (offset_at blocks i + (len_at blocks i - 9)) 4
      → record { offset = offset_at blocks i; len = len_at blocks i; entries_end = len_at blocks i - 9 - 4 * n; restart_start = len_at blocks i - 9 - 4 * n; num_restarts = n } ≡ record_at «data» blocks i
  unfolding record_at record_value meta_of entries_end_in
  passed_record n e =
      let r = e ∙ passed_restarts in
      let l = passed_length in
      rw (r, l)
