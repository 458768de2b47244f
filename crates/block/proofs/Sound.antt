-- Question 12 and its plain terms.
-- Assumes nothing.
use mathlib.Core.Path.{◌≡◌, refl, sym, ap, ◌∙◌, subst}
use mathlib.Core.List.{List}
use mathlib.Core.Bool.{Bool, true, false}
use mathlib.Core.Logic.{◌↔◌}
use Prim.Native.Nat.{ℕ, zero, suc, ◌+◌, ◌*◌, ◌-◌, ◌<◌, ◌≤◌}
use native.Mathlib.Numerals.{add-one}
use native.Mathlib.Omega.{arith}
use lib.Dec.{ltb, eqb}
use lib.ListN.{length}
use borrow.Author.Tests.{ltb-true, leb-true, eqb-true, eqb-false, lt-ltb, le-leb, eq-eqb, ne_eqb}
use Rattle.num.specs.Choice.{either}
use Rattle.num.proofs.Choice.{false_true, both_true, true_both}
use Rattle.block.specs.declared.BlockMeta.{BlockMeta}
use Rattle.std.specs.Prelude.{Ok}
use Rattle.refusal.proofs.Asked.{same_ok, asked, goes_on}
use Rattle.block.specs.Verify.{restarts_in, entries_end_in, restart_at, restart_sound, restarts_sound, meta_of, restarts_verified, verify_of, SoundBlock}

-- a number below another that is one more is below it or is it
last_or_below : (P : ℕ → Type 0) (i n : ℕ) → i < suc n → P n → ((i < n) → P i) → P i
last_or_below P i n h p q = go (eqb i n) refl
  where
    go : (b : Bool) → eqb i n ≡ b → P i
    go true e = subst P (sym (eqb-true i n e)) p
    go false e = let d = eqb-false i n e in q (omega arith)

module _ (raw : List ℕ) (end : ℕ) where
  -- one restart offset more
  pub one_more : (i : ℕ) → restarts_sound raw end i ≡ true → restart_sound raw end i ≡ true → restarts_sound raw end (i + 1) ≡ true
  unfolding restarts_sound
  one_more i p q = ap (restarts_sound raw end) (add-one i) ∙ true_both _ _ p q

  pub none : restarts_sound raw end 0 ≡ true
  unfolding restarts_sound
  none = refl

  restarts_each : (n i : ℕ) → restarts_sound raw end n ≡ true → i < n → restart_sound raw end i ≡ true
  unfolding restarts_sound
  restarts_each zero i e h = absurd (omega arith)
  restarts_each (suc n) i e h =
      let b = both_true (restarts_sound raw end n) (restart_sound raw end n) e in
      last_or_below (λ (k : ℕ). restart_sound raw end k ≡ true) i n h b.1 (λ l. restarts_each n i b.0 l)

  restarts_all : (n : ℕ) → ((i : ℕ) → i < n → restart_sound raw end i ≡ true) → restarts_sound raw end n ≡ true
  unfolding restarts_sound
  restarts_all zero h = refl
  restarts_all (suc n) h = true_both _ _ (restarts_all n (λ i l. h i (omega arith))) (h n (omega arith))

  -- one restart offset that is not sound is enough
  pub unsound : (n i : ℕ) → i < n → restart_sound raw end i ≡ false → restarts_sound raw end n ≡ false
  unsound n i h e = go (restarts_sound raw end n) refl
    where
      go : (b : Bool) → restarts_sound raw end n ≡ b → restarts_sound raw end n ≡ false
      go true p = false_true (sym e ∙ restarts_each n i p h)
      go false p = p

  restart_inside : (i : ℕ) → restart_sound raw end i ≡ true → restart_at raw end i < end
  unfolding restart_sound
  restart_inside i e = ltb-true _ _ (both_true _ _ e).0

  restart_above : (i : ℕ) → restart_sound raw end (suc i) ≡ true → restart_at raw end i < restart_at raw end (suc i)
  unfolding restart_sound either
  restart_above i e =
      let n : suc i - 1 ≡ i = omega arith in
      let t = (both_true (ltb (restart_at raw end (suc i)) end) (either (eqb (suc i) 0) (ltb (restart_at raw end (suc i - 1)) (restart_at raw end (suc i)))) e).1 in
      let u : ltb (restart_at raw end (suc i - 1)) (restart_at raw end (suc i)) ≡ true = rw (ne_eqb (suc i) 0 (λ z. omega arith)) at t in
      let v : restart_at raw end (suc i - 1) < restart_at raw end (suc i) = ltb-true _ _ u in
      subst (λ (k : ℕ). restart_at raw end k < restart_at raw end (suc i)) n v

  restarts_rise : (n : ℕ) → restarts_sound raw end n ≡ true → (j i : ℕ) → i < j → j < n → restart_at raw end i < restart_at raw end j
  restarts_rise n e zero i h l = absurd (omega arith)
  restarts_rise n e (suc j) i h l =
      let s : restart_at raw end j < restart_at raw end (suc j) = restart_above j (restarts_each n (suc j) e l) in
      last_or_below (λ (k : ℕ). restart_at raw end k < restart_at raw end (suc j)) i j h s
      (λ b. let r = restarts_rise n e j i b (omega arith) in omega arith)

  restart_sound_lem : (i : ℕ) → restart_at raw end i < end → ((j : ℕ) → j < i → restart_at raw end j < restart_at raw end i) → restart_sound raw end i ≡ true
  unfolding restart_sound either
  restart_sound_lem i l r = true_both _ _ (lt-ltb _ _ l) (go (eqb i 0) refl)
    where
      go : (b : Bool) → eqb i 0 ≡ b → either b (ltb (restart_at raw end (i - 1)) (restart_at raw end i)) ≡ true
      go true e = refl
      go false e = let d = eqb-false i 0 e in lt-ltb _ _ (r (i - 1) (omega arith))

sound_facts : (raw : List ℕ) (m : BlockMeta) → verify_of raw ≡ Ok m → SoundBlock raw m
unfolding verify_of restarts_verified meta_of restarts_in entries_end_in
sound_facts raw m e =
    let p₁ = asked _ _ _ m e in
    let p₂ = asked _ _ _ m p₁.1 in
    let p₃ = asked _ _ _ m p₂.1 in
    let p₄ = asked _ _ _ m p₃.1 in
    let p₅ = asked _ _ _ m p₄.1 in
    let p₆ = asked _ _ _ m p₅.1 in
    let p₇ = asked _ _ _ m p₆.1 in
    let p₈ = asked _ _ _ m p₇.1 in
    let q : meta_of raw ≡ m = same_ok p₈.1 in
    let l₁ : 34 ≤ length raw = leb-true _ _ p₁.0 in
    let l₅ : 4 * restarts_in raw ≤ length raw - 9 = leb-true _ _ p₅.0 in
    subst (SoundBlock raw) q
    (record {
      long = l₁;
      type_zero = eqb-true _ _ p₂.0;
      crc = eqb-true _ _ p₃.0;
      restarts = refl;
      nonzero = ltb-true _ _ p₄.0;
      fitting = omega arith;
      start = refl;
      room = leb-true _ _ p₆.0;
      inside = λ i l. restart_inside raw _ i (restarts_each raw _ _ i p₇.0 l);
      rising = λ i j h l. restarts_rise raw _ _ p₇.0 j i h l;
      first = eqb-true _ _ p₈.0;
    })

-- a sound block's entries end where its length and its number of restart offsets say
pub sound_end : (raw : List ℕ) (m : BlockMeta) → SoundBlock raw m → entries_end_in raw ≡ m.entries_end
unfolding restarts_in entries_end_in
sound_end raw m f =
    let n : restarts_in raw ≡ m.num_restarts = f.restarts in
    let fit = f.fitting in
    omega arith

facts_sound : (raw : List ℕ) (m : BlockMeta) → SoundBlock raw m → verify_of raw ≡ Ok m
unfolding verify_of restarts_verified meta_of restarts_in entries_end_in
facts_sound raw m f =
    let n : restarts_in raw ≡ m.num_restarts = f.restarts in
    let fit = f.fitting in
    let e = sound_end raw m f in
    let q : meta_of raw ≡ m = λ i. record { entries_end = e i; restart_start = (e ∙ sym f.start) i; num_restarts = n i } in
    let s : restarts_sound raw (entries_end_in raw) (restarts_in raw) ≡ true =
    (λ i. restarts_sound raw (e i) (n i))
    ∙ restarts_all raw _ _ (λ i l. restart_sound_lem raw _ i (f.inside i l) (λ j h. f.rising j i h l)) in
    let z : restart_at raw (entries_end_in raw) 0 ≡ 0 = ap (λ (k : ℕ). restart_at raw k 0) e ∙ f.first in
    goes_on _ _ _ _ (le-leb 34 (length raw) f.long)
    (goes_on _ _ _ _ (eq-eqb _ _ f.type_zero)
    (goes_on _ _ _ _ (eq-eqb _ _ f.crc)
    (goes_on _ _ _ _ (lt-ltb 0 (restarts_in raw) (let p = f.nonzero in omega arith))
    (goes_on _ _ _ _ (le-leb (4 * restarts_in raw) (length raw - 9) (omega arith))
    (goes_on _ _ _ _ (le-leb 21 (entries_end_in raw) (let p = f.room in omega arith))
    (goes_on _ _ _ _ s
    (goes_on _ _ _ _ (eq-eqb _ _ z) (ap Ok q))))))))

-- a block is sound exactly if the plain facts hold, and the numbers answered are theirs
pub sound_exactly : (raw : List ℕ) (m : BlockMeta) → (verify_of raw ≡ Ok m) ↔ SoundBlock raw m
sound_exactly raw m = (sound_facts raw m, facts_sound raw m)
