-- The walk over the pairs passes exactly if the list covers the data and the records of all blocks, as one list, pass.
-- Assumes nothing.
use mathlib.Core.Path.{◌≡◌, refl, sym, ap, ◌∙◌}
use mathlib.Core.List.{List, [], ◌∷◌}
use mathlib.Core.Bool.{Bool, true, false}
use mathlib.Core.Logic.{◌↔◌}
use Prim.Native.Nat.{ℕ, ◌+◌, ◌≤◌}
use lib.Dec.{eqb, leb}
use lib.ListN.{length}
use borrow.Author.Tests.{eqb-true, leb-true, eq-eqb, le-leb}
use Rattle.std.specs.Prelude.{Result, Ok, Err}
use Rattle.refusal.specs.declared.Refusal.{Refusal}
use Rattle.refusal.specs.declared.Refusal.TheVariants as refusal
use Rattle.refusal.proofs.Asked.{refused_ok, same_ok}
use Rattle.num.proofs.Choice.{both_true, true_both}
use Rattle.validate.specs.Walk.{Inputs, Progress, entries_from}
use Rattle.opening.specs.Open.{block_asked, pair_fits, PairsEnd, pairs_from}
use Rattle.validate.proofs.Entries.{entries_nil, entries_split, entries_join}
use Rattle.admission.specs.Blocks.{Covers, block_entries, store_entries}
use Rattle.admission.proofs.Block.{block_passed, passed_block}
use Rattle.admission.proofs.Covers.{CoversFrom, covers_exactly}

-- the pairs end at a place with a progress
abbrev ends_at : ℕ → Progress → Result PairsEnd Refusal
ends_at at p = Ok (record { at = at; progress = p })

-- what follows a block, and what follows question 11
judged : Inputs → List ℕ → ℕ → Result Progress Refusal → Result PairsEnd Refusal
judged t pairs next a = elim a [ Ok q ↦ pairs_from t pairs next q | Err n ↦ Err n ]

fitted : Inputs → List ℕ → ℕ → Result Progress Refusal → Bool → Result PairsEnd Refusal
fitted t pairs next a b = elim b [ true ↦ judged t pairs next a | false ↦ Err refusal.BlockList ]

pairs_step : (t : Inputs) (offset len : ℕ) (pairs : List ℕ) (at : ℕ) (p : Progress)
    → pairs_from t (offset ∷ len ∷ pairs) at p ≡ fitted t pairs (offset + len) (block_asked t offset len p) (pair_fits (length t.backing) at offset len)
unfolding pairs_from fitted judged
pairs_step t offset len pairs at p = refl

fitted_ended : (t : Inputs) (pairs : List ℕ) (next : ℕ) (a : Result Progress Refusal) (b : Bool) (e : ℕ) (q : Progress) → fitted t pairs next a b ≡ ends_at e q
    → (b ≡ true) × ((o : Progress) × (a ≡ Ok o) × (pairs_from t pairs next o ≡ ends_at e q))
unfolding fitted judged
fitted_ended t pairs next (Ok o) true e q h = (refl, (o, refl, h))
fitted_ended t pairs next (Err n) true e q h = refused_ok h
fitted_ended t pairs next a false e q h = refused_ok h

ended_fitted : (t : Inputs) (pairs : List ℕ) (next : ℕ) (a : Result Progress Refusal) (b : Bool) (o : Progress) → b ≡ true → a ≡ Ok o
    → fitted t pairs next a b ≡ pairs_from t pairs next o
unfolding fitted judged
ended_fitted t pairs next a b o p q = rw (p, q)

fits_facts : (t : Inputs) (at offset len : ℕ) → pair_fits (length t.backing) at offset len ≡ true → (offset ≡ at) × (offset + len ≤ length t.backing)
unfolding pair_fits
fits_facts t at offset len e =
    let b = both_true (eqb offset at) (leb (offset + len) (length t.backing)) e in
    (eqb-true offset at b.0, leb-true (offset + len) (length t.backing) b.1)

facts_fits : (t : Inputs) (at offset len : ℕ) → offset ≡ at → offset + len ≤ length t.backing → pair_fits (length t.backing) at offset len ≡ true
unfolding pair_fits
facts_fits t at offset len e h = true_both _ _ (eq-eqb offset at e) (le-leb (offset + len) (length t.backing) h)

pairs_covered : (t : Inputs) (pairs : List ℕ) (at : ℕ) (p q : Progress) → pairs_from t pairs at p ≡ ends_at (length t.backing) q
    → CoversFrom t.backing pairs at × (entries_from t p (store_entries t.backing pairs) ≡ Ok q)
unfolding pairs_from store_entries
pairs_covered t [] at p q e =
    let z : ◌≡◌ {A = PairsEnd} (record { at = at; progress = p }) (record { at = length t.backing; progress = q }) = same_ok e in
    (ap (λ (x : PairsEnd). x.at) z, entries_nil t p ∙ ap (λ (x : PairsEnd). Ok x.progress) z)
pairs_covered t (offset ∷ []) at p q e = refused_ok e
pairs_covered t (offset ∷ len ∷ pairs) at p q e =
    let f = fitted_ended t pairs (offset + len) (block_asked t offset len p) (pair_fits (length t.backing) at offset len) (length t.backing) q
    (sym (pairs_step t offset len pairs at p) ∙ e) in
    let fits = fits_facts t at offset len f.0 in
    let o = f.1.0 in
    let block = block_passed t offset len p o f.1.1 in
    let rest = pairs_covered t pairs (offset + len) o q f.1.2 in (
      (fits.0, fits.1, block.0, rest.0),
      entries_join t (block_entries t.backing offset len) (store_entries t.backing pairs) p o q block.1 rest.1,
    )

covered_pairs : (t : Inputs) (pairs : List ℕ) (at : ℕ) (p q : Progress) → CoversFrom t.backing pairs at
    → entries_from t p (store_entries t.backing pairs) ≡ Ok q → pairs_from t pairs at p ≡ ends_at (length t.backing) q
unfolding pairs_from store_entries
covered_pairs t [] at p q c e =
    let z : p ≡ q = same_ok (sym (entries_nil t p) ∙ e) in
    λ i. ends_at (c i) (z i)
covered_pairs t (offset ∷ []) at p q c e = absurd c
covered_pairs t (offset ∷ len ∷ pairs) at p q c e =
    let s = entries_split t (block_entries t.backing offset len) (store_entries t.backing pairs) p q e in
    pairs_step t offset len pairs at p
    ∙ ended_fitted t pairs (offset + len) (block_asked t offset len p) (pair_fits (length t.backing) at offset len) s.0 (facts_fits t at offset len c.0 c.1) (passed_block t offset len p s.0 c.2 s.1)
    ∙ covered_pairs t pairs (offset + len) s.0 q c.3 s.2

-- the walk over the pairs ends at the end of the data exactly if the list covers the data and all records, as one list, pass;
-- and both carry the same progress on
pub pairs_exactly : (t : Inputs) (blocks : List ℕ) (p q : Progress)
    → (pairs_from t blocks 0 p ≡ Ok (record { at = length t.backing; progress = q }))
    ↔ (Covers t.backing blocks × (entries_from t p (store_entries t.backing blocks) ≡ Ok q))
pairs_exactly t blocks p q = (to, from)
  where
    to : pairs_from t blocks 0 p ≡ ends_at (length t.backing) q → Covers t.backing blocks × (entries_from t p (store_entries t.backing blocks) ≡ Ok q)
    to w =
        let c = pairs_covered t blocks 0 p q w in
        ((covers_exactly t.backing blocks).0 c.0, c.1)

    from : Covers t.backing blocks × (entries_from t p (store_entries t.backing blocks) ≡ Ok q) → pairs_from t blocks 0 p ≡ ends_at (length t.backing) q
    from w = covered_pairs t blocks 0 p q ((covers_exactly t.backing blocks).1 w.0) w.1
