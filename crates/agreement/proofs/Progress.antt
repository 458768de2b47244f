-- One record of the walk, both ways, and where the walk stands.
-- Assumes nothing.
use mathlib.Core.Path.{◌≡◌, refl, sym, ap, ◌∙◌}
use mathlib.Core.List.{List}
use mathlib.Core.Bool.{Bool, true, false}
use mathlib.Core.Logic.{◌↔◌}
use Prim.Native.Nat.{ℕ, suc, ◌+◌, ◌<◌, ◌≤◌}
use native.Mathlib.Omega.{arith}
use lib.Dec.{eqb, leb}
use lib.ListN.{length}
use borrow.Author.Tests.{eqb-true, eqb-false, eq-eqb, ne_eqb, leb-true, leb-false, le-leb}
use Rattle.num.specs.Number.{le_at}
use Rattle.num.proofs.Choice.{both_true, true_both, if_true, either_second, second_either}
use Rattle.sstable.specs.Limits.{max_key_bytes, max_value_bytes, within_limits}
use Rattle.block.specs.Walk.{Entry}
use Rattle.arena.specs.declared.Cursor.{Cursor}
use Rattle.versions.specs.Version.{visit_of}
use Rattle.std.specs.Prelude.{Result, Ok, Err}
use Rattle.refusal.specs.declared.Refusal.{Refusal}
use Rattle.refusal.proofs.Asked.{refused_ok, asked}
use Rattle.validate.specs.Walk.{Inputs, value_of, Progress, progress_for, entry_asked}
use Rattle.opening.specs.Open.{start_at, start_of, ends_together, prefixes_counted}
use Rattle.agreement.specs.Keys.{address_of, version_count, first_version, prefix_count}
use Rattle.agreement.proofs.Indices.{first_version_next}
use Rattle.agreement.proofs.Visit.{Before, Within, Counted, within_last}
use Rattle.num.specs.Choice.{when◌then◌else◌}

-- the progress behind a record, the cursor behind it given
abbrev pub behind : Progress → Entry → Cursor → Progress
behind p e d = record { previous = when eqb p.cursor.remaining 0 then e.key else p.previous; cursor = d }

progress_from : (p q : Progress) (e : Entry) (v : Result Cursor Refusal) → progress_for p e v ≡ Ok q → (d : Cursor) × (v ≡ Ok d) × (behind p e d ≡ q)
unfolding progress_for
progress_from p q e (Ok d) r = (d, refl, cc)
progress_from p q e (Err x) r = refused_ok r

module _ (t : Inputs) where
  open t use {section as s, backing as «data», opened as o, end, half}

  -- ---- one record

  -- questions 14 and 15 of a record
  pub record Limited (e : Entry) : Type 0 where
    pub key : length e.key ≤ 1048576
    pub value : e.size ≤ 16777216
    pub scratch : length e.key ≤ half

  -- a record passes if it is within the limits and its visit goes on
  pub record_passed : (p q : Progress) (e : Entry) → entry_asked t p e ≡ Ok q
      → Limited e × ((d : Cursor) × (visit_of s o end p.cursor p.previous e (value_of «data» e) ≡ Ok d) × (behind p e d ≡ q))
  unfolding entry_asked within_limits max_key_bytes max_value_bytes
  record_passed p q e r =
      let w₁ = asked _ _ _ q r in
      let w₂ = asked _ _ _ q w₁.1 in
      let b = both_true _ _ w₁.0 in
      (record { key = leb-true _ _ b.0; value = leb-true _ _ b.1; scratch = leb-true _ _ w₂.0 }, progress_from p q e _ w₂.1)

  pub passed_record : (p : Progress) (e : Entry) (d : Cursor) → Limited e → visit_of s o end p.cursor p.previous e (value_of «data» e) ≡ Ok d
      → entry_asked t p e ≡ Ok (behind p e d)
  unfolding entry_asked within_limits max_key_bytes max_value_bytes progress_for
  passed_record p e d l v =
      if_true _ _ _ (true_both _ _ (le-leb _ _ l.key) (le-leb _ _ l.value))
      ∙ if_true _ _ _ (le-leb _ _ l.scratch)
      ∙ ap (progress_for p e) v

  -- ---- where the walk stands

  -- k keys were entered and r records visited: the cursor stands before key k, or before version j of the last key entered
  pub data Stands (k r : ℕ) (c : Cursor) : Type 0 where
    before : Before s o k c → r ≡ first_version s o k → Stands k r c
    within : (i j : ℕ) → k ≡ suc i → Within s o i j c → j < version_count s o i → r ≡ first_version s o i + j → Stands k r c

  -- behind version j of key i it stands before another version, or before the next key
  pub settled : (i j r : ℕ) (c : Cursor) → Within s o i (suc j) c → r ≡ first_version s o i + j → Stands (suc i) (suc r) c
  settled i j r c w e = go (leb (version_count s o i) (suc j)) refl
    where
      go : (b : Bool) → leb (version_count s o i) (suc j) ≡ b → Stands (suc i) (suc r) c
      go true h =
          let l : version_count s o i ≤ suc j = leb-true _ _ h in
          let n = first_version_next s o i in
          let m = w.remaining in
          before (within_last s o i (suc j) c w l) (omega arith)
      go false h = within i (suc j) refl w (leb-false _ _ h) (omega arith)

  pub start_stands : Stands 0 0 (start_of o).cursor
  unfolding start_of start_at address_of first_version
  start_stands =
      before
      (record {
        pos = omega arith;
        groups = refl;
        remaining = refl;
        anchor = λ n. absurd (n refl);
        anchor_len = λ n. absurd (n refl);
      }) refl

  pub start_counted : Counted s o 0 (start_of o).previous (start_of o).cursor
  unfolding start_of start_at prefix_count
  start_counted = record { previous = λ i q. absurd (omega arith); prefixes = λ n. refl }

  -- ---- where it ends

  -- question 22 in plain terms
  pub ends_exactly : (at : ℕ) (c : Cursor)
      → (ends_together t at c ≡ true) ↔ ((at ≡ length «data») × (c.pos ≡ end) × (c.remaining ≡ 0) × (c.groups ≡ o.count))
  unfolding ends_together
  ends_exactly at c = (
    λ e.
        let b₁ = both_true _ _ e in
        let b₂ = both_true _ _ b₁.1 in
        let b₃ = both_true _ _ b₂.1 in
        (eqb-true _ _ b₁.0, eqb-true _ _ b₂.0, eqb-true _ _ b₃.0, eqb-true _ _ b₃.1),
    λ h. true_both _ _ (eq-eqb _ _ h.0) (true_both _ _ (eq-eqb _ _ h.1) (true_both _ _ (eq-eqb _ _ h.2) (eq-eqb _ _ h.3))),
  )

  -- question 23 where k keys were entered
  pub prefixes_exactly : (k : ℕ) (last : List ℕ) (c : Cursor) → Counted s o k last c
      → (prefixes_counted t c ≡ true) ↔ ((o.scan ≡ 0 → ⊥) → le_at s (o.scan + 16) 8 ≡ prefix_count s o k)
  unfolding prefixes_counted
  prefixes_exactly k last c m = (
    λ e n. eqb-true _ _ (either_second _ _ e (ne_eqb o.scan 0 n)) ∙ m.prefixes n,
    λ f. second_either _ _ (λ e. let n = eqb-false o.scan 0 e in eq-eqb _ _ (f n ∙ sym (m.prefixes n))),
  )
