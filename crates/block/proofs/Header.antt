-- Question 13 of one entry, and its plain terms.
-- Assumes nothing.
use mathlib.Core.Path.{◌≡◌, refl, sym, ap, ◌∙◌, subst}
use mathlib.Core.List.{List}
use mathlib.Core.Bool.{true}
use mathlib.Core.Logic.{◌↔◌}
use Prim.Native.Nat.{ℕ, ◌+◌, ◌<◌, ◌≤◌, ◌^◌}
use native.Mathlib.Omega.{arith}
use lib.Dec.{leb}
use lib.ListN.{get_or}
use borrow.Author.Tests.{leb-true, le-leb, eqb-true, eq-eqb}
use Rattle.num.specs.Number.{Bytes}
use Rattle.num.proofs.Number.{le_at-lt}
use Rattle.sstable.specs.Kind.{kind_of}
use Rattle.sstable.specs.declared.Kind.{Kind}
use Rattle.sstable.specs.declared.Kind.TheVariants.{Put, Tombstone}
use Rattle.refusal.specs.declared.Refusal.{Refusal}
use Rattle.std.specs.Prelude.{Result, Ok, Err}
use Rattle.refusal.proofs.Asked.{refused_ok, same_ok, asked, goes_on}
use Rattle.block.specs.declared.EntryHeader.{EntryHeader}
use Rattle.block.specs.EntryHeader.{entry_numbers, value_allowed, entry_header_for, entry_header_kind, entry_header_of, SoundEntry}

allowed_empty : (k : Kind) (n : ℕ) → value_allowed k n ≡ true → k ≡ Tombstone → n ≡ 0
unfolding value_allowed
allowed_empty Put n e t = absurd (let z : ◌≡◌ {A = ℕ} 0 1 = cc in omega arith)
allowed_empty Tombstone n e t = eqb-true n 0 e

empty_allowed : (k : Kind) (n : ℕ) → (k ≡ Tombstone → n ≡ 0) → value_allowed k n ≡ true
unfolding value_allowed
empty_allowed Put n h = refl
empty_allowed Tombstone n h = eq-eqb n 0 (h refl)

module _ (s : List ℕ) (end pos : ℕ) (h : EntryHeader) where
  facts_of_kind : (q : Result Kind Refusal) → leb (pos + 21) end ≡ true → kind_of (get_or s pos 0) ≡ q → entry_header_kind s end pos q ≡ Ok h → SoundEntry s end pos h
  unfolding entry_header_kind entry_header_for entry_numbers
  facts_of_kind (Ok k) l f e =
      let p₁ = asked _ _ _ h e in
      let p₂ = asked _ _ _ h p₁.1 in
      let q : entry_numbers s pos k ≡ h = same_ok p₂.1 in
      subst (SoundEntry s end pos) q
      (record {
        header_inside = leb-true _ _ l;
        kind = f;
        seq = refl;
        shared = refl;
        non_shared = refl;
        value_len = refl;
        tombstone_empty = allowed_empty _ _ p₁.0;
        inside = leb-true _ _ p₂.0;
      })
  facts_of_kind (Err x) l f e = refused_ok e

  entry_facts : entry_header_of s end pos ≡ Ok h → SoundEntry s end pos h
  unfolding entry_header_of
  entry_facts e =
      let p = asked _ _ _ h e in
      facts_of_kind (kind_of (get_or s pos 0)) p.0 refl p.1

  facts_entry : SoundEntry s end pos h → entry_header_of s end pos ≡ Ok h
  unfolding entry_header_of entry_header_kind entry_header_for entry_numbers
  facts_entry f =
      let q : entry_numbers s pos h.kind ≡ h =
      λ i. record { kind = h.kind; seq = f.seq i; shared = f.shared i; non_shared = f.non_shared i; value_len = f.value_len i } in
      goes_on _ _ _ _ (le-leb _ _ f.header_inside)
      (ap (entry_header_kind s end pos) f.kind
      ∙ ap (entry_header_for end pos) q
      ∙ goes_on _ _ _ _ (empty_allowed _ _ f.tombstone_empty) (goes_on _ _ _ _ (le-leb _ _ f.inside) refl))

-- an entry passes exactly if the plain facts hold, and its numbers are theirs
pub entry_exactly : (s : List ℕ) (end pos : ℕ) (h : EntryHeader) → (entry_header_of s end pos ≡ Ok h) ↔ SoundEntry s end pos h
entry_exactly s end pos h = (entry_facts s end pos h, facts_entry s end pos h)

-- the shared length of an entry has 4 bytes
pub shared_narrow : (s : List ℕ) (end pos : ℕ) (h : EntryHeader) → Bytes s → entry_header_of s end pos ≡ Ok h → h.shared < 2 ^ 32
shared_narrow s end pos h b e = subst (λ (n : ℕ). n < 2 ^ 32) (entry_facts s end pos h e).shared (le_at-lt s b 4 (pos + 1))

-- no sum of a record's places wraps
pub record_sums : (s : List ℕ) (end pos : ℕ) (h : EntryHeader) → Bytes s → Ok h ≡ entry_header_of s end pos
    → (pos + 21 + h.non_shared + h.value_len ≤ end) × (h.shared < 2 ^ 32)
record_sums s end pos h b e = ((entry_facts s end pos h (sym e)).inside, shared_narrow s end pos h b (sym e))
