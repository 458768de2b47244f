-- A lookup over sixteen numbers that are a record is the lookup over that record. Where the section gives that record it is what the key's
-- hash leads to, and else 24.
-- Assumes nothing.
use mathlib.Core.Path.{◌≡◌, refl, sym, ap, ap₂, ◌∙◌, subst⁻¹}
use mathlib.Core.Bool.{Bool, true, false}
use mathlib.Core.List.{List}
use Prim.Native.Nat.{ℕ}
use lib.ListN.{get_or}
use Rattle.std.specs.Prelude.{Err}
use Rattle.num.specs.Choice.{when◌then◌else◌, both}
use Rattle.num.proofs.Choice.{false_true, both_true, if_true}
use Rattle.point.specs.Hash.{hash_value}
use Rattle.header.specs.declared.Opened.{Opened}
use Rattle.opened.specs.Opened.{is_record_of}
use Rattle.locator.specs.Locator.{Located}
use Rattle.refusal.specs.declared.Refusal.TheVariants as refusal
use Rattle.lookup.specs.Lookup.{hash_read, locate_of}
use Rattle.numbers.specs.Numbers.{opened_of, is_record_numbers}
use Rattle.looks.specs.Looked.{lookup_of}

pub looked_up : (s numbers key : List ℕ) (limit : ℕ) (o : Opened) (a : Located) → is_record_numbers numbers ≡ true → o ≡ opened_of numbers
    → a ≡ locate_of s o key limit → lookup_of s numbers key limit ≡ a
unfolding lookup_of
looked_up s numbers key limit o a is same found =
    if_true (is_record_numbers numbers) (locate_of s (opened_of numbers) key limit) (Err refusal.RecordGiven) is
    ∙ ap (λ (p : Opened). locate_of s p key limit) (sym same)
    ∙ sym found

module _ (s numbers key : List ℕ) (limit : ℕ) where
  pub held_record : (o : Opened) → both (is_record_numbers numbers) (is_record_of s (opened_of numbers)) ≡ true → o ≡ opened_of numbers → is_record_of s o ≡ true
  held_record o is same = subst⁻¹ (λ (p : Opened). is_record_of s p ≡ true) same (both_true _ _ is).1

  pub held_looked_up : (o : Opened) (a : Located) (h : ℕ) → both (is_record_numbers numbers) (is_record_of s (opened_of numbers)) ≡ true → o ≡ opened_of numbers
      → h ≡ hash_value key (get_or numbers 0 0) → a ≡ hash_read s o key limit h → lookup_of s numbers key limit ≡ a
  unfolding locate_of opened_of
  held_looked_up o a h is same hash found =
      let b = both_true _ _ is in
      looked_up s numbers key limit (opened_of numbers) (locate_of s (opened_of numbers) key limit) b.0 refl refl
      ∙ if_true _ _ _ b.1
      ∙ ap₂ (λ (p : Opened) (k : ℕ). hash_read s p key limit k) (sym same) (sym hash)
      ∙ sym found

  pub not_held : both (is_record_numbers numbers) (is_record_of s (opened_of numbers)) ≡ false → lookup_of s numbers key limit ≡ Err refusal.RecordGiven
  unfolding lookup_of locate_of both when◌then◌else◌
  not_held isnt = go (is_record_numbers numbers) (is_record_of s (opened_of numbers)) isnt
    where
      go : (a b : Bool) → both a b ≡ false
          → when◌then◌else◌ a (when◌then◌else◌ b (hash_read s (opened_of numbers) key limit (hash_value key (opened_of numbers).seed)) (Err refusal.RecordGiven)) (Err refusal.RecordGiven) ≡ Err refusal.RecordGiven
      go true true e = false_true (sym e)
      go true false e = refl
      go false b e = refl
