-- A span of one key, of a record that 24, 27 and 28 hold of.
-- Assumes nothing.
use mathlib.Core.Path.{◌≡◌, refl, ap, ◌∙◌, subst}
use mathlib.Core.Bool.{true}
use mathlib.Core.List.{List}
use Prim.Native.Nat.{ℕ, ◌+◌, ◌*◌, ◌≤◌}
use native.Mathlib.Omega.{arith}
use lib.Dec.{leb}
use lib.ListN.{length}
use borrow.Author.Tests.{le-leb}
use Rattle.std.specs.Prelude.{Option, Some, None, Result, Ok}
use Rattle.refusal.specs.declared.Refusal.{Refusal}
use Rattle.header.specs.declared.Opened.{Opened}
use Rattle.numbers.specs.Numbers.{opened_of}
use Rattle.spans.specs.Span.{Pair, scan_address, values_from, pairs_written, spanned_read}
use Rattle.spans.specs.Internal.{Spannable}
use Rattle.onekey.specs.Internal.{KeyPut}
use Rattle.usual.specs.Internal.{ScanRecord}
use Rattle.scans.specs.Spans.{span_of_numbers}
use Rattle.scans.proofs.Asked.{spannable, table_inside, told_of, walked}
use Rattle.scans.proofs.Numbers.{spanned_over}

module _ (s numbers : List ℕ) (first limit places : ℕ) (r : ScanRecord s numbers first) where
  abbrev whole : Result (List Pair) Refusal
  whole = span_of_numbers s numbers first 1 limit places

  inside : leb (first + 1) (opened_of numbers).count ≡ true
  unfolding opened_of
  inside = let h = r.below in le-leb (first + 1) (opened_of numbers).count (omega arith)

  module _ {o : Opened} (e : o ≡ opened_of numbers) where
    -- its scan address is read inside the section
    pub one_table : o.scan + 24 + 4 * (first + 1) + 4 ≤ length s
    one_table = omega (arith, ap (λ (p : Opened). p.scan) e, table_inside s (opened_of numbers) r.held r.scans first 1 inside)

    pub one_spannable : Spannable o
    one_spannable = rw e (spannable s (opened_of numbers) r.held r.scans)

    -- the key that stands there is the span
    pub one_is : {address : ℕ} → address ≡ scan_address s o first → 2 ≤ places → values_from 1 s o limit address ≡ whole
    one_is ea l =
        ap (values_from 1 s o limit) ea
        ∙ ap (λ (p : Opened). values_from 1 s p limit (scan_address s p first)) e
        ∙ walked s (opened_of numbers) first 1 limit places r.held r.scans inside (omega arith)
        ∙ spanned_over s numbers first 1 limit places r.numbers refl

module _ (a : Result (List Pair) Refusal) (before after : List ℕ) {v : Option ℕ} (put : KeyPut v a before after) where
  -- what the key's reader wrote is what the span gives
  pub written_told : {n : ℕ} → v ≡ Some n → (x : Result (List Pair) Refusal) → a ≡ x → (Ok n ≡ spanned_read x) × (after ≡ pairs_written x before)
  unfolding KeyPut
  written_told ev x e = told_of e before (subst (λ (k : Option ℕ). KeyPut k a before after) ev put)

  -- and what it leaves it keeps
  pub left_kept : v ≡ None → after ≡ before
  unfolding KeyPut
  left_kept ev = subst (λ (k : Option ℕ). KeyPut k a before after) ev put
