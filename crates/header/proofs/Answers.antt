-- The answer for each way through the questions.
-- Assumes nothing.
use mathlib.Core.Path.{◌≡◌, sym, ap, ap₂, ◌∙◌}
use mathlib.Core.Bool.{Bool, true, false}
use mathlib.Core.List.{List}
use Prim.Native.Nat.{ℕ, ◌-◌, ◌<◌, ◌≤◌}
use lib.ListN.{length}
use borrow.Author.Tests.{lt-ltb, le-ltb}
use Rattle.num.proofs.Choice.{true_both, if_true, if_false}
use Rattle.encoding.specs.Encoding.{trailer_len, scan_flag}
use Rattle.header.specs.declared.Opened.{Opened}
use Rattle.std.specs.Prelude.{Ok}
use Rattle.header.specs.Header.{begins, flags_of, has_flag, fields_of, dimensions, arena_below, scan_flagged, scan_place_of, scan_part, scan_settings, with_scan, scanned_of, header_of}

-- questions 5 and 6
module _ (s : List ℕ) (o : Opened) (place : ℕ) (q : place ≡ scan_place_of s o) where
  settings : (t : Bool) → scan_settings s place o.count ≡ t → scan_settings s (scan_place_of s o) o.count ≡ t
  settings t e = ap (λ (k : ℕ). scan_settings s k o.count) (sym q) ∙ e

  pub scanned_yes : scan_part s o ≡ true → scan_settings s place o.count ≡ true → Ok (with_scan o place) ≡ scanned_of s o
  unfolding scanned_of
  scanned_yes p r = ap (λ (k : ℕ). Ok (with_scan o k)) q ∙ sym (if_true _ _ _ p ∙ if_true _ _ _ (settings true r))

-- questions 3 and 4, and whether 5 and 6 are asked
module _ (s : List ℕ) (o : Opened) (flags : ℕ) (e : o ≡ fields_of s) (f : flags ≡ flags_of s) where
  pub sizes : (t : Bool) → dimensions o flags ≡ t → dimensions (fields_of s) (flags_of s) ≡ t
  sizes t d = ap₂ dimensions (sym e) (sym f) ∙ d

  above : length s - trailer_len ≤ o.arena → arena_below s (fields_of s) ≡ false
  unfolding arena_below
  above h = ap (arena_below s) (sym e) ∙ le-ltb o.arena (length s - trailer_len) h

  below : o.arena < length s - trailer_len → arena_below s (fields_of s) ≡ true
  unfolding arena_below
  below h = ap (arena_below s) (sym e) ∙ lt-ltb o.arena (length s - trailer_len) h

  flagged : (t : Bool) → has_flag scan_flag flags ≡ t → scan_flagged s ≡ t
  unfolding scan_flagged
  flagged t h = ap (has_flag scan_flag) (sym f) ∙ h

  pub header_scanned : begins s ≡ true → dimensions o flags ≡ true → o.arena < length s - trailer_len → has_flag scan_flag flags ≡ true
      → scanned_of s o ≡ header_of s
  unfolding header_of
  header_scanned b d h t =
      ap (scanned_of s) e ∙ sym (if_true _ _ _ b ∙ if_true _ _ _ (true_both _ _ (sizes true d) (below h)) ∙ if_true _ _ _ (flagged true t))

  pub header_unscanned : begins s ≡ true → dimensions o flags ≡ true → o.arena < length s - trailer_len → has_flag scan_flag flags ≡ false
      → Ok o ≡ header_of s
  unfolding header_of
  header_unscanned b d h t =
      ap Ok e ∙ sym (if_true _ _ _ b ∙ if_true _ _ _ (true_both _ _ (sizes true d) (below h)) ∙ if_false _ _ _ (flagged false t))
