-- The lines of a run, joined, are what was left to print at its start.
-- Assumes nothing.
use mathlib.Core.Path.{◌≡◌, refl, sym, ap, ◌∙◌}
use mathlib.Core.List.{List, ◌++◌}
use Prim.Native.Nat.{ℕ}
use Rattle.std.proofs.Common.{Option}
use Rattle.listing.specs.declared.text.Left.{Left}
use Rattle.listing.specs.Internal.{text_left}
use Rattle.listing.specs.Run.{lines_joined, Run, ended, went, RunsPrint}

run_text : (sectionLen : ℕ) («data» blocks : List ℕ) {left : Option Left} {keys : List ℕ} {lines : List (List ℕ)}
    → Run sectionLen «data» blocks left keys lines → lines_joined lines ≡ text_left sectionLen «data» blocks left keys
unfolding lines_joined text_left
run_text sectionLen «data» blocks ended = refl
run_text sectionLen «data» blocks (went {line = line} c r) =
    ap (λ (l : List ℕ). line ++ l) (run_text sectionLen «data» blocks r) ∙ sym c.text

pub runs_print : RunsPrint
unfolding RunsPrint
runs_print whole s «data» file keys left lines e r = run_text _ «data» _ r ∙ e
