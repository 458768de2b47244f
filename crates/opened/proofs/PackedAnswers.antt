-- Question 24 of a packed record: the answer for each way through its tests.
-- Assumes nothing.
use mathlib.Core.Path.{◌≡◌, sym, ap, ◌∙◌}
use mathlib.Core.Bool.{true}
use mathlib.Core.List.{List}
use Prim.Native.Nat.{ℕ, ◌-◌, ◌<◌}
use lib.ListN.{length}
use Rattle.num.proofs.Choice.{both_yes}
use Rattle.encoding.specs.Encoding.{trailer_len}
use Rattle.header.specs.declared.Opened.{Opened}
use Rattle.header.specs.Header.{begins, flags_of, fields_of, dimensions, arena_below, fits_packed, packed_record}
use Rattle.opened.specs.Opened.{same_record_of, packed_of}
use Rattle.header.proofs.Answers.{sizes}
use Rattle.header.proofs.Headers.{yes_below}

module _ (s : List ℕ) (o found : Opened) (flags : ℕ) (e : found ≡ fields_of s) (f : flags ≡ flags_of s) where
  module _ (packed : Opened) (g : packed ≡ packed_record found) where
    pub packed_same : begins s ≡ true → dimensions found flags ≡ true → fits_packed found ≡ true → packed.arena < length s - trailer_len
        → same_record_of packed o ≡ packed_of s o
    unfolding packed_of
    packed_same b d p h =
        both_yes _ _ _ b (both_yes _ _ _ (sizes s found flags e f true d) (both_yes _ _ _ (ap fits_packed (sym e) ∙ p)
        (both_yes _ _ _ (ap (arena_below s) (ap packed_record (sym e) ∙ sym g) ∙ yes_below s packed h)
        (ap (λ (r : Opened). same_record_of r o) (g ∙ ap packed_record e)))))
