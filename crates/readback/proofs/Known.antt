-- The numbers of kinds.
-- Assumes nothing.
use mathlib.Core.Path.{◌≡◌, refl, ap, ◌∙◌}
use mathlib.Core.Bool.{Bool, true, false}
use mathlib.Core.List.{[], ◌∷◌}
use Prim.Native.Nat.{ℕ}
use lib.Dec.{eqb}
use Rattle.std.specs.Prelude.{Result, Ok, Err, is_ok}
use Rattle.num.specs.Choice.{when◌then◌else◌, either, one_of}
use Rattle.refusal.specs.declared.Refusal.{Refusal}
use Rattle.refusal.specs.declared.Refusal.TheVariants as refusal
use Rattle.sstable.specs.declared.Kind.{Kind}
use Rattle.sstable.specs.declared.Kind.TheVariants.{Put, Tombstone}
use Rattle.sstable.specs.Kind.{kind_of}

module _ (n : ℕ) where
  known : (a b : Bool) → is_ok {T = Kind} {E = Refusal} (when a then Ok Put else when b then Ok Tombstone else Err refusal.Entry) ≡ either a (either b false)
  unfolding when◌then◌else◌ either
  known true b = refl
  known false true = refl
  known false false = refl

  -- a number is a kind's if it is 1 or 2
  pub kind_known : (r : Result Kind Refusal) → r ≡ kind_of n → is_ok r ≡ one_of (1 ∷ 2 ∷ []) n
  unfolding kind_of one_of
  kind_known r e = ap is_ok e ∙ known (eqb n 1) (eqb n 2)
