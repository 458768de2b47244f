-- What the trailer questions say.
-- Assumes nothing.
use mathlib.Core.Path.{◌≡◌, refl}
use mathlib.Core.Bool.{Bool, true, false}
use mathlib.Core.List.{List}
use Prim.Native.Nat.{ℕ}
use native.Mathlib.Omega.{arith}
use lib.ListN.{length}
use borrow.Author.Tests.{leb-true, le-leb, eqb-true, eq-eqb}
use Rattle.num.specs.Choice.{when◌then◌else◌}
use Rattle.num.proofs.Choice.{both_true, true_both}
use Rattle.std.specs.Prelude.{Ok, Err}
use Rattle.refusal.specs.declared.Refusal.TheVariants as refusal
use Rattle.sstable.specs.Trailer.{plain_type, sealed, trailer_of, SoundTrailer}

-- a trailer that passes both questions is accepted
pub sound_trailer : (s : List ℕ) → SoundTrailer s → trailer_of s ≡ Ok tt
unfolding trailer_of plain_type sealed when◌then◌else◌
sound_trailer s q = rw (true_both _ _ (le-leb 6 (length s) q.long) (eq-eqb _ _ q.plain), eq-eqb _ _ q.crc) refl

-- and no other is
pub trailer_asks : (s : List ℕ) → trailer_of s ≡ Ok (tt {0}) → SoundTrailer s
unfolding trailer_of plain_type sealed when◌then◌else◌
trailer_asks s e = go (plain_type s) (sealed s) refl refl e
  where
    go : (p q : Bool) → plain_type s ≡ p → sealed s ≡ q
        → when◌then◌else◌ p (when◌then◌else◌ q (Ok (tt {0})) (Err refusal.SectionCrc)) (Err refusal.Trailer) ≡ Ok (tt {0}) → SoundTrailer s
    go true true p q e =
        let b = both_true _ _ p in
        record { long = leb-true 6 (length s) b.0; plain = eqb-true _ _ b.1; crc = eqb-true _ _ q }
    go true false p q e = absurd (let z : ◌≡◌ {A = ℕ} 0 1 = cc in omega arith)
    go false q p r e = absurd (let z : ◌≡◌ {A = ℕ} 0 1 = cc in omega arith)
