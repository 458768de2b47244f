-- A number written at once, as std's bytes of it, is its bytes stored.
-- Assumes nothing.
use Rattle.std.proofs.Common.{◌≡◌, ℕ, zero, suc, ◌+◌, ◌/◌, ◌%◌, ◌^◌, ◌≤◌, List, ◌∷◌, length, drop-drop, sym, refl, ap, ap₂, ◌∙◌, append_assoc, arith}
use Rattle.std.proofs.Math.Nat.{div-div-eq-div-mul, pow-suc, div-one}
use Rattle.std.proofs.lemmas.List.Edits.{sets, sets-eq}
use Rattle.std.specs.Int.{bytes_low_first, byte_at}
use borrow.Rule.Slice.PartMut.{put_mid}
use Rattle.num.specs.Number.{le_bytes}
use Rattle.num.proofs.Number.{length_le_bytes}

byte : (i v : ℕ) → byte_at i v ≡ v / 256 ^ i % 256
byte zero v = ap (λ (n : ℕ). n % 256) (sym (div-one v))
byte (suc i) v = refl

low_first : (i w v : ℕ) → bytes_low_first i w v ≡ le_bytes w (v / 256 ^ i)
unfolding le_bytes
low_first i zero v = refl
low_first i (suc w) v =
    ap₂ ◌∷◌ (byte i v) (low_first (suc i) w v ∙ ap (le_bytes w) (ap (λ (n : ℕ). v / n) (pow-suc 256 i) ∙ sym (div-div-eq-div-mul v (256 ^ i) 256)))

-- std's bytes of a number are its bytes
pub std_bytes : (w v : ℕ) → bytes_low_first 0 w v ≡ le_bytes w v
std_bytes w v = low_first 0 w v ∙ ap (le_bytes w) (div-one v)

pub standing : (out part : List ℕ) (at n w v : ℕ) → at + w ≤ length out → n ≡ w → part ≡ bytes_low_first 0 w v → put_mid at n out part ≡ sets out at (le_bytes w v)
standing out part at n w v h e f =
    let l = length_le_bytes w v in
    let b : part ≡ le_bytes w v = f ∙ std_bytes w v in
    rw (b, e) (sym (sets-eq (le_bytes w v) out at (omega arith) ∙ rw (l, append_assoc, ← drop-drop w at out) refl))
