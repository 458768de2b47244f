-- The loops over the bytes, turn by turn, whatever table takes the bytes.
-- Assumes nothing.
use Rattle.std.proofs.Common.{◌≡◌, ℕ, ◌+◌, ◌<◌, ◌≤◌, ◌^◌, List, [], ◌∷◌, length, get_or, take, drop, refl, sym, ap, ap₂, ◌∙◌, take-append-drop, drop_of_length-le, drop-cons, drop-drop}
use Rattle.num.specs.Number.{Bytes, le_at, le_bytes}
use Rattle.num.proofs.Lists.{bytes_take, bytes_drop}
use Rattle.num.proofs.Number.{le_bytes-le_at}
use Rattle.crc32.specs.V42.{update_of}
use Rattle.crc32.proofs.Division.{update_append, update_none, update_lt}

-- c is a register that has taken the bytes at `from` to i, beginning with the register `state`
pub record Taken (s : List ℕ) (state from i c : ℕ) : Type 0 where
  pub fits : c < 2 ^ 32
  pub left : update_of c (drop i s) ≡ update_of state (drop from s)

pub none_taken : {s : List ℕ} {state from : ℕ} → state < 2 ^ 32 → Taken s state from from state
none_taken h = record { fits = h; left = refl }

-- a turn that takes n bytes
turn : {s : List ℕ} {state from i c : ℕ} (n r : ℕ) → Bytes s → Taken s state from i c → r ≡ update_of c (take n (drop i s)) → Taken s state from (i + n) r
turn {s} {state} {from} {i} {c} n r bytes t e =
    let rest = drop i s in
    let b = bytes_drop i s bytes in
    record {
      fits = rw e (update_lt c (take n rest));
      left = ap₂ update_of e (sym (drop-drop n i s))
          ∙ sym (update_append c (take n rest) (drop n rest) t.fits (bytes_take n rest b) (bytes_drop n rest b))
          ∙ ap (update_of c) (take-append-drop n rest)
          ∙ t.left;
    }

pub word_turn : {s : List ℕ} {state from i c : ℕ} (v r : ℕ) → Bytes s → Taken s state from i c → i + 8 ≤ length s → v ≡ le_at s i 8 → r ≡ update_of c (le_bytes 8 v)
    → Taken s state from (i + 8) r
word_turn {s} {i = i} {c = c} v r bytes t h e f =
    turn 8 r bytes t (f ∙ ap (λ (x : ℕ). update_of c (le_bytes 8 x)) e ∙ ap (update_of c) (le_bytes-le_at s bytes 8 i h))

pub byte_turn : {s : List ℕ} {state from i c : ℕ} (r : ℕ) → Bytes s → Taken s state from i c → i < length s → r ≡ update_of c (get_or s i 0 ∷ []) → Taken s state from (i + 1) r
byte_turn {s} {i = i} {c = c} r bytes t h e = turn 1 r bytes t (e ∙ ap (λ (l : List ℕ). update_of c (take 1 l)) (sym (drop-cons s i 0 h)))

-- no byte is left
pub all_taken : {s : List ℕ} {state from i c : ℕ} → Taken s state from i c → length s ≤ i → c ≡ update_of state (drop from s)
all_taken {s} {c = c} t h = sym (update_none c t.fits) ∙ ap (update_of c) (sym (drop_of_length-le s h)) ∙ t.left
