-- The bytes by eight, and then those that are left, one by one.
-- Assumes nothing.
use Rattle.std.proofs.Common.{◌≡◌, ℕ, zero, suc, ◌+◌, ◌*◌, ◌<◌, ◌^◌, List, [], ◌∷◌, fold, take, drop, sym, ap, ◌∙◌, arith}
use Rattle.std.specs.Simd.{first_chunks}
use Rattle.std.proofs.lemmas.List.{take-append-drop, drop-drop}
use Rattle.num.specs.Number.{Bytes}
use Rattle.num.proofs.Lists.{bytes_one, bytes_take, bytes_drop}
use Rattle.crc32.specs.V42.{update_of}
use Rattle.crc32.proofs.Division.{update_append, update_none, update_lt}

one_by_one : (bytes : List ℕ) (c : ℕ) → c < 2 ^ 32 → Bytes bytes → fold (λ c b. update_of c (b ∷ [])) c bytes ≡ update_of c bytes
one_by_one [] c hc h = sym (update_none c hc)
one_by_one (b ∷ bytes) c hc h =
    one_by_one bytes (update_of c (b ∷ [])) (update_lt c (b ∷ [])) (λ k. h (suc k))
    ∙ sym (update_append c (b ∷ []) bytes hc (bytes_one b (h 0)) (λ k. h (suc k)))

pub all_taken : (k c : ℕ) (bytes : List ℕ) → c < 2 ^ 32 → Bytes bytes
    → fold (λ c b. update_of c (b ∷ [])) (fold update_of c (first_chunks 8 k bytes)) (drop (k * 8) bytes) ≡ update_of c bytes
all_taken zero c bytes hc h = one_by_one bytes c hc h
all_taken (suc k) c bytes hc h =
    let more : suc k * 8 ≡ 8 + k * 8 = omega arith in
    rw (more, ← drop-drop (k * 8) 8 bytes)
    (all_taken k (update_of c (take 8 bytes)) (drop 8 bytes) (update_lt c (take 8 bytes)) (bytes_drop 8 bytes h)
    ∙ sym (update_append c (take 8 bytes) (drop 8 bytes) hc (bytes_take 8 bytes h) (bytes_drop 8 bytes h))
    ∙ ap (update_of c) (take-append-drop 8 bytes))
