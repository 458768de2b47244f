use Rattle.std.proofs.Common.{◌≡◌, ℕ, ◌/◌, length, arith, refl, ap, ◌∙◌}
use lib.Bits.{bit_xor}
use Rattle.point.specs.Hash.{chunks_of, tail_of}
use Rattle.point.proofs.Hashing.{all_chunks, chunks_none, tail_few, one_chunk, two_chunks}
use Rattle.point.proofs.all_bytes.Goals.{in-len1, in-len2, in_default}
use Rattle.point.proofs.all_bytes.Goals as goal

pub returns-in-empty : goal.returns-in-empty
returns-in-empty c =
    let key = c.args.key.now in
    rw (c.few.ensures, chunks_none key c.args.first (omega arith), tail_few key (omega arith)) refl

pub returns : goal.returns
returns c =
    let key = c.args.key.now in
    let joined : c.if-chunks-lt2.h ≡ chunks_of (length key / 8) key 0 c.args.first =
    elim c.if-chunks-lt2.branch [
      | in-len1 w ↦ w.h-is ∙ rw (w.next_chunk-h.ensures, c.as_chunks.ensures.front, one_chunk key c.args.first (omega arith)) refl
      | in-len2 w ↦ w.h-is ∙ rw (w.next_chunk-h-in-len2.ensures, w.next_chunk.ensures, c.as_chunks.ensures.front, two_chunks key c.args.first (omega arith)) refl
      | in_default w ↦ w.h-is ∙ rw (w.all_chunks-h.ensures, c.as_chunks.ensures.front, all_chunks key c.args.first) refl
    ] in
    c.odd_bytes.ensures ∙ ap (λ (x : ℕ). bit_xor x (tail_of key)) joined
