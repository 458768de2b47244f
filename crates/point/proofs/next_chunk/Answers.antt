use Rattle.std.proofs.Common.{ℕ, ap, ◌∙◌, lit<}
use lib.Bits.{bit_xor, xor_lt}
use Rattle.num.specs.Wrapping.{mul_mod, rotl}
use Rattle.num.proofs.Product.{rotated}
use Rattle.point.specs.Hash.{hash_step, hash_chunk}
use Rattle.point.proofs.next_chunk.Goals as goal

pub returns : goal.returns
unfolding hash_chunk
returns c =
    ap (λ (x : ℕ). mul_mod x hash_step)
    (c.rotate_left.ensures
    ∙ rotated _ 27 (xor_lt 64 c.args.h c.read.result c.ranges.h.fits c.read.type_inv) (lit< tt)
    ∙ ap (λ (x : ℕ). rotl (bit_xor c.args.h x) 27) c.read.ensures)
