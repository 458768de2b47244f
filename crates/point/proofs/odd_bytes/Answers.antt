use Rattle.std.proofs.Common.{sym, ap, arith}
use lib.Bits.{bit_xor, xor_zero_r}
use Rattle.point.proofs.Hashing.{tail_left, tail_none}
use Rattle.point.proofs.odd_bytes.Goals as goal

pub returns-then-odd-eq0 : goal.returns-then-odd-eq0
returns-then-odd-eq0 c = rw (tail_none c.args.key.now (omega arith)) (sym (xor_zero_r _))

pub returns : goal.returns
returns c =
    rw (c.read.ensures, c.requires.1)
    (ap (bit_xor _) (tail_left c.args.key.now (λ k. (c.type_inv.key k).fits) (omega arith)))
