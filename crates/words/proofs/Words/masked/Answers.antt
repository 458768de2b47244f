use mathlib.Core.Path.{ap, ◌∙◌}
use Prim.Native.Nat.{ℕ}
use lib.Bits.{bit_and}
use Rattle.words.proofs.Masks.{masked_low}
use Rattle.words.proofs.Words.masked.Goals as goal

pub returns : goal.returns
returns c =
    ap (λ (n : ℕ). bit_and n c.args.self.mask) c.read.ensures
    ∙ masked_low c.args.raw.now (λ k. (c.type_inv.raw k).fits) c.args.self.width c.args.at c.args.self.allowed c.args.self.low
