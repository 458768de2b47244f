use Rattle.lookup.proofs.Places.{unpacked_low, unpacked_high}
use borrow.Author.Rules.{rules}
use Rattle.lookup.proofs.unpacked.Goals as goal

pub returns-then-p-lt8388608 : goal.returns-then-p-lt8388608
returns-then-p-lt8388608 c = unpacked_low _ (search rules)

pub returns : goal.returns
returns c = unpacked_high _ (search rules) (search rules)
