use Rattle.std.proofs.Common.{◌≡◌, ◌+◌, ◌*◌, drop}
use Rattle.num.specs.Order.{common_prefix_len}
use Rattle.sstable.proofs.shared_words.Given as goal

-- they agree to here
abbrev pub invariant-loop-word : goal.invariant-loop-word
invariant-loop-word l =
    8 * l.word + common_prefix_len (drop (8 * l.word) l.a) (drop (8 * l.word) l.b) ≡ common_prefix_len l.a l.b
