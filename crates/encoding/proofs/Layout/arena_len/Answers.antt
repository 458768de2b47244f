use Rattle.std.proofs.Common.{arith}
use Rattle.encoding.specs.Encoding.{arena_len_of}
use Rattle.encoding.proofs.Lengths.{arena_len_le}
use Rattle.encoding.proofs.Layout.arena_len.Goals as goal

pub overflow_mul-result-2 : goal.overflow_mul-result-2
unfolding arena_len_of
overflow_mul-result-2 c =
    rw c.version.ensures (let l = arena_len_le c.args.self.encoding c.args.t c.args.self.allowed c.requires in omega arith)
