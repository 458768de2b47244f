use Rattle.std.proofs.Common.{arith}
use Rattle.encoding.proofs.Lengths.{parts_le}
use Rattle.encoding.proofs.Layout.section_len.Goals as goal

pub overflow_add-result-2 : goal.overflow_add-result-2
overflow_add-result-2 c =
    let p = parts_le c.args.self.encoding c.args.t c.args.self.allowed c.requires in
    omega arith

pub overflow_mul-result-2 : goal.overflow_mul-result-2
overflow_mul-result-2 c =
    let p = parts_le c.args.self.encoding c.args.t c.args.self.allowed c.requires in
    omega arith

pub overflow_add-result-4 : goal.overflow_add-result-4
overflow_add-result-4 c =
    let p = parts_le c.args.self.encoding c.args.t c.args.self.allowed c.requires in
    omega arith
