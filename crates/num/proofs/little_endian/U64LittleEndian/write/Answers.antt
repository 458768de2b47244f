use Rattle.std.proofs.Common.{arith, ◌∙◌, ◌+◌, ◌-◌}
use Rattle.num.proofs.Standing.{standing}
use Rattle.num.proofs.little_endian.U64LittleEndian.write.Goals as goal

pub returns : goal.returns
returns c =
    standing c.args.out.now c.copy_from_slice.new.self c.args.at (c.args.at + 8 - c.args.at) 8 c.args.self c.requires (omega arith)
    (c.copy_from_slice.ensures.after ∙ c.to_le_bytes.ensures)
