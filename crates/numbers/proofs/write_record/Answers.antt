use mathlib.Core.Path.{sym}
use Rattle.numbers.specs.Numbers.{record_numbers}
use Rattle.numbers.proofs.RecordNumbers.{flag_byte, record_stands}
use Rattle.numbers.proofs.write_record.Goals as goal

pub returns : goal.returns
unfolding record_numbers
returns c = rw (flag_byte c.args.o.encoding.checksum, flag_byte c.args.o.packed) (sym (record_stands c.args.out.now c.args.o c.told-out))
