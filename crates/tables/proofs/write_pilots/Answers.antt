use Rattle.written.specs.Section.{pilots_bytes}
use Rattle.tables.specs.Internal.{numbers_bytes}
use Rattle.tables.proofs.write_pilots.Goals as goal

pub returns : goal.returns
unfolding pilots_bytes numbers_bytes
returns c = c.put_numbers.ensures
