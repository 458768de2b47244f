use Rattle.num.proofs.Number.{low_stored}
use Rattle.num.proofs.put_uint.Goals as goal

pub returns-in-1 : goal.returns-in-1
returns-in-1 c = low_stored c.args.out.now _ c.args.at c.args.width 1 c.args.value c.in-1.is c.write.ensures

pub returns-in-2 : goal.returns-in-2
returns-in-2 c = low_stored c.args.out.now _ c.args.at c.args.width 2 c.args.value c.in-2.is c.write-in-2.ensures

pub returns-in-4 : goal.returns-in-4
returns-in-4 c = low_stored c.args.out.now _ c.args.at c.args.width 4 c.args.value c.in-4.is c.write-in-4.ensures
