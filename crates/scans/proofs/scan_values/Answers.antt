use Rattle.spans.proofs.Keys.{given_told}
use Rattle.wholepairs.proofs.Keys.{whole_given}
use Rattle.scans.proofs.scan_values.Goals as goal

pub put_whole-requires : goal.put_whole-requires
put_whole-requires c = record { whole_keys = c.are_whole.ensures c.if-are_whole.true; count_in_bounds = c.requires }

pub returns-then-are_whole : goal.returns-then-are_whole
returns-then-are_whole c =
    let k = c.args.keys.now in
    let put = c.put_whole.ensures in
    given_told _ c.args.pairs.now
    (whole_given k.store.section.now k.store.opened k.first k.count (c.are_whole.ensures c.if-are_whole.true) k.store.bytes k.store.spannable.four c.args.limit) put.0 put.1
