use mathlib.Core.Path.{refl, ◌∙◌}
use Rattle.opened.proofs.Records.{record_facts}
use Rattle.lookup.proofs.Places.{three_bytes, pilot_packed, pilot_plain, some_bucket}
use Rattle.lookup.proofs.Section.pilot_of.Goals as goal

pub bucket-bucket-requires : goal.bucket-bucket-requires
bucket-bucket-requires c = some_bucket _ _ (record_facts _ _ c.args.self.now.given)

pub returns-then-o : goal.returns-then-o
returns-then-o c =
    let args = c.args in
    c.unpacked.ensures
    ∙ pilot_packed args.self.now.bytes.now args.self.now.opened args.h _ c.bucket-bucket.ensures c.if-o.true
    (three_bytes args.self.now.bytes.now _ _ _ c.read-low.ensures refl)

pub returns : goal.returns
returns c =
    let args = c.args in
    pilot_plain args.self.now.bytes.now args.self.now.opened args.h _ c.bucket-bucket.ensures c.if-o.false c.read.ensures
