-- What the code is lent, as the definitions say it.
use Rattle.std.specs.Prelude.{length}
use Rattle.block.specs.Walk.{Entry}
use Rattle.versions.specs.declared.RecordInfo.{RecordInfo}

-- the entry that a record beside its key and value is
abbrev pub entry_lent : RecordInfo → Entry
entry_lent r = record { key = r.key.now; seq = r.seq; kind = r.kind; place = r.place; size = length r.value.now }
