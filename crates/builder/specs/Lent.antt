-- What the code is lent, as the definitions say it.
use Rattle.builder.specs.declared.entry.Entry.{Entry}
use Rattle.builder.specs.declared.entry.Tally.{Tally}
use Rattle.builder.specs.Offer.{Offer}
use Rattle.builder.specs.Record.{Counted}

-- the offer that an entry is
abbrev pub offered : Entry → Offer
offered e = record { kind = e.kind; key = e.key.now; value = e.value.now; seq = e.seq; new_key = e.new_key; offset = e.offset }

-- what the record counts of one
abbrev pub counted : Tally → Counted
counted e = record { key = e.key.now; count = e.count; size = e.size; seq = e.seq; offset = e.offset; new_key = e.new_key }
