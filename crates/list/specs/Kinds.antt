-- The numbers of the kinds of rows.
use Rattle.std.specs.Prelude.{ℕ, eqb, Result, Ok, Err}
use Rattle.num.specs.Choice.{when◌then◌else◌}
use Rattle.list.specs.declared.kind.Kind.{Kind}
use Rattle.list.specs.declared.kind.Kind.TheVariants as kind
use Rattle.list.specs.declared.kind.UnknownKind.{UnknownKind}

-- the kind with this number
unfoldable pub kind_of : ℕ → Result Kind UnknownKind
kind_of n =
    when eqb n 1 then Ok kind.Crc else
    when eqb n 2 then Ok kind.Hash else
    when eqb n 3 then Ok kind.Trailer else
    when eqb n 4 then Ok kind.Verify else
    when eqb n 5 then Ok kind.Step else
    when eqb n 6 then Ok kind.Open else
    when eqb n 7 then Ok kind.Lookup else
    when eqb n 8 then Ok kind.Value else
    when eqb n 9 then Ok kind.Begin else
    when eqb n 10 then Ok kind.Add else
    when eqb n 11 then Ok kind.AddNumbers else
    when eqb n 12 then Ok kind.Held else
    when eqb n 13 then Ok kind.Size else
    when eqb n 14 then Ok kind.Write else
    when eqb n 15 then Ok kind.Span else
    when eqb n 16 then Ok kind.Fill else
    when eqb n 17 then Ok kind.Find else
    Err (record {})
