-- Not on the reading path: what the walk over all records says, from which `Agrees` follows and which follows from it.
use Rattle.std.specs.Prelude.{◌≡◌, true, List}
use Rattle.std.specs.Prelude.{Ok}
use Rattle.block.specs.Walk.{Entry}
use Rattle.validate.specs.Walk.{Inputs, Progress, entries_from}
use Rattle.opening.specs.Open.{start_of, prefixes_counted}

-- the walk over the records goes through, and questions 22, but for the end of the data, and 23 are answered by yes
pub record Walked (t : Inputs) (es : List Entry) : Type 0 where
  pub last : Progress
  pub through : entries_from t (start_of t.opened) es ≡ Ok last
  pub at_end : last.cursor.pos ≡ t.end
  pub none_left : last.cursor.remaining ≡ 0
  pub all_keys : last.cursor.groups ≡ t.opened.count
  pub counted : prefixes_counted t last.cursor ≡ true
