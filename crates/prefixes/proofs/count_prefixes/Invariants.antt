use Rattle.std.proofs.Common.{◌≡◌, ◌+◌, ◌≤◌, length}
use Rattle.area.specs.Area.{area_key}
use Rattle.area.specs.Walk.{keys_of}
use Rattle.written.specs.Section.{group_prefixes}
use Rattle.writer.specs.Write.{groups_from}
use Rattle.prefixes.proofs.Counting.{changes}
use Rattle.prefixes.proofs.count_prefixes.Given as goal

-- what is counted, with the changes that are left, is all
abbrev pub invariant-loop-key : goal.invariant-loop-key
invariant-loop-key l =
    record {
      counts : l.prefixes + changes l.prefix (area_key l.last.area.now l.last.head) (keys_of l.key-iterator) ≡ group_prefixes l.prefix (groups_from l.keys.count l.keys.area.now l.keys.head) l.keys.count;
      few : l.prefixes + length (keys_of l.key-iterator) ≤ l.keys.count;
    }
