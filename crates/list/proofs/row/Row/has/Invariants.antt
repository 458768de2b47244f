use Rattle.std.proofs.Common.{◌≡◌, ◌-◌, length, drop}
use Rattle.num.specs.Choice.{both}
use Rattle.list.specs.Rows.{behind_all, stand_at}
use Rattle.list.proofs.row.Row.has.Given as goal

abbrev pub invariant-loop-number : goal.invariant-loop-number
invariant-loop-number l =
    (l.self.list.now ≡ l.initial.self.list.now)
    × (behind_all (length l.numbers - l.number-index) l.self.place ≡ behind_all (length l.numbers) l.initial.self.place)
    × (both l.same (stand_at l.initial.self.list.now l.self.place (drop l.number-index l.numbers)) ≡ stand_at l.initial.self.list.now l.initial.self.place l.numbers)
