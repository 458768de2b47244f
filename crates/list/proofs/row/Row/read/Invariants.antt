use Rattle.std.proofs.Common.{◌≡◌, ◌-◌, length}
use lib.Seq.{sets}
use Rattle.list.specs.Rows.{behind_all, numbers_at}
use Rattle.list.proofs.row.Row.read.Given as goal

-- what is left to store is what was left at first
abbrev pub invariant-loop-number : goal.invariant-loop-number
invariant-loop-number l =
    (l.self.list.now ≡ l.initial.self.list.now)
    × (length l.number-items ≡ length l.initial.number-items)
    × (behind_all (length l.initial.number-items - l.number-index) l.self.place ≡ behind_all (length l.initial.number-items) l.initial.self.place)
    × (sets l.number-items l.number-index (numbers_at l.initial.self.list.now l.self.place (length l.initial.number-items - l.number-index))
    ≡ numbers_at l.initial.self.list.now l.initial.self.place (length l.initial.number-items))
