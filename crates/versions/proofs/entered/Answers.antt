use Rattle.versions.proofs.Visiting.{entered_stands}
use Rattle.versions.proofs.entered.Goals as goal

pub returns-then-arena-eq0-clause-stands : goal.returns-then-arena-eq0-clause-stands
returns-then-arena-eq0-clause-stands c =
    entered_stands _ _ _ _ _ _ c.args.arena.now.inside _ c.key_record.ensures
