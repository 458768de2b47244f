use Rattle.validate.proofs.Record.{moved_first, moved_later}
use Rattle.validate.proofs.move_on.Goals as goal

pub returns-then-before-eq0 : goal.returns-then-before-eq0
returns-then-before-eq0 c =
    let a = c.args in
    let p = c.requires in record { state_after = moved_first a.half a.scratch.now a.w a.key_len a.c p.0 p.1 _ c.keep_key.ensures c.if-before-eq0.true; keys_held = record { key = p.0; previous = p.0 } }

pub returns : goal.returns
returns c =
    let a = c.args in
    let p = c.requires in record { state_after = moved_later a.half a.scratch.now a.w a.key_len a.c p.0 p.1 c.if-before-eq0.false; keys_held = record { key = p.0; previous = p.2.previous } }
