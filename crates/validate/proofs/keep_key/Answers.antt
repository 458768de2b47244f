use Rattle.validate.proofs.Record.{key_kept}
use Rattle.validate.proofs.keep_key.Goals as goal

pub returns : goal.returns
returns c =
    let a = c.args in
    let p = c.split_at_mut-key.ensures in
    key_kept a.scratch.now _ _ _ a.half a.count c.requires.0 c.requires.1 p.front p.back c.put_part.ensures
