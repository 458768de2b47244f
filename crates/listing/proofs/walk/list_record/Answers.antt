use mathlib.Core.Path.{◌≡◌, ap, subst}
use mathlib.Core.List.{List}
use Prim.Native.Nat.{ℕ, ◌+◌}
use native.Mathlib.Omega.{arith}
use lib.ListN.{take}
use Rattle.block.specs.Walk.{entry_of}
use Rattle.admission.specs.Blocks.{in_data}
use Rattle.lines.specs.Lines.{record_line}
use Rattle.lines.specs.Wrote.{Wrote}
use Rattle.listing.proofs.Blocks.{key_read_lem}
use Rattle.listing.proofs.walk.list_record.Goals as goal

pub returns : goal.returns
unfolding in_data entry_of
returns c =
    let a = c.args in
    let p = c.requires in
    let w = c.record_line-len in
    let key : take a.r.key_len c.copy_key.new.scratch ≡ (entry_of a.raw.now a.p.pos (take a.p.key_len a.keys.now) a.r).key =
    key_read_lem a.raw.now a.p.pos a.p.key_len a.r p.key_len_value a.keys.now _ (omega arith) (omega arith) c.copy_key.ensures in record {
      wrote = subst (λ (k : List ℕ). Wrote a.out.now w.new.out 0 (record_line (record { key = k; seq = a.r.seq; kind = a.r.kind; place = a.offset + a.r.place; size = a.r.size })) w.result) key w.ensures;
      keys_after = key;
      place_value = ap (λ (n : ℕ). record { pair = a.p.pair; pos = a.r.next; key_len = a.r.key_len; live = a.p.live + n }) c.live_one.ensures.0;
    }
