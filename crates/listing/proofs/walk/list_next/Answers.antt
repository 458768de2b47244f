use mathlib.Core.Path.{◌≡◌, sym, ap, ◌∙◌, subst}
use mathlib.Core.List.{List}
use Prim.Native.Nat.{ℕ, ◌+◌}
use native.Mathlib.Omega.{arith}
use borrow.Author.Rules.{rules}
use lib.ListN.{length, get_or, take}
use Rattle.std.proofs.Common.{Ok, Err}
use Rattle.block.specs.Record.{record_at}
use Rattle.block.specs.Verify.{entries_end_in}
use Rattle.block.specs.Walk.{entry_of}
use Rattle.block.proofs.Step.{record_in}
use Rattle.lines.proofs.Parts.{put_line}
use Rattle.listing.proofs.Blocks.{block_inside, met_inside}
use Rattle.listing.proofs.Steps.{pair_steps, record_stepping}
use Rattle.listing.proofs.walk.list_next.Goals as goal

pub list_record-requires : goal.list_record-requires
list_record-requires c =
    let a = c.args in
    let pre = c.requires in
    let bytes = c.block_part-raw.ensures in
    let raw = c.block_part-raw.result.now in
    let met = ap (λ (n : ℕ). record_at raw n a.p.pos a.p.key_len) (sym c.entries_end.ensures.0) ∙ record_in _ _ c.new.ensures.0 c.new.ensures.1 c.record_at.ensures ∙ c.in-Ok.is in
    let h = pre.0 in
    let n = ap length bytes in
    let i = met_inside raw a.p.pos a.p.key_len _ met in
    let inside = block_inside a.store.now.backing.now (get_or a.store.now.blocks.now a.p.pair 0) (get_or a.store.now.blocks.now (a.p.pair + 1) 0) (omega arith) in
    record { key_len_value = met; listed = record { inside = omega arith; shared = i.shared; longer = i.longer; place = i.place; next = i.next; ends = i.inside; before = h.key; live = omega (arith, pre.1) } }

pub returns-in-Ok : goal.returns-in-Ok
returns-in-Ok c =
    let a = c.args in
    let pre = c.requires in
    let bytes = c.block_part-raw.ensures in
    let raw = c.block_part-raw.result.now in
    let met = ap (λ (n : ℕ). record_at raw n a.p.pos a.p.key_len) (sym c.entries_end.ensures.0) ∙ record_in _ _ c.new.ensures.0 c.new.ensures.1 c.record_at.ensures ∙ c.in-Ok.is in
    let r = c.in-Ok.r in
    let after = c.list_record.new.keys in
    let w = c.list_record.ensures in (
      record_stepping a.store.now.backing.now a.store.now.blocks.now a.p a.keys.now (search rules) (omega arith) pre.0 pre.1 r
          (subst (λ (x : List ℕ). record_at x (entries_end_in x) a.p.pos a.p.key_len ≡ Ok r) bytes met) after
          (subst (λ (x : List ℕ). take r.key_len after ≡ (entry_of x a.p.pos (take a.p.key_len a.keys.now) r).key) bytes w.keys_after)
          raw bytes _ w.place_value _ (put_line _ _ _ _ w.wrote),
      w.wrote.inside,
    )

pub returns-in-Err : goal.returns-in-Err
returns-in-Err c =
    let a = c.args in
    let pre = c.requires in
    let bytes = c.block_part-raw.ensures in
    let raw = c.block_part-raw.result.now in
    let met = ap (λ (n : ℕ). record_at raw n a.p.pos a.p.key_len) (sym c.entries_end.ensures.0) ∙ record_in _ _ c.new.ensures.0 c.new.ensures.1 c.record_at.ensures ∙ c.in-Err.is in (
      pair_steps a.store.now.backing.now a.store.now.blocks.now a.p a.keys.now (search rules) (omega arith) pre.0 pre.1 _
          (subst (λ (x : List ℕ). record_at x (entries_end_in x) a.p.pos a.p.key_len ≡ Err c.in-Err.field-0) bytes met),
      omega arith,
    )
