use Rattle.lines.proofs.Parts.{put_line}
use Rattle.listing.proofs.Steps.{entries_end}
use Rattle.listing.proofs.Texts.{totals_continue, record_continues}
use Rattle.listing.proofs.text.record_or_totals.Goals as goal

pub returns-then-store-p-lt2 : goal.returns-then-store-p-lt2
returns-then-store-p-lt2 c =
    let a = c.args in
    let w = c.totals_line.ensures in (
      totals_continue a.store.now.section_len a.store.now.backing.now a.store.now.blocks.now a.keys.now _ a.count a.p
          (entries_end a.store.now.backing.now a.store.now.blocks.now a.p a.keys.now c.if-store-p-lt2.true) (put_line _ _ _ _ w),
      w.inside,
    )

pub returns : goal.returns
returns c =
    let a = c.args in
    let w = c.list_next-len.ensures in
    (record_continues a.store.now.section_len a.store.now.backing.now a.store.now.blocks.now a.keys.now _ a.count a.p _ _ c.requires.0 w.0, w.1)
