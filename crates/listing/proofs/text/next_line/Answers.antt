use mathlib.Core.Path.{sym, ap, ◌∙◌, subst}
use lib.ListN.{take}
use Rattle.lines.specs.Lines.{refused_line}
use Rattle.lines.proofs.Parts.{put_line}
use Rattle.listing.specs.declared.walk.Place.{Place}
use Rattle.listing.specs.declared.text.Left.{Left}
use Rattle.std.proofs.Common.{Some, None}
use Rattle.listing.specs.declared.text.Left.TheVariants.{Records}
use Rattle.listing.specs.Internal.{Continues, Sound}
use Rattle.listing.proofs.Texts.{unreadable_continues, refusal_continues, names_continue}
use Rattle.listing.proofs.text.next_line.Goals as goal

pub record_or_totals-requires : goal.record_or_totals-requires
record_or_totals-requires c =
    let a = c.args in
    subst (λ (l : Left). Sound a.store.now.backing.now a.store.now.blocks.now (Some l)) c.in-Records.is c.requires

pub returns-in-Unreadable : goal.returns-in-Unreadable
returns-in-Unreadable c =
    let a = c.args in
    let w = c.unreadable_line in
    let line = take w.result w.new.out in (
      subst (λ (l : Left). Continues a.store.now.section_len a.store.now.backing.now a.store.now.blocks.now l a.keys.now None a.keys.now line) (sym c.in-Unreadable.is)
          (unreadable_continues a.store.now.section_len a.store.now.backing.now a.store.now.blocks.now a.keys.now line (put_line _ _ _ _ w.ensures)),
      w.ensures.inside,
    )

pub returns-in-Refused : goal.returns-in-Refused
returns-in-Refused c =
    let a = c.args in
    let w = c.refused_line in
    let line = take w.result w.new.out in (
      subst (λ (l : Left). Continues a.store.now.section_len a.store.now.backing.now a.store.now.blocks.now l a.keys.now None a.keys.now line) (sym c.in-Refused.is)
          (refusal_continues a.store.now.section_len a.store.now.backing.now a.store.now.blocks.now a.keys.now line _ (put_line _ _ _ _ w.ensures ∙ ap refused_line c.number.ensures)),
      w.ensures.inside,
    )

pub returns-in-Names : goal.returns-in-Names
returns-in-Names c =
    let a = c.args in
    let w = c.names_line in
    let line = take w.result w.new.out in
    let is = c.in-Names.is in
    let n = c.in-Names.count in
    let some = subst (λ (l : Left). Sound a.store.now.backing.now a.store.now.blocks.now (Some l)) is c.requires in
    let start : Place = record { pair = 0; pos = 0; key_len = 0; live = 0 } in (
      subst (λ (l : Left). Continues a.store.now.section_len a.store.now.backing.now a.store.now.blocks.now l a.keys.now (Some (Records n start)) a.keys.now line) (sym is)
          (names_continue a.store.now.section_len a.store.now.backing.now a.store.now.blocks.now a.keys.now line n (put_line _ _ _ _ w.ensures) some),
      w.ensures.inside,
    )

pub returns-in-Records : goal.returns-in-Records
returns-in-Records c =
    let a = c.args in
    let w = c.record_or_totals in (
      subst (λ (l : Left). Continues a.store.now.section_len a.store.now.backing.now a.store.now.blocks.now l a.keys.now w.result.1 w.new.keys (take w.result.0 w.new.out)) (sym c.in-Records.is)
          w.ensures.0,
      w.ensures.1,
    )
