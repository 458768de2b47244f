use mathlib.Core.Path.{sym, ap, ap₂, ◌∙◌}
use Prim.Native.Nat.{◌+◌}
use native.Mathlib.Omega.{arith}
use lib.Dec.{eqb}
use borrow.Author.Tests.{eq-eqb, ne_eqb}
use Rattle.num.proofs.Choice.{if_true, if_false}
use Rattle.sstable.specs.declared.Kind.{Kind}
use Rattle.sstable.specs.declared.Kind.TheVariants.{Put, Tombstone}
use Rattle.area.specs.Area.{area_kind, area_size}
use Rattle.written.specs.Arena.{marked_size}
use Rattle.writer.specs.Write.{stored_at}
use Rattle.keyversions.proofs.Fields.{tombstone_small}
use Rattle.keyversions.proofs.marked_size.Goals as goal

pub overflow_add-result : goal.overflow_add-result
overflow_add-result c =
    let t = tombstone_small c.args.layout.encoding c.args.layout.allowed in
    omega (arith, c.tombstone.ensures)

pub returns-then-kind-from : goal.returns-then-kind-from
unfolding marked_size stored_at area_kind area_size
returns-then-kind-from c =
    let a = c.args in
    ap₂ ◌+◌ c.tombstone.ensures c.size-size.ensures
    ∙ ap (λ (k : Kind). marked_size a.layout.encoding k (area_size a.version.now.area.now a.version.now.place)) (sym (if_true (eqb (area_kind a.version.now.area.now a.version.now.place) 2) Tombstone Put (eq-eqb _ _ (sym c.kind.ensures ∙ c.if-kind-from.true ∙ c.from.ensures))))

pub returns-else-kind-from : goal.returns-else-kind-from
unfolding marked_size stored_at area_kind area_size
returns-else-kind-from c =
    let a = c.args in
    c.size-size.ensures
    ∙ ap (λ (k : Kind). marked_size a.layout.encoding k (area_size a.version.now.area.now a.version.now.place)) (sym (if_false (eqb (area_kind a.version.now.area.now a.version.now.place) 2) Tombstone Put (ne_eqb _ _ (λ e. c.if-kind-from.false (c.kind.ensures ∙ e ∙ sym c.from.ensures)))))
