use mathlib.Core.Path.{ap, ◌∙◌}
use Prim.Native.Nat.{◌+◌}
use native.Mathlib.Omega.{arith}
use borrow.Author.Tests.{le-ltb, lt-leb}
use Rattle.num.specs.Number.{le_at}
use Rattle.encoding.specs.declared.Encoding.{Encoding}
use Rattle.encoding.specs.Encoding.{tombstone_of}
use Rattle.versions.specs.Version.{stored_value}
use Rattle.versions.proofs.VersionReading.{version_inside}
use Rattle.versions.proofs.Stored.{put_agrees, put_refused, tombstone_agrees, tombstone_refused}
use Rattle.versions.proofs.Version.value_agrees.Goals as goal

pub overflow_add-self : goal.overflow_add-self
overflow_add-self c = omega (arith, version_inside _ _ _ c.args.self.now.standing)

pub value_at-stored-requires : goal.value_at-stored-requires
value_at-stored-requires c =
    omega (arith, version_inside _ _ _ c.args.self.now.standing, ap (λ (e : Encoding). e.value) c.layout-layout.ensures)

pub returns-then-stored-tombstone : goal.returns-then-stored-tombstone
unfolding stored_value
returns-then-stored-tombstone c =
    let a = c.args.self.now in
    let v = c.value_at-stored.ensures.0 ∙ ap (λ (e : Encoding). le_at a.section.now (a.cursor.pos + a.opened.encoding.seq) e.value) c.layout-layout.ensures in
    let z = c.tombstone-tombstone.ensures ∙ ap tombstone_of c.layout-layout.ensures in
    put_agrees _ _ _ _ _ _ v z c.in-Put.is c.if-stored-tombstone.true

pub returns-else-stored-tombstone : goal.returns-else-stored-tombstone
unfolding stored_value
returns-else-stored-tombstone c =
    let a = c.args.self.now in
    let v = c.value_at-stored.ensures.0 ∙ ap (λ (e : Encoding). le_at a.section.now (a.cursor.pos + a.opened.encoding.seq) e.value) c.layout-layout.ensures in
    let z = c.tombstone-tombstone.ensures ∙ ap tombstone_of c.layout-layout.ensures in
    le-ltb _ _ c.if-stored-tombstone.false ∙ put_refused _ _ _ _ _ _ v z c.in-Put.is c.if-stored-tombstone.false

pub returns-then-tombstone-stored : goal.returns-then-tombstone-stored
unfolding stored_value
returns-then-tombstone-stored c =
    let a = c.args.self.now in
    let v = c.value_at-stored.ensures.0 ∙ ap (λ (e : Encoding). le_at a.section.now (a.cursor.pos + a.opened.encoding.seq) e.value) c.layout-layout.ensures in
    let z = c.tombstone-tombstone.ensures ∙ ap tombstone_of c.layout-layout.ensures in
    let b = ap tombstone_of c.layout-layout.ensures in
    tombstone_agrees _ _ _ _ _ _ v z c.in-Tombstone.is c.if-tombstone-stored.true (omega (arith, c.value_at-stored.ensures.1, b))

pub returns-else-tombstone-stored : goal.returns-else-tombstone-stored
unfolding stored_value
returns-else-tombstone-stored c =
    let a = c.args.self.now in
    let v = c.value_at-stored.ensures.0 ∙ ap (λ (e : Encoding). le_at a.section.now (a.cursor.pos + a.opened.encoding.seq) e.value) c.layout-layout.ensures in
    let z = c.tombstone-tombstone.ensures ∙ ap tombstone_of c.layout-layout.ensures in
    lt-leb _ _ c.if-tombstone-stored.false ∙ tombstone_refused _ _ _ _ _ _ v z c.in-Tombstone.is c.if-tombstone-stored.false
