use Rattle.std.proofs.Common.{arith}
use Rattle.builder.specs.Add.{versions_with}
use Rattle.builder.proofs.Asked.{key_limit, value_limit}
use Rattle.adding.proofs.Entry.{new_room, old_room, old_keyed, new_area, old_area, old_count}
use Rattle.adding.proofs.write_entry.Goals as goal

pub write_head-requires : goal.write_head-requires
write_head-requires c = let r = new_room c.requires.passed c.if-offer.true in (omega arith, key_limit _ _ c.requires.passed.limits)

pub overflow_add-used-then-offer : goal.overflow_add-used-then-offer
overflow_add-used-then-offer c = let r = new_room c.requires.passed c.if-offer.true in omega arith

pub write_version-requires : goal.write_version-requires
write_version-requires c =
    let r = new_room c.requires.passed c.if-offer.true in
    (omega (arith, c.write_head.auto.area), value_limit _ _ c.requires.passed.limits)

pub returns-then-offer : goal.returns-then-offer
returns-then-offer c = new_area _ _ _ _ _ c.if-offer.true c.write_head.ensures c.write_version.ensures

pub overflow_cast-count : goal.overflow_cast-count
overflow_cast-count c =
    let k = old_keyed c.requires.passed c.if-offer.false in
    omega (arith, old_count c.requires.passed c.if-offer.false, c.requires.count_value, k.few)

pub overflow_add-b : goal.overflow_add-b
overflow_add-b c =
    let k = old_keyed c.requires.passed c.if-offer.false in
    let r = old_room c.requires.passed c.if-offer.false in
    omega (arith, k.last.head_inside)

pub write-requires : goal.write-requires
write-requires c =
    let k = old_keyed c.requires.passed c.if-offer.false in
    let r = old_room c.requires.passed c.if-offer.false in
    omega (arith, k.last.head_inside)

pub write_version-requires-2 : goal.write_version-requires-2
write_version-requires-2 c =
    let r = old_room c.requires.passed c.if-offer.false in
    (omega (arith, c.write.auto.out), value_limit _ _ c.requires.passed.limits)

pub returns : goal.returns
unfolding versions_with
returns c = old_area _ _ _ _ _ _ c.if-offer.false c.requires.count_value c.write.ensures c.write_version-2.ensures
