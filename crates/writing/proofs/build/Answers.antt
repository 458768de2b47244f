use Rattle.std.proofs.Common.{refl, ◌∙◌}
use Rattle.builder.proofs.Standing.{sizeable_bounded}
use Rattle.area.specs.Area.{keys_in_of}
use Rattle.writing.proofs.Building.{keys_stand, construct_asked, section_asked, section_given, none_given}
use Rattle.writing.proofs.build.Goals as goal

pub for_builder-layout-requires : goal.for_builder-layout-requires
for_builder-layout-requires c = sizeable_bounded _ c.requires.sized

pub invariant_of-keys : goal.invariant_of-keys
invariant_of-keys c = record { stand = (keys_stand (λ k. (c.type_inv.area k).fits) c.requires).inside }

pub construct-requires : goal.construct-requires
construct-requires c =
    let r = construct_asked (λ k. (c.type_inv.area k).fits) c.requires in
    record { le_count = r.0; count_in_bounds = r.1 }

pub write_section-requires : goal.write_section-requires
unfolding keys_in_of
write_section-requires c =
    let d = c.construct in
    let g = c.in-Some.ensures in
    section_asked (λ k. (c.type_inv.area k).fits) c.requires d.new.hashes d.new.scratch _ g.hashed g.scratch_after _ _ c.for_builder-layout.ensures
    g.hashes_len_unchanged.0 g.hashes_len_unchanged.1 refl

pub returns : goal.returns
unfolding keys_in_of
returns c =
    let d = c.construct in
    let g = c.in-Some.ensures in
    let w = c.write_section in
    let r = section_given (λ k. (c.type_inv.area k).fits) c.requires d.new.hashes d.new.scratch _ g.hashed g.scratch_after _ c.args.output.now _ c.for_builder-layout.ensures w.ensures.output_after in
    record { value = r.0; output_after = r.1; hashes_len_unchanged = (g.hashes_len_unchanged.0, w.ensures.scratch_len_unchanged ∙ g.hashes_len_unchanged.1) }

pub returns-in_default : goal.returns-in_default
unfolding keys_in_of
returns-in_default c =
    let d = c.construct in
    let g = c.in_default.ensures in
    let r = none_given (λ k. (c.type_inv.area k).fits) c.requires d.new.scratch c.args.output.now g.scratch_after in
    record { value = r.0; output_after = r.1; hashes_len_unchanged = g.hashes_len_unchanged }
