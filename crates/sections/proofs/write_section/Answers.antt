use mathlib.Core.Path.{◌∙◌}
use native.Mathlib.Omega.{arith}
use Rattle.encoding.specs.Encoding.{buckets_of}
use Rattle.construction.specs.Scratch.{indices_at}
use Rattle.sections.proofs.Section.{arena_inside, size_least, body_inside, arena_asked, tables_asked, scan_asked, section_put}
use Rattle.sections.proofs.write_section.Goals as goal

pub overflow_add-end : goal.overflow_add-end
unfolding indices_at buckets_of
overflow_add-end c = omega (arith, c.indices_at-indices.ensures, c.requires.few)

pub overflow_add-scan : goal.overflow_add-scan
overflow_add-scan c = omega (arith, arena_inside c.requires, c.arena_len.ensures)

pub overflow_sub-body : goal.overflow_sub-body
overflow_sub-body c = omega (arith, c.section_len-body.ensures, size_least c.requires)

pub put_arena-requires : goal.put_arena-requires
put_arena-requires c =
    arena_asked c.requires _ c.indices_at-indices.ensures

pub put_tables-requires : goal.put_tables-requires
put_tables-requires c =
    let a = c.put_arena in
    tables_asked c.requires _ c.indices_at-indices.ensures a.new.scratch a.ensures.noted a.new.output a.auto.output

pub offset_bounds-scratch-indices : goal.offset_bounds-scratch-indices
unfolding indices_at buckets_of
offset_bounds-scratch-indices c =
    omega (arith, c.indices_at-indices.ensures, c.requires.few)

pub slice_bounds-put_scan-end : goal.slice_bounds-put_scan-end
unfolding indices_at buckets_of
slice_bounds-put_scan-end c =
    omega (arith, c.indices_at-indices.ensures, c.requires.places, c.put_arena.auto.scratch)

pub slice_bounds-put_scan-count-2 : goal.slice_bounds-put_scan-count-2
slice_bounds-put_scan-count-2 c =
    omega (arith, arena_inside c.requires, c.arena_len.ensures, c.put_arena.auto.output, c.put_tables.auto.output)

pub slice_bounds-put_scan-start-2 : goal.slice_bounds-put_scan-start-2
slice_bounds-put_scan-start-2 c =
    omega (arith, arena_inside c.requires, c.arena_len.ensures, c.put_arena.auto.output, c.put_tables.auto.output)

pub put_scan-requires : goal.put_scan-requires
put_scan-requires c =
    let a = c.put_arena in
    let b = c.put_tables in
    scan_asked c.requires _ c.indices_at-indices.ensures a.new.scratch a.ensures.noted _ b.new.output c.arena_len.ensures (b.auto.output ∙ a.auto.output)

pub seal-requires : goal.seal-requires
seal-requires c =
    let a = c.put_arena in
    let b = c.put_tables in
    let d = c.put_scan in
    body_inside c.requires _ _ c.section_len-body.ensures b.new.output d.new.output (b.auto.output ∙ a.auto.output) d.auto.output

pub returns : goal.returns
returns c =
    let a = c.put_arena in
    let b = c.put_tables in
    let d = c.put_scan in
    let f = c.seal in record {
      output_after = section_put c.requires _ c.indices_at-indices.ensures a.new.scratch a.ensures.noted _ _ a.new.output b.new.output d.new.output f.new.output c.arena_len.ensures c.section_len-body.ensures
          a.ensures.output_after b.ensures d.ensures f.ensures;
      scratch_len_unchanged = a.auto.scratch;
    }
