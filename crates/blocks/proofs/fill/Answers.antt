use Rattle.std.proofs.Common.{◌<◌, arith, rules, length, ◌∙◌, refl}
use Rattle.validate.proofs.Record.{handed_on}
use Rattle.blocks.specs.Blocks.{fill_of}
use Rattle.blocks.specs.Internal.{written_of}
use Rattle.blocks.proofs.Writing.{writing_start, writing_more, writing_done, written_count, refused_kept, written_fits, written_each, places_filled}
use Rattle.blocks.proofs.fill.Goals as goal

pub returns-in_err-count : goal.returns-in_err-count
returns-in_err-count c = (handed_on _ _ c.from_residual.ensures.1 ∙ c.in_err-count.ensures, refused_kept _ _ _ c.in_err-count.ensures)

pub record_of-requires : goal.record_of-requires
record_of-requires c =
    let n = written_count _ _ c.in_ok-count.ensures in
    (written_each c.args.«data».now c.args.blocks.now (length c.args.records.now) _ refl c.loop-i.i (omega (arith, n, c.loop-i-test.true))).0

pub bounds-records-i : goal.bounds-records-i
bounds-records-i c =
    let n = written_count _ _ c.in_ok-count.ensures in
    let fits = written_fits c.args.«data».now c.args.blocks.now (length c.args.records.now) _ refl in
    omega (arith, n, fits, c.loop-i-test.true)

pub offset_bounds-records-i : goal.offset_bounds-records-i
offset_bounds-records-i c =
    let n = written_count _ _ c.in_ok-count.ensures in
    let fits = written_fits c.args.«data».now c.args.blocks.now (length c.args.records.now) _ refl in
    let inside : c.loop-i.i < length c.loop-i.records = omega (arith, n, fits, c.loop-i-test.true) in
    search rules

pub loop-i-init : goal.loop-i-init
loop-i-init c = writing_start _ _

pub loop-i-preserved : goal.loop-i-preserved
loop-i-preserved c =
    let n = written_count _ _ c.in_ok-count.ensures in
    let inside : c.loop-i.i < length (written_of (fill_of c.args.«data».now c.args.blocks.now (length c.args.records.now))) = omega (arith, n, c.loop-i-test.true) in
    writing_more _ _ _ _ c.loop-i.invariant inside _
    (c.record_of.ensures ∙ (written_each c.args.«data».now c.args.blocks.now (length c.args.records.now) _ refl c.loop-i.i inside).1)

pub returns : goal.returns
returns c =
    let n = written_count _ _ c.in_ok-count.ensures in
    let a = fill_of c.args.«data».now c.args.blocks.now (length c.args.records.now) in (
      c.in_ok-count.ensures,
      writing_done _ _ _ _ c.loop-i.invariant (omega (arith, n, c.loop-i-test.false)) ∙ places_filled a c.args.records.now (written_fits c.args.«data».now c.args.blocks.now (length c.args.records.now) a refl),
    )
