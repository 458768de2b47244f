use mathlib.Core.Path.{refl, sym, ap, ◌∙◌, subst⁻¹}
use Prim.Native.Nat.{◌+◌}
use native.Mathlib.Omega.{arith}
use lib.Dec.{eqb, leb}
use borrow.Author.Tests.{eqb-true, leb-true}
use Rattle.num.specs.Choice.{both}
use Rattle.num.specs.Number.{le_at}
use Rattle.num.proofs.Choice.{both_true}
use Rattle.encoding.specs.Encoding.{key_header_len_of, version_len_of}
use Rattle.arena.proofs.Reading.{widths_read}
use Rattle.wholekeys.proofs.Whole.{table_address, SoFar, none_so_far, all_so_far, low_sums, key_small, step_so_far}
use borrow.Author.Rules.{rules}
use Rattle.wholekeys.proofs.Keys.records_whole.Goals as goal

pub of-key_lens-requires : goal.of-key_lens-requires
of-key_lens-requires c =
    (widths_read _ c.args.self.now.store.spannable.widths).1

pub of-counts-requires : goal.of-counts-requires
of-counts-requires c =
    (widths_read _ c.args.self.now.store.spannable.widths).2

pub loop-i-init : goal.loop-i-init
loop-i-init c =
    let args = c.args in
    λ _. none_so_far args.self.now.store.section.now args.self.now.store.opened args.self.now.first _ _ _ refl

pub overflow_add-header : goal.overflow_add-header
overflow_add-header c =
    let versions = c.masked-versions.ensures ∙ ap (le_at c.args.self.now.store.section.now _) c.of-counts.ensures in
    let suffix = c.masked-suffix_len.ensures ∙ ap (le_at c.args.self.now.store.section.now _) c.of-key_lens.ensures in
    let at = c.address-at.ensures ∙ sym (table_address c.args.self.now.store.section.now c.args.self.now.store.opened c.args.self.now.store.spannable.four (c.args.self.now.first + c.loop-i.i) refl) in
    let loop = c.loop-i in
    let size = c.version-size.ensures ∙ ap version_len_of c.layout-layout.ensures in
    let header = c.key_header-header.ensures ∙ ap key_header_len_of c.layout-layout.ensures in
    let args = c.args in
    let l = key_small args.self.now.store.section.now args.self.now.store.opened args.self.now.first loop.i c.args.self.now.store.spannable.four refl
    at 0 header size suffix versions c.args.self.now.store.bytes
    c.args.self.now.store.spannable.widths in
    omega arith

pub record_end-next-requires : goal.record_end-next-requires
record_end-next-requires c =
    let versions = c.masked-versions.ensures ∙ ap (le_at c.args.self.now.store.section.now _) c.of-counts.ensures in
    let suffix = c.masked-suffix_len.ensures ∙ ap (le_at c.args.self.now.store.section.now _) c.of-key_lens.ensures in
    let at = c.address-at.ensures ∙ sym (table_address c.args.self.now.store.section.now c.args.self.now.store.opened c.args.self.now.store.spannable.four (c.args.self.now.first + c.loop-i.i) refl) in
    let loop = c.loop-i in
    let size = c.version-size.ensures ∙ ap version_len_of c.layout-layout.ensures in
    let header = c.key_header-header.ensures ∙ ap key_header_len_of c.layout-layout.ensures in
    let args = c.args in
    key_small args.self.now.store.section.now args.self.now.store.opened args.self.now.first loop.i c.args.self.now.store.spannable.four refl
    at 0 header size suffix versions c.args.self.now.store.bytes
    c.args.self.now.store.spannable.widths

pub loop-i-preserved : goal.loop-i-preserved
unfolding both
loop-i-preserved c =
    let versions = c.masked-versions.ensures ∙ ap (le_at c.args.self.now.store.section.now _) c.of-counts.ensures in
    let suffix = c.masked-suffix_len.ensures ∙ ap (le_at c.args.self.now.store.section.now _) c.of-key_lens.ensures in
    let at = c.address-at.ensures ∙ sym (table_address c.args.self.now.store.section.now c.args.self.now.store.opened c.args.self.now.store.spannable.four (c.args.self.now.first + c.loop-i.i) refl) in
    let loop = c.loop-i in
    let size = c.version-size.ensures ∙ ap version_len_of c.layout-layout.ensures in
    let header = c.key_header-header.ensures ∙ ap key_header_len_of c.layout-layout.ensures in
    let args = c.args in
    λ e. let b = both_true loop.sound (eqb c.address-at.result loop.next) e in
    subst⁻¹ (SoFar args.self.now.store.section.now args.self.now.store.opened args.self.now.first _ _) c.record_end-next.ensures
    (step_so_far args.self.now.store.section.now args.self.now.store.opened args.self.now.first loop.i c.args.self.now.store.spannable.four refl at 0
    header size suffix versions
    (search rules) (eqb-true _ _ b.1) (loop.invariant b.0))

pub returns : goal.returns
unfolding both
returns c =
    let loop = c.loop-i in
    let if1 = c.if-not-sums_fit in
    let sums-fit = c.sums_fit in
    let args = c.args in
    let f = sums-fit.ensures if1.false in
    λ e. let b = both_true loop.sound (leb loop.next _) e in
    all_so_far args.self.now.store.section.now args.self.now.store.opened args.self.now.first args.self.now.count (loop.invariant b.0) (omega arith) (leb-true _ _ b.1) (omega arith)
    (low_sums args.self.now.store.section.now args.self.now.store.opened c.args.self.now.store.bytes c.args.self.now.store.spannable.widths f.0 f.1)
