use mathlib.Core.Path.{sym, ap, ◌∙◌}
use native.Mathlib.Omega.{arith}
use Rattle.num.specs.Number.{le_at}
use Rattle.encoding.specs.Encoding.{key_header_len_of}
use Rattle.encoding.proofs.Widths.{widths_le}
use Rattle.arena.proofs.Reading.{widths_read}
use Rattle.onekey.proofs.First.{version_small, versions_answer, put_over}
use borrow.Author.Rules.{rules}
use Rattle.onekey.proofs.put_key.Goals as goal

pub of-requires : goal.of-requires
of-requires c =
    (widths_read _ c.args.store.now.spannable.widths).2

pub of-requires-2 : goal.of-requires-2
of-requires-2 c =
    (widths_read _ c.args.store.now.spannable.widths).1

pub overflow_add-from : goal.overflow_add-from
overflow_add-from c =
    let args = c.args in
    let header = c.key_header.ensures ∙ ap key_header_len_of c.layout.ensures in
    let suffix = c.masked-suffix_len.ensures ∙ ap (le_at args.store.now.section.now _) c.of-2.ensures in
    let versions = c.masked-versions.ensures ∙ ap (le_at args.store.now.section.now _) c.of.ensures in
    omega (arith, version_small args.store.now.section.now args.store.now.opened args.limit args.address header suffix versions args.store.now.bytes c.args.store.now.spannable (omega arith))

pub overflow_add-from-2 : goal.overflow_add-from-2
overflow_add-from-2 c =
    let args = c.args in
    let header = c.key_header.ensures ∙ ap key_header_len_of c.layout.ensures in
    let suffix = c.masked-suffix_len.ensures ∙ ap (le_at args.store.now.section.now _) c.of-2.ensures in
    let versions = c.masked-versions.ensures ∙ ap (le_at args.store.now.section.now _) c.of.ensures in
    omega (arith, version_small args.store.now.section.now args.store.now.opened args.limit args.address header suffix versions args.store.now.bytes c.args.store.now.spannable (omega arith))

pub put_first-requires : goal.put_first-requires
put_first-requires c =
    let args = c.args in
    let header = c.key_header.ensures ∙ ap key_header_len_of c.layout.ensures in
    let suffix = c.masked-suffix_len.ensures ∙ ap (le_at args.store.now.section.now _) c.of-2.ensures in
    let versions = c.masked-versions.ensures ∙ ap (le_at args.store.now.section.now _) c.of.ensures in
    record { from_bound = omega (arith, version_small args.store.now.section.now args.store.now.opened args.limit args.address header suffix versions args.store.now.bytes c.args.store.now.spannable (omega arith)); in_bounds = search rules }

pub returns : goal.returns
unfolding key_header_len_of
returns c =
    let args = c.args in
    let put_first = c.put_first in
    let header = c.key_header.ensures ∙ ap key_header_len_of c.layout.ensures in
    let suffix = c.masked-suffix_len.ensures ∙ ap (le_at args.store.now.section.now _) c.of-2.ensures in
    let versions = c.masked-versions.ensures ∙ ap (le_at args.store.now.section.now _) c.of.ensures in
    let if1 = c.if-section-pos in
    let e = versions_answer args.store.now.section.now args.store.now.opened args.limit args.address header suffix versions
    (omega (arith, header, if1.false, widths_le _ c.args.store.now.spannable.widths)) in
    put_over (sym e) put_first.result args.pairs.now _ put_first.ensures
