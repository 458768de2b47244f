use mathlib.Core.Path.{refl, sym, ap, ◌∙◌}
use native.Mathlib.Omega.{arith}
use Rattle.encoding.specs.Encoding.{key_header_len_of}
use Rattle.encoding.proofs.Widths.{widths_le}
use Rattle.spans.specs.Internal.{value_read, Inside}
use Rattle.spans.proofs.Keys.{key_outside, key_versions, record_bounds}
use borrow.Author.Rules.{rules}
use Rattle.spans.proofs.Store.key_read.Goals as goal

pub overflow_add-pos-2 : goal.overflow_add-pos-2
unfolding key_header_len_of
overflow_add-pos-2 c =
    let pre = c.requires in
    let a = c.args.self.now.spannable.arena in
    let w = widths_le _ c.args.self.now.spannable.widths in
    omega (arith, (c.key_header-header.ensures ∙ ap key_header_len_of c.layout.ensures))

pub returns-then-section-pos : goal.returns-then-section-pos
unfolding value_read Inside
returns-then-section-pos c =
    let args = c.args in
    (sym (key_outside args.self.now.section.now args.self.now.opened args.limit args.address (omega (arith, (c.key_header-header.ensures ∙ ap key_header_len_of c.layout.ensures)))), tt)

pub overflow_add-header : goal.overflow_add-header
unfolding key_header_len_of
overflow_add-header c =
    let header = c.key_header-header in
    let b = record_bounds c.args.self.now.section.now c.args.self.now.opened c.args.limit c.args.address c.header_at-h.ensures (header.ensures ∙ ap key_header_len_of c.layout.ensures) c.args.self.now.bytes c.args.self.now.spannable.widths refl in
    let a = c.args.self.now.spannable.arena in
    omega arith

pub overflow_add-pos-3 : goal.overflow_add-pos-3
unfolding key_header_len_of
overflow_add-pos-3 c =
    let header = c.key_header-header in
    let b = record_bounds c.args.self.now.section.now c.args.self.now.opened c.args.limit c.args.address c.header_at-h.ensures (header.ensures ∙ ap key_header_len_of c.layout.ensures) c.args.self.now.bytes c.args.self.now.spannable.widths refl in
    let a = c.args.self.now.spannable.arena in
    omega arith

pub newest-requires : goal.newest-requires
unfolding key_header_len_of
newest-requires c =
    let header = c.key_header-header in
    let b = record_bounds c.args.self.now.section.now c.args.self.now.opened c.args.limit c.args.address c.header_at-h.ensures (header.ensures ∙ ap key_header_len_of c.layout.ensures) c.args.self.now.bytes c.args.self.now.spannable.widths refl in
    let a = c.args.self.now.spannable.arena in
    omega arith

pub returns : goal.returns
returns c =
    let header = c.key_header-header in
    let v = key_versions c.args.self.now.section.now c.args.self.now.opened c.args.limit c.args.address c.header_at-h.ensures (header.ensures ∙ ap key_header_len_of c.layout.ensures) (search rules) in
    (c.newest.ensures.0 ∙ v, c.newest.ensures.1)
