use mathlib.Core.Path.{refl, ap, ◌∙◌}
use native.Mathlib.Omega.{arith}
use Rattle.encoding.specs.Encoding.{key_header_len_of, version_len_of}
use Rattle.spans.proofs.Keys.{next_is, record_bounds}
use Rattle.spans.proofs.Store.next_address.Goals as goal

pub overflow_add-start : goal.overflow_add-start
overflow_add-start c =
    let b = record_bounds c.args.self.now.section.now c.args.self.now.opened 0 c.args.address c.header_at-h.ensures (c.key_header.ensures ∙ ap key_header_len_of c.layout-layout.ensures) c.args.self.now.bytes c.args.self.now.spannable.widths refl in
    omega arith

pub overflow_add-result : goal.overflow_add-result
overflow_add-result c =
    let b = record_bounds c.args.self.now.section.now c.args.self.now.opened 0 c.args.address c.header_at-h.ensures (c.key_header.ensures ∙ ap key_header_len_of c.layout-layout.ensures) c.args.self.now.bytes c.args.self.now.spannable.widths refl in
    omega arith

pub overflow_mul-result : goal.overflow_mul-result
overflow_mul-result c =
    let b = record_bounds c.args.self.now.section.now c.args.self.now.opened 0 c.args.address c.header_at-h.ensures (c.key_header.ensures ∙ ap key_header_len_of c.layout-layout.ensures) c.args.self.now.bytes c.args.self.now.spannable.widths (c.version.ensures ∙ ap version_len_of c.layout-layout.ensures) in
    omega arith

pub overflow_add-result-2 : goal.overflow_add-result-2
overflow_add-result-2 c =
    let b = record_bounds c.args.self.now.section.now c.args.self.now.opened 0 c.args.address c.header_at-h.ensures (c.key_header.ensures ∙ ap key_header_len_of c.layout-layout.ensures) c.args.self.now.bytes c.args.self.now.spannable.widths (c.version.ensures ∙ ap version_len_of c.layout-layout.ensures) in
    omega arith

pub returns : goal.returns
returns c =
    (next_is c.args.self.now.section.now c.args.self.now.opened 0 c.args.address c.header_at-h.ensures (c.key_header.ensures ∙ ap key_header_len_of c.layout-layout.ensures) (c.version.ensures ∙ ap version_len_of c.layout-layout.ensures), omega arith)
