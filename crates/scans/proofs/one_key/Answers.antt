use mathlib.Core.Path.{◌≡◌, ap, ◌∙◌}
use Prim.Native.Nat.{◌+◌}
use native.Mathlib.Omega.{arith}
use lib.ListN.{length}
use Rattle.spans.specs.Span.{scan_address}
use Rattle.onekey.proofs.First.{put_over}
use Rattle.scans.proofs.One.{one_table, one_spannable, one_is}
use borrow.Author.Rules.{rules}
use Rattle.scans.proofs.one_key.Goals as goal

pub invariant_of-store : goal.invariant_of-store
invariant_of-store c =
    let a = c.args in
    record {
      bytes = λ n. (c.type_inv.section n).fits;
      fits = omega (arith, c.well_formed.0);
      spannable = one_spannable a.section.now a.numbers.now a.first a.limit (length a.pairs.now) c.requires c.read_record-opened.ensures;
    }

pub invariant_of-keys : goal.invariant_of-keys
invariant_of-keys c =
    let a = c.args in
    record { addressed = one_table a.section.now a.numbers.now a.first a.limit (length a.pairs.now) c.requires c.read_record-opened.ensures }

pub returns : goal.returns
returns c =
    let a = c.args in
    let f : a.first + 0 ≡ a.first = omega arith in
    let e = one_is a.section.now a.numbers.now a.first a.limit (length a.pairs.now) c.requires c.read_record-opened.ensures (c.address.ensures ∙ ap (scan_address a.section.now c.read_record-opened.result) f) (search rules) in
    put_over e c.put_key.result a.pairs.now _ c.put_key.ensures
