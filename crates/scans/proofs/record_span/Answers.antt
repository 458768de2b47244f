use mathlib.Core.Path.{sym, ap, ◌∙◌, subst⁻¹}
use Prim.Native.Nat.{◌+◌}
use native.Mathlib.Omega.{arith}
use lib.Dec.{leb}
use lib.ListN.{length}
use Rattle.header.specs.declared.Opened.{Opened}
use Rattle.lookup.proofs.Tests.{said_yes, said_no}
use Rattle.numbers.specs.Numbers.{opened_of}
use Rattle.spans.specs.Span.{scan_address, values_from}
use Rattle.spans.specs.Internal.{Spannable}
use Rattle.spans.proofs.Keys.{refused_told}
use Rattle.scans.proofs.Asked.{spannable, table_inside, no_keys, no_places, walked, told_of}
use borrow.Author.Rules.{rules}
use Rattle.scans.proofs.record_span.Goals as goal

pub returns-then-not-inside : goal.returns-then-not-inside
returns-then-not-inside c =
    let a = c.args in
    let e = ap (λ (o : Opened). leb (a.first + a.count) o.count) c.read_record-opened.ensures in
    let n = sym e ∙ said_no c.inside.ensures c.if-not-inside.true in
    refused_told _ a.pairs.now (no_keys a.section.now (opened_of a.numbers.now) a.first a.count a.limit (length a.pairs.now) c.requires.numbers_value c.requires.numbers_value_2 n)

pub returns-then-pairs-count : goal.returns-then-pairs-count
returns-then-pairs-count c =
    let a = c.args in
    let e = ap (λ (o : Opened). leb (a.first + a.count) o.count) c.read_record-opened.ensures in
    let k = sym e ∙ said_yes c.inside.ensures c.if-not-inside.false in
    refused_told _ a.pairs.now (no_places a.section.now (opened_of a.numbers.now) a.first a.count a.limit (length a.pairs.now) c.requires.numbers_value c.requires.numbers_value_2 k (search rules))

pub invariant_of-store : goal.invariant_of-store
invariant_of-store c =
    let a = c.args in
    record {
      bytes = λ n. (c.type_inv.section n).fits;
      fits = omega (arith, c.well_formed.0);
      spannable = subst⁻¹ Spannable c.read_record-opened.ensures (spannable a.section.now (opened_of a.numbers.now) c.requires.numbers_value c.requires.numbers_value_2);
    }

pub invariant_of-keys : goal.invariant_of-keys
invariant_of-keys c =
    let a = c.args in
    let o = opened_of a.numbers.now in
    let e = ap (λ (o : Opened). leb (a.first + a.count) o.count) c.read_record-opened.ensures in
    let k = sym e ∙ said_yes c.inside.ensures c.if-not-inside.false in
    record { addressed = omega (arith, ap (λ (o : Opened). o.scan) c.read_record-opened.ensures, table_inside a.section.now o c.requires.numbers_value c.requires.numbers_value_2 a.first a.count k) }

pub returns : goal.returns
returns c =
    let a = c.args in
    let e = ap (λ (o : Opened). leb (a.first + a.count) o.count) c.read_record-opened.ensures in
    let k = sym e ∙ said_yes c.inside.ensures c.if-not-inside.false in
    told_of (ap (λ (o : Opened). values_from a.count a.section.now o a.limit (scan_address a.section.now o a.first)) c.read_record-opened.ensures
    ∙ walked a.section.now (opened_of a.numbers.now) a.first a.count a.limit (length a.pairs.now) c.requires.numbers_value c.requires.numbers_value_2 k (search rules)) a.pairs.now c.scan_values.ensures
