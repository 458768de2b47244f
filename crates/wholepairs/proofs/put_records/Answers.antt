use mathlib.Core.Path.{◌≡◌, refl, sym, ap, ◌∙◌}
use Prim.Native.Nat.{ℕ, ◌+◌, ◌-◌, ◌*◌}
use native.Mathlib.Omega.{arith}
use lib.ListN.{length}
use lib.Seq.{sets}
use Rattle.num.specs.Number.{le_at}
use Rattle.arena.proofs.Reading.{widths_read}
use Rattle.spans.specs.Span.{scan_address, values_from, pair_numbers}
use Rattle.spans.specs.Internal.{is_given, pairs_of}
use Rattle.spans.proofs.Keys.{keys_none}
use Rattle.wholekeys.proofs.Records.{key_given, key_stored}
use Rattle.wholekeys.proofs.Whole.{table_address}
use Rattle.wholepairs.proofs.Keys.{header_sum, whole_given, header_room, versions_room, step_told}
use borrow.Author.Rules.{rules}
use Rattle.wholepairs.proofs.put_records.Goals as goal

pub of-key_lens-requires : goal.of-key_lens-requires
of-key_lens-requires c =
    let pre = c.requires in
    (widths_read _ c.args.keys.now.store.spannable.widths).1

pub of-counts-requires : goal.of-counts-requires
of-counts-requires c =
    let pre = c.requires in
    (widths_read _ c.args.keys.now.store.spannable.widths).2

pub loop-i-init : goal.loop-i-init
loop-i-init c =
    let args = c.args in
    let k = args.keys.now in
    let pre = c.requires in
    let given = whole_given k.store.section.now k.store.opened k.first k.count pre.whole_keys k.store.bytes k.store.spannable.four (k.store.opened.min_seq + args.within) in
    let at : k.first + 0 ≡ k.first = omega arith in
    let all : k.count - 0 ≡ k.count = omega arith in
    (omega (arith, pre.count_in_bounds), refl, rw (at, all) given, rw (at, all) (omega arith), rw (at, all))

pub masked-suffix_len-requires : goal.masked-suffix_len-requires
masked-suffix_len-requires c =
    let at = c.address.ensures ∙ sym (table_address c.args.keys.now.store.section.now c.args.keys.now.store.opened c.args.keys.now.store.spannable.four (c.args.keys.now.first + c.loop-i.i) refl) in
    let loop = c.loop-i in
    let args = c.args in
    let pre = c.requires in
    let r = header_room args.keys.now.store.section.now args.keys.now.store.opened args.keys.now.first args.keys.now.count loop.i c.args.keys.now.store.spannable.four (search rules) refl
    at pre.whole_keys in
    omega arith

pub masked-versions-requires : goal.masked-versions-requires
masked-versions-requires c =
    let at = c.address.ensures ∙ sym (table_address c.args.keys.now.store.section.now c.args.keys.now.store.opened c.args.keys.now.store.spannable.four (c.args.keys.now.first + c.loop-i.i) refl) in
    let loop = c.loop-i in
    let args = c.args in
    let pre = c.requires in
    let r = header_room args.keys.now.store.section.now args.keys.now.store.opened args.keys.now.first args.keys.now.count loop.i c.args.keys.now.store.spannable.four (search rules) refl
    at pre.whole_keys in
    r

pub overflow_add-start : goal.overflow_add-start
overflow_add-start c =
    let versions = c.masked-versions.ensures ∙ ap (le_at c.args.keys.now.store.section.now _) c.of-counts.ensures in
    let suffix = c.masked-suffix_len.ensures ∙ ap (le_at c.args.keys.now.store.section.now _) c.of-key_lens.ensures in
    let at = c.address.ensures ∙ sym (table_address c.args.keys.now.store.section.now c.args.keys.now.store.opened c.args.keys.now.store.spannable.four (c.args.keys.now.first + c.loop-i.i) refl) in
    let loop = c.loop-i in
    let args = c.args in
    let pre = c.requires in
    let r = versions_room args.keys.now.store.section.now args.keys.now.store.opened args.keys.now.first args.keys.now.count loop.i c.args.keys.now.store.spannable.four (search rules) refl
    at (args.keys.now.store.opened.min_seq + args.within) (header_sum args.keys.now.store.opened.encoding) refl suffix versions pre.whole_keys in
    omega (arith, c.args.keys.now.store.fits, r)

pub overflow_add-pos-in-loop-i-4 : goal.overflow_add-pos-in-loop-i-4
overflow_add-pos-in-loop-i-4 c =
    let versions = c.masked-versions.ensures ∙ ap (le_at c.args.keys.now.store.section.now _) c.of-counts.ensures in
    let suffix = c.masked-suffix_len.ensures ∙ ap (le_at c.args.keys.now.store.section.now _) c.of-key_lens.ensures in
    let at = c.address.ensures ∙ sym (table_address c.args.keys.now.store.section.now c.args.keys.now.store.opened c.args.keys.now.store.spannable.four (c.args.keys.now.first + c.loop-i.i) refl) in
    let loop = c.loop-i in
    let args = c.args in
    let pre = c.requires in
    let r = versions_room args.keys.now.store.section.now args.keys.now.store.opened args.keys.now.first args.keys.now.count loop.i c.args.keys.now.store.spannable.four (search rules) refl
    at (args.keys.now.store.opened.min_seq + args.within) (header_sum args.keys.now.store.opened.encoding) refl suffix versions pre.whole_keys in
    omega (arith, c.args.keys.now.store.fits, r)

pub put_newest-to-requires : goal.put_newest-to-requires
put_newest-to-requires c =
    let versions = c.masked-versions.ensures ∙ ap (le_at c.args.keys.now.store.section.now _) c.of-counts.ensures in
    let suffix = c.masked-suffix_len.ensures ∙ ap (le_at c.args.keys.now.store.section.now _) c.of-key_lens.ensures in
    let at = c.address.ensures ∙ sym (table_address c.args.keys.now.store.section.now c.args.keys.now.store.opened c.args.keys.now.store.spannable.four (c.args.keys.now.first + c.loop-i.i) refl) in
    let loop = c.loop-i in
    let args = c.args in
    let pre = c.requires in
    let r = versions_room args.keys.now.store.section.now args.keys.now.store.opened args.keys.now.first args.keys.now.count loop.i c.args.keys.now.store.spannable.four (search rules) refl
    at (args.keys.now.store.opened.min_seq + args.within) (header_sum args.keys.now.store.opened.encoding) refl suffix versions pre.whole_keys in
    record { by_index = pre.whole_keys.sums; encoding_in_bounds = r; to_in_bounds = omega (arith, loop.invariant.0) }

pub loop-i-preserved : goal.loop-i-preserved
loop-i-preserved c =
    let put-newest = c.put_newest-to in
    let versions = c.masked-versions.ensures ∙ ap (le_at c.args.keys.now.store.section.now _) c.of-counts.ensures in
    let suffix = c.masked-suffix_len.ensures ∙ ap (le_at c.args.keys.now.store.section.now _) c.of-key_lens.ensures in
    let at = c.address.ensures ∙ sym (table_address c.args.keys.now.store.section.now c.args.keys.now.store.opened c.args.keys.now.store.spannable.four (c.args.keys.now.first + c.loop-i.i) refl) in
    let loop-test = c.loop-i-test in
    let loop = c.loop-i in
    let args = c.args in
    let pre = c.requires in
    let same = c.address.ensures in
    let g = ap (λ (a : ℕ). is_given (values_from (args.keys.now.count - loop.i) args.keys.now.store.section.now args.keys.now.store.opened (args.keys.now.store.opened.min_seq + args.within) a)) same ∙ loop.invariant.2 in
    let some = loop-test.true in
    let f = key_given args.keys.now.store.section.now args.keys.now.store.opened (args.keys.now.store.opened.min_seq + args.within) c.address.result (header_sum args.keys.now.store.opened.encoding) refl suffix versions
    (args.keys.now.count - loop.i) (args.keys.now.count - (loop.i + 1)) (omega (arith, some)) g in
    let k = key_stored args.keys.now.store.section.now args.keys.now.store.opened (args.keys.now.store.opened.min_seq + args.within) c.address.result (header_sum args.keys.now.store.opened.encoding) refl suffix versions
    (args.keys.now.count - loop.i) (args.keys.now.count - (loop.i + 1)) (omega (arith, some)) g loop.pairs loop.to put-newest.ensures.0 put-newest.ensures.1 in
    let i = loop.invariant in
    let t = step_told args.keys.now.store.section.now args.keys.now.store.opened args.keys.now.first args.keys.now.count loop.i c.args.keys.now.store.spannable.four some refl at (args.keys.now.store.opened.min_seq + args.within)
    (header_sum args.keys.now.store.opened.encoding) refl suffix versions pre.whole_keys args.keys.now.store.bytes
    (args.keys.now.count - (loop.i + 1)) (omega (arith, some)) in
    let n = k.0 in
    let l = k.1 in (
      omega (arith, i.0),
      l ∙ i.1,
      sym (ap is_given t) ∙ f.1,
      rw (← t) (k.2 ∙ ap (λ (a : ℕ). loop.to + 2 * length (pairs_of (values_from (args.keys.now.count - loop.i) args.keys.now.store.section.now args.keys.now.store.opened (args.keys.now.store.opened.min_seq + args.within) a))) same ∙ i.3),
      rw (← t) (k.3 ∙ ap (λ (a : ℕ). sets loop.pairs loop.to
          (pair_numbers (pairs_of (values_from (args.keys.now.count - loop.i) args.keys.now.store.section.now args.keys.now.store.opened (args.keys.now.store.opened.min_seq + args.within) a)))) same ∙ i.4),
    )

pub shape_of-pairs : goal.shape_of-pairs
shape_of-pairs c =
    let loop = c.loop-i in
    loop.invariant.1

pub returns : goal.returns
unfolding pairs_of pair_numbers
returns c =
    let loop = c.loop-i in
    let args = c.args in
    let m = ap pairs_of (keys_none args.keys.now.store.section.now args.keys.now.store.opened (args.keys.now.store.opened.min_seq + args.within) (scan_address args.keys.now.store.section.now args.keys.now.store.opened (args.keys.now.first + loop.i)) (args.keys.now.count - loop.i) (search rules)) in
    let i = loop.invariant in
    let n = rw m at i.3 in
    (omega arith, rw m at i.4)
