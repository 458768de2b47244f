use mathlib.Core.Path.{refl, sym, ap, ◌∙◌}
use Prim.Native.Nat.{ℕ, ◌+◌, ◌-◌}
use native.Mathlib.Omega.{arith}
use Rattle.std.specs.Prelude.{Ok}
use Rattle.encoding.specs.Encoding.{version_len_of}
use Rattle.encoding.proofs.Widths.{widths_le}
use Rattle.encoding.proofs.Lengths.{version_le}
use Rattle.arena.proofs.Reading.{widths_read}
use Rattle.locator.proofs.Versions.{stored_sum}
use Rattle.spans.specs.Span.{value_end, first_within, pair_numbers}
use Rattle.spans.proofs.Keys.{pairs_told_lem}
use Rattle.spans.proofs.Values.{value_within, value_above, met_inside}
use Rattle.onekey.specs.Internal.{KeyPut}
use Rattle.onekey.proofs.First.{at_told, absent_told}
use borrow.Author.Rules.{rules}
use Rattle.onekey.proofs.put_first.Goals as goal

pub seq_at-stored-requires : goal.seq_at-stored-requires
seq_at-stored-requires c =
    record { at_in_bounds = search rules; width_value = (widths_read _ c.args.store.now.spannable.widths).3 }

pub put_value_at-requires : goal.put_value_at-requires
unfolding value_end
put_value_at-requires c =
    record { encoding_in_bounds = search rules; to_in_bounds = search rules }

pub returns-then-o-stored-2 : goal.returns-then-o-stored-2
unfolding KeyPut value_end
returns-then-o-stored-2 c =
    let put-version = c.put_value_at in
    let seq-at = c.seq_at-stored in
    let if1 = c.if-versions-eq0 in
    let args = c.args in
    let e = stored_sum args.store.now.section.now args.store.now.opened args.from seq-at.ensures in
    let v = value_within args.store.now.section.now args.store.now.opened args.from args.limit args.versions (omega (arith, if1.false)) (search rules) (omega arith) (omega arith)
    ∙ met_inside args.store.now.section.now args.store.now.opened args.from args.limit (search rules) in
    pairs_told_lem _ args.pairs.now v (omega (arith, put-version.ensures.0)) put-version.ensures.1

pub overflow_add-next : goal.overflow_add-next
overflow_add-next c =
    let size = c.version.ensures ∙ ap version_len_of c.layout.ensures in
    omega (arith, version_le _ c.args.store.now.spannable.widths, size)

pub place_within-requires : goal.place_within-requires
place_within-requires c =
    let size = c.version.ensures ∙ ap version_len_of c.layout.ensures in
    record {
      from_bound = omega (arith, version_le _ c.args.store.now.spannable.widths, size);
      room_bound = (omega arith, omega (arith, widths_le _ c.args.store.now.spannable.widths));
    }

pub put_value_at-requires-in-Ok-Some : goal.put_value_at-requires-in-Ok-Some
unfolding value_end
put_value_at-requires-in-Ok-Some c =
    let found = c.place_within.ensures in
    record { encoding_in_bounds = (at_told _ _ _ _ _ _ found (omega arith) (c.in-Ok-Some.is ∙ ap Ok c.in-Ok-Some.field-0-is)).1; to_in_bounds = search rules }

pub returns-in-Ok-Some : goal.returns-in-Ok-Some
unfolding KeyPut value_end
returns-in-Ok-Some c =
    let put-version2 = c.put_value_at-in-Ok-Some in
    let found = c.place_within.ensures in
    let size = c.version.ensures ∙ ap version_len_of c.layout.ensures in
    let if4 = c.if-o-stored-2 in
    let if3 = c.if-o-stored in
    let seq-at = c.seq_at-stored in
    let if2 = c.if-section-from in
    let if1 = c.if-versions-eq0 in
    let args = c.args in
    let e = stored_sum args.store.now.section.now args.store.now.opened args.from seq-at.ensures in
    let above = value_above args.store.now.section.now args.store.now.opened args.from args.limit args.versions (args.versions - 1) (omega (arith, if1.false)) (omega (arith, if2.false)) (omega (arith, if3.false)) (omega (arith, if4.false))
    ∙ ap (λ (n : ℕ). first_within (args.versions - 1) args.store.now.section.now args.store.now.opened (args.from + n) args.limit) (sym size) in
    pairs_told_lem _ args.pairs.now (above ∙ (at_told _ _ _ _ _ _ found (omega arith) (c.in-Ok-Some.is ∙ ap Ok c.in-Ok-Some.field-0-is)).0)
    (omega (arith, put-version2.ensures.0)) put-version2.ensures.1

pub returns-in-Ok-None : goal.returns-in-Ok-None
unfolding KeyPut pair_numbers value_end
returns-in-Ok-None c =
    let found = c.place_within.ensures in
    let size = c.version.ensures ∙ ap version_len_of c.layout.ensures in
    let if4 = c.if-o-stored-2 in
    let if3 = c.if-o-stored in
    let seq-at = c.seq_at-stored in
    let if2 = c.if-section-from in
    let if1 = c.if-versions-eq0 in
    let args = c.args in
    let e = stored_sum args.store.now.section.now args.store.now.opened args.from seq-at.ensures in
    let above = value_above args.store.now.section.now args.store.now.opened args.from args.limit args.versions (args.versions - 1) (omega (arith, if1.false)) (omega (arith, if2.false)) (omega (arith, if3.false)) (omega (arith, if4.false))
    ∙ ap (λ (n : ℕ). first_within (args.versions - 1) args.store.now.section.now args.store.now.opened (args.from + n) args.limit) (sym size) in
    pairs_told_lem _ args.pairs.now (above ∙ absent_told _ _ _ _ _ _ found (omega arith) (c.in-Ok-None.is ∙ ap Ok c.in-Ok-None.field-0-is)) refl refl
