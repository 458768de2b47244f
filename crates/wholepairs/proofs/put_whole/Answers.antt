use mathlib.Core.Path.{◌≡◌, sym, ap, ap₂, ◌∙◌}
use mathlib.Core.List.{List}
use Prim.Native.Nat.{ℕ, ◌+◌, ◌-◌}
use native.Mathlib.Omega.{arith}
use lib.ListN.{length}
use lib.Seq.{sets}
use Rattle.header.specs.declared.Opened.{Opened}
use Rattle.spans.specs.Span.{Pair, scan_address, values_from, pair_numbers}
use Rattle.spans.specs.Internal.{pairs_of}
use Rattle.wholekeys.proofs.Whole.{whole_over}
use Rattle.wholepairs.proofs.Low.{low_none}
use Rattle.wholepairs.proofs.put_whole.Goals as goal

-- the pairs of some keys from one on
abbrev values : List ℕ → Opened → ℕ → ℕ → ℕ → List Pair
values s o first count limit = pairs_of (values_from count s o limit (scan_address s o first))

values_over : {s t : List ℕ} {o p : Opened} {first from count n limit most : ℕ} → s ≡ t → o ≡ p → first ≡ from → count ≡ n → limit ≡ most
    → values s o first count limit ≡ values t p from n most
values_over {s} {t} {o} {p} {first} {from} {count} {n} {limit} {most} es eo ef ec el =
    ap₂ (λ (x : List ℕ) (q : Opened). values x q first count limit) es eo
    ∙ ap₂ (λ (a b : ℕ). values t p a b limit) ef ec
    ∙ ap (values t p from n) el

pub returns-then-limit-o : goal.returns-then-limit-o
unfolding pair_numbers
returns-then-limit-o c =
    let k = c.args.keys.now in
    let none = sym (low_none k.count k.store.section.now k.store.opened c.args.limit (scan_address k.store.section.now k.store.opened k.first) c.if-limit-o.true) in
    (ap length none, ap (λ (ps : List Pair). sets c.args.pairs.now 0 (pair_numbers ps)) none)

pub with_usual_widths-requires : goal.with_usual_widths-requires
with_usual_widths-requires c = sym c.usual_widths.ensures ∙ c.if-usual_widths.true

pub put_records-requires : goal.put_records-requires
put_records-requires c =
    let e = c.with_usual_widths.ensures in
    record { whole_keys = whole_over (sym e.0) (sym e.1) (sym e.2) (sym e.3) c.requires.whole_keys; count_in_bounds = omega (arith, e.3, c.requires.count_in_bounds) }

pub returns-then-usual_widths : goal.returns-then-usual_widths
returns-then-usual_widths c =
    let e = c.with_usual_widths.ensures in
    let k = c.args.keys.now in
    let put = c.put_records.ensures in
    let l : k.store.opened.min_seq + (c.args.limit - k.store.opened.min_seq) ≡ c.args.limit = omega (arith, c.if-limit-o.false) in
    let same = values_over e.0 e.1 e.2 e.3 (ap (λ (o : Opened). o.min_seq + (c.args.limit - k.store.opened.min_seq)) e.1 ∙ l) in
    let n = ap length same in
    (omega (arith, put.0), put.1 ∙ ap (λ (ps : List Pair). sets c.args.pairs.now 0 (pair_numbers ps)) same)

pub returns : goal.returns
returns c =
    let k = c.args.keys.now in
    let put = c.put_records-2.ensures in
    let l : k.store.opened.min_seq + (c.args.limit - k.store.opened.min_seq) ≡ c.args.limit = omega (arith, c.if-limit-o.false) in
    let same = ap (values k.store.section.now k.store.opened k.first k.count) l in
    let n = ap length same in
    (omega (arith, put.0), put.1 ∙ ap (λ (ps : List Pair). sets c.args.pairs.now 0 (pair_numbers ps)) same)
