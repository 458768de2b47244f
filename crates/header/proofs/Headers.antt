-- A header is accepted exactly if the facts of specs/Facts hold.
-- Assumes nothing.
use mathlib.Core.Path.{◌≡◌, refl, sym, ap, ◌∙◌, subst}
use mathlib.Core.Bool.{Bool, true, false}
use mathlib.Core.List.{List, [], ◌∷◌}
use Prim.Native.Nat.{ℕ, ◌-◌, ◌<◌, ◌≤◌}
use native.Mathlib.Omega.{arith}
use lib.ListN.{length}
use borrow.Author.Tests.{ltb-true, lt-ltb}
use Rattle.num.specs.Choice.{when◌then◌else◌, both, either, one_of}
use Rattle.num.proofs.Choice.{both_true}
use Rattle.encoding.specs.Encoding.{trailer_len}
use Rattle.header.specs.declared.Opened.{Opened}
use Rattle.std.specs.Prelude.{Result, Ok, Err}
use Rattle.refusal.specs.declared.Refusal.{Refusal}
use Rattle.refusal.specs.declared.Refusal.TheVariants as refusal
use Rattle.refusal.specs.Refusal.{refusal_number}
use Rattle.refusal.proofs.Asked.{refused_ok, ok_refused, same_ok, same_refusal}
use Rattle.header.specs.Header.{begins, flags_of, fields_of, dimensions, arena_below, scan_flagged, scan_part_len, scan_place_of, scan_part, scan_settings, with_scan, scanned_of, header_of}
use Rattle.header.specs.Facts.{Header}
use Rattle.header.proofs.Answers.{scanned_yes, header_scanned, header_unscanned}
use Rattle.header.proofs.Numbers.{scan_flag_lem, no_scan_flag, fields_numbers, numbers_moved, header_numbers}
use Rattle.header.proofs.Questions.{begins_yes, yes_begins, dimensions_yes, yes_dimensions, scan_yes, yes_scan, scan_place}

pub below_yes : (s : List ℕ) (o : Opened) → arena_below s o ≡ true → o.arena < length s - trailer_len
unfolding arena_below
below_yes s o e = ltb-true _ _ e

pub yes_below : (s : List ℕ) (o : Opened) → o.arena < length s - trailer_len → arena_below s o ≡ true
unfolding arena_below
yes_below s o h = lt-ltb _ _ h

-- ---- questions 3 to 6

module _ (s : List ℕ) (b : begins s ≡ true) (d : dimensions (fields_of s) (flags_of s) ≡ true) (l : arena_below s (fields_of s) ≡ true) where
  unscanned_facts : scan_flagged s ≡ false → Header s (fields_of s)
  unfolding fields_of flags_of
  unscanned_facts f =
      let q = dimensions_yes (fields_of s) (flags_of s) d in
      record {
        plain = refl;
        begins = begins_yes s b;
        numbers = fields_numbers s;
        dimensions = q.0;
        flags = q.1;
        stored = refl;
        start = q.2;
        below = below_yes s (fields_of s) l;
        scanned = λ t. let g = no_scan_flag s q.1 f in absurd (omega arith);
        unscanned = λ _. refl;
      }

  scanned_facts : scan_flagged s ≡ true → scan_part s (fields_of s) ≡ true → scan_settings s (scan_place_of s (fields_of s)) (fields_of s).count ≡ true
      → Header s (with_scan (fields_of s) (scan_place_of s (fields_of s)))
  unfolding fields_of flags_of with_scan
  scanned_facts t p r =
      let q = dimensions_yes (fields_of s) (flags_of s) d in
      let k = q.0 in
      record {
        plain = refl;
        begins = begins_yes s b;
        numbers = numbers_moved s (fields_of s) _ _ _ (fields_numbers s);
        dimensions = record { some = k.some; few = k.few; halved = k.halved; widths = k.widths };
        flags = q.1;
        stored = refl;
        start = q.2;
        below = below_yes s (fields_of s) l;
        scanned = λ _. scan_yes s (fields_of s) p r;
        unscanned = λ f. let g = scan_flag_lem s q.1 t in absurd (omega arith);
      }

-- an accepted header has the facts
pub header_facts : (s : List ℕ) (o : Opened) → header_of s ≡ Ok o → Header s o
unfolding header_of scanned_of when◌then◌else◌
header_facts s o e =
    go (begins s) (both (dimensions f (flags_of s)) (arena_below s f)) (scan_flagged s) (scan_part s f) (scan_settings s (scan_place_of s f) f.count)
    refl refl refl refl refl e
  where
    f : Opened
    f = fields_of s

    same : (r : Opened) → Header s r → ◌≡◌ {A = Result Opened Refusal} (Ok r) (Ok o) → Header s o
    same r h p = let q : r ≡ o = same_ok p in subst (Header s) q h

    go : (b d t p r : Bool) → begins s ≡ b → both (dimensions f (flags_of s)) (arena_below s f) ≡ d → scan_flagged s ≡ t
        → scan_part s f ≡ p → scan_settings s (scan_place_of s f) f.count ≡ r
        → when◌then◌else◌ b
        (when◌then◌else◌ d
        (when◌then◌else◌ t (when◌then◌else◌ p (when◌then◌else◌ r (Ok (with_scan f (scan_place_of s f))) (Err refusal.ScanSettings)) (Err refusal.ScanPart)) (Ok f))
        (Err refusal.Header))
        (Err refusal.Magic) ≡ Ok o → Header s o
    go false d t p r hb hd ht hp hr e = refused_ok e
    go true false t p r hb hd ht hp hr e = refused_ok e
    go true true false p r hb hd ht hp hr e = let q = both_true _ _ hd in same f (unscanned_facts s hb q.0 q.1 ht) e
    go true true true false r hb hd ht hp hr e = refused_ok e
    go true true true true false hb hd ht hp hr e = refused_ok e
    go true true true true true hb hd ht hp hr e =
        let q = both_true _ _ hd in same (with_scan f (scan_place_of s f)) (scanned_facts s hb q.0 q.1 ht hp hr) e

-- a refusal's number is 3, 4, 5 or 6
pub refused_number : (s : List ℕ) (n : Refusal) → header_of s ≡ Err n → one_of (3 ∷ 4 ∷ 5 ∷ 6 ∷ []) (refusal_number n) ≡ true
unfolding header_of scanned_of when◌then◌else◌ one_of either
refused_number s n e =
    go (begins s) (both (dimensions f (flags_of s)) (arena_below s f)) (scan_flagged s) (scan_part s f) (scan_settings s (scan_place_of s f) f.count) e
  where
    f : Opened
    f = fields_of s

    same : (m : Refusal) → one_of (3 ∷ 4 ∷ 5 ∷ 6 ∷ []) (refusal_number m) ≡ true → ◌≡◌ {A = Result Opened Refusal} (Err m) (Err n)
        → one_of (3 ∷ 4 ∷ 5 ∷ 6 ∷ []) (refusal_number n) ≡ true
    same m t p = subst (λ (k : Refusal). one_of (3 ∷ 4 ∷ 5 ∷ 6 ∷ []) (refusal_number k) ≡ true) (same_refusal p) t

    go : (b d t p r : Bool)
        → when◌then◌else◌ b
        (when◌then◌else◌ d
        (when◌then◌else◌ t (when◌then◌else◌ p (when◌then◌else◌ r (Ok (with_scan f (scan_place_of s f))) (Err refusal.ScanSettings)) (Err refusal.ScanPart)) (Ok f))
        (Err refusal.Header))
        (Err refusal.Magic) ≡ Err n → one_of (3 ∷ 4 ∷ 5 ∷ 6 ∷ []) (refusal_number n) ≡ true
    go false d t p r e = same refusal.Magic refl e
    go true false t p r e = same refusal.Header refl e
    go true true false p r e = ok_refused e
    go true true true false r e = same refusal.ScanPart refl e
    go true true true true false e = same refusal.ScanSettings refl e
    go true true true true true e = ok_refused e

module _ (s : List ℕ) (o : Opened) (h : Header s o) where
  sizes : dimensions (with_scan o 0) (flags_of s) ≡ true
  unfolding with_scan flags_of
  sizes =
      let d = h.dimensions in
      yes_dimensions (with_scan o 0) (flags_of s) (record { some = d.some; few = d.few; halved = d.halved; widths = d.widths }) h.flags h.start

  unscanned_header : scan_flagged s ≡ false → Ok (with_scan o 0) ≡ header_of s
  unfolding with_scan scan_flagged
  unscanned_header t = header_unscanned s (with_scan o 0) (flags_of s) (header_numbers s o h) refl (yes_begins s h.begins) sizes h.below t

  scanned_header : scan_flagged s ≡ true → Ok o ≡ header_of s
  unfolding with_scan scan_flagged scan_part scan_place_of scan_part_len
  scanned_header t =
      let k = h.scanned (scan_flag_lem s h.flags t) in
      let y = yes_scan s o k in
      let e : scan_place_of s o ≡ o.scan = scan_place s o k in
      scanned_yes s (with_scan o 0) o.scan (sym e) y.0 (ap (λ (n : ℕ). scan_settings s n o.count) (sym e) ∙ y.1)
      ∙ header_scanned s (with_scan o 0) (flags_of s) (header_numbers s o h) refl (yes_begins s h.begins) sizes h.below t

-- a header with the facts is accepted
pub facts_header : (s : List ℕ) (o : Opened) → Header s o → header_of s ≡ Ok o
unfolding with_scan
facts_header s o h = go (scan_flagged s) refl
  where
    go : (t : Bool) → scan_flagged s ≡ t → header_of s ≡ Ok o
    go true t = sym (scanned_header s o h t)
    go false t = sym (ap (λ (n : ℕ). Ok (with_scan o n)) (h.unscanned (no_scan_flag s h.flags t)) ∙ unscanned_header s o h t)

-- the section of an accepted header has its last five bytes
pub accepted_long : (s : List ℕ) (o : Opened) → header_of s ≡ Ok o → 5 ≤ length s
accepted_long s o e = let l = (header_facts s o e).begins.long in omega arith
