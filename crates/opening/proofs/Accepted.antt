-- What an accepted header and question 10 say of the walk's start.
-- Assumes nothing.
use mathlib.Core.Path.{◌≡◌, sym, ap, ◌∙◌, subst⁻¹}
use mathlib.Core.List.{List, []}
use mathlib.Core.Bool.{true}
use Prim.Native.Nat.{ℕ, ◌+◌, ◌*◌, ◌/◌, ◌%◌, ◌≤◌}
use native.Mathlib.Omega.{arith}
use lib.ListN.{length}
use borrow.Author.Tests.{eq-eqb}
use Rattle.std.specs.Prelude.{Result, Ok, Err}
use Rattle.refusal.specs.declared.Refusal.{Refusal}
use Rattle.num.proofs.Choice.{if_true}
use Rattle.refusal.proofs.Asked.{refused_ok}
use Rattle.sstable.specs.Trailer.{trailer_of}
use Rattle.encoding.specs.Encoding.{scan_header_len, buckets_of, arena_start_of}
use Rattle.header.specs.declared.Opened.{Opened}
use Rattle.header.specs.Header.{header_of, arena_end_of}
use Rattle.header.specs.Facts.{Header, from_plain}
use Rattle.header.proofs.Headers.{header_facts}
use Rattle.header.proofs.Bounds.{arena_start, scan_part_lem, scan_end, arena_end}
use Rattle.arena.specs.Internal.{Readable, Inside}
use Rattle.validate.specs.declared.Carried.{Carried}
use Rattle.opening.specs.Open.{pilots_inside, start_at, start_of, pairs_from, ends_together, prefixes_counted, end_for, inputs_of, contents_of, trailed_header, checked_header_of}
use Rattle.validate.specs.Internal.{inputs_with, progress_in, Ready}
use Rattle.opening.specs.Internal.{ended_for}
use Rattle.opening.proofs.Pilots.{pilots_each, pilot_slot}

module _ (s : List ℕ) (o : Opened) (e : header_of s ≡ Ok o) where
  facts : Header s o
  facts = header_facts s o e

  -- the pilots lie in the section
  pub pilots_fit : 64 + 4 * o.buckets ≤ length s
  pilots_fit = omega (arith, arena_start s o facts, facts.below)

  scan_fits : (o.scan ≡ 0 → ⊥) → o.scan + scan_header_len + o.count * o.encoding.address ≤ length s
  scan_fits n = omega (arith, scan_end s o facts (scan_part_lem s o facts n))

  module _ (p : pilots_inside s o ≡ true) where
    -- a header that passed 3 to 6 with pilots that passed 10 can be read
    pub accepted_readable : Readable s o
    unfolding buckets_of arena_start_of
    accepted_readable =
        let d = facts.dimensions in
        record {
          widths = d.widths;
          some_key = d.some;
          most_keys = d.few;
          buckets = d.halved;
          arena = facts.start ∙ ap (λ (b : ℕ). 64 + 4 * b + o.count * (o.encoding.address + 2)) d.halved;
          arena_inside = omega (arith, facts.below);
          scan_inside = λ n. scan_fits n;
          pilots = λ k h. pilot_slot s o k (pilots_each s o p k h);
        }

    -- the walk starts in the arena
    start_inside : Inside s o (arena_end_of s o) (start_at o)
    unfolding start_at
    start_inside =
        let a = arena_end s o (from_plain facts) in
        record {
          end_inside = omega (arith, a.1);
          started = omega arith;
          versions = omega (arith, a.0);
          keys = omega arith;
          anchor = omega (arith, a.0);
          shared = omega arith;
          suffix = omega arith;
          prefixes = omega arith;
        }

    -- all that the walk counts on holds at its start
    pub start_ready : (scratch : List ℕ) (end : ℕ) (w : Carried) → end ≡ arena_end_of s o
        → w ≡ record { key_len = 0; previous_len = 0; cursor = start_at o } → Ready s o end (length scratch / 2) scratch w
    start_ready scratch end w q z =
        subst⁻¹ (λ (n : ℕ). Ready s o n (length scratch / 2) scratch w) q
        (subst⁻¹ (Ready s o (arena_end_of s o) (length scratch / 2) scratch) z
        (record {
          readable = accepted_readable;
          inside = start_inside;
          halves = omega arith;
          held = record { key = omega arith; previous = omega arith };
        }))

-- ---- the answers of questions 10 to 23

module _ (s «data» blocks : List ℕ) (scratch : ℕ) (o : Opened) where
  module _ (p : pilots_inside s o ≡ true) where
    module _ (v : length blocks % 2 ≡ 0) (end : ℕ) (q : end ≡ arena_end_of s o) (w : Carried) (z : w ≡ record { key_len = 0; previous_len = 0; cursor = start_at o })
        (area left : List ℕ) (r : Result (ℕ × Carried) Refusal) (e : ended_for (scratch / 2) left r ≡ pairs_from (inputs_with s «data» o end (scratch / 2)) blocks 0 (progress_in (scratch / 2) area w))
      where
        walked : end_for (inputs_of s «data» scratch o) (ended_for (scratch / 2) left r) ≡ contents_of s «data» blocks scratch o
        unfolding contents_of inputs_of start_of progress_in
        walked =
            ap (end_for (inputs_of s «data» scratch o)) (e ∙ (λ i. pairs_from (inputs_with s «data» o (q i) (scratch / 2)) blocks 0 (progress_in (scratch / 2) area (z i))))
            ∙ sym (if_true _ _ _ p ∙ if_true _ _ _ (eq-eqb _ _ v))

        -- the walk refuses
        pub contents_refused : (n : Refusal) → r ≡ Err n → Err n ≡ contents_of s «data» blocks scratch o
        unfolding end_for ended_for
        contents_refused n x = sym (ap (λ (y : Result (ℕ × Carried) Refusal). end_for (inputs_of s «data» scratch o) (ended_for (scratch / 2) left y)) x) ∙ walked

        -- the walk ends
        pub contents_ended : (at : ℕ) (after : Carried) → r ≡ Ok (at, after)
            → end_for (inputs_with s «data» o end (scratch / 2)) (Ok (record { at = at; progress = record { previous = []; cursor = after.cursor } })) ≡ contents_of s «data» blocks scratch o
        unfolding end_for ends_together prefixes_counted ended_for inputs_of progress_in
        contents_ended at after x =
            ap (λ (n : ℕ). end_for (inputs_with s «data» o n (scratch / 2)) (Ok (record { at = at; progress = record { previous = []; cursor = after.cursor } }))) q
            ∙ sym (ap (λ (y : Result (ℕ × Carried) Refusal). end_for (inputs_of s «data» scratch o) (ended_for (scratch / 2) left y)) x)
            ∙ walked

-- a header that passes questions 1 to 6 passes 3 to 6
pub checked_header : (s : List ℕ) (o : Opened) → checked_header_of s ≡ Ok o → header_of s ≡ Ok o
unfolding checked_header_of trailed_header
checked_header s o = go (trailer_of s)
  where
    go : (r : Result (Unit {0}) Refusal) → trailed_header s r ≡ Ok o → header_of s ≡ Ok o
    go (Err n) e = refused_ok e
    go (Ok u) e = e
