-- The probes' definitions, case by case.
-- Assumes nothing.
use mathlib.Core.Path.{◌≡◌}
use mathlib.Core.List.{List, [], ◌∷◌}
use mathlib.Core.Bool.{true, false}
use Prim.Native.Nat.{ℕ, ◌+◌, ◌-◌, ◌<◌, ◌≤◌, ◌^◌}
use lib.ListN.{length, take, drop}
use lib.Seq.{sets}
use borrow.Author.Tests.{le-leb, lt-leb, eq-eqb, ne_eqb}
use Rattle.num.specs.Choice.{when◌then◌else◌, either}
use Rattle.sstable.specs.Kind.{kind_number}
use Rattle.block.specs.declared.Record.{Record}
use Rattle.std.specs.Prelude.{Result, Ok, Err}
use Rattle.refusal.specs.declared.Refusal.{Refusal}
use Rattle.refusal.specs.declared.Refusal.TheVariants as refusal
use Rattle.refusal.specs.Refusal.{refusal_number}
use Rattle.block.specs.Record.{record_at}
use Rattle.probe.specs.Probe.{no_slot, record_number, step_probe, probed_record_written, key_written}

pub no_slots : (pilot n : ℕ) → n ≡ 0 → no_slot pilot n ≡ true
unfolding no_slot either
no_slots pilot n e = rw (eq-eqb n 0 e)

pub wide_pilot : (pilot n : ℕ) → (n ≡ 0 → ⊥) → 2 ^ 32 ≤ pilot → no_slot pilot n ≡ true
unfolding no_slot either
wide_pilot pilot n e h = rw (ne_eqb n 0 e, le-leb (2 ^ 32) pilot h)

pub a_slot : (pilot n : ℕ) → (n ≡ 0 → ⊥) → pilot < 2 ^ 32 → no_slot pilot n ≡ false
unfolding no_slot either
a_slot pilot n e h = rw (ne_eqb n 0 e, lt-leb (2 ^ 32) pilot h)

pub step_outside : (raw : List ℕ) (end pos keyLen : ℕ) → length raw < end → step_probe raw end pos keyLen ≡ Err refusal.Entry
unfolding step_probe when◌then◌else◌
step_outside raw end pos keyLen h = rw (lt-leb end (length raw) h)

pub step_inside : (raw : List ℕ) (end pos keyLen : ℕ) → end ≤ length raw → step_probe raw end pos keyLen ≡ record_at raw end pos keyLen
unfolding step_probe when◌then◌else◌
step_inside raw end pos keyLen h = rw (le-leb end (length raw) h)

module _ (raw : List ℕ) (pos : ℕ) (t : Result Record Refusal) (fields scratch : List ℕ) where
  -- the three parts of the promise at a stop
  pub probe_stopped : (x : Refusal) → t ≡ Err x
      → (refusal_number x ≡ record_number (length scratch) t) × (fields ≡ probed_record_written (length scratch) t fields) × (scratch ≡ key_written raw pos t scratch)
  unfolding record_number probed_record_written key_written
  probe_stopped x e = (rw e, rw e, rw e)

  -- and where the key does not fit
  pub probe_long : (r : Record) → t ≡ Ok r → length scratch < r.key_len
      → (15 ≡ record_number (length scratch) t) × (fields ≡ probed_record_written (length scratch) t fields) × (scratch ≡ key_written raw pos t scratch)
  unfolding record_number probed_record_written key_written when◌then◌else◌
  probe_long r e h =
      let f = lt-leb r.key_len (length scratch) h in
      (rw (e, f), rw (e, f), rw (e, f))

  -- and where a record is met
  pub probe_met : (r : Record) (k : ℕ) → t ≡ Ok r → r.key_len ≤ length scratch → k ≡ kind_number r.kind
      → (0 ≡ record_number (length scratch) t)
      × (sets fields 0 (k ∷ r.seq ∷ r.key_len ∷ r.place ∷ r.size ∷ r.next ∷ []) ≡ probed_record_written (length scratch) t fields)
      × (sets scratch r.shared (take (r.key_len - r.shared) (drop (pos + 21) raw)) ≡ key_written raw pos t scratch)
  unfolding record_number probed_record_written key_written when◌then◌else◌
  probe_met r k e h n =
      let f = le-leb r.key_len (length scratch) h in
      (rw (e, f), rw (e, f, n), rw (e, f))
