use mathlib.Core.Path.{◌≡◌, refl, ap, ◌∙◌}
use Prim.Native.Nat.{ℕ, ◌+◌, ◌*◌}
use native.Mathlib.Nat.{zero-add}
use native.Mathlib.Omega.{arith}
use lib.ListN.{length, get_or}
use lib.Seq.{sets}
use Rattle.num.specs.Number.{le_bytes}
use Rattle.written.specs.Joined.{joined, fields_bytes}
use Rattle.tables.specs.Internal.{listed_slot, listed_slots}
use Rattle.tables.proofs.Parts.{slot_size}
use Rattle.tables.proofs.Stores.{field_last, field_more, pieces_none, pieces_more}
use Rattle.tables.proofs.write_slots.Goals as goal

pub loop-m-init : goal.loop-m-init
loop-m-init c = (refl, pieces_none _ _ (λ k. slot_size _ _ _ _) _ _)

pub offset_bounds-addresses-key : goal.offset_bounds-addresses-key
offset_bounds-addresses-key c = let i = c.requires.addressed c.loop-m.m c.loop-m-test.true in omega arith

pub bounds-addresses-key : goal.bounds-addresses-key
bounds-addresses-key c = c.requires.addressed c.loop-m.m c.loop-m-test.true

pub offset_bounds-hashes-key : goal.offset_bounds-hashes-key
offset_bounds-hashes-key c = let i = c.requires.hashed c.loop-m.m c.loop-m-test.true in omega arith

pub bounds-hashes-key : goal.bounds-hashes-key
bounds-hashes-key c = c.requires.hashed c.loop-m.m c.loop-m-test.true

pub loop-m-preserved : goal.loop-m-preserved
unfolding listed_slot
loop-m-preserved c =
    let l = c.loop-m in
    let a = c.args in
    let p = c.put_uint in
    let q = c.write in
    let f = q.ensures ∙ ap (λ (n : ℕ). sets p.new.out (l.m * (a.e.address + 2) + a.e.address) (le_bytes 2 n)) c.fingerprint.ensures in (
      q.auto.out ∙ p.auto.out ∙ l.invariant.0,
      pieces_more (λ j. fields_bytes (listed_slot a.e.address a.addresses.now a.hashes.now (get_or a.slots.now j 0))) (a.e.address + 2) (λ j. slot_size a.e.address a.addresses.now a.hashes.now (get_or a.slots.now j 0)) a.output.now 0 l.output q.new.out l.m _ (zero-add _) l.invariant.1
          (field_more _ _ _ _ _ _ _ _ refl p.ensures (field_last _ _ _ _ _ f)),
    )

pub returns : goal.returns
unfolding listed_slots
returns c =
    let l = c.loop-m in
    let a = c.args in
    let n : l.m ≡ length a.slots.now = omega arith in
    l.invariant.1 ∙ ap (λ (k : ℕ). sets a.output.now 0 (joined (λ j. fields_bytes (listed_slot a.e.address a.addresses.now a.hashes.now (get_or a.slots.now j 0))) k)) n
