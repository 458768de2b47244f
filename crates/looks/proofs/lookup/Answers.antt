use mathlib.Core.Path.{◌≡◌, sym, ap, ap₂, ◌∙◌}
use mathlib.Core.List.{List}
use Prim.Native.Nat.{ℕ}
use Rattle.header.specs.declared.Opened.{Opened}
use Rattle.locator.specs.Locator.{Located}
use Rattle.lookup.specs.Lookup.{hash_read}
use Rattle.std.specs.Prelude.{Ok}
use Rattle.refusal.specs.Refusal.{answer_number}
use Rattle.looks.specs.Looked.{answer_written}
use Rattle.looks.proofs.Numbers.{held_record, held_looked_up, not_held}
use Rattle.looks.proofs.lookup.Goals as goal

-- what the section that is held locates, its bytes and its record lead to
located : (key : List ℕ) (limit h : ℕ) {s t : List ℕ} {o p : Opened} {r : Located} → (t ≡ s) × (p ≡ o) → r ≡ hash_read t p key limit h → r ≡ hash_read s o key limit h
located key limit h e l = l ∙ ap₂ (λ (s : List ℕ) (o : Opened). hash_read s o key limit h) e.0 e.1

pub returns-then-not-is_held : goal.returns-then-not-is_held
unfolding answer_number answer_written
returns-then-not-is_held c =
    let s = c.args in
    let e = not_held s.section.now s.numbers.now s.key.now s.limit (sym c.holds-is_held.ensures ∙ c.if-not-is_held.true) in
    (c.number.ensures ∙ rw e, rw e)

pub new-requires : goal.new-requires
new-requires c =
    let s = c.args in
    held_record s.section.now s.numbers.now s.key.now s.limit _ (sym c.holds-is_held.ensures ∙ c.if-not-is_held.false) c.read_record-o.ensures

pub returns-in-Ok-Some : goal.returns-in-Ok-Some
unfolding answer_number answer_written
returns-in-Ok-Some c =
    let s = c.args in
    let is = sym c.holds-is_held.ensures ∙ c.if-not-is_held.false in
    let l = held_looked_up s.section.now s.numbers.now s.key.now s.limit c.read_record-o.result c.locate.result c.hash-h.result is c.read_record-o.ensures c.hash-h.ensures (located s.key.now s.limit _ c.new.ensures c.locate.ensures) in
    let e = l ∙ c.in-Ok-Some.is ∙ ap Ok c.in-Ok-Some.field-0-is in
    (rw e, c.write_answer.ensures ∙ rw e)

pub returns-in-Ok-None : goal.returns-in-Ok-None
unfolding answer_number answer_written
returns-in-Ok-None c =
    let s = c.args in
    let is = sym c.holds-is_held.ensures ∙ c.if-not-is_held.false in
    let l = held_looked_up s.section.now s.numbers.now s.key.now s.limit c.read_record-o.result c.locate.result c.hash-h.result is c.read_record-o.ensures c.hash-h.ensures (located s.key.now s.limit _ c.new.ensures c.locate.ensures) in
    let e = l ∙ c.in-Ok-None.is ∙ ap Ok c.in-Ok-None.field-0-is in
    (rw e, c.write_missing.ensures ∙ rw e)

pub returns-in-Err : goal.returns-in-Err
unfolding answer_number answer_written
returns-in-Err c =
    let s = c.args in
    let is = sym c.holds-is_held.ensures ∙ c.if-not-is_held.false in
    let l = held_looked_up s.section.now s.numbers.now s.key.now s.limit c.read_record-o.result c.locate.result c.hash-h.result is c.read_record-o.ensures c.hash-h.ensures (located s.key.now s.limit _ c.new.ensures c.locate.ensures) in
    let e = l ∙ c.in-Err.is in
    (c.number-in-Err.ensures ∙ rw e, rw e)
